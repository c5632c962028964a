-- Want of memory in a poll, an input or a close leaves the peer closed.
use Rattle.std.proofs.Common.{if◌then◌else◌, ◌≡◌, ◌⊎◌, inl, inr, ℕ, Bool, true, false, List, [], ◌∷◌, Option, Some, None, Result, Ok, Err, sym, ap, subst}
use Rattle.std.specs.declared.alloc.AllocError.{AllocError}
use Rattle.rtc_wire.specs.declared.datagram_recv.DatagramRecv.{DatagramRecv}
use Rattle.rtc_wire.specs.declared.datagram_recv.DatagramRecv.TheVariants as datagrams
use Rattle.rtc_wire.specs.declared.receive.Receive.{Receive}
use Rattle.rtc_parts.specs.declared.ice_event.IceEvent.{IceEvent}
use Rattle.rtc_parts.specs.declared.ice_event.IceEvent.TheVariants as events
use Rattle.rtc_parts.specs.declared.dtls_output.DtlsOutput.{DtlsOutput}
use Rattle.rtc_parts.specs.declared.dtls_output.DtlsOutput.TheVariants as outputs
use Rattle.rtc_peer_core.specs.declared.phase.Phase.{Phase}
use Rattle.rtc_peer_core.specs.declared.phase.Phase.TheVariants.{Alive, Closing, Closed}
use Rattle.rtc_peer_core.specs.Meanings.{Meanings}
use Rattle.rtc_peer_transport.specs.declared.handshake.Handshake.{Handshake}
use Rattle.rtc_peer_transport.specs.declared.handshake.Handshake.TheVariants.{Pending, Finished, Told}
use Rattle.rtc_peer_transport.specs.declared.input.Input.{Input}
use Rattle.rtc_peer_transport.specs.declared.input.Input.TheVariants.{Timeout as TimeCame, Receive as Datagram}
use Rattle.rtc_peer_transport.specs.declared.met.Met.{Met}
use Rattle.rtc_peer_transport.specs.declared.met.Met.TheVariants.{Nothing, Again, Transmit, Event as MetEvent, Error}
use Rattle.rtc_peer_transport.specs.declared.polled_peer.PolledPeer.{PolledPeer}
use Rattle.rtc_peer_transport.specs.declared.send_addr.SendAddr.{SendAddr}
use Rattle.rtc_peer_core.specs.declared.rtc_error.RtcError.{RtcError}
use Rattle.rtc_peer_core.specs.declared.rtc_error.RtcError.TheVariants.{Alloc}
use Rattle.rtc_peer_transport.specs.Closing.{ShutsMedia, ShutsStreams, ShutsDtls, BecomesClosing, BeginsClosing, ClosesPeer, ClosesPeerFrom, is_closing_complete}
use Rattle.rtc_peer_polling.specs.DtlsStages.{GivesDtlsTime, TimesDtls, TimesDtlsIf, TakesDtlsOutput, TakesDtlsAnswer}
use Rattle.rtc_peer_polling.specs.DtlsStages.{PollsDtlsOutputs, TakesKeys, TakesCloseNotify, HandsPacket, ChecksCert, TellsConnectedFrom, is_dtls_due}
use Rattle.rtc_peer_polling.specs.IceStages.{PollsIceEvents, TakesIceEvent, met_of_ice_event}
use Rattle.rtc_peer_polling.specs.Inputs.{TimesIce, TimesStreams, TimesChannels, TimesMedia, with_moment, GivesTime, TakesTimeIf, HearsStun, HearsDtls, HearsMedia, HearsKind, Hears, Heard, PartFailed, HandlesInputBy, HandlesInputIn, HandlesInput}
use Rattle.rtc_peer_polling.specs.MediaStages.{TellsMedia, TellsFallibleMedia}
use Rattle.rtc_peer_polling.specs.SendStages.{SendsChecks, SendsDtlsPacket, SendsMediaDatagram, SendsBy, SendsByPair}
use Rattle.rtc_peer_transport.specs.Stages.{Call, InTurn, Failed, Passed, Stage, FollowedBy, Stopped, WentOn}
use Rattle.rtc_peer_polling.specs.StreamStages.{OpensChannelOver, ClosesChannelOver, HearsChannelOver, FallsChannelOver, LosesAssociation, TakesStreamEvent, TakesStreamAnswer, PollsStreamEvents, SendsPacket, SendsFirst, SendsKeptPackets, TellsStreams, channel_over}
use Rattle.rtc_sctp_entries.specs.declared.sctp_event.SctpEvent.{SctpEvent}
use Rattle.rtc_sctp_entries.specs.declared.sctp_event.SctpEvent.TheVariants as event
use Rattle.rtc_peer_transport.specs.Connection.{with_pushed, with_channels}
use Rattle.rtc_channels.specs.Holds.{holds_lost}
use Rattle.rtc_peer_transport.specs.Statistics.{TellsStatistics, TimesStatistics}
use Rattle.rtc_peer_transport.proofs.StatisticsTurns.{StatisticsTimed, statistics_told_well, statistics_timed}
use Rattle.rtc_peer_polling.specs.Walk.{StartsOverWhenDue, TellsConnection, TellsArrivals, SendsDatagrams, VisitsParts, WaitsIf, AnswersMet, PollsPeerFrom, PollsPeer}

-- a call that lacks memory leaves the peer closed
abbrev CallClosesWhenLacking : {I D S M N : Type 0} → Call (PolledPeer I D S M N) → Type 0
CallClosesWhenLacking {I} {D} {S} {M} {N} call = (p q : PolledPeer I D S M N) → call p (Err Alloc) q → q.core.phase ≡ Closed

turn_lacks : {I D S M N : Type 0} (first rest : Call (PolledPeer I D S M N)) → CallClosesWhenLacking first → CallClosesWhenLacking rest
    → CallClosesWhenLacking (InTurn first rest)
turn_lacks first rest one other p q (Failed error is h) =
    let lacking : error ≡ Alloc = cc (is) in
    one p q (subst (λ (e : RtcError). first p (Err e) q) lacking h)
turn_lacks first rest one other p q (Passed between h k) = other between q k

-- a stage that lacks memory leaves the peer closed
abbrev ClosesWhenLacking : {I D S M E N : Type 0} → Stage (PolledPeer I D S M N) E → Type 0
ClosesWhenLacking {I} {D} {S} {M} {E} {N} stage = (p q : PolledPeer I D S M N) → stage p (Error Alloc) q → q.core.phase ≡ Closed

else_lacks : {I D S M E N : Type 0} (first rest : Stage (PolledPeer I D S M N) E) → ClosesWhenLacking first → ClosesWhenLacking rest
    → ClosesWhenLacking (FollowedBy first rest)
else_lacks first rest one other p q (Stopped met stage) = one p q stage
else_lacks first rest one other p q (WentOn between stage after) = other between q after

phase_is : {I D S M N : Type 0} (n q : PolledPeer I D S M N) → q ≡ n → n.core.phase ≡ Closed → q.core.phase ≡ Closed
phase_is {I} {D} {S} {M} {N} n q is closed = subst (λ (x : PolledPeer I D S M N). x.core.phase ≡ Closed) (sym is) closed

not_met_error : {E : Type 0} (event : IceEvent) → ◌≡◌ {A = Met E} (Error Alloc) (met_of_ice_event event) → ⊥
not_met_error events.IceRestart e = cc (e)
not_met_error (events.StateChange state) e = cc (e)
not_met_error (events.DiscoveredRecv proto source) e = cc (e)
not_met_error (events.NominatedSend proto source destination) e = cc (e)

not_over : {E : Type 0} (due : Bool) → ◌≡◌ {A = Met E} (Error Alloc) (if due then Again else Nothing) → ⊥
not_over true e = cc (e)
not_over false e = cc (e)

module _ {I D S M E X T W N : Type 0} (m : Meanings I D S M E X T W N) where
  begins_lacks : CallClosesWhenLacking (BeginsClosing m)
  unfolding ShutsMedia ShutsStreams ShutsDtls
  begins_lacks =
      turn_lacks (ShutsMedia m) _ (λ p q h. ap (λ (x : PolledPeer I D S M N). x.core.phase) h.1)
      (turn_lacks (ShutsStreams m) _ (λ p q h. ap (λ (x : PolledPeer I D S M N). x.core.phase) h.1)
      (turn_lacks (ShutsDtls m) BecomesClosing (λ p q h. ap (λ (x : PolledPeer I D S M N). x.core.phase) h.1) (λ p q h. cc (h.0))))

  closes_lacks : (phase : Phase) (p q : PolledPeer I D S M N) → ClosesPeerFrom m phase p (Err Alloc) q → q.core.phase ≡ Closed
  closes_lacks Alive p q h = begins_lacks p q h
  closes_lacks Closing p q h = cc (h.0)
  closes_lacks Closed p q h = cc (h.0)

  -- a close that lacks memory
  pub close_lacks : (p q : PolledPeer I D S M N) → ClosesPeer m p (Err Alloc) q → q.core.phase ≡ Closed
  close_lacks p q h = closes_lacks p.core.phase p q h

  event_lacks : (event : Option IceEvent) (p q : PolledPeer I D S M N) → TakesIceEvent {E = E} event p (Error Alloc) q → q.core.phase ≡ Closed
  event_lacks None p q h = cc (h.0)
  event_lacks (Some event) p q h = absurd (not_met_error event h.0)

  ice_lacks : ClosesWhenLacking (PollsIceEvents m)
  ice_lacks p q h = event_lacks h.ends.event _ q h.ends.by_event

  time_lacks : (due : Bool) (p q : PolledPeer I D S M N) → TimesDtlsIf m due p (Error Alloc) q → q.core.phase ≡ Closed
  unfolding GivesDtlsTime
  time_lacks true p q h = ap (λ (x : PolledPeer I D S M N). x.core.phase) h.1
  time_lacks false p q h = cc (h.0)

  output_lacks : (output : DtlsOutput) (p q : PolledPeer I D S M N) → TakesDtlsOutput m output p (Error Alloc) q → q.core.phase ≡ Closed
  unfolding TakesKeys ChecksCert TakesCloseNotify HandsPacket
  output_lacks outputs.Connected p q h = cc (h.0)
  output_lacks (outputs.KeyingMaterial key profile) p q h = ap (λ (x : PolledPeer I D S M N). x.core.phase) h.1
  output_lacks (outputs.PeerCert cert) p q h = ap (λ (x : PolledPeer I D S M N). x.core.phase) h
  output_lacks (outputs.ApplicationData bytes) p q h = ap (λ (x : PolledPeer I D S M N). x.core.phase) h.1
  output_lacks (outputs.Timeout moment) p q h = cc (h.0)
  output_lacks outputs.CloseNotify p q h = close_lacks p q h

  answer_lacks_memory : (answer : Result DtlsOutput AllocError) (p q : PolledPeer I D S M N) → TakesDtlsAnswer m answer p (Error Alloc) q
      → q.core.phase ≡ Closed
  answer_lacks_memory (Ok output) p q h = output_lacks output p q h
  answer_lacks_memory (Err error) p q h = ap (λ (x : PolledPeer I D S M N). x.core.phase) h.1

  connected_lacks : (handshake : Handshake) (p q : PolledPeer I D S M N) → TellsConnectedFrom {E = E} handshake p (Error Alloc) q → q.core.phase ≡ Closed
  connected_lacks Pending p q h = cc (h.0)
  connected_lacks Finished p q h = cc (h.0)
  connected_lacks Told p q h = cc (h.0)

  connection_lacks : ClosesWhenLacking (TellsConnection m)
  unfolding TellsConnection
  connection_lacks =
      else_lacks (PollsIceEvents m) _ ice_lacks
      (else_lacks (TimesDtls m) _ (λ p q h. time_lacks (is_dtls_due p) p q h)
      (else_lacks (PollsDtlsOutputs m) _ (λ p q h. answer_lacks_memory h.ends.answer _ q h.ends.by_answer)
      (λ p q h. connected_lacks p.transport.handshake p q h)))

  stream_event_lacks : (e : SctpEvent) (p q : PolledPeer I D S M N) → TakesStreamEvent m e p (Error Alloc) q → q.core.phase ≡ Closed
  unfolding OpensChannelOver LosesAssociation
  stream_event_lacks (event.Transmit packets) p q h = cc (h.0)
  stream_event_lacks (event.Open stream label) p q h = ap (λ (x : PolledPeer I D S M N). x.core.phase) h
  stream_event_lacks (event.Close stream pending) p q h = over_lacks (channel_over stream p.core.channels) h
    where
      over_lacks : (id : Option ℕ) → ClosesChannelOver {I = I} {D = D} {S = S} {M = M} {E = E} {N = N} id pending p (Error Alloc) q → q.core.phase ≡ Closed
      over_lacks (Some id) k = cc (k.0)
      over_lacks None k = cc (k.0)
  stream_event_lacks (event.StreamResetComplete stream) p q h = cc (h.0)
  stream_event_lacks (event.Data stream binary bytes) p q h = over_lacks (channel_over stream p.core.channels) h
    where
      over_lacks : (id : Option ℕ) → HearsChannelOver {I = I} {D = D} {S = S} {M = M} {E = E} {N = N} id binary bytes p (Error Alloc) q → q.core.phase ≡ Closed
      over_lacks (Some id) k = cc (k.0)
      over_lacks None k = cc (k.0)
  stream_event_lacks (event.BufferedAmountLow stream) p q h = over_lacks (channel_over stream p.core.channels) h
    where
      over_lacks : (id : Option ℕ) → FallsChannelOver {I = I} {D = D} {S = S} {M = M} {E = E} {N = N} id p (Error Alloc) q → q.core.phase ≡ Closed
      over_lacks (Some id) k = cc (k.0)
      over_lacks None k = cc (k.0)
  stream_event_lacks event.AssociationLost p q h = close_lacks (with_channels (holds_lost p.core.channels) p) q h

  stream_answer_lacks : (answer : Result (Option SctpEvent) AllocError) (p q : PolledPeer I D S M N) → TakesStreamAnswer m answer p (Error Alloc) q
      → q.core.phase ≡ Closed
  stream_answer_lacks (Ok None) p q h = cc (h.0)
  stream_answer_lacks (Ok (Some e)) p q h = stream_event_lacks e p q h
  stream_answer_lacks (Err error) p q h = ap (λ (x : PolledPeer I D S M N). x.core.phase) h.1

  sent_first_lacks : (packets : Option (List (List ℕ))) (p q : PolledPeer I D S M N) → SendsFirst m packets p (Error Alloc) q → q.core.phase ≡ Closed
  unfolding SendsPacket
  sent_first_lacks None p q h = cc (h.0)
  sent_first_lacks (Some []) p q h = cc (h.0)
  sent_first_lacks (Some (packet ∷ rest)) p q h = ap (λ (x : PolledPeer I D S M N). x.core.phase) h.1

  streams_lack : ClosesWhenLacking (TellsStreams m)
  unfolding TellsStreams
  streams_lack =
      else_lacks (PollsStreamEvents m) (SendsKeptPackets m) (λ p q h. stream_answer_lacks h.ends.answer _ q h.ends.by_answer)
      (λ p q h. sent_first_lacks p.core.sctp.pushed (with_pushed None p) q h)

  arrivals_lack : ClosesWhenLacking (TellsArrivals m)
  unfolding TellsArrivals TellsMedia TellsFallibleMedia
  arrivals_lack =
      else_lacks (TellsMedia m) _ (λ p q h. absurd h)
      (else_lacks (TellsFallibleMedia m) TellsStatistics (λ p q h. ap (λ (x : PolledPeer I D S M N). x.core.phase) h.1)
      (λ p q h. absurd (statistics_told_well E Alloc p q h)))

  sends_lack : (addr : Option SendAddr) (p q : PolledPeer I D S M N) → SendsBy m addr p (Error Alloc) q → q.core.phase ≡ Closed
  unfolding SendsDtlsPacket SendsMediaDatagram
  sends_lack None p q h = cc (h.0)
  sends_lack (Some addr) p q h = else_lacks (SendsDtlsPacket m addr) (SendsMediaDatagram m addr) (λ a b k. absurd k) (λ a b k. absurd k) p q h

  datagrams_lack : ClosesWhenLacking (SendsDatagrams m)
  unfolding SendsDatagrams SendsChecks
  datagrams_lack = else_lacks (SendsChecks m) (SendsByPair m) (λ p q h. absurd h) (λ p q h. sends_lack p.transport.send_addr p q h)

  visits_lack : ClosesWhenLacking (VisitsParts m)
  unfolding VisitsParts
  visits_lack =
      else_lacks (TellsConnection m) _ connection_lacks
      (else_lacks (TellsStreams m) _ streams_lack
      (else_lacks (TellsArrivals m) _ arrivals_lack
      (else_lacks (SendsDatagrams m) StartsOverWhenDue datagrams_lack (λ p q h. absurd (not_over (is_dtls_due p) h.0)))))

  waits_lack : (complete : Bool) (p q : PolledPeer I D S M N) → WaitsIf m complete p (Err Alloc) q → q.core.phase ≡ Closed
  waits_lack true p q h = cc (h.0)
  waits_lack false p q h = cc (h.0)

  met_lacks : (met : Met E) (v p q : PolledPeer I D S M N) → VisitsParts m v met p → AnswersMet m met p (Err Alloc) q → q.core.phase ≡ Closed
  met_lacks Nothing v p q visits h = waits_lack (is_closing_complete m p) p q h
  met_lacks Again v p q visits h = absurd h
  met_lacks (Transmit transmit) v p q visits h = cc (h.0)
  met_lacks (MetEvent event) v p q visits h = cc (h.0)
  met_lacks (Error error) v p q visits h =
      let is : error ≡ Alloc = cc (h.0) in
      phase_is p q h.1 (visits_lack v p (subst (λ (e : RtcError). VisitsParts m v (Error e) p) is visits))

  polls_lack : (phase : Phase) (p q : PolledPeer I D S M N) → PollsPeerFrom m phase p (Err Alloc) q → q.core.phase ≡ Closed
  polls_lack Alive p q h = met_lacks h.met h.by_visits.last h.visited q h.by_visits.ends h.by_answer
  polls_lack Closing p q h = met_lacks h.met h.by_visits.last h.visited q h.by_visits.ends h.by_answer
  polls_lack Closed p q h = cc (h.0)

  -- a poll that lacks memory
  pub poll_lacks : (p q : PolledPeer I D S M N) → PollsPeer m p (Err Alloc) q → q.core.phase ≡ Closed
  poll_lacks p q h = polls_lack p.core.phase p q h

  lacking_closes : (now : ℕ) (p q : PolledPeer I D S M N) → StatisticsTimed m now p (Err Alloc) q → q.core.phase ≡ Closed
  lacking_closes now p q timed = by timed.ends
    where
      by : ((◌≡◌ {A = Result (Unit {0}) RtcError} (Err Alloc) (Ok tt)) × (q.core.phase ≡ p.core.phase))
          ⊎ ((◌≡◌ {A = Result (Unit {0}) RtcError} (Err Alloc) (Err Alloc)) × (q.core.phase ≡ Closed)) → q.core.phase ≡ Closed
      by (inl h) = cc (h.0)
      by (inr h) = h.1

  time_given_lacks : (now : ℕ) → CallClosesWhenLacking (GivesTime m now)
  unfolding TimesIce TimesStreams TimesChannels TimesMedia
  time_given_lacks now p q h =
      turn_lacks (TimesIce m now) _ (λ p q h. ap (λ (x : PolledPeer I D S M N). x.core.phase) h.1)
      (turn_lacks (TimesStreams m now) _ (λ p q h. ap (λ (x : PolledPeer I D S M N). x.core.phase) h.1)
      (turn_lacks (TimesChannels m) _ (λ p q h. ap (λ (x : PolledPeer I D S M N). x.core.phase) h.1)
      (turn_lacks (TimesMedia m now) (TimesStatistics m now) (λ p q h. ap (λ (x : PolledPeer I D S M N). x.core.phase) h.1)
      (λ p q h. lacking_closes now p q (statistics_timed m now p (Err Alloc) q h)))))
      (with_moment now p) q h

  input_time_lacks : (earlier : Bool) (now : ℕ) (p q : PolledPeer I D S M N) → TakesTimeIf m earlier now p (Err Alloc) q → q.core.phase ≡ Closed
  input_time_lacks true now p q h = cc (h.0)
  input_time_lacks false now p q h = time_given_lacks now p q h

  kind_lacks : (now : ℕ) (datagram : Receive) (contents : DatagramRecv) (p q : PolledPeer I D S M N) → HearsKind m now datagram contents p (Err Alloc) q
      → q.core.phase ≡ Closed
  unfolding HearsStun HearsDtls HearsMedia
  kind_lacks now datagram (datagrams.Stun view) p q h = ap (λ (x : PolledPeer I D S M N). x.core.phase) h.1
  kind_lacks now datagram (datagrams.Dtls bytes) p q h = ap (λ (x : PolledPeer I D S M N). x.core.phase) h.1
  kind_lacks now datagram (datagrams.Rtp bytes) p q h = ap (λ (x : PolledPeer I D S M N). x.core.phase) h.1
  kind_lacks now datagram (datagrams.Rtcp bytes) p q h = ap (λ (x : PolledPeer I D S M N). x.core.phase) h.1

  hears_lacks : (now : ℕ) (datagram : Receive) (p q : PolledPeer I D S M N) → Hears m now datagram p (Err Alloc) q → q.core.phase ≡ Closed
  hears_lacks now datagram p q (Heard between heard time) = input_time_lacks _ now between q time
  hears_lacks now datagram p q (PartFailed error is heard) =
      let lacking : error ≡ Alloc = cc (is) in
      kind_lacks now datagram datagram.contents p q
      (subst (λ (e : RtcError). HearsKind m now datagram datagram.contents p (Err e) q) lacking heard)

  input_by_lacks : (input : Input) (p q : PolledPeer I D S M N) → HandlesInputBy m input p (Err Alloc) q → q.core.phase ≡ Closed
  input_by_lacks (TimeCame now) p q h = input_time_lacks _ now p q h
  input_by_lacks (Datagram now datagram) p q h = hears_lacks now datagram p q h

  input_in_lacks : (phase : Phase) (input : Input) (p q : PolledPeer I D S M N) → HandlesInputIn m phase input p (Err Alloc) q → q.core.phase ≡ Closed
  input_in_lacks Alive input p q h = input_by_lacks input p q h
  input_in_lacks Closing input p q h = input_by_lacks input p q h
  input_in_lacks Closed input p q h = cc (h.0)

  -- an input that lacks memory
  pub input_lacks : (input : Input) (p q : PolledPeer I D S M N) → HandlesInput m input p (Err Alloc) q → q.core.phase ≡ Closed
  input_lacks input p q h = input_in_lacks p.core.phase input p q h
