-- A poll that is refused for the certificate of the other side prints the name of the hash function that was announced. Inputs and closes are
-- never refused for what the other side described.
use Rattle.std.proofs.Common.{if◌then◌else◌, ◌≡◌, ◌⊎◌, inl, inr, ℕ, Bool, true, false, List, [], ◌∷◌, Option, Some, None, Result, Ok, Err, ap, subst}
use Rattle.std.specs.Prelude.{IfSome}
use Rattle.std.specs.declared.alloc.AllocError.{AllocError}
use Rattle.rtc_wire.specs.declared.datagram_recv.DatagramRecv.{DatagramRecv}
use Rattle.rtc_wire.specs.declared.datagram_recv.DatagramRecv.TheVariants as datagrams
use Rattle.rtc_wire.specs.declared.receive.Receive.{Receive}
use Rattle.rtc_sdp_values.specs.declared.fingerprint.Fingerprint.{Fingerprint}
use Rattle.rtc_parts.specs.declared.ice_event.IceEvent.{IceEvent}
use Rattle.rtc_parts.specs.declared.ice_event.IceEvent.TheVariants as events
use Rattle.rtc_parts.specs.declared.dtls_output.DtlsOutput.{DtlsOutput}
use Rattle.rtc_parts.specs.declared.dtls_output.DtlsOutput.TheVariants as outputs
use Rattle.rtc_sctp_entries.specs.declared.sctp_event.SctpEvent.{SctpEvent}
use Rattle.rtc_sctp_entries.specs.declared.sctp_event.SctpEvent.TheVariants as event
use Rattle.rtc_channels.specs.Holds.{holds_lost}
use Rattle.rtc_peer_rows.specs.declared.why.Why.{Why}
use Rattle.rtc_peer_core.specs.declared.phase.Phase.{Phase}
use Rattle.rtc_peer_core.specs.declared.phase.Phase.TheVariants.{Alive, Closing, Closed}
use Rattle.rtc_peer_core.specs.declared.rtc_error.RtcError.{RtcError}
use Rattle.rtc_peer_core.specs.declared.rtc_error.RtcError.TheVariants.{RemoteSdp, Alloc}
use Rattle.rtc_peer_core.specs.Meanings.{Meanings}
use Rattle.rtc_peer_transport.specs.declared.handshake.Handshake.{Handshake}
use Rattle.rtc_peer_transport.specs.declared.handshake.Handshake.TheVariants.{Pending, Finished, Told}
use Rattle.rtc_peer_transport.specs.declared.input.Input.{Input}
use Rattle.rtc_peer_transport.specs.declared.input.Input.TheVariants.{Timeout as TimeCame, Receive as Datagram}
use Rattle.rtc_peer_transport.specs.declared.met.Met.{Met}
use Rattle.rtc_peer_transport.specs.declared.met.Met.TheVariants.{Nothing, Again, Transmit, Event as MetEvent, Error}
use Rattle.rtc_peer_transport.specs.declared.polled_peer.PolledPeer.{PolledPeer}
use Rattle.rtc_peer_transport.specs.declared.send_addr.SendAddr.{SendAddr}
use Rattle.rtc_peer_transport.specs.Closing.{ShutsMedia, ShutsStreams, ShutsDtls, BecomesClosing, BeginsClosing, ClosesPeer, ClosesPeerFrom, is_closing_complete}
use Rattle.rtc_peer_transport.specs.Connection.{with_channels, with_pushed}
use Rattle.rtc_peer_transport.specs.Stages.{Call, InTurn, Failed, Passed, Stage, FollowedBy, Stopped, WentOn}
use Rattle.rtc_peer_transport.specs.Statistics.{TellsStatistics, TimesStatistics}
use Rattle.rtc_peer_transport.proofs.StatisticsTurns.{statistics_told_well, statistics_timed}
use Rattle.rtc_peer_polling.specs.DtlsStages.{GivesDtlsTime, TimesDtls, TimesDtlsIf, TakesDtlsOutput, TakesDtlsAnswer, PollsDtlsOutputs, TakesKeys, TakesCloseNotify, HandsPacket, ChecksCert, TellsConnectedFrom, is_dtls_due}
use Rattle.rtc_peer_polling.specs.IceStages.{PollsIceEvents, TakesIceEvent, met_of_ice_event}
use Rattle.rtc_peer_polling.specs.Inputs.{TimesIce, TimesStreams, TimesChannels, TimesMedia, with_moment, GivesTime, TakesTimeIf, HearsStun, HearsDtls, HearsMedia, HearsKind, Hears, Heard, PartFailed, HandlesInputBy, HandlesInputIn, HandlesInput}
use Rattle.rtc_peer_polling.specs.MediaStages.{TellsMedia, TellsFallibleMedia}
use Rattle.rtc_peer_polling.specs.SendStages.{SendsChecks, SendsDtlsPacket, SendsMediaDatagram, SendsBy, SendsByPair}
use Rattle.rtc_peer_polling.specs.StreamStages.{OpensChannelOver, ClosesChannelOver, HearsChannelOver, FallsChannelOver, LosesAssociation, TakesStreamEvent, TakesStreamAnswer, PollsStreamEvents, SendsPacket, SendsFirst, SendsKeptPackets, TellsStreams, channel_over}
use Rattle.rtc_peer_polling.specs.Walk.{StartsOverWhenDue, TellsConnection, TellsArrivals, SendsDatagrams, VisitsParts, WaitsIf, AnswersMet, PollsPeerFrom, PollsPeer}
use Rattle.rtc_run_laws.proofs.HashCauses.{WhyNames, refusal_names}
use Rattle.rtc_run_laws.proofs.ReadHashes.{HasLineName}

-- the fingerprint that the other side of a peer announced names its hash function in one line
abbrev pub KnowsName : {I D S M N : Type 0} → PolledPeer I D S M N → Type 0
KnowsName p = IfSome p.core.fingerprint HasLineName

-- a call is never refused for what the other side described
abbrev CallNeverRemote : {I D S M N : Type 0} → Call (PolledPeer I D S M N) → Type 0
CallNeverRemote {I} {D} {S} {M} {N} call = (p q : PolledPeer I D S M N) (why : Why) → call p (Err (RemoteSdp why)) q → ⊥

turn_never : {I D S M N : Type 0} (first rest : Call (PolledPeer I D S M N)) → CallNeverRemote first → CallNeverRemote rest → CallNeverRemote (InTurn first rest)
turn_never first rest one other p q why (Failed error is h) =
    let same : error ≡ RemoteSdp why = cc (is) in
    one p q why (subst (λ (e : RtcError). first p (Err e) q) same h)
turn_never first rest one other p q why (Passed between h k) = other between q why k

-- nor is a stage
abbrev NeverRemote : {I D S M E N : Type 0} → Stage (PolledPeer I D S M N) E → Type 0
NeverRemote {I} {D} {S} {M} {E} {N} stage = (p q : PolledPeer I D S M N) (why : Why) → stage p (Error (RemoteSdp why)) q → ⊥

else_never : {I D S M E N : Type 0} (first rest : Stage (PolledPeer I D S M N) E) → NeverRemote first → NeverRemote rest → NeverRemote (FollowedBy first rest)
else_never first rest one other p q why (Stopped met stage) = one p q why stage
else_never first rest one other p q why (WentOn between stage after) = other between q why after

-- or what it prints is in one line
abbrev NamesWhy : {I D S M E N : Type 0} → Stage (PolledPeer I D S M N) E → Type 0
NamesWhy {I} {D} {S} {M} {E} {N} stage = (p q : PolledPeer I D S M N) (why : Why) → stage p (Error (RemoteSdp why)) q → KnowsName q → WhyNames why

else_names : {I D S M E N : Type 0} (first rest : Stage (PolledPeer I D S M N) E) → NamesWhy first → NamesWhy rest → NamesWhy (FollowedBy first rest)
else_names first rest one other p q why (Stopped met stage) known = one p q why stage known
else_names first rest one other p q why (WentOn between stage after) known = other between q why after known

not_met : {E : Type 0} (why : Why) (event : IceEvent) → ◌≡◌ {A = Met E} (Error (RemoteSdp why)) (met_of_ice_event event) → ⊥
not_met why events.IceRestart e = cc (e)
not_met why (events.StateChange state) e = cc (e)
not_met why (events.DiscoveredRecv proto source) e = cc (e)
not_met why (events.NominatedSend proto source destination) e = cc (e)

not_over : {E : Type 0} (why : Why) (due : Bool) → ◌≡◌ {A = Met E} (Error (RemoteSdp why)) (if due then Again else Nothing) → ⊥
not_over why true e = cc (e)
not_over why false e = cc (e)

module _ {I D S M E X T W N : Type 0} (m : Meanings I D S M E X T W N) where
  begins_never : CallNeverRemote (BeginsClosing m)
  unfolding ShutsMedia ShutsStreams ShutsDtls
  begins_never =
      turn_never (ShutsMedia m) _ (λ p q why h. h)
      (turn_never (ShutsStreams m) _ (λ p q why h. h) (turn_never (ShutsDtls m) BecomesClosing (λ p q why h. h) (λ p q why h. cc (h.0))))

  closes_never : (phase : Phase) (p q : PolledPeer I D S M N) (why : Why) → ClosesPeerFrom m phase p (Err (RemoteSdp why)) q → ⊥
  closes_never Alive p q why h = begins_never p q why h
  closes_never Closing p q why h = cc (h.0)
  closes_never Closed p q why h = cc (h.0)

  -- a close is not refused for that
  pub close_never : (p q : PolledPeer I D S M N) (why : Why) → ClosesPeer m p (Err (RemoteSdp why)) q → ⊥
  close_never p q why h = closes_never p.core.phase p q why h

  event_never : (event : Option IceEvent) (p q : PolledPeer I D S M N) (why : Why) → TakesIceEvent {E = E} event p (Error (RemoteSdp why)) q → ⊥
  event_never None p q why h = cc (h.0)
  event_never (Some event) p q why h = not_met why event h.0

  time_never : (due : Bool) (p q : PolledPeer I D S M N) (why : Why) → TimesDtlsIf m due p (Error (RemoteSdp why)) q → ⊥
  unfolding GivesDtlsTime
  time_never true p q why h = h
  time_never false p q why h = cc (h.0)

  cert_names : (cert : List ℕ) → NamesWhy (ChecksCert {I = I} {D = D} {S = S} {M = M} {E = E} {N = N} cert)
  unfolding ChecksCert
  cert_names cert p q why h known =
      let same : q.core.fingerprint ≡ p.core.fingerprint = ap (λ (x : PolledPeer I D S M N). x.core.fingerprint) h.3 in
      let named : IfSome p.core.fingerprint HasLineName = subst (λ (found : Option Fingerprint). IfSome found HasLineName) same known in
      subst (λ (found : Option Why). IfSome found WhyNames) h.2 (refusal_names p.core.fingerprint p.transport.verifies h.0 named)

  output_names : (output : DtlsOutput) → NamesWhy (TakesDtlsOutput m output)
  unfolding TakesKeys TakesCloseNotify HandsPacket
  output_names outputs.Connected p q why h known = absurd (cc (h.0))
  output_names (outputs.KeyingMaterial key profile) p q why h known = absurd h
  output_names (outputs.PeerCert cert) p q why h known = cert_names cert.now p q why h known
  output_names (outputs.ApplicationData bytes) p q why h known = absurd h
  output_names (outputs.Timeout moment) p q why h known = absurd (cc (h.0))
  output_names outputs.CloseNotify p q why h known = absurd (close_never p q why h)

  answer_names : (answer : Result DtlsOutput AllocError) → NamesWhy (TakesDtlsAnswer m answer)
  answer_names (Ok output) p q why h known = output_names output p q why h known
  answer_names (Err error) p q why h known = absurd (cc (h.0))

  connected_never : (handshake : Handshake) (p q : PolledPeer I D S M N) (why : Why) → TellsConnectedFrom {E = E} handshake p (Error (RemoteSdp why)) q → ⊥
  connected_never Pending p q why h = cc (h.0)
  connected_never Finished p q why h = cc (h.0)
  connected_never Told p q why h = cc (h.0)

  connection_names : NamesWhy (TellsConnection m)
  unfolding TellsConnection
  connection_names =
      else_names (PollsIceEvents m) _ (λ p q why h known. absurd (event_never h.ends.event _ q why h.ends.by_event))
      (else_names (TimesDtls m) _ (λ p q why h known. absurd (time_never (is_dtls_due p) p q why h))
      (else_names (PollsDtlsOutputs m) _ (λ p q why h known. answer_names h.ends.answer _ q why h.ends.by_answer known)
      (λ p q why h known. absurd (connected_never p.transport.handshake p q why h))))

  stream_event_never : (e : SctpEvent) → NeverRemote (TakesStreamEvent m e)
  unfolding OpensChannelOver LosesAssociation
  stream_event_never (event.Transmit packets) p q why h = cc (h.0)
  stream_event_never (event.Open stream label) p q why h = h
  stream_event_never (event.Close stream pending) p q why h = over (channel_over stream p.core.channels) h
    where
      over : (id : Option ℕ) → ClosesChannelOver {I = I} {D = D} {S = S} {M = M} {E = E} {N = N} id pending p (Error (RemoteSdp why)) q → ⊥
      over (Some id) k = cc (k.0)
      over None k = cc (k.0)
  stream_event_never (event.StreamResetComplete stream) p q why h = cc (h.0)
  stream_event_never (event.Data stream binary bytes) p q why h = over (channel_over stream p.core.channels) h
    where
      over : (id : Option ℕ) → HearsChannelOver {I = I} {D = D} {S = S} {M = M} {E = E} {N = N} id binary bytes p (Error (RemoteSdp why)) q → ⊥
      over (Some id) k = cc (k.0)
      over None k = cc (k.0)
  stream_event_never (event.BufferedAmountLow stream) p q why h = over (channel_over stream p.core.channels) h
    where
      over : (id : Option ℕ) → FallsChannelOver {I = I} {D = D} {S = S} {M = M} {E = E} {N = N} id p (Error (RemoteSdp why)) q → ⊥
      over (Some id) k = cc (k.0)
      over None k = cc (k.0)
  stream_event_never event.AssociationLost p q why h = close_never (with_channels (holds_lost p.core.channels) p) q why h

  stream_answer_never : (answer : Result (Option SctpEvent) AllocError) → NeverRemote (TakesStreamAnswer m answer)
  stream_answer_never (Ok None) p q why h = cc (h.0)
  stream_answer_never (Ok (Some e)) p q why h = stream_event_never e p q why h
  stream_answer_never (Err error) p q why h = cc (h.0)

  sent_first_never : (packets : Option (List (List ℕ))) → NeverRemote (SendsFirst m packets)
  unfolding SendsPacket
  sent_first_never None p q why h = cc (h.0)
  sent_first_never (Some []) p q why h = cc (h.0)
  sent_first_never (Some (packet ∷ rest)) p q why h = h

  streams_never : NeverRemote (TellsStreams m)
  unfolding TellsStreams
  streams_never =
      else_never (PollsStreamEvents m) (SendsKeptPackets m) (λ p q why h. stream_answer_never h.ends.answer _ q why h.ends.by_answer)
      (λ p q why h. sent_first_never p.core.sctp.pushed (with_pushed None p) q why h)

  arrivals_never : NeverRemote (TellsArrivals m)
  unfolding TellsArrivals TellsMedia TellsFallibleMedia
  arrivals_never =
      else_never (TellsMedia m) _ (λ p q why h. h)
      (else_never (TellsFallibleMedia m) TellsStatistics (λ p q why h. h) (λ p q why h. statistics_told_well E (RemoteSdp why) p q h))

  sends_never : (addr : Option SendAddr) (p q : PolledPeer I D S M N) (why : Why) → SendsBy m addr p (Error (RemoteSdp why)) q → ⊥
  unfolding SendsDtlsPacket SendsMediaDatagram
  sends_never None p q why h = cc (h.0)
  sends_never (Some addr) p q why h = else_never (SendsDtlsPacket m addr) (SendsMediaDatagram m addr) (λ a b w k. k) (λ a b w k. k) p q why h

  datagrams_never : NeverRemote (SendsDatagrams m)
  unfolding SendsDatagrams SendsChecks
  datagrams_never = else_never (SendsChecks m) (SendsByPair m) (λ p q why h. h) (λ p q why h. sends_never p.transport.send_addr p q why h)

  rest_never : NeverRemote (FollowedBy (TellsStreams m) (FollowedBy (TellsArrivals m) (FollowedBy (SendsDatagrams m) StartsOverWhenDue)))
  rest_never =
      else_never (TellsStreams m) _ streams_never
      (else_never (TellsArrivals m) _ arrivals_never
      (else_never (SendsDatagrams m) StartsOverWhenDue datagrams_never (λ p q why h. not_over why (is_dtls_due p) h.0)))

  visits_name : NamesWhy (VisitsParts m)
  unfolding VisitsParts
  visits_name = else_names (TellsConnection m) _ connection_names (λ p q why h known. absurd (rest_never p q why h))

  waits_never : (complete : Bool) (p q : PolledPeer I D S M N) (why : Why) → WaitsIf m complete p (Err (RemoteSdp why)) q → ⊥
  waits_never true p q why h = cc (h.0)
  waits_never false p q why h = cc (h.0)

  met_names : (met : Met E) (v p q : PolledPeer I D S M N) (why : Why) → VisitsParts m v met p → AnswersMet m met p (Err (RemoteSdp why)) q → KnowsName q → WhyNames why
  met_names Nothing v p q why visits h known = absurd (waits_never (is_closing_complete m p) p q why h)
  met_names Again v p q why visits h known = absurd h
  met_names (Transmit transmit) v p q why visits h known = absurd (cc (h.0))
  met_names (MetEvent event) v p q why visits h known = absurd (cc (h.0))
  met_names (Error error) v p q why visits h known =
      let is : error ≡ RemoteSdp why = cc (h.0) in
      visits_name v p why (subst (λ (e : RtcError). VisitsParts m v (Error e) p) is visits) (subst (λ (x : PolledPeer I D S M N). KnowsName x) h.1 known)

  polls_name : (phase : Phase) (p q : PolledPeer I D S M N) (why : Why) → PollsPeerFrom m phase p (Err (RemoteSdp why)) q → KnowsName q → WhyNames why
  polls_name Alive p q why h known = met_names h.met h.by_visits.last h.visited q why h.by_visits.ends h.by_answer known
  polls_name Closing p q why h known = met_names h.met h.by_visits.last h.visited q why h.by_visits.ends h.by_answer known
  polls_name Closed p q why h known = absurd (cc (h.0))

  -- a poll that is refused for that
  pub poll_names : (p q : PolledPeer I D S M N) (why : Why) → PollsPeer m p (Err (RemoteSdp why)) q → KnowsName q → WhyNames why
  poll_names p q why h known = polls_name p.core.phase p q why h known

  time_given_never : (now : ℕ) → CallNeverRemote (GivesTime m now)
  unfolding TimesIce TimesStreams TimesChannels TimesMedia
  time_given_never now p q why h =
      turn_never (TimesIce m now) _ (λ p q why h. h)
      (turn_never (TimesStreams m now) _ (λ p q why h. h)
      (turn_never (TimesChannels m) _ (λ p q why h. h)
      (turn_never (TimesMedia m now) (TimesStatistics m now) (λ p q why h. h) (λ p q why h. by p q why (statistics_timed m now p (Err (RemoteSdp why)) q h).ends))))
      (with_moment now p) q why h
    where
      by : (p q : PolledPeer I D S M N) (why : Why)
          → ((◌≡◌ {A = Result (Unit {0}) RtcError} (Err (RemoteSdp why)) (Ok tt)) × (q.core.phase ≡ p.core.phase))
          ⊎ ((◌≡◌ {A = Result (Unit {0}) RtcError} (Err (RemoteSdp why)) (Err Alloc)) × (q.core.phase ≡ Closed)) → ⊥
      by p q why (inl h) = cc (h.0)
      by p q why (inr h) = cc (h.0)

  input_time_never : (earlier : Bool) (now : ℕ) (p q : PolledPeer I D S M N) (why : Why) → TakesTimeIf m earlier now p (Err (RemoteSdp why)) q → ⊥
  input_time_never true now p q why h = cc (h.0)
  input_time_never false now p q why h = time_given_never now p q why h

  kind_never : (now : ℕ) (datagram : Receive) (contents : DatagramRecv) (p q : PolledPeer I D S M N) (why : Why) → HearsKind m now datagram contents p (Err (RemoteSdp why)) q → ⊥
  unfolding HearsStun HearsDtls HearsMedia
  kind_never now datagram (datagrams.Stun view) p q why h = h
  kind_never now datagram (datagrams.Dtls bytes) p q why h = h
  kind_never now datagram (datagrams.Rtp bytes) p q why h = h
  kind_never now datagram (datagrams.Rtcp bytes) p q why h = h

  hears_never : (now : ℕ) (datagram : Receive) (p q : PolledPeer I D S M N) (why : Why) → Hears m now datagram p (Err (RemoteSdp why)) q → ⊥
  hears_never now datagram p q why (Heard between heard time) = input_time_never _ now between q why time
  hears_never now datagram p q why (PartFailed error is heard) =
      let same : error ≡ RemoteSdp why = cc (is) in
      kind_never now datagram datagram.contents p q why (subst (λ (e : RtcError). HearsKind m now datagram datagram.contents p (Err e) q) same heard)

  input_by_never : (input : Input) (p q : PolledPeer I D S M N) (why : Why) → HandlesInputBy m input p (Err (RemoteSdp why)) q → ⊥
  input_by_never (TimeCame now) p q why h = input_time_never _ now p q why h
  input_by_never (Datagram now datagram) p q why h = hears_never now datagram p q why h

  input_in_never : (phase : Phase) (input : Input) (p q : PolledPeer I D S M N) (why : Why) → HandlesInputIn m phase input p (Err (RemoteSdp why)) q → ⊥
  input_in_never Alive input p q why h = input_by_never input p q why h
  input_in_never Closing input p q why h = input_by_never input p q why h
  input_in_never Closed input p q why h = cc (h.0)

  -- an input is not refused for that
  pub input_never : (input : Input) (p q : PolledPeer I D S M N) (why : Why) → HandlesInput m input p (Err (RemoteSdp why)) q → ⊥
  input_never input p q why h = input_in_never p.core.phase input p q why h
