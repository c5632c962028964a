-- A poll changes nothing of what negotiation keeps beside the channels and their streams.
use Rattle.std.proofs.Common.{ℕ, Bool, true, false, List, Option, Some, None, Result, Ok, Err, refl}
use Rattle.std.specs.declared.alloc.AllocError.{AllocError}
use Rattle.rtc_parts.specs.declared.ice_event.IceEvent.{IceEvent}
use Rattle.rtc_parts.specs.declared.dtls_output.DtlsOutput.{DtlsOutput}
use Rattle.rtc_parts.specs.declared.dtls_output.DtlsOutput.TheVariants as outputs
use Rattle.rtc_peer_core.specs.declared.phase.Phase.{Phase}
use Rattle.rtc_peer_core.specs.declared.phase.Phase.TheVariants.{Alive, Closing, Closed}
use Rattle.rtc_peer_core.specs.Meanings.{Meanings}
use Rattle.rtc_peer_transport.specs.declared.event.Event.TheVariants as told
use Rattle.rtc_peer_transport.specs.declared.handshake.Handshake.{Handshake}
use Rattle.rtc_peer_transport.specs.declared.handshake.Handshake.TheVariants.{Pending, Finished, Told}
use Rattle.rtc_peer_transport.specs.declared.met.Met.{Met}
use Rattle.rtc_peer_transport.specs.declared.met.Met.TheVariants.{Nothing, Again, Transmit, Event as MetEvent, Error}
use Rattle.rtc_peer_transport.specs.declared.output.Output.{Output}
use Rattle.rtc_peer_transport.specs.declared.polled_peer.PolledPeer.{PolledPeer}
use Rattle.rtc_peer_transport.specs.declared.send_addr.SendAddr.{SendAddr}
use Rattle.rtc_peer_core.specs.declared.rtc_error.RtcError.{RtcError}
use Rattle.rtc_peer_core.specs.declared.rtc_error.RtcError.TheVariants.{RemoteSdp, Dtls, Media, Alloc}
use Rattle.rtc_peer_transport.specs.Closing.{is_closing_complete}
use Rattle.rtc_peer_transport.specs.Connection.{with_dtls, with_ice}
use Rattle.rtc_peer_polling.specs.DtlsStages.{GivesDtlsTime, TimesDtls, TimesDtlsIf, TakesDtlsOutput, TakesDtlsAnswer, PollsDtlsOutput}
use Rattle.rtc_peer_polling.specs.DtlsStages.{PollsDtlsOutputs, TakesKeys, TakesCloseNotify, HandsPacket, ChecksCert, TellsConnectedFrom, is_dtls_due}
use Rattle.rtc_peer_polling.specs.IceStages.{PollsIceEvent, PollsIceEvents, TakesIceEvent}
use Rattle.rtc_peer_polling.specs.Kept.{KeepsNegotiation}
use Rattle.rtc_peer_polling.specs.MediaStages.{TellsMedia, TellsFallibleMedia}
use Rattle.rtc_peer_polling.specs.SendStages.{SendsChecks, SendsDtlsPacket, SendsMediaDatagram, SendsBy, SendsByPair}
use Rattle.rtc_peer_transport.specs.Statistics.{TellsStatistics}
use Rattle.rtc_peer_polling.specs.StreamStages.{TellsStreams}
use Rattle.rtc_peer_polling.specs.Walk.{StartsOverWhenDue, TellsConnection, TellsArrivals, SendsDatagrams, VisitsParts, WaitsIf, AnswersMet, Walks, PollsPeerFrom, PollsPeer}
use Rattle.rtc_peer_polling.proofs.KeptCalls.{Keeps, keeps_on, keeps_by, else_keeps, repeats_keeps, close_keeps}
use Rattle.rtc_peer_polling.proofs.KeptStreams.{streams_keep}
use Rattle.rtc_peer_transport.proofs.StatisticsTurns.{statistics_told}

module _ {I D S M E X T W N : Type 0} (m : Meanings I D S M E X T W N) where
  taken_event_keeps : (event : Option IceEvent) (ice : I) (p : PolledPeer I D S M N) (r : Met E) (q : PolledPeer I D S M N)
      → TakesIceEvent event (with_ice ice p) r q → KeepsNegotiation p q
  taken_event_keeps None ice p r q taken = keeps_by p _ q taken.1 refl
  taken_event_keeps (Some event) ice p r q taken = keeps_by p _ q taken.1 refl

  ice_events_keep : Keeps (PollsIceEvents m)
  ice_events_keep = repeats_keeps (PollsIceEvent m) (λ p r q turn. taken_event_keeps turn.event turn.ice p r q turn.by_event)

  given_time_keeps : Keeps (GivesDtlsTime m)
  unfolding GivesDtlsTime
  given_time_keeps p Nothing q h = keeps_by p _ q h.1 refl
  given_time_keeps p (Error (Dtls cause)) q h = keeps_by p _ q h.2 refl
  given_time_keeps p (Error Alloc) q h = keeps_by p _ q h.1 refl
  given_time_keeps p _ q h = absurd h

  times_keep : (due : Bool) (p : PolledPeer I D S M N) (r : Met E) (q : PolledPeer I D S M N) → TimesDtlsIf m due p r q → KeepsNegotiation p q
  times_keep true p r q h = given_time_keeps p r q h
  times_keep false p r q h = keeps_by p p q h.1 refl

  keys_keep : (key : List ℕ) (profile : _) (active : Bool) → Keeps (TakesKeys m key profile active)
  unfolding TakesKeys
  keys_keep key profile active p Again q h = keeps_by p _ q h.1 refl
  keys_keep key profile active p (Error Alloc) q h = keeps_by p _ q h.1 refl
  keys_keep key profile active p _ q h = absurd h

  cert_keeps : (cert : List ℕ) → Keeps (ChecksCert {I = I} {D = D} {S = S} {M = M} {E = E} {N = N} cert)
  unfolding ChecksCert
  cert_keeps cert p Again q h = keeps_by p _ q h.3 refl
  cert_keeps cert p (Error (RemoteSdp why)) q h = keeps_by p _ q h.3 refl
  cert_keeps cert p (Error Alloc) q h = keeps_by p _ q h refl
  cert_keeps cert p _ q h = absurd h

  close_notify_keeps : Keeps (TakesCloseNotify m)
  unfolding TakesCloseNotify
  close_notify_keeps p (MetEvent told.Closed) q h = keeps_on p h.0 q (close_keeps m p (Ok tt) h.0 h.1) (keeps_by h.0 _ q h.2 refl)
  close_notify_keeps p (Error error) q h = close_keeps m p (Err error) q h
  close_notify_keeps p _ q h = absurd h

  packet_keeps : (bytes : List ℕ) → Keeps (HandsPacket m bytes)
  unfolding HandsPacket
  packet_keeps bytes p Again q h = keeps_by p _ q h.1 refl
  packet_keeps bytes p (Error Alloc) q h = keeps_by p _ q h.1 refl
  packet_keeps bytes p _ q h = absurd h

  output_keeps : (output : DtlsOutput) → Keeps (TakesDtlsOutput m output)
  output_keeps outputs.Connected p r q h = keeps_by p _ q h.1 refl
  output_keeps (outputs.KeyingMaterial key profile) p r q h = keys_keep key.now profile _ p r q h
  output_keeps (outputs.PeerCert cert) p r q h = cert_keeps cert.now p r q h
  output_keeps (outputs.ApplicationData bytes) p r q h = packet_keeps bytes.now p r q h
  output_keeps (outputs.Timeout moment) p r q h = keeps_by p _ q h.1 refl
  output_keeps outputs.CloseNotify p r q h = close_notify_keeps p r q h

  answer_keeps : (answer : Result DtlsOutput AllocError) → Keeps (TakesDtlsAnswer m answer)
  answer_keeps (Ok output) p r q h = output_keeps output p r q h
  answer_keeps (Err error) p r q h = keeps_by p _ q h.1 refl

  dtls_outputs_keep : Keeps (PollsDtlsOutputs m)
  dtls_outputs_keep =
      repeats_keeps (PollsDtlsOutput m)
      (λ p r q turn. keeps_on p (with_dtls turn.dtls p) q refl (answer_keeps turn.answer (with_dtls turn.dtls p) r q turn.by_answer))

  connected_keeps_it : (handshake : Handshake) (p : PolledPeer I D S M N) (r : Met E) (q : PolledPeer I D S M N) → TellsConnectedFrom handshake p r q
      → KeepsNegotiation p q
  connected_keeps_it Pending p r q h = keeps_by p p q h.1 refl
  connected_keeps_it Finished p r q h = keeps_by p _ q h.1 refl
  connected_keeps_it Told p r q h = keeps_by p p q h.1 refl

  connection_keeps : Keeps (TellsConnection m)
  unfolding TellsConnection
  connection_keeps =
      else_keeps (PollsIceEvents m) _ ice_events_keep
      (else_keeps (TimesDtls m) _ (λ p r q h. times_keep (is_dtls_due p) p r q h)
      (else_keeps (PollsDtlsOutputs m) _ dtls_outputs_keep (λ p r q h. connected_keeps_it p.transport.handshake p r q h)))

  media_told_keeps : Keeps (TellsMedia m)
  unfolding TellsMedia
  media_told_keeps p Nothing q h = keeps_by p _ q h.1 refl
  media_told_keeps p (MetEvent (told.Media event)) q h = keeps_by p _ q h.1 refl
  media_told_keeps p _ q h = absurd h

  fallible_told_keeps : Keeps (TellsFallibleMedia m)
  unfolding TellsFallibleMedia
  fallible_told_keeps p Nothing q h = keeps_by p _ q h.1 refl
  fallible_told_keeps p (MetEvent (told.Media event)) q h = keeps_by p _ q h.1 refl
  fallible_told_keeps p (Error (Media cause)) q h = keeps_by p _ q h.2 refl
  fallible_told_keeps p (Error Alloc) q h = keeps_by p _ q h.1 refl
  fallible_told_keeps p _ q h = absurd h

  arrivals_keep_it : Keeps (TellsArrivals m)
  unfolding TellsArrivals
  arrivals_keep_it =
      else_keeps (TellsMedia m) _ media_told_keeps
      (else_keeps (TellsFallibleMedia m) TellsStatistics fallible_told_keeps (λ p r q h. keeps_by p _ q (statistics_told p r q h) refl))

  checks_keep : Keeps (SendsChecks m)
  unfolding SendsChecks
  checks_keep p Nothing q h = keeps_by p _ q h.1 refl
  checks_keep p (Transmit transmit) q h = keeps_by p _ q h.1 refl
  checks_keep p _ q h = absurd h

  packets_keep : (addr : SendAddr) → Keeps (SendsDtlsPacket m addr)
  unfolding SendsDtlsPacket
  packets_keep addr p Nothing q h = keeps_by p _ q h.1 refl
  packets_keep addr p (Transmit transmit) q h = keeps_by p _ q h.2 refl
  packets_keep addr p _ q h = absurd h

  media_sent_keeps : (addr : SendAddr) → Keeps (SendsMediaDatagram m addr)
  unfolding SendsMediaDatagram
  media_sent_keeps addr p Nothing q h = keeps_by p _ q h.1 refl
  media_sent_keeps addr p (Transmit transmit) q h = keeps_by p _ q h.2 refl
  media_sent_keeps addr p _ q h = absurd h

  sends_keep : (addr : Option SendAddr) (p : PolledPeer I D S M N) (r : Met E) (q : PolledPeer I D S M N) → SendsBy m addr p r q → KeepsNegotiation p q
  sends_keep (Some addr) p r q h = else_keeps (SendsDtlsPacket m addr) (SendsMediaDatagram m addr) (packets_keep addr) (media_sent_keeps addr) p r q h
  sends_keep None p r q h = keeps_by p _ q h.2 refl

  datagrams_keep_it : Keeps (SendsDatagrams m)
  unfolding SendsDatagrams
  datagrams_keep_it = else_keeps (SendsChecks m) (SendsByPair m) checks_keep (λ p r q h. sends_keep p.transport.send_addr p r q h)

  visits_keep : Keeps (VisitsParts m)
  unfolding VisitsParts
  visits_keep =
      else_keeps (TellsConnection m) _ connection_keeps
      (else_keeps (TellsStreams m) _ (streams_keep m)
      (else_keeps (TellsArrivals m) _ arrivals_keep_it
      (else_keeps (SendsDatagrams m) StartsOverWhenDue datagrams_keep_it (λ p r q h. keeps_by p p q h.1 refl))))

  waits_keep : (complete : Bool) (p : PolledPeer I D S M N) (answer : Result (Output E) RtcError) (q : PolledPeer I D S M N)
      → WaitsIf m complete p answer q → KeepsNegotiation p q
  waits_keep true p answer q h = keeps_by p _ q h.1 refl
  waits_keep false p answer q h = keeps_by p _ q h.1 refl

  met_keeps : (met : Met E) (p : PolledPeer I D S M N) (answer : Result (Output E) RtcError) (q : PolledPeer I D S M N)
      → AnswersMet m met p answer q → KeepsNegotiation p q
  met_keeps Nothing p answer q h = waits_keep (is_closing_complete m p) p answer q h
  met_keeps Again p answer q h = absurd h
  met_keeps (Transmit transmit) p answer q h = keeps_by p p q h.1 refl
  met_keeps (MetEvent event) p answer q h = keeps_by p p q h.1 refl
  met_keeps (Error error) p answer q h = keeps_by p p q h.1 refl

  walks_keep : (p : PolledPeer I D S M N) (answer : Result (Output E) RtcError) (q : PolledPeer I D S M N) → Walks m p answer q → KeepsNegotiation p q
  walks_keep p answer q h =
      keeps_on p h.visited q (repeats_keeps (VisitsParts m) visits_keep p h.met h.visited h.by_visits) (met_keeps h.met h.visited answer q h.by_answer)

  polls_from_keep : (phase : Phase) (p : PolledPeer I D S M N) (answer : Result (Output E) RtcError) (q : PolledPeer I D S M N)
      → PollsPeerFrom m phase p answer q → KeepsNegotiation p q
  polls_from_keep Alive p answer q h = walks_keep p answer q h
  polls_from_keep Closing p answer q h = walks_keep p answer q h
  polls_from_keep Closed p answer q h = keeps_by p _ q h.1 refl

  -- a poll keeps it
  pub poll_keeps : (p : PolledPeer I D S M N) (answer : Result (Output E) RtcError) (q : PolledPeer I D S M N) → PollsPeer m p answer q
      → KeepsNegotiation p q
  poll_keeps p answer q h = polls_from_keep p.core.phase p answer q h
