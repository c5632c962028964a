-- A poll leaves what negotiation reads of the parts of a peer.
use Rattle.std.proofs.Common.{ℕ, Bool, true, false, List, Option, Some, None, Result, Ok, Err, alloc_error, refl, ap}
use Rattle.std.specs.declared.alloc.AllocError.{AllocError}
use Rattle.rtc_parts.specs.declared.ice_event.IceEvent.{IceEvent}
use Rattle.rtc_parts.specs.IceLaws.{IceLaws}
use Rattle.rtc_parts.specs.declared.dtls_error.DtlsError.TheVariants.{Fault, Alloc as DtlsAlloc}
use Rattle.rtc_parts.specs.declared.dtls_output.DtlsOutput.{DtlsOutput}
use Rattle.rtc_parts.specs.declared.dtls_output.DtlsOutput.TheVariants as outputs
use Rattle.rtc_parts.specs.declared.media_error.MediaError.TheVariants.{Alloc as MediaAlloc}
use Rattle.rtc_parts.specs.MediaActs.{ByTaken, ByOther, Keyed, EventTold, FallibleTold, FeedbackCleared}
use Rattle.rtc_parts.specs.MediaLaws.{MediaLaws}
use Rattle.rtc_peer_core.specs.declared.phase.Phase.{Phase}
use Rattle.rtc_peer_core.specs.declared.phase.Phase.TheVariants.{Alive, Closing, Closed}
use Rattle.rtc_peer_core.specs.Meanings.{Meanings}
use Rattle.rtc_peer_transport.specs.declared.event.Event.TheVariants as told
use Rattle.rtc_peer_transport.specs.declared.handshake.Handshake.{Handshake}
use Rattle.rtc_peer_transport.specs.declared.handshake.Handshake.TheVariants.{Pending, Finished, Told}
use Rattle.rtc_peer_transport.specs.declared.met.Met.{Met}
use Rattle.rtc_peer_transport.specs.declared.met.Met.TheVariants.{Nothing, Again, Transmit, Event as MetEvent, Error}
use Rattle.rtc_peer_transport.specs.declared.output.Output.{Output}
use Rattle.rtc_peer_transport.specs.declared.polled_peer.PolledPeer.{PolledPeer}
use Rattle.rtc_peer_transport.specs.declared.send_addr.SendAddr.{SendAddr}
use Rattle.rtc_peer_core.specs.declared.rtc_error.RtcError.{RtcError}
use Rattle.rtc_peer_core.specs.declared.rtc_error.RtcError.TheVariants.{RemoteSdp, Dtls, Media, Alloc}
use Rattle.rtc_peer_transport.specs.Closing.{is_closing_complete}
use Rattle.rtc_peer_transport.specs.Connection.{with_dtls, with_ice}
use Rattle.rtc_peer_polling.specs.DtlsStages.{GivesDtlsTime, TimesDtls, TimesDtlsIf, TakesDtlsOutput, TakesDtlsAnswer, PollsDtlsOutput}
use Rattle.rtc_peer_polling.specs.DtlsStages.{PollsDtlsOutputs, TakesKeys, TakesCloseNotify, HandsPacket, ChecksCert, TellsConnectedFrom, is_dtls_due}
use Rattle.rtc_peer_polling.specs.IceStages.{PollsIceEvent, PollsIceEvents, TakesIceEvent, after_ice_event}
use Rattle.rtc_peer_polling.specs.Kept.{KeepsParts}
use Rattle.rtc_peer_polling.specs.MediaStages.{TellsMedia, TellsFallibleMedia}
use Rattle.rtc_peer_polling.specs.SendStages.{SendsChecks, SendsDtlsPacket, SendsMediaDatagram, SendsBy, SendsByPair}
use Rattle.rtc_peer_transport.specs.Statistics.{TellsStatistics}
use Rattle.rtc_peer_polling.specs.StreamStages.{TellsStreams}
use Rattle.rtc_peer_polling.specs.Walk.{StartsOverWhenDue, TellsConnection, TellsArrivals, SendsDatagrams, VisitsParts, WaitsIf, AnswersMet, Walks, PollsPeerFrom, PollsPeer}
use Rattle.rtc_peer_polling.proofs.DtlsRoles.{hands_on_role, polls_role, gives_role}
use Rattle.rtc_peer_polling.proofs.StandingCalls.{Stands, stands_on, stands_by, dtls_stand, else_stands, repeats_stands, lines_same, close_stands}
use Rattle.rtc_peer_polling.proofs.StandingStreams.{streams_stand}
use Rattle.rtc_peer_polling.proofs.StreamSizes.{input_size}
use Rattle.rtc_peer_transport.proofs.StatisticsTurns.{statistics_told}
use Rattle.rtc_peer_polling.proofs.StreamStarts.{start_self, input_start}
use Rattle.rtc_parts.specs.AssociationLaws.{AssociationLaws}

module _ {I D S M E X T W N : Type 0} (m : Meanings I D S M E X T W N) (laws : IceLaws m.ice) (media : MediaLaws m.media) (streams : AssociationLaws m.association) where
  taken_event_stands : (event : Option IceEvent) (ice : I) (p : PolledPeer I D S M N) (r : Met E) (q : PolledPeer I D S M N)
      → m.ice.polled p.core.ice event ice → TakesIceEvent event (with_ice ice p) r q → KeepsParts m p q
  taken_event_stands None ice p r q polled taken =
      stands_by m p (with_ice ice p) q taken.1 (ap (λ (i : I). m.ice.settings i) (laws.event_none p.core.ice ice polled), refl, refl, refl, refl, start_self m.association p.core.sctp)
  taken_event_stands (Some event) ice p r q polled taken =
      stands_by m p (record (with_ice ice p) { transport = after_ice_event event p.transport }) q taken.1
      (laws.polled_settings p.core.ice ice event polled, refl, refl, refl, refl, start_self m.association p.core.sctp)

  ice_events_stand : Stands m (PollsIceEvents m)
  ice_events_stand = repeats_stands m (PollsIceEvent m) (λ p r q turn. taken_event_stands turn.event turn.ice p r q turn.by_poll turn.by_event)

  given_time_stands : Stands m (GivesDtlsTime m)
  unfolding GivesDtlsTime
  given_time_stands p Nothing q h = stands_by m p _ q h.1 (dtls_stand m p q (hands_on_role m.dtls p.core.dtls p.core.dtls.active (λ i r j. m.dtls.timed i p.core.greatest r j) (Ok tt) q.core.dtls h.0))
  given_time_stands p (Error (Dtls cause)) q h = stands_by m p _ q h.2 (dtls_stand m p q (hands_on_role m.dtls p.core.dtls p.core.dtls.active (λ i r j. m.dtls.timed i p.core.greatest r j) (Err Fault) q.core.dtls h.1))
  given_time_stands p (Error Alloc) q h = stands_by m p _ q h.1 (dtls_stand m p q (hands_on_role m.dtls p.core.dtls p.core.dtls.active (λ i r j. m.dtls.timed i p.core.greatest r j) (Err DtlsAlloc) q.core.dtls h.0))
  given_time_stands p _ q h = absurd h

  times_stand : (due : Bool) (p : PolledPeer I D S M N) (r : Met E) (q : PolledPeer I D S M N) → TimesDtlsIf m due p r q → KeepsParts m p q
  times_stand true p r q h = given_time_stands p r q h
  times_stand false p r q h = stands_by m p p q h.1 (refl, refl, refl, refl, refl, start_self m.association p.core.sctp)

  keys_stand : (key : List ℕ) (profile : _) (active : Bool) → Stands m (TakesKeys m key profile active)
  unfolding TakesKeys
  keys_stand key profile active p Again q h =
      stands_by m p _ q h.1 (refl, refl, refl, refl, lines_same m media streams p.core.media q.core.media (ByOther (Keyed key profile active (Ok tt) h.0)), start_self m.association p.core.sctp)
  keys_stand key profile active p (Error Alloc) q h =
      stands_by m p _ q h.1 (refl, refl, refl, refl, lines_same m media streams p.core.media q.core.media (ByOther (Keyed key profile active (Err alloc_error) h.0)), start_self m.association p.core.sctp)
  keys_stand key profile active p _ q h = absurd h

  cert_stands : (cert : List ℕ) → Stands m (ChecksCert {I = I} {D = D} {S = S} {M = M} {E = E} {N = N} cert)
  unfolding ChecksCert
  cert_stands cert p Again q h = stands_by m p _ q h.3 (refl, refl, refl, refl, refl, start_self m.association p.core.sctp)
  cert_stands cert p (Error (RemoteSdp why)) q h = stands_by m p _ q h.3 (refl, refl, refl, refl, refl, start_self m.association p.core.sctp)
  cert_stands cert p (Error Alloc) q h = stands_by m p _ q h (refl, refl, refl, refl, refl, start_self m.association p.core.sctp)
  cert_stands cert p _ q h = absurd h

  close_notify_stands : Stands m (TakesCloseNotify m)
  unfolding TakesCloseNotify
  close_notify_stands p (MetEvent told.Closed) q h = stands_on m p h.0 q (close_stands m media streams p (Ok tt) h.0 h.1) (stands_by m h.0 _ q h.2 (refl, refl, refl, refl, refl, start_self m.association h.0.core.sctp))
  close_notify_stands p (Error error) q h = close_stands m media streams p (Err error) q h
  close_notify_stands p _ q h = absurd h

  packet_stands : (bytes : List ℕ) → Stands m (HandsPacket m bytes)
  unfolding HandsPacket
  packet_stands bytes p Again q h =
      stands_by m p _ q h.1 (refl, refl, refl, input_size m.association p.core.greatest bytes p.core.sctp (Ok tt) q.core.sctp h.0, refl, input_start m.association streams p.core.greatest bytes p.core.sctp (Ok tt) q.core.sctp h.0)
  packet_stands bytes p (Error Alloc) q h =
      stands_by m p _ q h.1 (refl, refl, refl, input_size m.association p.core.greatest bytes p.core.sctp (Err alloc_error) q.core.sctp h.0, refl, input_start m.association streams p.core.greatest bytes p.core.sctp (Err alloc_error) q.core.sctp h.0)
  packet_stands bytes p _ q h = absurd h

  output_stands : (output : DtlsOutput) → Stands m (TakesDtlsOutput m output)
  output_stands outputs.Connected p r q h = stands_by m p _ q h.1 (refl, refl, refl, refl, refl, start_self m.association p.core.sctp)
  output_stands (outputs.KeyingMaterial key profile) p r q h = keys_stand key.now profile _ p r q h
  output_stands (outputs.PeerCert cert) p r q h = cert_stands cert.now p r q h
  output_stands (outputs.ApplicationData bytes) p r q h = packet_stands bytes.now p r q h
  output_stands (outputs.Timeout moment) p r q h = stands_by m p _ q h.1 (refl, refl, refl, refl, refl, start_self m.association p.core.sctp)
  output_stands outputs.CloseNotify p r q h = close_notify_stands p r q h

  answer_stands : (answer : Result DtlsOutput AllocError) → Stands m (TakesDtlsAnswer m answer)
  answer_stands (Ok output) p r q h = output_stands output p r q h
  answer_stands (Err error) p r q h = stands_by m p _ q h.1 (refl, refl, refl, refl, refl, start_self m.association p.core.sctp)

  dtls_outputs_stand : Stands m (PollsDtlsOutputs m)
  dtls_outputs_stand =
      repeats_stands m (PollsDtlsOutput m)
      (λ p r q turn. stands_on m p (with_dtls turn.dtls p) q
      (let role = polls_role m.dtls p.core.dtls p.core.dtls.active turn.answer turn.dtls turn.by_poll in (refl, role.0, role.1, refl, refl, start_self m.association p.core.sctp))
      (answer_stands turn.answer (with_dtls turn.dtls p) r q turn.by_answer))

  connected_stands_it : (handshake : Handshake) (p : PolledPeer I D S M N) (r : Met E) (q : PolledPeer I D S M N) → TellsConnectedFrom handshake p r q
      → KeepsParts m p q
  connected_stands_it Pending p r q h = stands_by m p p q h.1 (refl, refl, refl, refl, refl, start_self m.association p.core.sctp)
  connected_stands_it Finished p r q h = stands_by m p _ q h.1 (refl, refl, refl, refl, refl, start_self m.association p.core.sctp)
  connected_stands_it Told p r q h = stands_by m p p q h.1 (refl, refl, refl, refl, refl, start_self m.association p.core.sctp)

  connection_stands : Stands m (TellsConnection m)
  unfolding TellsConnection
  connection_stands =
      else_stands m (PollsIceEvents m) _ ice_events_stand
      (else_stands m (TimesDtls m) _ (λ p r q h. times_stand (is_dtls_due p) p r q h)
      (else_stands m (PollsDtlsOutputs m) _ dtls_outputs_stand (λ p r q h. connected_stands_it p.transport.handshake p r q h)))

  media_told_stands : Stands m (TellsMedia m)
  unfolding TellsMedia
  media_told_stands p Nothing q h = stands_by m p _ q h.1 (refl, refl, refl, refl, ap (λ (x : M). m.media.line x) (media.event_none p.core.media q.core.media h.0), start_self m.association p.core.sctp)
  media_told_stands p (MetEvent (told.Media event)) q h =
      stands_by m p _ q h.1 (refl, refl, refl, refl, lines_same m media streams p.core.media q.core.media (ByOther (EventTold event h.0)), start_self m.association p.core.sctp)
  media_told_stands p _ q h = absurd h

  fallible_told_stands : Stands m (TellsFallibleMedia m)
  unfolding TellsFallibleMedia
  fallible_told_stands p Nothing q h = stands_by m p _ q h.1 (refl, refl, refl, refl, lines_same m media streams p.core.media q.core.media (ByOther (FallibleTold p.core.greatest (Ok None) h.0)), start_self m.association p.core.sctp)
  fallible_told_stands p (MetEvent (told.Media event)) q h =
      stands_by m p _ q h.1 (refl, refl, refl, refl, lines_same m media streams p.core.media q.core.media (ByOther (FallibleTold p.core.greatest (Ok (Some event)) h.0)), start_self m.association p.core.sctp)
  fallible_told_stands p (Error (Media cause)) q h =
      stands_by m p _ q h.2 (refl, refl, refl, refl, lines_same m media streams p.core.media q.core.media (ByOther (FallibleTold p.core.greatest (Err cause) h.1)), start_self m.association p.core.sctp)
  fallible_told_stands p (Error Alloc) q h =
      stands_by m p _ q h.1 (refl, refl, refl, refl, lines_same m media streams p.core.media q.core.media (ByOther (FallibleTold p.core.greatest (Err MediaAlloc) h.0)), start_self m.association p.core.sctp)
  fallible_told_stands p _ q h = absurd h

  arrivals_stand_it : Stands m (TellsArrivals m)
  unfolding TellsArrivals
  arrivals_stand_it =
      else_stands m (TellsMedia m) _ media_told_stands
      (else_stands m (TellsFallibleMedia m) TellsStatistics fallible_told_stands
      (λ p r q h. stands_by m p _ q (statistics_told p r q h) (refl, refl, refl, refl, refl, start_self m.association p.core.sctp)))

  checks_stand : Stands m (SendsChecks m)
  unfolding SendsChecks
  checks_stand p Nothing q h = stands_by m p _ q h.1 (ap (λ (i : I). m.ice.settings i) (laws.transmit_none p.core.ice q.core.ice h.0), refl, refl, refl, refl, start_self m.association p.core.sctp)
  checks_stand p (Transmit transmit) q h = stands_by m p _ q h.1 (laws.gave_settings p.core.ice q.core.ice transmit h.0, refl, refl, refl, refl, start_self m.association p.core.sctp)
  checks_stand p _ q h = absurd h

  packets_stand : (addr : SendAddr) → Stands m (SendsDtlsPacket m addr)
  unfolding SendsDtlsPacket
  packets_stand addr p Nothing q h = stands_by m p _ q h.1 (dtls_stand m p q (gives_role m.dtls p.core.dtls p.core.dtls.packets None q.core.dtls h.0))
  packets_stand addr p (Transmit transmit) q h = stands_by m p _ q h.2 (dtls_stand m p q (gives_role m.dtls p.core.dtls p.core.dtls.packets (Some transmit.contents) q.core.dtls h.1))
  packets_stand addr p _ q h = absurd h

  media_sent_stands : (addr : SendAddr) → Stands m (SendsMediaDatagram m addr)
  unfolding SendsMediaDatagram
  media_sent_stands addr p Nothing q h = stands_by m p _ q h.1 (refl, refl, refl, refl, ap (λ (x : M). m.media.line x) (media.datagram_none p.core.media q.core.media p.core.greatest h.0), start_self m.association p.core.sctp)
  media_sent_stands addr p (Transmit transmit) q h =
      stands_by m p _ q h.2 (refl, refl, refl, refl, lines_same m media streams p.core.media q.core.media (ByTaken transmit.contents (p.core.greatest, h.1)), start_self m.association p.core.sctp)
  media_sent_stands addr p _ q h = absurd h

  sends_stand : (addr : Option SendAddr) (p : PolledPeer I D S M N) (r : Met E) (q : PolledPeer I D S M N) → SendsBy m addr p r q → KeepsParts m p q
  sends_stand (Some addr) p r q h = else_stands m (SendsDtlsPacket m addr) (SendsMediaDatagram m addr) (packets_stand addr) (media_sent_stands addr) p r q h
  sends_stand None p r q h = stands_by m p _ q h.2 (refl, refl, refl, refl, lines_same m media streams p.core.media q.core.media (ByOther (FeedbackCleared h.1)), start_self m.association p.core.sctp)

  datagrams_stand_it : Stands m (SendsDatagrams m)
  unfolding SendsDatagrams
  datagrams_stand_it = else_stands m (SendsChecks m) (SendsByPair m) checks_stand (λ p r q h. sends_stand p.transport.send_addr p r q h)

  visits_stand : Stands m (VisitsParts m)
  unfolding VisitsParts
  visits_stand =
      else_stands m (TellsConnection m) _ connection_stands
      (else_stands m (TellsStreams m) _ (streams_stand m media streams)
      (else_stands m (TellsArrivals m) _ arrivals_stand_it
      (else_stands m (SendsDatagrams m) StartsOverWhenDue datagrams_stand_it (λ p r q h. stands_by m p p q h.1 (refl, refl, refl, refl, refl, start_self m.association p.core.sctp)))))

  waits_stand : (complete : Bool) (p : PolledPeer I D S M N) (answer : Result (Output E) RtcError) (q : PolledPeer I D S M N)
      → WaitsIf m complete p answer q → KeepsParts m p q
  waits_stand true p answer q h = stands_by m p _ q h.1 (refl, refl, refl, refl, refl, start_self m.association p.core.sctp)
  waits_stand false p answer q h = stands_by m p _ q h.1 (refl, refl, refl, refl, refl, start_self m.association p.core.sctp)

  met_stands : (met : Met E) (p : PolledPeer I D S M N) (answer : Result (Output E) RtcError) (q : PolledPeer I D S M N)
      → AnswersMet m met p answer q → KeepsParts m p q
  met_stands Nothing p answer q h = waits_stand (is_closing_complete m p) p answer q h
  met_stands Again p answer q h = absurd h
  met_stands (Transmit transmit) p answer q h = stands_by m p p q h.1 (refl, refl, refl, refl, refl, start_self m.association p.core.sctp)
  met_stands (MetEvent event) p answer q h = stands_by m p p q h.1 (refl, refl, refl, refl, refl, start_self m.association p.core.sctp)
  met_stands (Error error) p answer q h = stands_by m p p q h.1 (refl, refl, refl, refl, refl, start_self m.association p.core.sctp)

  walks_stand : (p : PolledPeer I D S M N) (answer : Result (Output E) RtcError) (q : PolledPeer I D S M N) → Walks m p answer q → KeepsParts m p q
  walks_stand p answer q h =
      stands_on m p h.visited q (repeats_stands m (VisitsParts m) visits_stand p h.met h.visited h.by_visits) (met_stands h.met h.visited answer q h.by_answer)

  polls_from_stand : (phase : Phase) (p : PolledPeer I D S M N) (answer : Result (Output E) RtcError) (q : PolledPeer I D S M N)
      → PollsPeerFrom m phase p answer q → KeepsParts m p q
  polls_from_stand Alive p answer q h = walks_stand p answer q h
  polls_from_stand Closing p answer q h = walks_stand p answer q h
  polls_from_stand Closed p answer q h = stands_by m p _ q h.1 (refl, refl, refl, refl, refl, start_self m.association p.core.sctp)

  -- a poll leaves them
  pub poll_stands : (p : PolledPeer I D S M N) (answer : Result (Output E) RtcError) (q : PolledPeer I D S M N) → PollsPeer m p answer q
      → KeepsParts m p q
  poll_stands p answer q h = polls_from_stand p.core.phase p answer q h
