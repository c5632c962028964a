-- Behind a poll it is told that the handshake is finished, or the peer is closed.
use Rattle.std.proofs.Common.{◌≡◌, ◌≢◌, inl, inr, Bool, true, false, Option, Some, None, Result, Ok, Err, refl, sym, ◌∙◌, ap, subst}
use Rattle.std.specs.declared.alloc.AllocError.{AllocError}
use Rattle.rtc_parts.specs.declared.reason.Reason.TheVariants.{NotHappening}
use Rattle.rtc_parts.specs.declared.ice_event.IceEvent.{IceEvent}
use Rattle.rtc_parts.specs.declared.ice_event.IceEvent.TheVariants as ice_events
use Rattle.rtc_parts.specs.declared.dtls_output.DtlsOutput.{DtlsOutput}
use Rattle.rtc_parts.specs.declared.dtls_output.DtlsOutput.TheVariants as outputs
use Rattle.rtc_parts.specs.DtlsState.{DtlsState}
use Rattle.rtc_peer_core.specs.declared.phase.Phase.{Phase}
use Rattle.rtc_peer_core.specs.declared.phase.Phase.TheVariants.{Alive, Closing, Closed}
use Rattle.rtc_peer_core.specs.declared.rtc_error.RtcError.{RtcError}
use Rattle.rtc_peer_core.specs.declared.rtc_error.RtcError.TheVariants.{RemoteSdp, Dtls, Sctp, Alloc}
use Rattle.rtc_peer_core.specs.Meanings.{Meanings}
use Rattle.rtc_peer_transport.specs.declared.event.Event.TheVariants as told
use Rattle.rtc_peer_transport.specs.declared.handshake.Handshake.{Handshake}
use Rattle.rtc_peer_transport.specs.declared.handshake.Handshake.TheVariants.{Pending, Finished, Told}
use Rattle.rtc_peer_transport.specs.declared.met.Met.{Met}
use Rattle.rtc_peer_transport.specs.declared.met.Met.TheVariants.{Nothing, Again, Transmit as Sent, Event, Error}
use Rattle.rtc_peer_transport.specs.declared.output.Output.{Output}
use Rattle.rtc_peer_transport.specs.declared.polled_peer.PolledPeer.{PolledPeer}
use Rattle.rtc_peer_transport.specs.declared.transport.Transport.{Transport}
use Rattle.rtc_peer_transport.specs.Closing.{ShutsMedia, ShutsStreams, ShutsDtls, BeginsClosing, ClosesPeerFrom, is_closing_complete}
use Rattle.rtc_peer_transport.specs.Connection.{with_dtls, with_ice, closed_peer}
use Rattle.rtc_peer_transport.specs.Deadlines.{least_deadline}
use Rattle.rtc_peer_transport.specs.Stages.{Failed, Passed, FollowedBy, Stopped, WentOn}
use Rattle.rtc_peer_polling.specs.DtlsStages.{GivesDtlsTime, TimesDtls, TimesDtlsIf, TakesDtlsOutput, TakesDtlsAnswer, PollsDtlsOutputs, TakesKeys, TakesCloseNotify, HandsPacket, ChecksCert, TellsConnected, TellsConnectedFrom, is_dtls_due, silenced_handshake}
use Rattle.rtc_peer_polling.specs.IceStages.{PollsIceEvent, PollsIceEvents, TakesIceEvent, after_ice_event}
use Rattle.rtc_peer_polling.specs.StreamStages.{TellsStreams}
use Rattle.rtc_peer_polling.specs.Walk.{TellsConnection, TellsArrivals, SendsDatagrams, StartsOverWhenDue, VisitsParts, WaitsIf, AnswersMet, Walks, PollsPeerFrom, PollsPeer, with_reason}
use Rattle.rtc_peer_laws.specs.Weight.{IsHandshakeTold, handshake_weight}
use Rattle.rtc_peer_laws.proofs.QuietStages.{IsQuiet, Leaves, StaysQuiet, quiet_all, same, else_quiet, repeats_quiet, streams_quiet, arrivals_quiet, datagrams_quiet}

module _ {I D S M E X T W N : Type 0} (m : Meanings I D S M E X T W N) where
  after_ice : (e : IceEvent) (t : Transport) → (after_ice_event e t).handshake ≡ t.handshake
  after_ice ice_events.IceRestart t = refl
  after_ice (ice_events.StateChange state) t = refl
  after_ice (ice_events.DiscoveredRecv proto source) t = refl
  after_ice (ice_events.NominatedSend proto source destination) t = refl

  ice_event : (e : Option IceEvent) (ice : I) (p : PolledPeer I D S M N) (r : Met E) (q : PolledPeer I D S M N) → IsQuiet m p → TakesIceEvent e (with_ice ice p) r q → Leaves m r q
  ice_event None ice p r q k h = quiet_all m r q (same m p _ q h.1 refl k)
  ice_event (Some e) ice p r q k h = quiet_all m r q (same m p _ q h.1 (after_ice e p.transport) k)

  ice_quiet : StaysQuiet m (PollsIceEvents m)
  ice_quiet = repeats_quiet m (PollsIceEvent m) (λ p r q k turn. ice_event turn.event turn.ice p r q k turn.by_event)

  timed : (due : Bool) → StaysQuiet m (TimesDtlsIf m due)
  unfolding GivesDtlsTime
  timed false p r q k h = quiet_all m r q (same m p p q h.1 refl k)
  timed true p Nothing q k h = same m p _ q h.1 refl k
  timed true p (Error (Dtls cause)) q k h = inl (same m p _ q h.2 refl k)
  timed true p (Error Alloc) q k h = inl (same m p _ q h.1 refl k)
  timed true p _ q k h = absurd h

  -- outputs may finish the handshake: they end with nothing, with a close, which silences it, or with an error, which closes the peer
  abbrev Ends : Met E → PolledPeer I D S M N → Type 0
  Ends Nothing q = Unit {0}
  Ends Again q = Unit {0}
  Ends (Sent transmit) q = IsQuiet m q
  Ends (Event event) q = IsQuiet m q
  Ends (Error error) q = IsHandshakeTold q

  shut : (x q : PolledPeer I D S M N) → q ≡ x → x.core.phase ≡ Closed → IsHandshakeTold q
  shut x q is closed = inr (ap (λ (y : PolledPeer I D S M N). y.core.phase) is ∙ closed)

  ends_as : (r n : Met E) (q : PolledPeer I D S M N) → r ≡ n → Ends n q → Ends r q
  ends_as r n q is h = subst (λ (y : Met E). Ends y q) (sym is) h

  failed_media : (p q : PolledPeer I D S M N) (error : RtcError) → ShutsMedia m p (Err error) q → IsHandshakeTold q
  unfolding ShutsMedia
  failed_media p q Alloc h = shut _ q h.1 refl
  failed_media p q _ h = absurd h

  failed_streams : (p q : PolledPeer I D S M N) (error : RtcError) → ShutsStreams m p (Err error) q → IsHandshakeTold q
  unfolding ShutsStreams
  failed_streams p q (Sctp cause) h = shut _ q h.2 refl
  failed_streams p q Alloc h = shut _ q h.1 refl
  failed_streams p q _ h = absurd h

  failed_dtls : (p q : PolledPeer I D S M N) (error : RtcError) → ShutsDtls m p (Err error) q → IsHandshakeTold q
  unfolding ShutsDtls
  failed_dtls p q (Dtls cause) h = shut _ q h.2 refl
  failed_dtls p q Alloc h = shut _ q h.1 refl
  failed_dtls p q _ h = absurd h

  failed_begins : (p q : PolledPeer I D S M N) (error : RtcError) → BeginsClosing m p (Err error) q → IsHandshakeTold q
  failed_begins p q error (Failed e is h) = failed_media p q e h
  failed_begins p q error (Passed a one (Failed e is h)) = failed_streams a q e h
  failed_begins p q error (Passed a one (Passed b two (Failed e is h))) = failed_dtls b q e h
  failed_begins p q error (Passed a one (Passed b two (Passed c three four))) = cc (four.0)

  failed_close : (phase : Phase) (p q : PolledPeer I D S M N) (error : RtcError) → ClosesPeerFrom m phase p (Err error) q → IsHandshakeTold q
  failed_close Alive p q error h = failed_begins p q error h
  failed_close Closing p q error h = cc (h.0)
  failed_close Closed p q error h = cc (h.0)

  silenced : (h : Handshake) → handshake_weight (silenced_handshake h) ≡ 0
  silenced Pending = refl
  silenced Finished = refl
  silenced Told = refl

  output : (o : DtlsOutput) (p : PolledPeer I D S M N) (r : Met E) (q : PolledPeer I D S M N) → TakesDtlsOutput m o p r q → Ends r q
  unfolding TakesKeys ChecksCert HandsPacket TakesCloseNotify
  output outputs.Connected p r q h = ends_as r Again q h.0 tt
  output (outputs.KeyingMaterial key profile) p Again q h = tt
  output (outputs.KeyingMaterial key profile) p (Error Alloc) q h = shut _ q h.1 refl
  output (outputs.KeyingMaterial key profile) p _ q h = absurd h
  output (outputs.PeerCert bytes) p Again q h = tt
  output (outputs.PeerCert bytes) p (Error (RemoteSdp why)) q h = shut _ q h.3 refl
  output (outputs.PeerCert bytes) p (Error Alloc) q h = shut _ q h refl
  output (outputs.PeerCert bytes) p _ q h = absurd h
  output (outputs.ApplicationData bytes) p Again q h = tt
  output (outputs.ApplicationData bytes) p (Error Alloc) q h = shut _ q h.1 refl
  output (outputs.ApplicationData bytes) p _ q h = absurd h
  output (outputs.Timeout moment) p r q h = ends_as r Nothing q h.0 tt
  output outputs.CloseNotify p (Event told.Closed) q h =
      ap (λ (y : PolledPeer I D S M N). handshake_weight y.transport.handshake) h.2 ∙ silenced h.0.transport.handshake
  output outputs.CloseNotify p (Error error) q h = failed_close p.core.phase p q error h
  output outputs.CloseNotify p _ q h = absurd h

  dtls_answer : (a : Result DtlsOutput AllocError) (dtls : DtlsState D) (p : PolledPeer I D S M N) (r : Met E) (q : PolledPeer I D S M N)
      → TakesDtlsAnswer m a (with_dtls dtls p) r q → Ends r q
  dtls_answer (Ok o) dtls p r q h = output o (with_dtls dtls p) r q h
  dtls_answer (Err error) dtls p r q h = ends_as r (Error Alloc) q h.0 (shut _ q h.1 refl)

  outputs_end : (p : PolledPeer I D S M N) (r : Met E) (q : PolledPeer I D S M N) → PollsDtlsOutputs m p r q → Ends r q
  outputs_end p r q h = dtls_answer h.ends.answer h.ends.dtls h.last r q h.ends.by_answer

  connected : (h : Handshake) (p : PolledPeer I D S M N) (r : Met E) (q : PolledPeer I D S M N) → p.transport.handshake ≡ h → TellsConnectedFrom h p r q → Leaves m r q
  connected Pending p r q is h = quiet_all m r q (same m p p q h.1 refl (ap handshake_weight is))
  connected Finished p r q is h = quiet_all m r q (ap (λ (y : PolledPeer I D S M N). handshake_weight y.transport.handshake) h.1)
  connected Told p r q is h = quiet_all m r q (same m p p q h.1 refl (ap handshake_weight is))

  ended : (r : Met E) (q : PolledPeer I D S M N) → r ≢ Nothing → r ≢ Again → Ends r q → Leaves m r q
  ended Nothing q stops over h = absurd (stops refl)
  ended Again q stops over h = absurd (over refl)
  ended (Sent transmit) q stops over h = h
  ended (Event e) q stops over h = h
  ended (Error error) q stops over h = h

  outputs_told : (p : PolledPeer I D S M N) (r : Met E) (q : PolledPeer I D S M N) → FollowedBy (PollsDtlsOutputs m) TellsConnected p r q → Leaves m r q
  outputs_told p r q (Stopped met stage) = ended r q met stage.stops (outputs_end p r q stage)
  outputs_told p r q (WentOn between stage after) = connected between.transport.handshake between r q refl after

  connection_quiet : StaysQuiet m (TellsConnection m)
  unfolding TellsConnection
  connection_quiet =
      else_quiet m (PollsIceEvents m) _ ice_quiet
      (else_quiet m (TimesDtls m) _ (λ p r q k h. timed (is_dtls_due p) p r q k h) (λ p r q k h. outputs_told p r q h))

  -- ---- polls

  visits_quiet : StaysQuiet m (VisitsParts m)
  unfolding VisitsParts
  visits_quiet =
      else_quiet m (TellsConnection m) _ connection_quiet
      (else_quiet m (TellsStreams m) _ (streams_quiet m)
      (else_quiet m (TellsArrivals m) _ (arrivals_quiet m)
      (else_quiet m (SendsDatagrams m) StartsOverWhenDue (datagrams_quiet m) (λ p r q k h. quiet_all m r q (same m p p q h.1 refl k)))))

  waits : (complete : Bool) (v : PolledPeer I D S M N) (a : Result (Output E) RtcError) (q : PolledPeer I D S M N) → IsQuiet m v → WaitsIf m complete v a q → IsQuiet m q
  waits true v a q k h = same m v (with_reason NotHappening (closed_peer v)) q h.1 refl k
  waits false v a q k h = same m v (with_reason (least_deadline m v).1 v) q h.1 refl k

  answers : (met : Met E) (v : PolledPeer I D S M N) (a : Result (Output E) RtcError) (q : PolledPeer I D S M N) → Leaves m met v → AnswersMet m met v a q → IsHandshakeTold q
  answers Nothing v a q k h = inl (waits (is_closing_complete m v) v a q k h)
  answers Again v a q k h = absurd h
  answers (Sent transmit) v a q k h = inl (same m v v q h.1 refl k)
  answers (Event e) v a q k h = inl (same m v v q h.1 refl k)
  answers (Error error) v a q k h = subst (λ (y : PolledPeer I D S M N). IsHandshakeTold y) (sym h.1) k

  walks : (p : PolledPeer I D S M N) (a : Result (Output E) RtcError) (q : PolledPeer I D S M N) → IsQuiet m p → Walks m p a q → IsHandshakeTold q
  walks p a q k h = answers h.met h.visited a q (repeats_quiet m (VisitsParts m) visits_quiet p h.met h.visited k h.by_visits) h.by_answer

  polls_from : (phase : Phase) (p : PolledPeer I D S M N) (a : Result (Output E) RtcError) (q : PolledPeer I D S M N) → p.core.phase ≡ phase → IsHandshakeTold p
      → PollsPeerFrom m phase p a q → IsHandshakeTold q
  polls_from Alive p a q is (inl k) h = walks p a q k h
  polls_from Closing p a q is (inl k) h = walks p a q k h
  polls_from Alive p a q is (inr k) h = cc (is, k)
  polls_from Closing p a q is (inr k) h = cc (is, k)
  polls_from Closed p a q is k h = shut (with_reason NotHappening p) q h.1 is

  pub polls_told : (p q : PolledPeer I D S M N) (a : Result (Output E) RtcError) → IsHandshakeTold p → PollsPeer m p a q → IsHandshakeTold q
  polls_told p q a k h = polls_from p.core.phase p a q refl k h
