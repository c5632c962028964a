-- A peer over plain parts reports its handshake as finished only once that of its DTLS part is: polls keep that.
use Rattle.std.proofs.Common.{◌≡◌, ◌∙◌, ℕ, Bool, true, false, [], Option, Some, None, Result, Ok, Err, refl, sym, ap, subst}
use Rattle.std.specs.declared.alloc.AllocError.{AllocError}
use Rattle.rtc_assoc_state.proofs.PlainLaws.{plain_laws}
use Rattle.rtc_parts.specs.declared.reason.Reason.TheVariants.{NotHappening}
use Rattle.rtc_parts.specs.Draws.{Draws}
use Rattle.rtc_parts.specs.declared.ice_event.IceEvent.{IceEvent}
use Rattle.rtc_parts.specs.declared.ice_event.IceEvent.TheVariants as ice_events
use Rattle.rtc_parts.specs.declared.dtls_error.DtlsError.{DtlsError}
use Rattle.rtc_parts.specs.declared.dtls_error.DtlsError.TheVariants.{Fault, Alloc as DtlsAlloc}
use Rattle.rtc_parts.specs.declared.dtls_output.DtlsOutput.{DtlsOutput}
use Rattle.rtc_parts.specs.declared.dtls_output.DtlsOutput.TheVariants as outputs
use Rattle.rtc_parts.specs.DtlsState.{DtlsState, HandsOn, PollsOutput, drawn_by}
use Rattle.rtc_parts.specs.DtlsWords.{takes}
use Rattle.rtc_plain_dtls.specs.Calls.{dtls_time_passed}
use Rattle.rtc_plain_dtls.specs.Contents.{DtlsContents, phase_is_finished}
use Rattle.rtc_plain_dtls.specs.PlainMeaning.{plain_dtls}
use Rattle.rtc_plain_ice.specs.Contents.{IceContents}
use Rattle.rtc_plain_media.specs.declared.plain_media_event.PlainMediaEvent.{PlainMediaEvent}
use Rattle.rtc_peer_core.specs.declared.phase.Phase.{Phase}
use Rattle.rtc_peer_core.specs.declared.phase.Phase.TheVariants.{Alive, Closing, Closed}
use Rattle.rtc_peer_core.specs.declared.rtc_error.RtcError.{RtcError}
use Rattle.rtc_peer_core.specs.declared.rtc_error.RtcError.TheVariants.{RemoteSdp, Dtls, Alloc}
use Rattle.rtc_peer_transport.specs.declared.event.Event.TheVariants as told
use Rattle.rtc_peer_transport.specs.declared.handshake.Handshake.{Handshake}
use Rattle.rtc_peer_transport.specs.declared.handshake.Handshake.TheVariants.{Pending, Finished, Told}
use Rattle.rtc_peer_transport.specs.declared.met.Met.{Met}
use Rattle.rtc_peer_transport.specs.declared.met.Met.TheVariants.{Nothing, Again, Transmit, Event, Error}
use Rattle.rtc_peer_transport.specs.declared.output.Output.{Output}
use Rattle.rtc_peer_transport.specs.declared.transport.Transport.{Transport}
use Rattle.rtc_peer_transport.specs.Closing.{ClosesPeer, is_closing_complete}
use Rattle.rtc_peer_transport.specs.Connection.{with_dtls, with_ice, closed_peer}
use Rattle.rtc_peer_transport.specs.Deadlines.{least_deadline}
use Rattle.rtc_peer_transport.specs.Readings.{is_handshake_finished}
use Rattle.rtc_peer_transport.specs.Stages.{Stage, FollowedBy, Stopped, WentOn, RepeatsStage}
use Rattle.rtc_peer_transport.proofs.StageLemmas.{over_carries}
use Rattle.rtc_peer_polling.specs.DtlsStages.{GivesDtlsTime, TimesDtls, TimesDtlsIf, TakesDtlsOutput, TakesDtlsAnswer, PollsDtlsOutput, PollsDtlsOutputs, TakesKeys, TakesCloseNotify, HandsPacket, ChecksCert, TellsConnected, TellsConnectedFrom, is_dtls_due, silenced_handshake, with_handshake}
use Rattle.rtc_peer_polling.specs.IceStages.{PollsIceEvent, PollsIceEvents, TakesIceEvent, after_ice_event}
use Rattle.rtc_peer_polling.specs.StreamStages.{TellsStreams}
use Rattle.rtc_peer_polling.specs.Walk.{TellsConnection, TellsArrivals, SendsDatagrams, StartsOverWhenDue, VisitsParts, WaitsIf, AnswersMet, Walks, PollsPeerFrom, PollsPeer, with_reason}
use Rattle.rtc_peer_laws.specs.PeerActs.{nothing_came}
use Rattle.rtc_peer_laws.proofs.ActedClosing.{close_acts}
use Rattle.rtc_peer_laws.proofs.ActedStreams.{streams_act}
use Rattle.rtc_peer_laws.proofs.ActedVisits.{arrivals_act, datagrams_act}
use Rattle.rtc_peer_laws.proofs.QuietStages.{arrivals_leave, closes_same, datagrams_leave, handshake_of, streams_leave}
use Rattle.rtc_run_laws.specs.PlainPairs.{PlainPolled, plain_over}
use Rattle.rtc_run_laws.proofs.DtlsFinishes.{Finishes, TellsFinished, connected_finished, drawn_finishes, finishes_at, finishes_none, finishes_on, leaves_finishes, moved_finishes, time_finishes}
use Rattle.rtc_run_laws.proofs.StepsExchange.{plain_over_laws}

-- ---- the DTLS part of a connection

hands : (active : Option Bool) (d e : DtlsState DtlsContents) (now : ℕ) (r : Result (Unit {0}) DtlsError)
    → HandsOn plain_dtls d active (λ i s j. plain_dtls.timed i now s j) r e → Finishes d.instance e.instance
hands None d e now r h =
    finishes_at d.instance d.instance e.instance (ap (λ (x : DtlsState DtlsContents). x.instance) h.1) (finishes_none d.instance)
hands (Some active) d e now r h = leaves_finishes d.instance (dtls_time_passed now d.instance) r e.instance (time_finishes now d.instance) h.0

output_polled : (active : Option Bool) (d : DtlsState DtlsContents) (answer : Result DtlsOutput AllocError) (e : DtlsState DtlsContents)
    → PollsOutput plain_dtls d active answer e → Finishes d.instance e.instance
output_polled None d answer e h =
    finishes_at d.instance d.instance e.instance (ap (λ (x : DtlsState DtlsContents). x.instance) h.1) (finishes_none d.instance)
output_polled (Some active) d (Ok output) e h =
    let drains = h.0 in
    finishes_on d.instance drains.1.0 e.instance (moved_finishes (takes drains.0) d.instance drains.1.0 drains.1.1.0)
    (drawn_finishes drains.1.0 (drawn_by output) e.instance drains.1.1.1)
output_polled (Some active) d (Err error) e h = moved_finishes _ d.instance e.instance h.0.1.1.0

-- one that reports that it is connected
connected_polled : (active : Option Bool) (d e : DtlsState DtlsContents) → PollsOutput plain_dtls d active (Ok outputs.Connected) e
    → TellsFinished d.instance → phase_is_finished e.instance.phase ≡ true
connected_polled None d e h t = cc (h.0)
connected_polled (Some active) d e h t =
    let drains = h.0 in
    connected_finished drains.1.0.packets drains.1.0.outputs drains.1.0 e.instance refl drains.1.1.1
    ((moved_finishes (takes drains.0) d.instance drains.1.0 drains.1.1.0).tells t)

-- ---- peers

-- a handshake is reported as finished only once that of the DTLS part is
pub record IsFit {N : Type 0} (p : PlainPolled N) : Type 0 where
  pub finished : is_handshake_finished p.transport.handshake ≡ true → phase_is_finished p.core.dtls.instance.phase ≡ true
  pub tells : TellsFinished p.core.dtls.instance

pub fit_on : {N : Type 0} (p q : PlainPolled N) → handshake_of q ≡ handshake_of p → Finishes p.core.dtls.instance q.core.dtls.instance → IsFit p → IsFit q
fit_on p q same h k = record {
  finished = λ f. h.stays (k.finished (ap is_handshake_finished (sym same) ∙ f));
  tells = h.tells k.tells;
}

-- connection and handshake stay
fit_by : {N : Type 0} (p x q : PlainPolled N) → q ≡ x → x.transport.handshake ≡ p.transport.handshake → x.core.dtls.instance ≡ p.core.dtls.instance
    → IsFit p → IsFit q
fit_by {N} p x q is handshake dtls k =
    fit_on p q (ap (λ (y : PlainPolled N). y.transport.handshake) is ∙ handshake)
    (finishes_at p.core.dtls.instance p.core.dtls.instance q.core.dtls.instance (ap (λ (y : PlainPolled N). y.core.dtls.instance) is ∙ dtls)
    (finishes_none p.core.dtls.instance)) k

silenced_was : (h : Handshake) → is_handshake_finished (silenced_handshake h) ≡ true → is_handshake_finished h ≡ true
silenced_was Pending f = f
silenced_was Finished f = refl
silenced_was Told f = refl

after_ice : (e : IceEvent) (t : Transport) → (after_ice_event e t).handshake ≡ t.handshake
after_ice ice_events.IceRestart t = refl
after_ice (ice_events.StateChange state) t = refl
after_ice (ice_events.DiscoveredRecv proto source) t = refl
after_ice (ice_events.NominatedSend proto source destination) t = refl

module _ {N : Type 0} (draws : Draws N) where
  abbrev StaysFit : Stage (PlainPolled N) PlainMediaEvent → Type 0
  StaysFit stage = (p : PlainPolled N) (r : Met PlainMediaEvent) (q : PlainPolled N) → stage p r q → IsFit p → IsFit q

  else_fit : (first rest : Stage (PlainPolled N) PlainMediaEvent) → StaysFit first → StaysFit rest → StaysFit (FollowedBy first rest)
  else_fit first rest f g p r q (Stopped met stage) k = f p r q stage k
  else_fit first rest f g p r q (WentOn between stage after) k = g between r q after (f p Nothing between stage k)

  abbrev Goes : PlainPolled N → PlainPolled N → Type 0
  Goes p q = IsFit p → IsFit q

  repeats_fit : (stage : Stage (PlainPolled N) PlainMediaEvent) → StaysFit stage → StaysFit (RepeatsStage stage)
  repeats_fit stage f p r q h k =
      f h.last r q h.ends
      (over_carries stage Goes (λ x y. y) (λ a b c one two y. two (one y)) (λ a b turn y. f a Again b turn y) h.turns p h.last h.over k)

  -- ---- the connection

  ice_event : (e : Option IceEvent) (ice : IceContents) (p : PlainPolled N) (r : Met PlainMediaEvent) (q : PlainPolled N) → TakesIceEvent e (with_ice ice p) r q
      → IsFit p → IsFit q
  ice_event None ice p r q h k = fit_by p _ q h.1 refl refl k
  ice_event (Some e) ice p r q h k = fit_by p _ q h.1 (after_ice e p.transport) refl k

  ice_fit : StaysFit (PollsIceEvents (plain_over draws))
  ice_fit = repeats_fit (PollsIceEvent (plain_over draws)) (λ p r q turn k. ice_event turn.event turn.ice p r q turn.by_event k)

  timed_on : (p x q : PlainPolled N) (e : DtlsState DtlsContents) (r : Result (Unit {0}) DtlsError) → q ≡ x
      → x.transport.handshake ≡ p.transport.handshake → x.core.dtls ≡ e
      → HandsOn plain_dtls p.core.dtls p.core.dtls.active (λ i s j. plain_dtls.timed i p.core.greatest s j) r e → IsFit p → IsFit q
  timed_on p x q e r is handshake dtls h k =
      fit_on p q (ap (λ (y : PlainPolled N). y.transport.handshake) is ∙ handshake)
      (finishes_at p.core.dtls.instance e.instance q.core.dtls.instance
      (ap (λ (y : PlainPolled N). y.core.dtls.instance) is ∙ ap (λ (y : DtlsState DtlsContents). y.instance) dtls)
      (hands p.core.dtls.active p.core.dtls e p.core.greatest r h)) k

  timed : (due : Bool) → StaysFit (TimesDtlsIf (plain_over draws) due)
  unfolding GivesDtlsTime
  timed false p r q h k = fit_by p p q h.1 refl refl k
  timed true p Nothing q h k = timed_on p _ q q.core.dtls (Ok tt) h.1 refl refl h.0 k
  timed true p (Error (Dtls cause)) q h k = timed_on p _ q q.core.dtls (Err Fault) h.2 refl refl h.1 k
  timed true p (Error Alloc) q h k = timed_on p _ q q.core.dtls (Err DtlsAlloc) h.1 refl refl h.0 k
  timed true p _ q h k = absurd h

  closes_fit : (p : PlainPolled N) (r : Result (Unit {0}) RtcError) (q : PlainPolled N) → ClosesPeer (plain_over draws) p r q → IsFit p → IsFit q
  closes_fit p r q h k =
      let did = close_acts (plain_over draws) nothing_came [] plain_laws p r q h in
      fit_on p q (closes_same (plain_over draws) p r q h) (moved_finishes did.acts.dtls p.core.dtls.instance q.core.dtls.instance did.went.dtls) k

  silenced_fit : (closing q : PlainPolled N) → q ≡ with_handshake (silenced_handshake closing.transport.handshake) closing → IsFit closing → IsFit q
  silenced_fit closing q is k =
      subst (λ (x : PlainPolled N). IsFit x) (sym is)
      (record { finished = λ f. k.finished (silenced_was closing.transport.handshake f); tells = k.tells })

  -- an output is taken
  output : (o : DtlsOutput) (p : PlainPolled N) (r : Met PlainMediaEvent) (q : PlainPolled N)
      → (o ≡ outputs.Connected → phase_is_finished p.core.dtls.instance.phase ≡ true) → TakesDtlsOutput (plain_over draws) o p r q → IsFit p → IsFit q
  unfolding TakesKeys ChecksCert HandsPacket TakesCloseNotify
  output outputs.Connected p r q new h k =
      subst (λ (x : PlainPolled N). IsFit x) (sym h.1) (record { finished = λ f. new refl; tells = k.tells })
  output (outputs.KeyingMaterial key profile) p Again q new h k = fit_by p _ q h.1 refl refl k
  output (outputs.KeyingMaterial key profile) p (Error Alloc) q new h k = fit_by p _ q h.1 refl refl k
  output (outputs.KeyingMaterial key profile) p _ q new h k = absurd h
  output (outputs.PeerCert bytes) p Again q new h k = fit_by p _ q h.3 refl refl k
  output (outputs.PeerCert bytes) p (Error (RemoteSdp why)) q new h k = fit_by p _ q h.3 refl refl k
  output (outputs.PeerCert bytes) p (Error Alloc) q new h k = fit_by p _ q h refl refl k
  output (outputs.PeerCert bytes) p _ q new h k = absurd h
  output (outputs.ApplicationData bytes) p Again q new h k = fit_by p _ q h.1 refl refl k
  output (outputs.ApplicationData bytes) p (Error Alloc) q new h k = fit_by p _ q h.1 refl refl k
  output (outputs.ApplicationData bytes) p _ q new h k = absurd h
  output (outputs.Timeout moment) p r q new h k = fit_by p _ q h.1 refl refl k
  output outputs.CloseNotify p (Event told.Closed) q new h k = silenced_fit h.0 q h.2 (closes_fit p (Ok tt) h.0 h.1 k)
  output outputs.CloseNotify p (Error error) q new h k = closes_fit p (Err error) q h k
  output outputs.CloseNotify p _ q new h k = absurd h

  -- the peer as its DTLS part was polled
  polled_fit : (answer : Result DtlsOutput AllocError) (dtls : DtlsState DtlsContents) (p : PlainPolled N)
      → PollsOutput plain_dtls p.core.dtls p.core.dtls.active answer dtls → IsFit p → IsFit (with_dtls dtls p)
  polled_fit answer dtls p h k = fit_on p (with_dtls dtls p) refl (output_polled p.core.dtls.active p.core.dtls answer dtls h) k

  new_finished : (o : DtlsOutput) (dtls : DtlsState DtlsContents) (p : PlainPolled N) → PollsOutput plain_dtls p.core.dtls p.core.dtls.active (Ok o) dtls
      → IsFit p → o ≡ outputs.Connected → phase_is_finished dtls.instance.phase ≡ true
  new_finished o dtls p h k is =
      connected_polled p.core.dtls.active p.core.dtls dtls
      (subst (λ (x : DtlsOutput). PollsOutput plain_dtls p.core.dtls p.core.dtls.active (Ok x) dtls) is h) k.tells

  dtls_answer : (answer : Result DtlsOutput AllocError) (dtls : DtlsState DtlsContents) (p : PlainPolled N) (r : Met PlainMediaEvent) (q : PlainPolled N)
      → PollsOutput plain_dtls p.core.dtls p.core.dtls.active answer dtls → TakesDtlsAnswer (plain_over draws) answer (with_dtls dtls p) r q → IsFit p → IsFit q
  dtls_answer (Ok o) dtls p r q polled h k =
      output o (with_dtls dtls p) r q (λ is. new_finished o dtls p polled k is) h (polled_fit (Ok o) dtls p polled k)
  dtls_answer (Err error) dtls p r q polled h k = fit_by (with_dtls dtls p) _ q h.1 refl refl (polled_fit (Err error) dtls p polled k)

  outputs_fit : StaysFit (PollsDtlsOutputs (plain_over draws))
  outputs_fit =
      repeats_fit (PollsDtlsOutput (plain_over draws)) (λ p r q turn k. dtls_answer turn.answer turn.dtls p r q turn.by_poll turn.by_answer k)

  connected : (h : Handshake) (p : PlainPolled N) (r : Met PlainMediaEvent) (q : PlainPolled N) → p.transport.handshake ≡ h → TellsConnectedFrom h p r q
      → IsFit p → IsFit q
  connected Pending p r q is h k = fit_by p p q h.1 refl refl k
  connected Finished p r q is h k =
      subst (λ (x : PlainPolled N). IsFit x) (sym h.1)
      (record { finished = λ f. k.finished (ap is_handshake_finished is); tells = k.tells })
  connected Told p r q is h k = fit_by p p q h.1 refl refl k

  connection_fit : StaysFit (TellsConnection (plain_over draws))
  unfolding TellsConnection
  connection_fit =
      else_fit (PollsIceEvents (plain_over draws)) _ ice_fit
      (else_fit (TimesDtls (plain_over draws)) _ (λ p r q h k. timed (is_dtls_due p) p r q h k)
      (else_fit (PollsDtlsOutputs (plain_over draws)) TellsConnected outputs_fit (λ p r q h k. connected p.transport.handshake p r q refl h k)))

  -- ---- the stages beside it

  streams_fit : StaysFit (TellsStreams (plain_over draws))
  streams_fit p r q h k =
      let did = (streams_act (plain_over draws) (plain_over_laws draws) p r q h).did in
      fit_on p q (streams_leave (plain_over draws) p r q h) (moved_finishes did.acts.dtls p.core.dtls.instance q.core.dtls.instance did.went.dtls) k

  arrivals_fit : StaysFit (TellsArrivals (plain_over draws))
  arrivals_fit p r q h k =
      let did = (arrivals_act (plain_over draws) (plain_over_laws draws) p r q h).did in
      fit_on p q (arrivals_leave (plain_over draws) p r q h) (moved_finishes did.acts.dtls p.core.dtls.instance q.core.dtls.instance did.went.dtls) k

  datagrams_fit : StaysFit (SendsDatagrams (plain_over draws))
  datagrams_fit p r q h k =
      let did = (datagrams_act (plain_over draws) (plain_over_laws draws) p r q h).did in
      fit_on p q (datagrams_leave (plain_over draws) p r q h) (moved_finishes did.acts.dtls p.core.dtls.instance q.core.dtls.instance did.went.dtls) k

  -- ---- polls

  visits_fit : StaysFit (VisitsParts (plain_over draws))
  unfolding VisitsParts
  visits_fit =
      else_fit (TellsConnection (plain_over draws)) _ connection_fit
      (else_fit (TellsStreams (plain_over draws)) _ streams_fit
      (else_fit (TellsArrivals (plain_over draws)) _ arrivals_fit
      (else_fit (SendsDatagrams (plain_over draws)) StartsOverWhenDue datagrams_fit (λ p r q h k. fit_by p p q h.1 refl refl k))))

  waits : (complete : Bool) (v : PlainPolled N) (a : Result (Output PlainMediaEvent) RtcError) (q : PlainPolled N)
      → WaitsIf (plain_over draws) complete v a q → IsFit v → IsFit q
  waits true v a q h k = fit_by v (with_reason NotHappening (closed_peer v)) q h.1 refl refl k
  waits false v a q h k = fit_by v (with_reason (least_deadline (plain_over draws) v).1 v) q h.1 refl refl k

  answers : (met : Met PlainMediaEvent) (v : PlainPolled N) (a : Result (Output PlainMediaEvent) RtcError) (q : PlainPolled N)
      → AnswersMet (plain_over draws) met v a q → IsFit v → IsFit q
  answers Nothing v a q h k = waits (is_closing_complete (plain_over draws) v) v a q h k
  answers Again v a q h k = absurd h
  answers (Transmit transmit) v a q h k = fit_by v v q h.1 refl refl k
  answers (Event e) v a q h k = fit_by v v q h.1 refl refl k
  answers (Error error) v a q h k = fit_by v v q h.1 refl refl k

  walks : (p : PlainPolled N) (a : Result (Output PlainMediaEvent) RtcError) (q : PlainPolled N) → Walks (plain_over draws) p a q → IsFit p → IsFit q
  walks p a q h k =
      answers h.met h.visited a q h.by_answer (repeats_fit (VisitsParts (plain_over draws)) visits_fit p h.met h.visited h.by_visits k)

  polls_from : (phase : Phase) (p : PlainPolled N) (a : Result (Output PlainMediaEvent) RtcError) (q : PlainPolled N)
      → PollsPeerFrom (plain_over draws) phase p a q → IsFit p → IsFit q
  polls_from Alive p a q h k = walks p a q h k
  polls_from Closing p a q h k = walks p a q h k
  polls_from Closed p a q h k = fit_by p (with_reason NotHappening p) q h.1 refl refl k

  pub poll_fit : (p : PlainPolled N) (a : Result (Output PlainMediaEvent) RtcError) (q : PlainPolled N) → PollsPeer (plain_over draws) p a q → IsFit p
      → IsFit q
  poll_fit p a q h k = polls_from p.core.phase p a q h k
