-- A moment of DTLS that has come is handed to the part, which then asks for none that has.
use Rattle.std.proofs.Common.{◌≡◌, ◌-◌, ◌^◌, ◌++◌, ℕ, Bool, true, false, List, []}
use Rattle.std.proofs.Common.{◌∷◌, Option, Some, None, Result, Ok, Err, refl, sym, ap, subst, ◌∙◌}
use Rattle.std.specs.declared.alloc.AllocError.{AllocError}
use Rattle.rtc_parts.specs.declared.dtls_output.DtlsOutput.{DtlsOutput}
use Rattle.rtc_parts.specs.declared.dtls_output.DtlsOutput.TheVariants as outputs
use Rattle.rtc_parts.specs.DtlsActs.{DtlsAct, DtlsActed, DtlsMoved, Taken, Got, Stirred, Showed, dtls_moved-append, dtls_moved-one}
use Rattle.rtc_parts.specs.DtlsDrawn.{DtlsDrawn, DrewPacket, DrewConnected, DrewKeying, DrewCert, DrewData, DrewTimeout, DrewClose, draws_output}
use Rattle.rtc_parts.specs.DtlsLaws.{DtlsLaws, IsLater}
use Rattle.rtc_parts.specs.DtlsMeaning.{DtlsMeaning}
use Rattle.rtc_parts.specs.DtlsState.{DtlsState, PollsOutput, HandsOn, drawn_by}
use Rattle.rtc_parts.specs.DtlsWords.{takes}
use Rattle.rtc_peer_core.specs.Meanings.{Meanings}
use Rattle.rtc_peer_transport.specs.declared.handshake.Handshake.{Handshake}
use Rattle.rtc_peer_transport.specs.declared.handshake.Handshake.TheVariants.{Pending, Finished, Told}
use Rattle.rtc_peer_transport.specs.declared.met.Met.TheVariants.{Nothing, Again}
use Rattle.rtc_peer_transport.specs.declared.polled_peer.PolledPeer.{PolledPeer}
use Rattle.rtc_peer_transport.specs.Connection.{with_dtls}
use Rattle.rtc_peer_polling.specs.DtlsStages.{GivesDtlsTime, TimesDtls, TimesDtlsIf, TakesDtlsOutput, TakesDtlsAnswer, PollsDtlsOutput}
use Rattle.rtc_peer_polling.specs.DtlsStages.{PollsDtlsOutputs, TakesKeys, TakesCloseNotify, HandsPacket, ChecksCert, TellsConnected, TellsConnectedFrom, has_come, is_dtls_due}
use Rattle.rtc_peer_polling.specs.IceStages.{PollsIceEvent, PollsIceEvents}
use Rattle.rtc_peer_transport.specs.Stages.{FollowedBy}
use Rattle.rtc_peer_polling.specs.Walk.{TellsConnection}
use Rattle.rtc_peer_polling.proofs.DtlsTurns.{taken_output}
use Rattle.rtc_peer_transport.proofs.StageLemmas.{NeverAgain, repeats_never, over_carries, went_through, else_never}
use Rattle.rtc_peer_polling.proofs.DueMoments.{later_is_to_come, due_kept, ice_keeps, connected_keeps}

-- what was drawn is an act
drawn_act : {D : Type 0} (m : DtlsMeaning D) (drawn : DtlsDrawn) (i j : D) → draws_output drawn ≡ true → m.polled i drawn j
    → (act : DtlsAct) × DtlsActed m i act j
drawn_act m (DrewPacket packet) i j draws polled = (Taken packet, polled)
drawn_act m DrewConnected i j draws polled = (Stirred (Showed DrewConnected), (refl, polled))
drawn_act m (DrewKeying key profile) i j draws polled = (Stirred (Showed (DrewKeying key profile)), (refl, polled))
drawn_act m (DrewCert cert) i j draws polled = (Stirred (Showed (DrewCert cert)), (refl, polled))
drawn_act m (DrewData bytes) i j draws polled = (Got bytes, polled)
drawn_act m (DrewTimeout moment) i j draws polled = cc (draws)
drawn_act m DrewClose i j draws polled = (Stirred (Showed DrewClose), (refl, polled))

module _ {I D S M E X T W N : Type 0} (m : Meanings I D S M E X T W N) where
  -- turns of outputs keep the greatest moment and the role, and move the instance
  abbrev MovesDtls : PolledPeer I D S M N → PolledPeer I D S M N → Type 0
  MovesDtls p q =
      (q.core.greatest ≡ p.core.greatest)
      × ((q.core.dtls.active ≡ p.core.dtls.active)
      × ((acts : List DtlsAct) × DtlsMoved m.dtls p.core.dtls.instance acts q.core.dtls.instance))

  moves_none : (p : PolledPeer I D S M N) → MovesDtls p p
  moves_none p = (refl, (refl, ([], refl)))

  moves_join : (p q r : PolledPeer I D S M N) → MovesDtls p q → MovesDtls q r → MovesDtls p r
  moves_join p q r a b = (
    b.0 ∙ a.0,
    (
      b.1.0 ∙ a.1.0,
      (
        a.1.1.0 ++ b.1.1.0,
        dtls_moved-append m.dtls p.core.dtls.instance q.core.dtls.instance r.core.dtls.instance a.1.1.0 b.1.1.0 a.1.1.1 b.1.1.1,
      ),
    ),
  )

  -- an output that is followed by the next keeps the greatest moment
  output_greatest : (output : DtlsOutput) (p q : PolledPeer I D S M N) → TakesDtlsOutput m output p Again q → q.core.greatest ≡ p.core.greatest
  unfolding ChecksCert TakesKeys TakesCloseNotify HandsPacket
  output_greatest outputs.Connected p q taken = ap (λ (x : PolledPeer I D S M N). x.core.greatest) taken.1
  output_greatest (outputs.KeyingMaterial key profile) p q taken = ap (λ (x : PolledPeer I D S M N). x.core.greatest) taken.1
  output_greatest (outputs.PeerCert cert) p q taken = ap (λ (x : PolledPeer I D S M N). x.core.greatest) taken.3
  output_greatest (outputs.ApplicationData bytes) p q taken = ap (λ (x : PolledPeer I D S M N). x.core.greatest) taken.1
  output_greatest (outputs.Timeout moment) p q taken = ap (λ (x : PolledPeer I D S M N). x.core.greatest) taken.1
  output_greatest outputs.CloseNotify p q taken = absurd taken

  polled_moves : (active : Option Bool) (output : DtlsOutput) (state : DtlsState D) (p : PolledPeer I D S M N) → draws_output (drawn_by output) ≡ true
      → PollsOutput m.dtls p.core.dtls active (Ok output) state → (acts : List DtlsAct) × DtlsMoved m.dtls p.core.dtls.instance acts state.instance
  polled_moves None output state p draws polled = ([], ap (λ (x : DtlsState D). x.instance) polled.1)
  polled_moves (Some active) output state p draws polled =
      let drains = polled.0 in
      let act = drawn_act m.dtls (drawn_by output) drains.1.0 state.instance draws drains.1.1.1 in (
        takes drains.0 ++ act.0 ∷ [],
        dtls_moved-append m.dtls p.core.dtls.instance drains.1.0 state.instance (takes drains.0) (act.0 ∷ []) drains.1.1.0
            (dtls_moved-one m.dtls drains.1.0 state.instance act.0 act.1),
      )

  polled_role : (active : Option Bool) (answer : Result DtlsOutput AllocError) (p state : DtlsState D) → PollsOutput m.dtls p active answer state
      → state.active ≡ p.active
  polled_role None answer p state polled = ap (λ (x : DtlsState D). x.active) polled.1
  polled_role (Some active) answer p state polled = ap (λ (x : DtlsState D). x.active) polled.1

  turn_moves_by : (answer : Result DtlsOutput AllocError) (state : DtlsState D) (p q : PolledPeer I D S M N)
      → PollsOutput m.dtls p.core.dtls p.core.dtls.active answer state → TakesDtlsAnswer m answer (with_dtls state p) Again q → MovesDtls p q
  turn_moves_by (Ok output) state p q polled taken =
      let kept = taken_output m output (with_dtls state p) q taken in
      let moved = polled_moves p.core.dtls.active output state p kept.0 polled in (
        output_greatest output (with_dtls state p) q taken,
        (
          kept.1.1 ∙ polled_role p.core.dtls.active (Ok output) p.core.dtls state polled,
          (moved.0, subst (λ (x : D). DtlsMoved m.dtls p.core.dtls.instance moved.0 x) (sym kept.1.0) moved.1),
        ),
      )
  turn_moves_by (Err error) state p q polled taken = cc (taken.0)

  turn_moves : (p q : PolledPeer I D S M N) → PollsDtlsOutput m p Again q → MovesDtls p q
  turn_moves p q turn = turn_moves_by turn.answer turn.dtls p q turn.by_poll turn.by_answer

  -- the moment that outputs end with is asked for by the part: that of what is not to happen where it has no role
  abbrev AskedFor : Option Bool → D → ℕ → Type 0
  AskedFor None i moment = moment ≡ 2 ^ 64 - 1
  AskedFor (Some active) i moment = (k : D) × (((acts : List DtlsAct) × DtlsMoved m.dtls i acts k) × (moment ≡ m.dtls.asks k))

  module _ (laws : DtlsLaws m.dtls) where
    asked_for : (active : Option Bool) (moment : ℕ) (p state : DtlsState D) → PollsOutput m.dtls p active (Ok (outputs.Timeout moment)) state
        → AskedFor active p.instance moment
    asked_for None moment p state polled = cc (polled.0)
    asked_for (Some active) moment p state polled =
        let drains = polled.0 in
        (drains.1.0, ((takes drains.0, drains.1.1.0), laws.timeout_asks drains.1.0 state.instance moment drains.1.1.1))

    -- the moment that is kept
    abbrev KeepsMoment : PolledPeer I D S M N → PolledPeer I D S M N → Type 0
    KeepsMoment p q = (q.core.greatest ≡ p.core.greatest) × AskedFor p.core.dtls.active p.core.dtls.instance q.transport.dtls_wake

    ends_with : (output : DtlsOutput) (state : DtlsState D) (p q : PolledPeer I D S M N) → PollsOutput m.dtls p.core.dtls p.core.dtls.active (Ok output) state
        → TakesDtlsOutput m output (with_dtls state p) Nothing q → KeepsMoment p q
    unfolding ChecksCert TakesKeys TakesCloseNotify HandsPacket
    ends_with outputs.Connected state p q polled taken = cc (taken.0)
    ends_with (outputs.KeyingMaterial key profile) state p q polled taken = absurd taken
    ends_with (outputs.PeerCert cert) state p q polled taken = absurd taken
    ends_with (outputs.ApplicationData bytes) state p q polled taken = absurd taken
    ends_with (outputs.Timeout moment) state p q polled taken = (
      ap (λ (x : PolledPeer I D S M N). x.core.greatest) taken.1,
      subst (λ (w : ℕ). AskedFor p.core.dtls.active p.core.dtls.instance w)
          (sym (ap (λ (x : PolledPeer I D S M N). x.transport.dtls_wake) taken.1))
          (asked_for p.core.dtls.active moment p.core.dtls state polled),
    )
    ends_with outputs.CloseNotify state p q polled taken = absurd taken

    ends_by : (answer : Result DtlsOutput AllocError) (state : DtlsState D) (p q : PolledPeer I D S M N)
        → PollsOutput m.dtls p.core.dtls p.core.dtls.active answer state → TakesDtlsAnswer m answer (with_dtls state p) Nothing q → KeepsMoment p q
    ends_by (Ok output) state p q polled taken = ends_with output state p q polled taken
    ends_by (Err error) state p q polled taken = cc (taken.0)

    -- the part was just given the greatest moment, or has no role
    abbrev Timed : Option Bool → (greatest : ℕ) → D → Type 0
    Timed None greatest i = Unit {0}
    Timed (Some active) greatest i = (before : D) × m.dtls.timed before greatest (Ok tt) i

    asked_later : (active : Option Bool) (greatest moment : ℕ) (i j : D) → Timed active greatest i
        → (acts : List DtlsAct) × DtlsMoved m.dtls i acts j → AskedFor active j moment → has_come moment greatest ≡ false
    asked_later None greatest moment i j timed moved asked = rw asked refl
    asked_later (Some active) greatest moment i j timed moved asked =
        let all = dtls_moved-append m.dtls i j asked.0 moved.0 asked.1.0.0 moved.1 asked.1.0.1 in
        let later = laws.asks_later timed.0 i asked.0 greatest (moved.0 ++ asked.1.0.0) timed.1 all in
        later_is_to_come moment greatest (subst (λ (w : ℕ). IsLater greatest w) (sym asked.1.1) later)

    outputs_end : (p q : PolledPeer I D S M N) → Timed p.core.dtls.active p.core.greatest p.core.dtls.instance → PollsDtlsOutputs m p Nothing q
        → is_dtls_due q ≡ false
    outputs_end p q timed h =
        let moved = over_carries (PollsDtlsOutput m) MovesDtls moves_none moves_join turn_moves h.turns p h.last h.over in
        let ended = ends_by h.ends.answer h.ends.dtls h.last q h.ends.by_poll h.ends.by_answer in
        let asked = subst (λ (a : Option Bool). AskedFor a h.last.core.dtls.instance q.transport.dtls_wake) moved.1.0 ended.1 in
        ap (λ (g : ℕ). has_come q.transport.dtls_wake g) (ended.0 ∙ moved.0)
        ∙ asked_later p.core.dtls.active p.core.greatest q.transport.dtls_wake p.core.dtls.instance h.last.core.dtls.instance timed moved.1.1 asked

    timed_by : (active : Option Bool) (p q : PolledPeer I D S M N) → p.core.dtls.active ≡ active
        → HandsOn m.dtls p.core.dtls active (λ i r j. m.dtls.timed i p.core.greatest r j) (Ok tt) q.core.dtls → q.core.greatest ≡ p.core.greatest
        → Timed q.core.dtls.active q.core.greatest q.core.dtls.instance
    timed_by None p q role handed kept =
        let still : q.core.dtls.active ≡ None = ap (λ (x : DtlsState D). x.active) handed.1 ∙ role in
        subst (λ (a : Option Bool). Timed a q.core.greatest q.core.dtls.instance) (sym still) tt
    timed_by (Some active) p q role handed kept =
        let still : q.core.dtls.active ≡ Some active = ap (λ (x : DtlsState D). x.active) handed.1 ∙ role in
        let given = subst (λ (g : ℕ). m.dtls.timed p.core.dtls.instance g (Ok tt) q.core.dtls.instance) (sym kept) handed.0 in
        subst (λ (a : Option Bool). Timed a q.core.greatest q.core.dtls.instance) (sym still) (p.core.dtls.instance, given)

    given_time : (p q : PolledPeer I D S M N) → GivesDtlsTime m p Nothing q → Timed q.core.dtls.active q.core.greatest q.core.dtls.instance
    unfolding GivesDtlsTime
    given_time p q given = timed_by p.core.dtls.active p q refl given.0 (ap (λ (x : PolledPeer I D S M N). x.core.greatest) given.1)

    -- the connection that was met with a moment that had come is left with none that has
    pub connection_settles : (p q : PolledPeer I D S M N) → is_dtls_due p ≡ true → TellsConnection m p Nothing q → is_dtls_due q ≡ false
    unfolding TellsConnection
    connection_settles p q due h =
        let first = went_through (PollsIceEvents m) (FollowedBy (TimesDtls m) (FollowedBy (PollsDtlsOutputs m) TellsConnected)) p q h in
        let second = went_through (TimesDtls m) (FollowedBy (PollsDtlsOutputs m) TellsConnected) first.0 q first.1.1 in
        let third = went_through (PollsDtlsOutputs m) TellsConnected second.0 q second.1.1 in
        let still = ◌∙◌ {b = is_dtls_due p} (due_kept p first.0 (ice_keeps m p first.0 first.1.0)) due in
        let given = subst (λ (b : Bool). TimesDtlsIf m b first.0 Nothing second.0) still second.1.0 in
        let timed = given_time first.0 second.0 given in
        ◌∙◌ {b = is_dtls_due third.0} (due_kept third.0 q (connected_keeps m third.0.transport.handshake third.0 q third.1.1))
        (outputs_end second.0 third.0 timed third.1.0)

  times_never : (b : Bool) (p q : PolledPeer I D S M N) → TimesDtlsIf m b p Again q → ⊥
  unfolding GivesDtlsTime
  times_never true p q given = given
  times_never false p q given = cc (given.0)

  connected_never : (handshake : Handshake) (p q : PolledPeer I D S M N) → TellsConnectedFrom {E = E} handshake p Again q → ⊥
  connected_never Pending p q told = cc (told.0)
  connected_never Finished p q told = cc (told.0)
  connected_never Told p q told = cc (told.0)

  pub connection_never : NeverAgain (TellsConnection m)
  unfolding TellsConnection
  connection_never =
      else_never (PollsIceEvents m) _ (repeats_never (PollsIceEvent m))
      (else_never (TimesDtls m) _ (λ p q h. times_never (is_dtls_due p) p q h)
      (else_never (PollsDtlsOutputs m) _ (repeats_never (PollsDtlsOutput m)) (λ p q h. connected_never p.transport.handshake p q h)))
