-- In orderly steps no side has an offer that awaits its answer but the one that offered in the round.
use Rattle.std.proofs.Common.{◌≡◌, ◌+◌, ℕ, Bool, true, false, not, ◌&&◌, ◌||◌, List, [], ◌∷◌, ◌++◌, length, Option, Some, None, refl, sym, ◌∙◌, ap, subst, arith, ◌⊎◌, inl, inr, length-append}
use Rattle.rtc_sdp_values.specs.declared.line_row.LineRow.{LineRow}
use Rattle.rtc_sdp_values.specs.declared.sdp.Sdp.{Sdp}
use Rattle.rtc_change.specs.PendingOffer.{PendingOffer}
use Rattle.rtc_change.specs.declared.change.Change.{Change}
use Rattle.rtc_peer_core.specs.Stance.{Stance}
use Rattle.rtc_peer_core.proofs.StanceCalls.{stance_alone}
use Rattle.rtc_run_history.proofs.BothSides.{both_sides}
use Rattle.rtc_run_history.specs.CourseRows.{course_rows_after, must_offer, rows_added, rows_after_ops}
use Rattle.rtc_run_history.specs.Memory.{answers_lack, fails}
use Rattle.rtc_run_history.specs.Orderly.{Phase, Idle, AwaitsAnswer, AwaitsEnd, Course, course_rows, moved_on, is_offerer, after_ops, after_step, is_ok, negotiates}
use Rattle.rtc_run_history.specs.PairState.{held_token, kept_remote_sdp}
use Rattle.rtc_run_history.specs.Past.{Entry, MadeSdp}
use Rattle.rtc_run_history.specs.Performs.{kept_offer}
use Rattle.rtc_run_history.specs.Sides.{other_side}
use Rattle.rtc_run_history.specs.Signalled.{Signalled}
use Rattle.rtc_run_history.specs.Views.{Stances}
use Rattle.rtc_run_history.specs.declared.kept.Kept.{Kept}
use Rattle.rtc_run_history.specs.declared.made.Made.{Made}
use Rattle.rtc_run_history.specs.declared.made.Made.TheVariants.{NotAsked, Nothing, Offer, Alloc as MadeAlloc}
use Rattle.rtc_run_history.specs.declared.op.Op.{Op}
use Rattle.rtc_run_history.specs.declared.outcome.Outcome.{Outcome}
use Rattle.rtc_run_history.specs.declared.outcome.Outcome.TheVariants.{Negotiated, Alloc}
use Rattle.rtc_run_history.specs.declared.side.Side.{Side}
use Rattle.rtc_run_history.specs.declared.side.Side.TheVariants.{Left, Right}
use Rattle.rtc_run_history.specs.declared.step.Step.{Step}
use Rattle.rtc_run_history.specs.declared.step.Step.TheVariants.{Negotiate, AcceptOffer, AcceptAnswer, Time, Datagram, Poll, Drain, Write, CloseChannel, Close, Rollback, ForeignOffer, ForeignAnswer, Raw}
use Rattle.rtc_run_history.specs.declared.table.Table.{Table}
use Rattle.rtc_run_laws.proofs.Around.{entry}
use Rattle.rtc_run_laws.proofs.CourseSteps.{accept_course, end_course, offer_course, quiet_course}
use Rattle.rtc_run_laws.proofs.Courses.{InCourse}
use Rattle.rtc_run_laws.proofs.NegotiationOut.{ops_roles}
use Rattle.rtc_run_laws.proofs.OpsNext.{count_is, moved_count, moved_phase}
use Rattle.rtc_run_laws.proofs.OrderlyNext.{answered_by, ends_by, enough_ok}
use Rattle.rtc_run_laws.proofs.OrderlyRuns.{AreQuiet, IsOnCourse}
use Rattle.rtc_run_laws.proofs.StanceSteps.{PairStance, StanceMakesOf, StanceNegotiates, StancePerforms, StanceStepAcceptsAnswer, StanceStepAcceptsOffer, lent}
use Rattle.rtc_run_laws.proofs.Tells.{Tells, same_side-other, same_side-self}

-- ---- phases

quiet_moved : (at : Side) (course : Course) (rows : List LineRow) (count : ℕ) (phase : Phase) (pair : PairStance) → AreQuiet phase pair → AreQuiet (moved_on at course rows count phase).phase pair
quiet_moved at course rows count phase pair quiet = subst (λ (p : Phase). AreQuiet p pair) (sym (moved_phase at course rows count phase)) quiet

-- both sides keep whether an offer of theirs awaits its answer
quiet_stays : (phase : Phase) (old new : PairStance) (at : Side) → (new.sides at).outstanding ≡ (old.sides at).outstanding → new.sides (other_side at) ≡ old.sides (other_side at) → AreQuiet phase old → AreQuiet phase new
quiet_stays phase old new at here other quiet =
    both_sides (λ side. is_offerer side phase ≡ false → (new.sides side).outstanding ≡ false) at (λ idle. here ∙ quiet at idle)
    (λ idle. ap (λ (s : Stance). s.outstanding) other ∙ quiet (other_side at) idle)

-- ---- ops

alone_quiet : (changes : List Change) (p : Stance) → p.outstanding ≡ false → (stance_alone changes p).outstanding ≡ false
alone_quiet [] p quiet = quiet
alone_quiet (change ∷ changes) p quiet = refl

-- a step makes no offer, and none awaits its answer if none did, or it makes one
makes_quiet : (asked : Bool) (at : Side) (p q : Stance) (kept kept' : List Kept) (made : Made) → StanceMakesOf asked at p kept made q kept'
    → ((kept' ≡ kept) × (p.outstanding ≡ false → q.outstanding ≡ false)) ⊎ ((offer : Sdp × PendingOffer) × (kept' ≡ kept ++ kept_offer at offer ∷ []))
makes_quiet false at p q kept kept' NotAsked h = inl (h.1, λ quiet. ap (λ (s : Stance). s.outstanding) h.0 ∙ quiet)
makes_quiet true at p q kept kept' Nothing h = inl (h.1, λ quiet. ap (λ (s : Stance). s.outstanding) h.0.1 ∙ alone_quiet p.staged p quiet)
makes_quiet true at p q kept kept' (Offer k) h = inr (h.0, h.2)
makes_quiet true at p q kept kept' MadeAlloc h = inl (h.1, λ quiet. ap (λ (s : Stance). s.outstanding) h.0 ∙ quiet)
makes_quiet asked at p q kept kept' made h = absurd h

ops_quiet : {E : Type 0} → (fresh : Stances) (past : List (Entry E)) (e : Entry E) (old new : PairStance) (at : Side) (ops : List Op) (apply : Bool) (outcome : Outcome E) (table : Option Table) (course course' : Course) → IsOnCourse fresh past old course → Tells (e ∷ past) new
    → StanceNegotiates at ops apply (old.sides at) old.sdps outcome table (new.sides at) new.sdps → new.sides (other_side at) ≡ old.sides (other_side at) → fails outcome ≡ false
    → after_ops apply at ops course (rows_after_ops ops (course_rows at course)) ≡ Some course' → InCourse course' (e ∷ past) → AreQuiet course'.phase new
ops_quiet fresh past e old new at ops apply Alloc None course course' on tells' h other enough after next = absurd (cc)
ops_quiet fresh past e old new at ops apply (Negotiated answers made) (Some table) course course' on tells' h other enough after next =
    by (apply && must_offer ops (course_rows at course)) refl (makes_quiet (apply && not (answers_lack answers)) at h.0 (new.sides at) old.sdps new.sdps made h.2)
  where
    rows : List LineRow
    rows = rows_after_ops ops (course_rows at course)

    said : List LineRow
    said = rows ++ rows_added rows ops

    under : h.0.outstanding ≡ (old.sides at).outstanding
    under = ap (λ (parts : Option Bool × Bool). parts.1) (ops_roles (lent (old.sides at)) h.0 ops answers h.1)

    counts : (length old.sdps ≡ course.sdps) × (length new.sdps ≡ course'.sdps)
    counts = (count_is past old course on.tells on.course_is, count_is (e ∷ past) new course' tells' next)

    by : (offers : Bool) → (apply && must_offer ops (course_rows at course)) ≡ offers
        → ((new.sdps ≡ old.sdps) × (h.0.outstanding ≡ false → (new.sides at).outstanding ≡ false)) ⊎ ((offer : Sdp × PendingOffer) × (new.sdps ≡ old.sdps ++ kept_offer at offer ∷ [])) → AreQuiet course'.phase new
    by false offers (inl kept) =
        let leads = quiet_course apply at ops course course' rows after offers in
        subst (λ (c : Course). AreQuiet c.phase new) leads
        (quiet_moved at course rows course.sdps course.phase new
        (both_sides (λ side. is_offerer side course.phase ≡ false → (new.sides side).outstanding ≡ false) at (λ idle. kept.1 (under ∙ on.quiet at idle))
        (λ idle. ap (λ (s : Stance). s.outstanding) other ∙ on.quiet (other_side at) idle)))
    by false offers (inr offered) =
        let leads = quiet_course apply at ops course course' rows after offers in
        let count : course.sdps ≡ course'.sdps = sym (moved_count at course rows course.sdps course.phase) ∙ ap (λ (c : Course). c.sdps) leads in
        let more : length new.sdps ≡ length old.sdps + 1 = ap length offered.1 ∙ length-append old.sdps (kept_offer at offered.0 ∷ []) in
        absurd (omega (arith, counts.0, counts.1, count, more))
    by true offers (inl kept) =
        let leads = offer_course apply at ops course course' rows after offers in
        let count : course.sdps + 1 ≡ course'.sdps = sym (moved_count at course rows (course.sdps + 1) (AwaitsAnswer at course.sdps said)) ∙ ap (λ (c : Course). c.sdps) leads.course_is in
        absurd (omega (arith, counts.0, counts.1, count, ap length kept.0))
    by true offers (inr offered) =
        let leads = offer_course apply at ops course course' rows after offers in
        subst (λ (c : Course). AreQuiet c.phase new) leads.course_is
        (quiet_moved at course rows (course.sdps + 1) (AwaitsAnswer at course.sdps said) new
        (both_sides (λ side. is_offerer side (AwaitsAnswer at course.sdps said) ≡ false → (new.sides side).outstanding ≡ false) at
        (λ idle. absurd (let e : true ≡ false = sym (same_side-self at) ∙ idle in cc))
        (λ idle. ap (λ (s : Stance). s.outstanding) other ∙ on.quiet (other_side at) (ap (λ (phase : Phase). is_offerer (other_side at) phase) leads.idle))))
ops_quiet fresh past e old new at ops apply outcome table course course' on tells' h other enough after next = absurd h

-- ---- acceptances

offerer_twice : (side : Side) (n m : ℕ) (said : List LineRow) → is_offerer (other_side (other_side side)) (AwaitsEnd side n m said) ≡ true
offerer_twice Left n m said = refl
offerer_twice Right n m said = refl

accept_quiet : {E : Type 0} → (old new : PairStance) (side : Side) (n m : ℕ) (said : List LineRow) (offer : Signalled) (outcome : Outcome E) (table : Option Table)
    → StanceStepAcceptsOffer (other_side side) offer (old.sides (other_side side)) old.sdps outcome table (new.sides (other_side side)) new.sdps → is_ok outcome ≡ true → AreQuiet (AwaitsEnd side n m said) new
accept_quiet old new side n m said offer outcome table h ok =
    let it = answered_by (other_side side) offer (old.sides (other_side side)) (new.sides (other_side side)) old.sdps new.sdps outcome table h ok in
    both_sides (λ one. is_offerer one (AwaitsEnd side n m said) ≡ false → (new.sides one).outstanding ≡ false) (other_side side)
    (λ idle. ap (λ (s : Stance). s.outstanding) it.stands.rest)
    (λ idle. absurd (let e : true ≡ false = sym (offerer_twice side n m said) ∙ idle in cc))

end_quiet : {E : Type 0} → (old new : PairStance) (at : Side) (t : ℕ) (token : Option PendingOffer) (answer : Signalled) (outcome : Outcome E) (table : Option Table)
    → StanceStepAcceptsAnswer t token answer (old.sides at) old.sdps outcome table (new.sides at) new.sdps → is_ok outcome ≡ true
    → new.sides (other_side at) ≡ old.sides (other_side at) → (old.sides (other_side at)).outstanding ≡ false → AreQuiet Idle new
end_quiet old new at t token answer outcome table h ok other quiet =
    let it = ends_by t token answer (old.sides at) (new.sides at) old.sdps new.sdps outcome table h ok in
    both_sides (λ one. is_offerer one Idle ≡ false → (new.sides one).outstanding ≡ false) at (λ idle. ap (λ (s : Stance). s.outstanding) it.stands.rest)
    (λ idle. ap (λ (s : Stance). s.outstanding) other ∙ quiet)

-- ---- each step

-- a step that negotiates nothing
rest_quiet : (old new : PairStance) (at : Side) (course course' : Course) → Some course ≡ Some course' → (new.sides at).outstanding ≡ (old.sides at).outstanding → new.sides (other_side at) ≡ old.sides (other_side at)
    → AreQuiet course.phase old → AreQuiet course'.phase new
rest_quiet old new at course course' after here other quiet =
    let same : course ≡ course' = cc in
    subst (λ (c : Course). AreQuiet c.phase new) same (quiet_stays course.phase old new at here other quiet)

pub quiet_next : {E : Type 0} → (fresh : Stances) (past : List (Entry E)) (old new : PairStance) (step : Step) (outcome : Outcome E) (table : Option Table) (made : List MadeSdp) (course course' : Course) → IsOnCourse fresh past old course
    → Tells (entry step outcome table made ∷ past) new → StancePerforms old step outcome table new → after_step course step ≡ Some course' → (negotiates step ≡ true → (is_ok outcome || fails outcome) ≡ true) → fails outcome ≡ false
    → InCourse course' (entry step outcome table made ∷ past) → AreQuiet course'.phase new
quiet_next fresh past old new (Negotiate at ops apply) outcome table made course course' on tells' performs after either enough next =
    ops_quiet fresh past (entry (Negotiate at ops apply) outcome table made) old new at ops apply outcome table course course' on tells' performs.acts performs.other enough after next
quiet_next fresh past old new (AcceptOffer at k) outcome table made course course' on tells' performs after either enough next =
    let it = accept_course at k course course.phase course' after in
    let rows : List LineRow = course_rows_after true 0 (course_rows at course) it.said in
    subst (λ (c : Course). AreQuiet c.phase new) it.course_is
    (quiet_moved at course rows (course.sdps + 1) (AwaitsEnd it.side k course.sdps rows) new
    (subst (λ (one : Side). StanceStepAcceptsOffer one (kept_remote_sdp true old.sdps one k) (old.sides one) old.sdps outcome table (new.sides one) new.sdps → AreQuiet (AwaitsEnd it.side k course.sdps rows) new) it.at_is
    (λ acts. accept_quiet old new it.side k course.sdps rows (kept_remote_sdp true old.sdps (other_side it.side) k) outcome table acts (enough_ok outcome (either refl) enough)) performs.acts))
quiet_next fresh past old new (AcceptAnswer at t a) outcome table made course course' on tells' performs after either enough next =
    let it = end_course at t a course course.phase course' after in
    let rows : List LineRow = course_rows_after false 0 (course_rows at course) it.said in
    let idle : is_offerer (other_side at) course.phase ≡ false = ap (λ (phase : Phase). is_offerer (other_side at) phase) it.phase_is ∙ same_side-other at in
    subst (λ (c : Course). AreQuiet c.phase new) it.course_is
    (quiet_moved at course rows course.sdps Idle new
    (end_quiet old new at t (held_token old.sdps at t) (kept_remote_sdp false old.sdps at a) outcome table performs.acts (enough_ok outcome (either refl) enough) performs.other (on.quiet (other_side at) idle)))
quiet_next fresh past old new (Time at now) outcome table made course course' on tells' performs after either enough next =
    rest_quiet old new at course course' after (ap (λ (s : Stance). s.outstanding) performs.acts.peer) performs.other on.quiet
quiet_next fresh past old new (Datagram at packet now) outcome table made course course' on tells' performs after either enough next =
    rest_quiet old new at course course' after (ap (λ (s : Stance). s.outstanding) performs.acts.peer) performs.other on.quiet
quiet_next fresh past old new (Poll at) outcome table made course course' on tells' performs after either enough next =
    rest_quiet old new at course course' after (ap (λ (s : Stance). s.outstanding) performs.acts.peer) performs.other on.quiet
quiet_next fresh past old new (Drain at) outcome table made course course' on tells' performs after either enough next =
    rest_quiet old new at course course' after (ap (λ (s : Stance). s.outstanding) performs.acts.peer) performs.other on.quiet
quiet_next fresh past old new (Write at channel binary bytes) outcome table made course course' on tells' performs after either enough next =
    rest_quiet old new at course course' after (ap (λ (s : Stance). s.outstanding) performs.acts.peer) performs.other on.quiet
quiet_next fresh past old new (CloseChannel at channel) outcome table made course course' on tells' performs after either enough next =
    rest_quiet old new at course course' after (ap (λ (s : Stance). s.outstanding) performs.acts.peer) performs.other on.quiet
quiet_next fresh past old new (Close at) outcome table made course course' on tells' performs after either enough next =
    rest_quiet old new at course course' after (ap (λ (s : Stance). s.outstanding) performs.acts.peer) performs.other on.quiet
quiet_next fresh past old new (Raw at bytes now) outcome table made course course' on tells' performs after either enough next =
    rest_quiet old new at course course' after (ap (λ (s : Stance). s.outstanding) performs.acts.peer) performs.other on.quiet
quiet_next fresh past old new (Rollback at t) outcome table made course course' on tells' performs after either enough next = absurd (let e : None ≡ Some course' = after in cc)
quiet_next fresh past old new (ForeignOffer at text) outcome table made course course' on tells' performs after either enough next = absurd (let e : None ≡ Some course' = after in cc)
quiet_next fresh past old new (ForeignAnswer at t text) outcome table made course course' on tells' performs after either enough next = absurd (let e : None ≡ Some course' = after in cc)
