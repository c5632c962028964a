-- Ops of orderly steps lead on in the round: they make no offer, or one where nothing is outstanding.
use Rattle.std.proofs.Common.{◌≡◌, ◌≢◌, ◌+◌, ℕ, suc, Bool, true, false, not, ◌&&◌, List, [], ◌∷◌, ◌++◌, map, length, Option, Some, None, refl, sym, ◌∙◌, ap, subst, arith, ◌⊎◌, inl, inr, length-append}
use Rattle.std.specs.Prelude.{slice_get, option_map, Ok}
use Rattle.std.proofs.lemmas.List.{length-map}
use Rattle.rtc_parts.specs.IceMeaning.{IceSettings}
use Rattle.rtc_sctp_values.specs.SnapHalves.{KeptHalves}
use Rattle.rtc_sdp_values.specs.declared.fingerprint.Fingerprint.{Fingerprint}
use Rattle.rtc_sdp_values.specs.declared.line_row.LineRow.{LineRow}
use Rattle.rtc_sdp_values.specs.declared.sdp.Sdp.{Sdp}
use Rattle.rtc_peer_rows.specs.ParsedLines.{parsed_line, parsed_lines}
use Rattle.rtc_change.specs.PendingOffer.{PendingOffer}
use Rattle.rtc_peer_core.specs.Stance.{Stance}
use Rattle.rtc_peer_core.proofs.StanceCalls.{StanceApplies}
use Rattle.rtc_run_history.specs.declared.side.Side.{Side}
use Rattle.rtc_run_history.specs.declared.side.Side.TheVariants.{Left, Right}
use Rattle.rtc_run_history.specs.declared.kept.Kept.{Kept}
use Rattle.rtc_run_history.specs.declared.op.Op.{Op}
use Rattle.rtc_run_history.specs.declared.made.Made.{Made}
use Rattle.rtc_run_history.specs.declared.made.Made.TheVariants.{NotAsked, Nothing, Offer, Alloc as MadeAlloc}
use Rattle.rtc_run_history.specs.declared.outcome.Outcome.{Outcome}
use Rattle.rtc_run_history.specs.declared.outcome.Outcome.TheVariants.{Negotiated, Alloc}
use Rattle.rtc_run_history.specs.declared.table.Table.{Table}
use Rattle.rtc_run_history.specs.CourseRows.{rows_after_ops, must_offer, rows_added}
use Rattle.rtc_run_history.specs.Memory.{answers_lack, fails}
use Rattle.rtc_run_history.specs.Sides.{other_side}
use Rattle.rtc_run_history.specs.Past.{Entry, MadeSdp, sdps}
use Rattle.rtc_run_history.specs.SaidRows.{row_said}
use Rattle.rtc_run_history.specs.Orderly.{Phase, Idle, AwaitsAnswer, Course, course_rows, moved_on, after_ops}
use Rattle.rtc_run_history.specs.Performs.{kept_offer}
use Rattle.rtc_run_history.specs.PairState.{made_sdp}
use Rattle.rtc_run_history.proofs.BothSides.{both_sides}
use Rattle.rtc_run_laws.proofs.StanceSteps.{PairStance, StanceMakesOf, StanceNegotiates, lent}
use Rattle.rtc_run_laws.proofs.Tells.{Tells}
use Rattle.rtc_run_laws.proofs.Entries.{said_at}
use Rattle.rtc_run_laws.proofs.Around.{length-told}
use Rattle.rtc_run_laws.proofs.LiveRows.{StartsLive}
use Rattle.rtc_run_laws.proofs.RoundRows.{IsOffered}
use Rattle.rtc_run_laws.proofs.SeenSides.{KeepsSide, side_parts}
use Rattle.rtc_run_laws.proofs.SeenSteps.{ops_keep_side, alone_keeps, negotiates_keep_side}
use Rattle.rtc_run_laws.proofs.StartedSides.{IsStartTold, ops_told}
use Rattle.rtc_run_laws.proofs.Courses.{InCourse, InPhase}
use Rattle.rtc_run_laws.proofs.CourseSteps.{quiet_course, offer_course}
use Rattle.rtc_run_laws.proofs.SideRounds.{InRound, IsOfferOut, AreAgreed, SameSides, round_parts, round_stays}
use Rattle.rtc_run_laws.proofs.SideRoundSteps.{SameIce, offered_round}
use Rattle.rtc_run_laws.proofs.PastOffers.{next_there}

-- ---- what a course says of the pair

pub moved_phase : (at : Side) (course : Course) (rows : List LineRow) (count : ℕ) (phase : Phase) → (moved_on at course rows count phase).phase ≡ phase
moved_phase Left course rows count phase = refl
moved_phase Right course rows count phase = refl

pub moved_count : (at : Side) (course : Course) (rows : List LineRow) (count : ℕ) (phase : Phase) → (moved_on at course rows count phase).sdps ≡ count
moved_count Left course rows count phase = refl
moved_count Right course rows count phase = refl

-- a session description that says rows of which the first is live has a line
pub some_lines : (sdp : Sdp) (rows : List LineRow) → parsed_lines sdp ≡ map row_said rows → StartsLive rows → length sdp.lines ≢ 0
some_lines sdp [] says live = absurd live
some_lines sdp (row ∷ rows) says live = λ none.
    let both : length (parsed_lines sdp) ≡ length sdp.lines = length-map sdp.lines (parsed_line sdp.groups) in
    let count : length (parsed_lines sdp) ≡ suc (length (map row_said rows)) = ap length says in
    absurd (omega (arith, both, count, none))

-- the SDP of a number is the one that the past tells
pub same_made : {E : Type 0} → (past : List (Entry E)) (pair : PairStance) (n : ℕ) (kept : Kept) (said : MadeSdp) → Tells past pair → slice_get pair.sdps n ≡ Some kept → slice_get (sdps past) n ≡ Some said → said.sdp ≡ kept.sdp
same_made past pair n kept said tells there told =
    let both : Some (made_sdp kept) ≡ Some said = sym (said_at past pair n tells.says ∙ ap (option_map made_sdp) there) ∙ told in
    let same : made_sdp kept ≡ said = cc in
    ap (λ made. made.sdp) (sym same)

-- ---- ops

-- a step makes no offer, or that of a peer's staged changes
makes_either : (asked : Bool) (at : Side) (p q : Stance) (kept kept' : List Kept) (made : Made) → StanceMakesOf asked at p kept made q kept'
    → ((kept' ≡ kept) × (side_parts q ≡ side_parts p)) ⊎ ((offer : Sdp × PendingOffer) × StanceApplies p (Ok (Some offer)) q × (kept' ≡ kept ++ kept_offer at offer ∷ []))
makes_either false at p q kept kept' NotAsked h = inl (h.1, ap side_parts h.0)
makes_either true at p q kept kept' Nothing h = inl (h.1, ap side_parts h.0.1 ∙ alone_keeps p.staged p)
makes_either true at p q kept kept' (Offer k) h = inr (h.0, h.1, h.2)
makes_either true at p q kept kept' MadeAlloc h = inl (h.1, ap side_parts h.0)
makes_either asked at p q kept kept' made h = absurd h

-- a side keeps its agent, and the other one too
same_ice : (at : Side) (old new : PairStance) → (new.sides at).ice ≡ (old.sides at).ice → new.sides (other_side at) ≡ old.sides (other_side at) → SameIce old new
same_ice at old new here there = both_sides (λ side. (new.sides side).ice ≡ (old.sides side).ice) at here (ap (λ (s : Stance). s.ice) there)

-- and what a round reads of both
pub same_sides : (at : Side) (old new : PairStance) → round_parts (new.sides at) ≡ round_parts (old.sides at) → new.sides (other_side at) ≡ old.sides (other_side at) → SameSides old new
same_sides at old new here there = both_sides (λ side. round_parts (new.sides side) ≡ round_parts (old.sides side)) at here (ap round_parts there)

parts_of_round : (p q : Stance) → side_parts q ≡ side_parts p → round_parts q ≡ round_parts p
parts_of_round p q same = ap (λ (c : IceSettings × Option Fingerprint × Bool × KeptHalves). (c.0, c.2, c.3)) same

-- how many session descriptions there are
pub count_is : {E : Type 0} → (past : List (Entry E)) (pair : PairStance) (course : Course) → Tells past pair → InCourse course past → length pair.sdps ≡ course.sdps
count_is past pair course tells on = sym (length-told past pair tells) ∙ on.count

-- the phase of an offer that was made
offer_in_phase : {E : Type 0} → (past : List (Entry E)) (at : Side) (course : Course) (rows said : List LineRow) → InCourse (moved_on at course rows (course.sdps + 1) (AwaitsAnswer at course.sdps said)) past → IsOffered at course.sdps said past
offer_in_phase past at course rows said on =
    subst (λ (phase : Phase). InPhase phase past) (moved_phase at course rows (course.sdps + 1) (AwaitsAnswer at course.sdps said)) on.phase

idle_agreed : (phase : Phase) (pair : PairStance) → phase ≡ Idle → InRound phase pair → AreAgreed pair
idle_agreed phase pair idle out = subst (λ (p : Phase). InRound p pair) idle out

-- an offer that is made where nothing is outstanding
offer_next : {E : Type 0} → (past : List (Entry E)) (e : Entry E) (old new : PairStance) (at : Side) (course : Course) (rows said : List LineRow) (p : Stance) (offer : Sdp × PendingOffer) → Tells past old → Tells (e ∷ past) new → InCourse course past
    → course.phase ≡ Idle → InRound course.phase old → SameIce old new → ((side : Side) → (new.sides side).snap.started ≡ (old.sides side).snap.started) → IsStartTold p → StanceApplies p (Ok (Some offer)) (new.sides at) → new.sdps ≡ old.sdps ++ kept_offer at offer ∷ []
    → InCourse (moved_on at course rows (course.sdps + 1) (AwaitsAnswer at course.sdps said)) (e ∷ past) → InRound (moved_on at course rows (course.sdps + 1) (AwaitsAnswer at course.sdps said)).phase new
offer_next past e old new at course rows said p offer tells tells' on idle out same starts told h pushed next =
    let count : course.sdps ≡ length old.sdps = sym (count_is past old course tells on) in
    let round : (lines : length offer.0.lines ≢ 0) → IsOfferOut at course.sdps new =
    λ lines. offered_round old new at course.sdps p offer same starts h pushed count lines told (idle_agreed course.phase old idle out) in
    let outstanding : IsOffered at course.sdps said (e ∷ past) = offer_in_phase (e ∷ past) at course rows said next in
    let there : slice_get new.sdps course.sdps ≡ Some (kept_offer at offer) = ap (λ list. slice_get list course.sdps) pushed ∙ next_there old.sdps (kept_offer at offer) course.sdps count in
    let text : outstanding.offer.sdp ≡ offer.0 = same_made (e ∷ past) new course.sdps (kept_offer at offer) _ tells' there outstanding.has.there in
    subst (λ (phase : Phase). InRound phase new) (sym (moved_phase at course rows (course.sdps + 1) (AwaitsAnswer at course.sdps said)))
    (round (subst (λ (sdp : Sdp). length sdp.lines ≢ 0) text (some_lines outstanding.offer.sdp (outstanding.offer.front ++ outstanding.offer.more) outstanding.offer.says outstanding.offer.live)))

pub ops_next : {E : Type 0} → (past : List (Entry E)) (e : Entry E) (old new : PairStance) (at : Side) (ops : List Op) (apply : Bool) (outcome : Outcome E) (table : Option Table) (course course' : Course) → Tells past old → Tells (e ∷ past) new → IsStartTold (old.sides at) → InCourse course past
    → InRound course.phase old → StanceNegotiates at ops apply (old.sides at) old.sdps outcome table (new.sides at) new.sdps → new.sides (other_side at) ≡ old.sides (other_side at) → fails outcome ≡ false
    → after_ops apply at ops course (rows_after_ops ops (course_rows at course)) ≡ Some course' → InCourse course' (e ∷ past) → InRound course'.phase new
ops_next {E} past e old new at ops apply Alloc None course course' tells tells' told on out h other enough after next = absurd (cc)
ops_next {E} past e old new at ops apply (Negotiated answers made) (Some table) course course' tells tells' told on out h other enough after next =
    by (apply && must_offer ops (course_rows at course)) refl (makes_either (apply && not (answers_lack answers)) at h.0 (new.sides at) old.sdps new.sdps made h.2)
  where
    rows : List LineRow
    rows = rows_after_ops ops (course_rows at course)

    keeps : KeepsSide (old.sides at) (new.sides at)
    keeps = negotiates_keep_side {E = E} at ops apply (old.sides at) (new.sides at) old.sdps new.sdps (Negotiated answers made) (Some table) h

    same : SameIce old new
    same = same_ice at old new keeps.ice other

    starts : (side : Side) → (new.sides side).snap.started ≡ (old.sides side).snap.started
    starts = both_sides (λ side. (new.sides side).snap.started ≡ (old.sides side).snap.started) at keeps.started (ap (λ (s : Stance). s.snap.started) other)

    under : side_parts h.0 ≡ side_parts (old.sides at)
    under = ops_keep_side (lent (old.sides at)) h.0 ops answers h.1

    counts : (length old.sdps ≡ course.sdps) × (length new.sdps ≡ course'.sdps)
    counts = (count_is past old course tells on, count_is (e ∷ past) new course' tells' next)

    by : (offers : Bool) → (apply && must_offer ops (course_rows at course)) ≡ offers
        → ((new.sdps ≡ old.sdps) × (side_parts (new.sides at) ≡ side_parts h.0)) ⊎ ((offer : Sdp × PendingOffer) × StanceApplies h.0 (Ok (Some offer)) (new.sides at) × (new.sdps ≡ old.sdps ++ kept_offer at offer ∷ [])) → InRound course'.phase new
    by false quiet (inl kept) =
        let leads = quiet_course apply at ops course course' rows after quiet in
        subst (λ (c : Course). InRound c.phase new) leads
        (subst (λ (phase : Phase). InRound phase new) (sym (moved_phase at course rows course.sdps course.phase)) (round_stays course.phase old new (same_sides at old new (parts_of_round (old.sides at) (new.sides at) (kept.1 ∙ under)) other) kept.0 out))
    by false quiet (inr offered) =
        let leads = quiet_course apply at ops course course' rows after quiet in
        let count : course.sdps ≡ course'.sdps = sym (moved_count at course rows course.sdps course.phase) ∙ ap (λ (c : Course). c.sdps) leads in
        let more : length new.sdps ≡ length old.sdps + 1 = ap length offered.2 ∙ length-append old.sdps (kept_offer at offered.0 ∷ []) in
        absurd (omega (arith, counts.0, counts.1, count, more))
    by true offers (inl kept) =
        let leads = offer_course apply at ops course course' rows after offers in
        let count : course.sdps + 1 ≡ course'.sdps = sym (moved_count at course rows (course.sdps + 1) (AwaitsAnswer at course.sdps (rows ++ rows_added rows ops))) ∙ ap (λ (c : Course). c.sdps) leads.course_is in
        absurd (omega (arith, counts.0, counts.1, count, ap length kept.0))
    by true offers (inr offered) =
        let leads = offer_course apply at ops course course' rows after offers in
        subst (λ (c : Course). InCourse c (e ∷ past) → InRound c.phase new) leads.course_is
        (λ next. offer_next past e old new at course rows (rows ++ rows_added rows ops) h.0 offered.0 tells tells' on leads.idle out same starts (ops_told (old.sides at) h.0 ops answers h.1 told) offered.1 offered.2 next) next
ops_next {E} past e old new at ops apply outcome table course course' tells tells' told on out h other enough after next = absurd h
