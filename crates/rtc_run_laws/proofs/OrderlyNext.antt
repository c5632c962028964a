-- A step of orderly steps leads on in the round.
use Rattle.std.proofs.Common.{◌≡◌, ◌≢◌, ◌+◌, ℕ, Bool, true, false, ◌||◌, List, [], ◌∷◌, ◌++◌, length, Option, Some, None, refl, sym, ◌∙◌, ap, subst}
use Rattle.std.specs.Prelude.{slice_get}
use Rattle.rtc_sdp_values.specs.declared.line_row.LineRow.{LineRow}
use Rattle.rtc_sdp_values.specs.declared.sdp.Sdp.{Sdp}
use Rattle.rtc_change.specs.PendingOffer.{PendingOffer}
use Rattle.rtc_peer_core.specs.Stance.{Stance}
use Rattle.rtc_peer_core.proofs.StanceTaken.{StandsOffer, StandsAnswer}
use Rattle.rtc_run_history.specs.Signalled.{Signalled, NotMade, Unreadable, Readable}
use Rattle.rtc_run_history.specs.declared.side.Side.{Side}
use Rattle.rtc_run_history.specs.declared.side.Side.TheVariants.{Left, Right}
use Rattle.rtc_run_history.specs.declared.kept.Kept.{Kept}
use Rattle.rtc_run_history.specs.declared.step.Step.{Step}
use Rattle.rtc_run_history.specs.declared.step.Step.TheVariants.{Negotiate, AcceptOffer, AcceptAnswer, Time, Datagram, Poll, Drain, Write, CloseChannel, Close, Rollback, ForeignOffer, ForeignAnswer, Raw}
use Rattle.rtc_run_history.specs.declared.outcome.Outcome.{Outcome}
use Rattle.rtc_run_history.specs.declared.outcome.Outcome.TheVariants.{Answered, Finished, Refused, NoSuch, Alloc}
use Rattle.rtc_run_history.specs.declared.table.Table.{Table}
use Rattle.rtc_run_history.specs.CourseRows.{course_rows_after}
use Rattle.rtc_run_history.specs.Memory.{fails}
use Rattle.rtc_run_history.specs.Sides.{other_side}
use Rattle.rtc_run_history.specs.Past.{Entry, MadeSdp, before, sdps}
use Rattle.rtc_run_history.specs.Orderly.{Phase, Idle, AwaitsEnd, Course, course_rows, moved_on, after_step, is_ok, negotiates}
use Rattle.rtc_run_history.specs.Performs.{kept_answer}
use Rattle.rtc_run_history.specs.PairState.{kept_remote_sdp, held_token}
use Rattle.rtc_sdp_writer.specs.AsRead.{as_read}
use Rattle.rtc_run_history.specs.Signalled.{ReadsBack}
use Rattle.rtc_run_history.specs.SoundEntry.{AreReadBack}
use Rattle.rtc_run_laws.proofs.StanceSteps.{PairStance, StanceStepAcceptsOffer, StanceStepAcceptsAnswer, StancePerforms, lent}
use Rattle.rtc_run_laws.proofs.Tells.{Tells}
use Rattle.rtc_run_laws.proofs.Around.{entry}
use Rattle.rtc_run_laws.proofs.RoundRows.{IsOffered, IsAnswered}
use Rattle.rtc_run_laws.proofs.StartedSides.{IsStartTold}
use Rattle.rtc_run_laws.proofs.RowNames.{Aligned}
use Rattle.rtc_run_laws.proofs.Courses.{InCourse, InPhase, aligned_at}
use Rattle.rtc_run_laws.proofs.CourseSteps.{accept_course, end_course}
use Rattle.rtc_run_laws.proofs.SideRounds.{InRound, IsOfferOut, IsAnswerOut, round_parts, round_stays}
use Rattle.rtc_run_laws.proofs.SideRoundSteps.{other_twice, accepted_round, ended_round}
use Rattle.rtc_run_laws.proofs.PastOffers.{next_there}
use Rattle.rtc_run_history.specs.Views.{Stances}
use Rattle.rtc_run_laws.proofs.OrderlyRuns.{IsOnCourse, delivered_at, kept_read, token_held, inited_alike}
use Rattle.rtc_run_laws.proofs.OpsNext.{moved_phase, some_lines, same_made, count_is, same_sides, ops_next}

-- ---- an offer is accepted

-- what an offer that is answered leaves
pub record IsAnsweredBy (s : Stance) (sdps' sdps : List Kept) (at : Side) (offer : Signalled) (t : Stance) : Type 0 where
  pub sdp : Sdp
  pub answer : Sdp
  pub is : offer ≡ Readable sdp
  pub stands : StandsOffer (lent s) sdp answer t
  pub pushed : sdps' ≡ sdps ++ kept_answer at answer ∷ []

pub answered_by : {E : Type 0} → (at : Side) (offer : Signalled) (s t : Stance) (kept kept' : List Kept) (outcome : Outcome E) (table : Option Table) → StanceStepAcceptsOffer at offer s kept outcome table t kept' → is_ok outcome ≡ true → IsAnsweredBy s kept' kept at offer t
answered_by at NotMade s t kept kept' Alloc None h ok = absurd (cc)
answered_by at (Unreadable line) s t kept kept' Alloc None h ok = absurd (cc)
answered_by at (Readable sdp) s t kept kept' Alloc None h ok = absurd (cc)
answered_by at NotMade s t kept kept' NoSuch (Some table) h ok = absurd (cc)
answered_by at (Unreadable line) s t kept kept' (Refused error) (Some table) h ok = absurd (cc)
answered_by at (Readable sdp) s t kept kept' (Answered k) (Some table) h ok = record { sdp = sdp; answer = h.0; is = refl; stands = h.1; pushed = h.2 }
answered_by at (Readable sdp) s t kept kept' (Refused error) (Some table) h ok = absurd (cc)
answered_by at offer s t kept kept' outcome table h ok = absurd h

answer_in_phase : {E : Type 0} → (past : List (Entry E)) (at side : Side) (k : ℕ) (course : Course) (rows : List LineRow) → InCourse (moved_on at course rows (course.sdps + 1) (AwaitsEnd side k course.sdps rows)) past → IsAnswered side k course.sdps rows past
answer_in_phase past at side k course rows on = subst (λ (phase : Phase). InPhase phase past) (moved_phase at course rows (course.sdps + 1) (AwaitsEnd side k course.sdps rows)) on.phase

accept_next : {E : Type 0} → (past : List (Entry E)) (e : Entry E) (old new : PairStance) (side : Side) (k : ℕ) (outcome : Outcome E) (table : Option Table) (course : Course) (rows : List LineRow) → Tells past old → AreReadBack (sdps past) → Tells (e ∷ past) new → InCourse course past → IsOfferOut side k old
    → ((at : Side) → IsStartTold (old.sides at)) → ((at : Side) → IsStartTold (new.sides at)) → (old.sides (other_side side)).inited ≡ (old.sides side).inited
    → StanceStepAcceptsOffer (other_side side) (kept_remote_sdp true old.sdps (other_side side) k) (old.sides (other_side side)) old.sdps outcome table (new.sides (other_side side)) new.sdps → new.sides side ≡ old.sides side → is_ok outcome ≡ true
    → InCourse (moved_on (other_side side) course rows (course.sdps + 1) (AwaitsEnd side k course.sdps rows)) (e ∷ past)
    → InRound (moved_on (other_side side) course rows (course.sdps + 1) (AwaitsEnd side k course.sdps rows)).phase new
accept_next past e old new side k outcome table course rows tells read tells' on out starts starts' alike h other ok next =
    let it = answered_by (other_side side) _ (old.sides (other_side side)) (new.sides (other_side side)) old.sdps new.sdps outcome table h ok in
    let reads : ReadsBack out.offer.kept.sdp = kept_read past old k out.offer.kept tells read out.offer.there in
    let same : as_read out.offer.kept.sdp ≡ it.sdp = delivered_at old true (other_side side) k out.offer.kept it.sdp reads out.offer.there it.is in
    let count : course.sdps ≡ length old.sdps = sym (count_is past old course tells on) in
    let outstanding : IsAnswered side k course.sdps rows (e ∷ past) = answer_in_phase (e ∷ past) (other_side side) side k course rows next in
    let there : slice_get new.sdps course.sdps ≡ Some (kept_answer (other_side side) it.answer) =
    ap (λ list. slice_get list course.sdps) it.pushed ∙ next_there old.sdps (kept_answer (other_side side) it.answer) course.sdps count in
    let text : outstanding.answer.sdp ≡ it.answer = same_made (e ∷ past) new course.sdps (kept_answer (other_side side) it.answer) _ tells' there outstanding.answered.there in
    let lines : length it.answer.lines ≢ 0 = subst (λ (sdp : Sdp). length sdp.lines ≢ 0) text (some_lines outstanding.answer.sdp outstanding.answer.rows outstanding.answer.says outstanding.answer.live) in
    let stands : StandsOffer (lent (old.sides (other_side side))) (as_read out.offer.kept.sdp) it.answer (new.sides (other_side side)) =
    subst (λ (sdp : Sdp). StandsOffer (lent (old.sides (other_side side))) sdp it.answer (new.sides (other_side side))) (sym same) it.stands in
    subst (λ (phase : Phase). InRound phase new) (sym (moved_phase (other_side side) course rows (course.sdps + 1) (AwaitsEnd side k course.sdps rows)))
    (accepted_round old new side k course.sdps it.answer out stands other it.pushed count lines (starts (other_side side)) (starts' (other_side side)) alike)

-- ---- an answer is accepted

-- what an answer that is accepted leaves
pub record EndsBy (s : Stance) (token : Option PendingOffer) (answer : Signalled) (t : Stance) : Type 0 where
  pub its : PendingOffer
  pub sdp : Sdp
  pub token_is : token ≡ Some its
  pub is : answer ≡ Readable sdp
  pub stands : StandsAnswer (lent s) its sdp t

pub ends_by : {E : Type 0} → (k : ℕ) (token : Option PendingOffer) (answer : Signalled) (s t : Stance) (kept kept' : List Kept) (outcome : Outcome E) (table : Option Table) → StanceStepAcceptsAnswer k token answer s kept outcome table t kept' → is_ok outcome ≡ true → EndsBy s token answer t
ends_by k None NotMade s t kept kept' Alloc None h ok = absurd (cc)
ends_by k None (Unreadable line) s t kept kept' Alloc None h ok = absurd (cc)
ends_by k None (Readable sdp) s t kept kept' Alloc None h ok = absurd (cc)
ends_by k (Some token) NotMade s t kept kept' Alloc None h ok = absurd (cc)
ends_by k (Some token) (Unreadable line) s t kept kept' Alloc None h ok = absurd (cc)
ends_by k (Some token) (Readable sdp) s t kept kept' Alloc None h ok = absurd (cc)
ends_by k None NotMade s t kept kept' NoSuch (Some table) h ok = absurd (cc)
ends_by k None (Unreadable line) s t kept kept' NoSuch (Some table) h ok = absurd (cc)
ends_by k None (Readable sdp) s t kept kept' NoSuch (Some table) h ok = absurd (cc)
ends_by k (Some token) NotMade s t kept kept' NoSuch (Some table) h ok = absurd (cc)
ends_by k (Some token) (Unreadable line) s t kept kept' (Refused error) (Some table) h ok = absurd (cc)
ends_by k (Some token) (Readable sdp) s t kept kept' Finished (Some table) h ok = record { its = token; sdp = sdp; token_is = refl; is = refl; stands = h.0 }
ends_by k (Some token) (Readable sdp) s t kept kept' (Refused error) (Some table) h ok = absurd (cc)
ends_by k token answer s t kept kept' outcome table h ok = absurd h

end_next : {E : Type 0} → (past : List (Entry E)) (old new : PairStance) (at : Side) (t a : ℕ) (outcome : Outcome E) (table : Option Table) → Tells past old → AreReadBack (sdps past) → IsAnswerOut at t a old
    → IsStartTold (old.sides at) → ((side : Side) → IsStartTold (new.sides side)) → (new.sides at).inited ≡ (new.sides (other_side at)).inited
    → StanceStepAcceptsAnswer t (held_token old.sdps at t) (kept_remote_sdp false old.sdps at a) (old.sides at) old.sdps outcome table (new.sides at) new.sdps → new.sides (other_side at) ≡ old.sides (other_side at) → is_ok outcome ≡ true
    → InRound Idle new
end_next past old new at t a outcome table tells read out start starts' alike h other ok =
    let it = ends_by t _ _ (old.sides at) (new.sides at) old.sdps new.sdps outcome table h ok in
    let reads : ReadsBack out.answer.sdp = kept_read past old a out.answer tells read out.there in
    let same : as_read out.answer.sdp ≡ it.sdp = delivered_at old false at a out.answer it.sdp reads out.there it.is in
    let both : Some out.offer.token ≡ Some it.its = sym (token_held at t old out.offer) ∙ it.token_is in
    let token : out.offer.token ≡ it.its = cc in
    ended_round old new at t a out
    (subst (λ (sdp : Sdp). StandsAnswer (lent (old.sides at)) out.offer.token sdp (new.sides at)) (sym same)
    (subst (λ (k : PendingOffer). StandsAnswer (lent (old.sides at)) k it.sdp (new.sides at)) (sym token) it.stands)) other start starts' alike

-- ---- each step

pub enough_ok : {E : Type 0} → (outcome : Outcome E) → (is_ok outcome || fails outcome) ≡ true → fails outcome ≡ false → is_ok outcome ≡ true
enough_ok outcome either enough = by (is_ok outcome) refl
  where
    by : (ok : Bool) → is_ok outcome ≡ ok → ok ≡ true
    by true is = refl
    by false is = absurd (let e : false ≡ true = rw (is, enough) at either in cc)

-- a step that negotiates nothing leaves what is outstanding
rest_round : (old new : PairStance) (at : Side) (course course' : Course) → Some course ≡ Some course' → round_parts (new.sides at) ≡ round_parts (old.sides at) → new.sides (other_side at) ≡ old.sides (other_side at)
    → new.sdps ≡ old.sdps → InRound course.phase old → InRound course'.phase new
rest_round old new at course course' after mine other kept round =
    let same : course ≡ course' = cc in
    subst (λ (c : Course). InRound c.phase new) same (round_stays course.phase old new (same_sides at old new mine other) kept round)

pub round_next : {E : Type 0} → (fresh : Stances) (past : List (Entry E)) (old new : PairStance) (step : Step) (outcome : Outcome E) (table : Option Table) (made : List MadeSdp) (course course' : Course) → IsOnCourse fresh past old course
    → Tells (entry step outcome table made ∷ past) new → ((at : Side) → IsStartTold (new.sides at)) → StancePerforms old step outcome table new → after_step course step ≡ Some course' → (negotiates step ≡ true → (is_ok outcome || fails outcome) ≡ true) → fails outcome ≡ false
    → InCourse course' (entry step outcome table made ∷ past) → InRound course'.phase new
round_next fresh past old new (Negotiate at ops apply) outcome table made course course' on tells' starts' performs after either enough next =
    ops_next past (entry (Negotiate at ops apply) outcome table made) old new at ops apply outcome table course course' on.tells tells' (on.starts at) on.course_is on.round performs.acts performs.other enough after next
round_next {E} fresh past old new (AcceptOffer at k) outcome table made course course' on tells' starts' performs after either enough next =
    let it = accept_course at k course course.phase course' after in
    let e : Entry E = entry (AcceptOffer at k) outcome table made in
    let out : IsOfferOut it.side k old = subst (λ (phase : Phase). InRound phase old) it.phase_is on.round in
    let rows : Side → List LineRow = λ one. course_rows_after true 0 (course_rows one course) it.said in
    let offered : IsOffered it.side k it.said past = subst (λ (phase : Phase). InPhase phase past) it.phase_is on.course_is.phase in
    let alike : (old.sides (other_side it.side)).inited ≡ (old.sides it.side).inited = inited_alike past old it.side on.tells on.starts offered.same in
    subst (λ (c : Course). InCourse c (e ∷ past) → InRound c.phase new) it.course_is
    (subst (λ (one : Side). StanceStepAcceptsOffer one (kept_remote_sdp true old.sdps one k) (old.sides one) old.sdps outcome table (new.sides one) new.sdps → new.sides (other_side one) ≡ old.sides (other_side one)
    → InCourse (moved_on one course (rows one) (course.sdps + 1) (AwaitsEnd it.side k course.sdps (rows one))) (e ∷ past) → InRound (moved_on one course (rows one) (course.sdps + 1) (AwaitsEnd it.side k course.sdps (rows one))).phase new) it.at_is
    (λ acts other next. accept_next past e old new it.side k outcome table course (rows (other_side it.side)) on.tells on.read tells' on.course_is out on.starts starts' alike acts
    (subst (λ (one : Side). new.sides one ≡ old.sides one) (other_twice it.side) other) (enough_ok outcome (either refl) enough) next)
    performs.acts performs.other) next
round_next {E} fresh past old new (AcceptAnswer at t a) outcome table made course course' on tells' starts' performs after either enough next =
    let it = end_course at t a course course.phase course' after in
    let out : IsAnswerOut at t a old = subst (λ (phase : Phase). InRound phase old) it.phase_is on.round in
    let rows : List LineRow = course_rows_after false 0 (course_rows at course) it.said in
    let e : Entry E = entry (AcceptAnswer at t a) outcome table made in
    let ended : InCourse (moved_on at course rows course.sdps Idle) (e ∷ past) = subst (λ (c : Course). InCourse c (e ∷ past)) (sym it.course_is) next in
    let lines : Aligned (before Left (e ∷ past)) (before Right (e ∷ past)) = subst (λ (phase : Phase). InPhase phase (e ∷ past)) (moved_phase at course rows course.sdps Idle) ended.phase in
    let alike : (new.sides (other_side at)).inited ≡ (new.sides at).inited = inited_alike (e ∷ past) new at tells' starts' (aligned_at at (e ∷ past) lines) in
    subst (λ (c : Course). InRound c.phase new) it.course_is
    (subst (λ (phase : Phase). InRound phase new) (sym (moved_phase at course (course_rows_after false 0 (course_rows at course) it.said) course.sdps Idle))
    (end_next past old new at t a outcome table on.tells on.read out (on.starts at) starts' (sym alike) performs.acts performs.other (enough_ok outcome (either refl) enough)))
round_next fresh past old new (Time at now) outcome table made course course' on tells' starts' performs after either enough next =
    rest_round old new at course course' after (ap round_parts performs.acts.peer) performs.other performs.acts.sdps_kept on.round
round_next fresh past old new (Datagram at packet now) outcome table made course course' on tells' starts' performs after either enough next =
    rest_round old new at course course' after (ap round_parts performs.acts.peer) performs.other performs.acts.sdps_kept on.round
round_next fresh past old new (Poll at) outcome table made course course' on tells' starts' performs after either enough next =
    rest_round old new at course course' after (ap round_parts performs.acts.peer) performs.other performs.acts.sdps_kept on.round
round_next fresh past old new (Drain at) outcome table made course course' on tells' starts' performs after either enough next =
    rest_round old new at course course' after (ap round_parts performs.acts.peer) performs.other performs.acts.sdps_kept on.round
round_next fresh past old new (Write at channel binary bytes) outcome table made course course' on tells' starts' performs after either enough next =
    rest_round old new at course course' after (ap round_parts performs.acts.peer) performs.other performs.acts.sdps_kept on.round
round_next fresh past old new (CloseChannel at channel) outcome table made course course' on tells' starts' performs after either enough next =
    rest_round old new at course course' after (ap round_parts performs.acts.peer) performs.other performs.acts.sdps_kept on.round
round_next fresh past old new (Close at) outcome table made course course' on tells' starts' performs after either enough next =
    rest_round old new at course course' after (ap round_parts performs.acts.peer) performs.other performs.acts.sdps_kept on.round
round_next fresh past old new (Raw at bytes now) outcome table made course course' on tells' starts' performs after either enough next =
    rest_round old new at course course' after (ap round_parts performs.acts.peer) performs.other performs.acts.sdps_kept on.round
round_next fresh past old new (Rollback at t) outcome table made course course' on tells' starts' performs after either enough next = absurd (let e : None ≡ Some course' = after in cc)
round_next fresh past old new (ForeignOffer at text) outcome table made course course' on tells' starts' performs after either enough next = absurd (let e : None ≡ Some course' = after in cc)
round_next fresh past old new (ForeignAnswer at t text) outcome table made course course' on tells' starts' performs after either enough next = absurd (let e : None ≡ Some course' = after in cc)
