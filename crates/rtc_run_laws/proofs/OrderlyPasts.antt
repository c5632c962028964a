-- Where a step in order leads, and where no steps do.
use Rattle.std.proofs.Common.{◌≡◌, ◌<◌, ◌+◌, ◌-◌, ◌^◌, true, List, [], ◌∷◌, ◌++◌, length, Option, Some, None, refl, subst}
use Rattle.rtc_sdp_values.specs.declared.line_row.LineRow.{LineRow}
use Rattle.rtc_sdp_values.specs.declared.line_row.LineRow.TheVariants.{Media, App}
use Rattle.rtc_run_history.specs.declared.side.Side.{Side}
use Rattle.rtc_run_history.specs.declared.side.Side.TheVariants.{Left, Right}
use Rattle.rtc_run_history.specs.declared.step.Step.{Step}
use Rattle.rtc_run_history.specs.declared.step.Step.TheVariants.{Negotiate, AcceptOffer, AcceptAnswer, Time, Datagram, Poll, Drain, Write, CloseChannel, Close, Rollback, ForeignOffer, ForeignAnswer, Raw}
use Rattle.rtc_run_history.specs.declared.outcome.Outcome.{Outcome}
use Rattle.rtc_run_history.specs.declared.table.Table.{Table}
use Rattle.rtc_run_history.specs.Sides.{side_of}
use Rattle.rtc_run_history.specs.Past.{Entry, MadeSdp, before, numbers_in, sdps}
use Rattle.rtc_run_history.specs.Sound.{IsSound}
use Rattle.rtc_run_history.specs.Finished.{AreSameLine, Equal}
use Rattle.rtc_run_history.specs.SaidRows.{MakesSdp}
use Rattle.rtc_run_history.specs.CourseRows.{course_rows_after}
use Rattle.rtc_run_history.specs.Orderly.{Phase, Idle, AwaitsAnswer, AwaitsEnd, Course, course_rows, moved_on, after_step, follow, course_of, IsIdle, AreInStep, AreCurrent, AreJoined, negotiates}
use Rattle.rtc_run_history.specs.SoundEntry.{AreReadBack}
use Rattle.rtc_run_laws.proofs.SoundPasts.{Sound}
use Rattle.rtc_run_laws.proofs.Around.{entry}
use Rattle.rtc_run_laws.proofs.RowNames.{SameName, Aligned, app_mid-aligned}
use Rattle.rtc_run_laws.proofs.RoundRows.{IsOffered, IsAnswered}
use Rattle.rtc_run_laws.proofs.Courses.{IsSideOf, InPhase, InCourse}
use Rattle.rtc_run_laws.proofs.CourseSteps.{accept_course, end_course}
use Rattle.rtc_run_laws.proofs.OrderlySteps.{negotiated_ok, GoesOn, accept_goes_on, end_goes_on, SidePasses}
use Rattle.rtc_run_laws.proofs.RestCourses.{rest_goes_on}
use Rattle.rtc_run_laws.proofs.OrderlyOps.{negotiated_goes_on}
use Rattle.rtc_run_history.specs.Views.{Stances}

-- A step in order gives its Ok or tells a want of memory, and where none is told, the course goes on.
pub step_goes_on : {E : Type 0} → (fresh between : Stances) (past : List (Entry E)) (step : Step) (outcome : Outcome E) (table : Option Table) (made : List MadeSdp) (course course' : Course) → AreReadBack (sdps past) → Sound fresh past → InCourse course past → SidePasses fresh between past step
    → (between (side_of step)).channels.given + length (numbers_in outcome) < 2 ^ 64 - 1 → IsSound fresh past between step outcome table made → MakesSdp step outcome table made → after_step course step ≡ Some course' → GoesOn (negotiates step) outcome course' (entry step outcome table made ∷ past)
step_goes_on fresh between past (Negotiate at ops apply) outcome table made course course' read sound is side few replied says after = record {
  ok = λ negotiating. negotiated_ok fresh between past at ops apply outcome table made course course' _ few after replied;
  next = λ enough. negotiated_goes_on fresh between past at ops apply outcome table made course course' sound is few replied says after enough;
}
step_goes_on fresh between past (AcceptOffer at k) outcome table made course course' read sound is side few replied says after =
    let it = accept_course at k course course.phase course' after in
    let out : IsOffered it.side k it.said past = subst (λ (phase : Phase). InPhase phase past) it.phase_is is.phase in
    subst (λ (c : Course). GoesOn true outcome c (entry (AcceptOffer at k) outcome table made ∷ past)) it.course_is
    (subst (λ (one : Side). SidePasses fresh between past (AcceptOffer one k) → IsSound fresh past between (AcceptOffer one k) outcome table made → MakesSdp (AcceptOffer one k) outcome table made
    → GoesOn true outcome (moved_on one course (course_rows_after true 0 (course_rows one course) it.said) (course.sdps + 1) (AwaitsEnd it.side k course.sdps (course_rows_after true 0 (course_rows one course) it.said)))
    (entry (AcceptOffer one k) outcome table made ∷ past)) it.at_is
    (λ side replied says. accept_goes_on fresh between past it.side k it.said course outcome table made read sound is out side replied says) side replied says)
step_goes_on fresh between past (AcceptAnswer at t a) outcome table made course course' read sound is side few replied says after =
    let it = end_course at t a course course.phase course' after in
    let out : IsAnswered at t a it.said past = subst (λ (phase : Phase). InPhase phase past) it.phase_is is.phase in
    subst (λ (c : Course). GoesOn true outcome c (entry (AcceptAnswer at t a) outcome table made ∷ past)) it.course_is
    (end_goes_on fresh between past at t a it.said course outcome table made read sound is out side replied says)
step_goes_on fresh between past (Time at now) outcome table made course course' read sound is side few replied says after =
    rest_goes_on fresh between past (Time at now) outcome table made course course' tt after is replied says
step_goes_on fresh between past (Datagram at packet now) outcome table made course course' read sound is side few replied says after =
    rest_goes_on fresh between past (Datagram at packet now) outcome table made course course' tt after is replied says
step_goes_on fresh between past (Poll at) outcome table made course course' read sound is side few replied says after =
    rest_goes_on fresh between past (Poll at) outcome table made course course' tt after is replied says
step_goes_on fresh between past (Drain at) outcome table made course course' read sound is side few replied says after =
    rest_goes_on fresh between past (Drain at) outcome table made course course' tt after is replied says
step_goes_on fresh between past (Write at channel binary bytes) outcome table made course course' read sound is side few replied says after =
    rest_goes_on fresh between past (Write at channel binary bytes) outcome table made course course' tt after is replied says
step_goes_on fresh between past (CloseChannel at channel) outcome table made course course' read sound is side few replied says after =
    rest_goes_on fresh between past (CloseChannel at channel) outcome table made course course' tt after is replied says
step_goes_on fresh between past (Close at) outcome table made course course' read sound is side few replied says after =
    rest_goes_on fresh between past (Close at) outcome table made course course' tt after is replied says
step_goes_on fresh between past (Raw at bytes now) outcome table made course course' read sound is side few replied says after =
    rest_goes_on fresh between past (Raw at bytes now) outcome table made course course' tt after is replied says
step_goes_on fresh between past (Rollback at t) outcome table made course course' read sound is side few replied says after = absurd (let e : None ≡ Some course' = after in cc)
step_goes_on fresh between past (ForeignOffer at text) outcome table made course course' read sound is side few replied says after = absurd (let e : None ≡ Some course' = after in cc)
step_goes_on fresh between past (ForeignAnswer at t text) outcome table made course course' read sound is side few replied says after = absurd (let e : None ≡ Some course' = after in cc)

-- ---- pasts

abbrev pub next_of : Option Course → Step → Option Course
next_of None step = None
next_of (Some course) step = after_step course step

pub follow_last : (course : Option Course) (steps : List Step) (step : Step) → follow course (steps ++ step ∷ []) ≡ next_of (follow course steps) step
follow_last None [] step = refl
follow_last (Some course) [] step = refl
follow_last None (first ∷ steps) step = refl
follow_last (Some course) (first ∷ steps) step = follow_last (after_step course first) steps step

-- no steps are in their course
pub none_in_course : (E : Type 0) (course : Course) → course_of [] ≡ Some course → (InCourse {E = E} course []) × (course.phase ≡ Idle)
none_in_course E course is =
    let same : record { left = []; right = []; sdps = 0; phase = Idle } ≡ course = cc in
    subst (λ (c : Course). (InCourse {E = E} c []) × (c.phase ≡ Idle)) same (record { count = refl; sides = bare; phase = tt }, refl)
  where
    bare : (side : Side) → IsSideOf (course_rows side (record { left = []; right = []; sdps = 0; phase = Idle })) []
    bare Left = record { are = refl; live = tt }
    bare Right = record { are = refl; live = tt }

equal_lines : (rows others : List LineRow) → Aligned rows others → Equal rows others
equal_lines [] [] same = tt
equal_lines (row ∷ rows) (other ∷ others) same = (line row other same.0, equal_lines rows others same.1)
  where
    line : (row other : LineRow) → SameName row other → AreSameLine row other
    line (Media place mid kind dir stopped remote_created) (Media place' mid' kind' dir' stopped' remote_created') same = same
    line (App place mid) (App place' mid') same = tt
    line row other same = absurd same
equal_lines rows others same = absurd same

pub in_step : (rows others : List LineRow) (sides : Stances) → Aligned rows others → ((at : Side) → AreCurrent sides at)
    → AreJoined (sides Left).snap.started (sides Right).snap.started → AreInStep rows others sides
in_step rows others sides same current joined =
    record { equal = equal_lines rows others same; app = app_mid-aligned rows others same; current = current; joined = joined }

pub idle_aligned : {E : Type 0} → (phase : Phase) (past : List (Entry E)) → IsIdle phase → InPhase phase past → Aligned (before Left past) (before Right past)
idle_aligned Idle past idle same = same
idle_aligned (AwaitsAnswer side n said) past idle out = absurd idle
idle_aligned (AwaitsEnd side n m said) past idle out = absurd idle
