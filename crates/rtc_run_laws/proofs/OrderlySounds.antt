-- Orderly steps give their Ok, and leave both sides in step, up to the first want of memory or fault.
use Rattle.std.proofs.Common.{◌≡◌, ◌≤◌, ◌<◌, ◌+◌, ◌-◌, ◌^◌, true, false, List, [], ◌∷◌, length, Option, Some, None, refl, sym, ◌∙◌, ap, subst, arith}
use Rattle.std.specs.Prelude.{is_some}
use Rattle.std.proofs.lemmas.Bool.{or_parts}
use Rattle.rtc_peer_rows.specs.Table.{IsTable}
use Rattle.rtc_run_history.specs.declared.side.Side.TheVariants.{Left, Right}
use Rattle.rtc_run_history.specs.declared.step.Step.{Step}
use Rattle.rtc_run_history.specs.declared.outcome.Outcome.{Outcome}
use Rattle.rtc_run_history.specs.declared.table.Table.{Table}
use Rattle.rtc_run_history.specs.Memory.{fails}
use Rattle.rtc_run_history.specs.Sides.{side_of, other_side}
use Rattle.rtc_run_history.specs.Sizes.{step_size}
use Rattle.rtc_run_history.specs.Past.{Entry, MadeSdp, before, numbers_in, numbers_told, sdps, steps_of}
use Rattle.rtc_run_history.specs.Sound.{IsSound}
use Rattle.rtc_run_history.specs.SaidRows.{MakesSdp}
use Rattle.rtc_run_history.specs.SoundEntry.{IsSoundEntry, AreReadBack}
use Rattle.rtc_run_history.specs.Views.{AreFormed}
use Rattle.rtc_run_laws.proofs.FormedSteps.{makes_read_back}
use Rattle.rtc_run_laws.proofs.ReadPasts.{past_read}
use Rattle.rtc_run_history.specs.Orderly.{Phase, Idle, AwaitsAnswer, AwaitsEnd, Course, course_of, after_step, has_failed, can_connect, IsIdle, AreNumbersLeft, OkWhereOrderly, InStepWhereOrderly, negotiates}
use Rattle.rtc_run_laws.proofs.StanceSteps.{PairStance, StancePerforms, StanceEnters, made_by}
use Rattle.rtc_run_laws.proofs.StanceRuns.{IsFreshStance, StanceReached, StanceRan, ran_reached, ran_sound}
use Rattle.rtc_run_laws.proofs.SoundPasts.{Sound}
use Rattle.rtc_run_laws.proofs.Tells.{Tells}
use Rattle.rtc_run_laws.proofs.Around.{Around, entry, size_grows, one_at_least}
use Rattle.rtc_run_laws.proofs.ChannelCounts.{left_before, left_fewer, few_left, told_within}
use Rattle.rtc_run_laws.proofs.PastTables.{past_table}
use Rattle.rtc_run_laws.proofs.MakesSdps.{makes_sdp}
use Rattle.rtc_run_laws.proofs.FinishedRounds.{finishes_round}
use Rattle.rtc_run_laws.proofs.Courses.{InCourse}
use Rattle.rtc_run_laws.proofs.OrderlySteps.{GoesOn, IsOkOrFails}
use Rattle.rtc_run_laws.proofs.OrderlyPasts.{step_goes_on, next_of, follow_last, none_in_course, in_step, idle_aligned}
use Rattle.rtc_run_laws.proofs.SideRounds.{InRound, AreAgreed}
use Rattle.rtc_run_laws.proofs.StartedSides.{ran_tables, ran_told, performs_told}
use Rattle.rtc_run_laws.proofs.OrderlyRuns.{AreQuiet, IsOnCourse, step_side}
use Rattle.rtc_run_laws.proofs.OrderlyNext.{round_next}
use Rattle.rtc_run_laws.proofs.QuietSteps.{quiet_next}
use Rattle.rtc_run_laws.proofs.OutstandingRuns.{ran_outstands}
use Rattle.rtc_run_laws.proofs.Outstands.{outstanding_is}
use Rattle.rtc_run_laws.proofs.Reaches.{around_of, step_sound, step_tells, reached_tells, reached_sees, small_before}

abbrev start_course : Course
start_course = record { left = []; right = []; sdps = 0; phase = Idle }

-- in a fresh pair no side knows credentials of the other one, and no association was started
fresh_agreed : (start : PairStance) → IsFreshStance start → AreAgreed start
fresh_agreed start fresh = record {
  current = λ side. rw (fresh.built side).remote tt;
  joined = λ side. rw ((fresh.built side).unstarted, (fresh.built (other_side side)).unstarted) tt;
}

-- a past that is in its course, and its pair in its round
pub record IsOrderly {E : Type 0} (past : List (Entry E)) (pair : PairStance) (course : Course) : Type 0 where
  pub course_is : InCourse course past
  pub round : InRound course.phase pair
  pub quiet : AreQuiet course.phase pair

-- what a step that is performed is known to be, where its entry is sound
pub record IsStep {E : Type 0} (start : PairStance) (past : List (Entry E)) (old new : PairStance) (step : Step) (outcome : Outcome E) (table : Option Table) (made : List MadeSdp) : Type 0 where
  pub performs : StancePerforms old step outcome table new
  pub made_is : made ≡ made_by old new
  pub small : new.size < 2 ^ 32
  pub replied : IsSound start.sides past old.sides step outcome table made
  pub says : MakesSdp step outcome table made

on_course : {E : Type 0} → (start old : PairStance) (past : List (Entry E)) (course : Course) → IsFreshStance start → AreReadBack (sdps past) → StanceRan start past old
    → old.size < 2 ^ 32 → IsOrderly past old course → IsOnCourse start.sides past old course
on_course start old past course fresh read ran small is = record {
  read = read;
  tells = reached_tells start old past fresh (ran_reached start past old ran) small;
  sees = reached_sees start old past fresh (ran_reached start past old ran) small;
  starts = ran_told start old past fresh ran small;
  course_is = is.course_is;
  round = is.round;
  quiet = is.quiet;
  outstands = λ at.
      outstanding_is start.sides past at old (reached_tells start old past fresh (ran_reached start past old ran) small)
      (ran_outstands start old past fresh ran small at);
}

-- a step that is in order goes on in the course
step_goes : {E : Type 0} → (start old new : PairStance) (past : List (Entry E)) (step : Step) (outcome : Outcome E) (table : Option Table) (made : List MadeSdp) (course course' : Course) → IsFreshStance start → AreFormed start.sides → can_connect start.sides ≡ true → StanceRan start past old
    → IsStep start past old new step outcome table made → (old.sides (side_of step)).channels.given + length (numbers_in outcome) < 2 ^ 64 - 1 → IsOrderly past old course → after_step course step ≡ Some course' → GoesOn (negotiates step) outcome course' (entry step outcome table made ∷ past)
step_goes start old new past step outcome table made course course' fresh formed connect ran is few orderly after =
    let reached : StanceReached start past old = ran_reached start past old ran in
    let around : Around step made old new = around_of old new step outcome table made is.performs is.made_is is.small in
    let small : old.size < 2 ^ 32 = omega (arith, size_grows step made old new around, is.small) in
    let read : AreReadBack (sdps past) = past_read start.sides past formed (ran_sound start past old ran) in
    let on : IsOnCourse start.sides past old course = on_course start old past course fresh read ran small orderly in
    step_goes_on start.sides old.sides past step outcome table made course course' read (ran_sound start past old ran) orderly.course_is
    (step_side start.sides past old step course course' connect on after) few is.replied is.says after

-- and its pair in the round
step_orderly : {E : Type 0} → (start old new : PairStance) (past : List (Entry E)) (step : Step) (outcome : Outcome E) (table : Option Table) (made : List MadeSdp) (course course' : Course) → IsFreshStance start → AreFormed start.sides → can_connect start.sides ≡ true → StanceRan start past old
    → IsStep start past old new step outcome table made → (old.sides (side_of step)).channels.given + length (numbers_in outcome) < 2 ^ 64 - 1 → IsOrderly past old course → after_step course step ≡ Some course' → fails outcome ≡ false → IsOrderly (entry step outcome table made ∷ past) new course'
step_orderly start old new past step outcome table made course course' fresh formed connect ran is few orderly after enough =
    let reached : StanceReached start past old = ran_reached start past old ran in
    let around : Around step made old new = around_of old new step outcome table made is.performs is.made_is is.small in
    let small : old.size < 2 ^ 32 = omega (arith, size_grows step made old new around, is.small) in
    let read : AreReadBack (sdps past) = past_read start.sides past formed (ran_sound start past old ran) in
    let on : IsOnCourse start.sides past old course = on_course start old past course fresh read ran small orderly in
    let goes = step_goes start old new past step outcome table made course course' fresh formed connect ran is few orderly after in
    let next : InCourse course' (entry step outcome table made ∷ past) = goes.next enough in
    record {
      course_is = next;
      round = round_next start.sides past old new step outcome table made course course' on (step_tells past old new step outcome table made on.tells is.performs around)
          (performs_told old new step outcome table is.performs (ran_tables start old past fresh ran small) on.starts) is.performs after goes.ok enough next;
      quiet = quiet_next start.sides past old new step outcome table made course course' on (step_tells past old new step outcome table made on.tells is.performs around) is.performs after goes.ok enough next;
    }

-- what a side was given before a step after which numbers are left
given_few : {E : Type 0} → (start old : PairStance) (past : List (Entry E)) (last : Entry E) → IsFreshStance start → StanceRan start past old → old.size < 2 ^ 32 → AreNumbersLeft 1 (last ∷ past)
    → (old.sides (side_of last.step)).channels.given + length (numbers_in last.outcome) < 2 ^ 64 - 1
given_few start old past last fresh ran small left =
    let tells : Tells past old = reached_tells start old past fresh (ran_reached start past old ran) small in
    few_left last past (old.sides (side_of last.step)).channels.given (tells.sides (side_of last.step)).channels.few left

-- the same of a past with one more entry
last_orderly : {E : Type 0} → (start old new : PairStance) (past : List (Entry E)) (last : Entry E) (course : Course) → IsFreshStance start → AreFormed start.sides → can_connect start.sides ≡ true → StanceRan start past old
    → IsStep start past old new last.step last.outcome last.table last.made → ((c : Course) → course_of (steps_of past) ≡ Some c → IsOrderly past old c) → fails last.outcome ≡ false
    → (old.sides (side_of last.step)).channels.given + length (numbers_in last.outcome) < 2 ^ 64 - 1 → course_of (steps_of (last ∷ past)) ≡ Some course → IsOrderly (last ∷ past) new course
last_orderly start old new past last course fresh formed connect ran is earlier enough few orderly =
    by (course_of (steps_of past)) refl (sym (follow_last (Some start_course) (steps_of past) last.step) ∙ orderly)
  where
    by : (found : Option Course) → course_of (steps_of past) ≡ found → next_of found last.step ≡ Some course → IsOrderly (last ∷ past) new course
    by None before_it after = absurd (cc)
    by (Some c) before_it after = step_orderly start old new past last.step last.outcome last.table last.made c course fresh formed connect ran is few (earlier c before_it) after enough

-- Every past of orderly steps, where nothing failed, is in its course, and its pair in its round.
pub ran_orderly : {E : Type 0} → (start pair : PairStance) (past : List (Entry E)) (course : Course) → IsFreshStance start → AreFormed start.sides → can_connect start.sides ≡ true → StanceRan start past pair → pair.size < 2 ^ 32 → has_failed past ≡ false
    → AreNumbersLeft 1 past → course_of (steps_of past) ≡ Some course → IsOrderly past pair course
ran_orderly {E} start pair [] course fresh formed connect ran small enough left is =
    let none = none_in_course E course is in
    let same : pair ≡ start = ran in
    record {
      course_is = none.0;
      round = subst (λ (phase : Phase). InRound phase pair) (sym none.1) (rw same (fresh_agreed start fresh));
      quiet = subst (λ (phase : Phase). AreQuiet phase pair) (sym none.1)
          (subst (λ (p : PairStance). AreQuiet Idle p) (sym same) (λ side idle. (fresh.built side).outstanding));
    }
ran_orderly {E} start pair (last ∷ past) course fresh formed connect ran small enough left is =
    let parts = or_parts (fails last.outcome) (has_failed past) enough in
    let enters : StanceEnters ran.0 last pair = ran.2.0 in
    let sound : IsSoundEntry start.sides past ran.0.sides last pair.sides = ran.2.1 in
    let fewer : ran.0.size < 2 ^ 32 = small_before ran.0 pair last enters small in
    last_orderly start ran.0 pair past last course fresh formed connect ran.1
    (record { performs = enters.performs; made_is = enters.made; small = small; replied = sound.replied; says = sound.made })
    (λ c before_it. ran_orderly start ran.0 past c fresh formed connect ran.1 fewer parts.1 (left_before last past 1 left) before_it) parts.0 (given_few start ran.0 past last fresh ran.1 fewer left) is

-- Orderly steps give their Ok up to the first failure.
ok_where_orderly : {E : Type 0} → (start old new : PairStance) (past : List (Entry E)) (step : Step) (outcome : Outcome E) (table : Option Table) (made : List MadeSdp) → IsFreshStance start → AreFormed start.sides → StanceRan start past old → old.size < 2 ^ 32
    → IsStep start past old new step outcome table made → OkWhereOrderly start.sides past step outcome
ok_where_orderly start old new past step outcome table made fresh formed ran small is =
    λ negotiating connect orderly enough left.
    by negotiating connect enough left (course_of (steps_of past)) refl (ap is_some (sym (follow_last (Some start_course) (steps_of past) step)) ∙ orderly)
  where
    given : negotiates step ≡ true → AreNumbersLeft (step_size step) past → (old.sides (side_of step)).channels.given + length (numbers_in outcome) < 2 ^ 64 - 1
    given negotiating left =
        let tells : Tells past old = reached_tells start old past fresh (ran_reached start past old ran) small in
        let least : (old.sides (side_of step)).channels.given ≤ length (numbers_told (side_of step) past) = (tells.sides (side_of step)).channels.few in
        omega (arith, least, left (side_of step), told_within start.sides old.sides past step outcome table made negotiating is.replied)

    of_step : negotiates step ≡ true → can_connect start.sides ≡ true → AreNumbersLeft (step_size step) past → (c : Course) → IsOrderly past old c → (found : Option Course) → after_step c step ≡ found → is_some found ≡ true → IsOkOrFails outcome
    of_step negotiating connect left c on None after some = absurd (cc)
    of_step negotiating connect left c on (Some course) after some = (step_goes start old new past step outcome table made c course fresh formed connect ran is (given negotiating left) on after).ok negotiating

    by : negotiates step ≡ true → can_connect start.sides ≡ true → has_failed past ≡ false → AreNumbersLeft (step_size step) past → (found : Option Course) → course_of (steps_of past) ≡ found → is_some (next_of found step) ≡ true → IsOkOrFails outcome
    by negotiating connect enough left None before_it some = absurd (cc)
    by negotiating connect enough left (Some c) before_it some =
        of_step negotiating connect left c (ran_orderly start old past c fresh formed connect ran small enough (left_fewer past (step_size step) (one_at_least step) left) before_it) (after_step c step) refl some

idle_agreed : (phase : Phase) (pair : PairStance) → IsIdle phase → InRound phase pair → AreAgreed pair
idle_agreed Idle pair idle out = out
idle_agreed (AwaitsAnswer side n said) pair idle out = absurd idle
idle_agreed (AwaitsEnd side n m said) pair idle out = absurd idle

-- Where nothing is outstanding after orderly steps, the sides are in step.
in_step_where_orderly : {E : Type 0} → (start old new : PairStance) (past : List (Entry E)) (last : Entry E) → IsFreshStance start → AreFormed start.sides → StanceRan start past old → old.size < 2 ^ 32
    → IsStep start past old new last.step last.outcome last.table last.made → InStepWhereOrderly start.sides (last ∷ past) new.sides
in_step_where_orderly start old new past last fresh formed ran small is =
    λ course connect orderly idle enough left.
    let parts = or_parts (fails last.outcome) (has_failed past) enough in
    let on : IsOrderly (last ∷ past) new course = last_orderly start old new past last course fresh formed connect ran is (λ c before_it. ran_orderly start old past c fresh formed connect ran small parts.1 (left_before last past 1 left) before_it) parts.0 (given_few start old past last fresh ran small left) orderly in
    let agreed : AreAgreed new = idle_agreed course.phase new idle on.round in
    in_step (before Left (last ∷ past)) (before Right (last ∷ past)) new.sides (idle_aligned course.phase (last ∷ past) idle on.course_is.phase) agreed.current (agreed.joined Left)

-- The entry of a step of a pair that soundly ran is sound.
pub sound_next : {E : Type 0} → (start old new : PairStance) (past : List (Entry E)) (step : Step) (outcome : Outcome E) (table : Option Table)
    → IsFreshStance start → StanceRan start past old → StancePerforms old step outcome table new → new.size < 2 ^ 32 → IsSoundEntry start.sides past old.sides (entry step outcome table (made_by old new)) new.sides
sound_next start old new past step outcome table fresh ran performs small =
    let reached : StanceReached start past old = ran_reached start past old ran in
    let around : Around step (made_by old new) old new = around_of old new step outcome table (made_by old new) performs refl small in
    let small_old : old.size < 2 ^ 32 = omega (arith, size_grows step (made_by old new) old new around, small) in
    let tells : Tells past old = reached_tells start old past fresh reached small_old in
    let sound : Sound start.sides past = ran_sound start past old ran in
    let rows : IsTable (before (side_of step) past) = past_table start.sides past (side_of step) sound in
    let replied : IsSound start.sides past old.sides step outcome table (made_by old new) =
    step_sound start.sides past old new step outcome table tells (reached_sees start old past fresh reached small_old) rows
    (ran_outstands start old past fresh ran small_old) performs small in
    let says : MakesSdp step outcome table (made_by old new) = makes_sdp start.sides old.sides past old new step outcome table performs rows replied (sym (tells.sides (side_of step)).rows) in
    let is : IsStep start past old new step outcome table (made_by old new) = record { performs = performs; made_is = refl; small = small; replied = replied; says = says } in
    record {
      replied = replied;
      made = says;
      read_back = λ formed. makes_read_back start old new past step outcome table fresh.sdps formed reached performs;
      finished = λ formed. finishes_round start.sides old.sides past step outcome table (made_by old new) formed sound replied;
      orderly = λ formed. ok_where_orderly start old new past step outcome table (made_by old new) fresh formed ran small_old is;
      in_step = λ formed. in_step_where_orderly start old new past (entry step outcome table (made_by old new)) fresh formed ran small_old is;
    }
