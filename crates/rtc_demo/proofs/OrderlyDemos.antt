-- The steps of a demo are orderly, and few.
use Rattle.std.proofs.Common.{◌≡◌, ◌+◌, ◌*◌, ◌≤◌, ℕ, zero, suc, true, List, [], ◌∷◌, ◌++◌, length, Option, Some, None, refl, sym, ap, ◌∙◌, arith}
use Rattle.std.specs.Prelude.{is_some}
use Rattle.rtc_run_history.specs.Orderly.{Course, after_step, follow, course_of, are_orderly}
use Rattle.rtc_run_history.specs.Sizes.{steps_size}
use Rattle.rtc_run_history.specs.declared.step.Step.{Step}
use Rattle.rtc_run_history.specs.declared.op.Op.TheVariants.{AddMedia}
use Rattle.rtc_demo.specs.DemoSteps.{steps_between, round_steps, demo_steps}
use Rattle.rtc_demo.proofs.RoundForms.{RoundForm, round_form}
use Rattle.rtc_demo.proofs.IdleRounds.{idle_with, IsIdleAfter, round_idle}

none_follow : (steps : List Step) → follow None steps ≡ None
none_follow [] = refl
none_follow (step ∷ steps) = refl

-- steps behind steps go on from where these lead
pub follow-append : (course : Option Course) (steps more : List Step) → follow course (steps ++ more) ≡ follow (follow course steps) more
follow-append course [] more = refl
follow-append None (step ∷ steps) more = sym (none_follow more)
follow-append (Some course) (step ∷ steps) more = follow-append (after_step course step) steps more

-- no round is open after a demo, which made two descriptions a round
pub demo_idle : (rounds seed : ℕ) → rounds ≤ 100 → IsIdleAfter (2 * rounds) (course_of (demo_steps rounds seed))
demo_idle zero seed few = record { left = []; right = []; is = refl }
demo_idle (suc rounds) seed few =
    let before : IsIdleAfter (2 * rounds) (course_of (demo_steps rounds seed)) = demo_idle rounds seed (omega arith) in
    let form : RoundForm (round_steps seed rounds) rounds = round_form seed rounds (omega arith) in
    let next = round_idle form.at form.kind form.dir form.more before.left before.right (2 * rounds) form.fine in
    let count : 2 * rounds + 1 + 1 ≡ 2 * suc rounds = omega arith in
    record {
      left = next.left;
      right = next.right;
      is = follow-append _ (demo_steps rounds seed) (round_steps seed rounds) ∙ ap (λ (course : Option Course). follow course (round_steps seed rounds)) before.is
          ∙ ap (follow (Some (idle_with before.left before.right (2 * rounds)))) form.are ∙ next.is ∙ ap (λ n. Some (idle_with next.left next.right n)) count;
    }

pub demo_orderly : (rounds seed : ℕ) → rounds ≤ 100 → are_orderly (demo_steps rounds seed) ≡ true
demo_orderly rounds seed few = ap is_some (demo_idle rounds seed few).is

-- ---- sizes

pub steps_size_of_both : (steps more : List Step) → steps_size (steps ++ more) ≡ steps_size steps + steps_size more
steps_size_of_both [] more = omega arith
steps_size_of_both (step ∷ steps) more = omega (arith, steps_size_of_both steps more)

round_size : (steps : List Step) (round : ℕ) → RoundForm steps round → steps_size steps ≤ 5
round_size steps round form =
    let few : length form.more ≤ 1 = form.fine.few in
    let is : steps_size steps ≡ steps_size (steps_between form.at (AddMedia form.kind form.dir ∷ form.more) (2 * round)) = ap steps_size form.are in
    omega (arith, few, is)

pub demo_size : (rounds seed : ℕ) → rounds ≤ 100 → steps_size (demo_steps rounds seed) ≤ 5 * rounds
demo_size zero seed few = omega arith
demo_size (suc rounds) seed few =
    omega (arith, few, demo_size rounds seed (omega arith), steps_size_of_both (demo_steps rounds seed) (round_steps seed rounds), round_size (round_steps seed rounds) rounds (round_form seed rounds (omega arith)))
