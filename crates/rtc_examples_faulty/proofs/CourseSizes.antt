-- The sizes of courses.
use Rattle.std.proofs.Common.{◌≤◌, ◌<◌, ◌*◌, ◌^◌, ℕ, zero, suc, List, [], ◌∷◌, ◌++◌, length, length-append, arith}
use Rattle.std.specs.Prelude.{take}
use Rattle.rtc_run_history.specs.declared.step.Step.{Step}
use Rattle.rtc_run_history.specs.Sizes.{step_size, steps_size}
use Rattle.rtc_run_laws.proofs.ChannelCounts.{steps_size-append}

pub pushed_is_small : (steps : List Step) (step : Step) → steps_size steps ≤ 2 * length steps → step_size step ≤ 2
    → steps_size (steps ++ step ∷ []) ≤ 2 * length (steps ++ step ∷ [])
pushed_is_small steps step small few = omega (arith, small, few, steps_size-append steps step, length-append steps (step ∷ []))

front_is_less : (steps : List Step) (count : ℕ) → steps_size (take count steps) ≤ steps_size steps
front_is_less [] zero = omega arith
front_is_less [] (suc count) = omega arith
front_is_less (step ∷ steps) zero = omega arith
front_is_less (step ∷ steps) (suc count) = omega (arith, front_is_less steps count)

pub front_is_small : (steps : List Step) (count : ℕ) → steps_size steps ≤ 2 * length steps → length steps ≤ 100000
    → steps_size (take count steps) < 2 ^ 32
front_is_small steps count small few = omega (arith, small, few, front_is_less steps count)
