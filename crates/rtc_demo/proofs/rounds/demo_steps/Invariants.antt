use Rattle.std.proofs.Common.{◌≡◌}
use Rattle.rtc_demo.specs.DemoSteps.{demo_steps}
use Rattle.rtc_demo.proofs.rounds.demo_steps.Given as goal

-- the steps so far are those of the rounds so far
abbrev pub invariant-loop-round : goal.invariant-loop-round
invariant-loop-round l = l.steps ≡ demo_steps l.round l.seed
