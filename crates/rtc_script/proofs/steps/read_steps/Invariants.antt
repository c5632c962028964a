use Rattle.std.proofs.Common.{take, map}
use Rattle.rtc_script.specs.Script.{HaveSteps}
use Rattle.rtc_script.proofs.steps.read_steps.Given as goal

-- the lines so far are those of the steps so far
abbrev pub invariant-loop-i : goal.invariant-loop-i
invariant-loop-i l = HaveSteps (take l.i (map (λ line. line.now) l.lines)) l.steps.items
