use Rattle.rtc_script.specs.Lines.{IsLine}
use Rattle.rtc_script.proofs.StepLines.{fails_at_no_step}
use Rattle.rtc_script.proofs.ZipLemmas.{more_zip}
use Rattle.rtc_script.proofs.steps.read_steps.Goals as goal

pub returns-in_default-clause-err : goal.returns-in_default-clause-err
returns-in_default-clause-err c = fails_at_no_step _ _ _ _ c.loop-i-test.true c.loop-i.invariant (rw c.in_default.is at c.in_ok-step.ensures.none)

pub loop-i-preserved : goal.loop-i-preserved
loop-i-preserved c = rw c.in_ok-push.ensures.items (more_zip IsLine _ _ _ _ c.in-Some.step c.loop-i-test.true c.loop-i.invariant (rw c.in-Some.is at c.in_ok-step.ensures.some))
