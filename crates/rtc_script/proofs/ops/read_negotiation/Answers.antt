use Rattle.rtc_script.specs.Lines.{IsOp}
use Rattle.rtc_script.proofs.ZipLemmas.{no_zip, more_zip}
use Rattle.rtc_script.proofs.ops.read_negotiation.Goals as goal

pub returns-in_default-clause-none : goal.returns-in_default-clause-none
returns-in_default-clause-none c = no_zip IsOp _ _ _ c.loop-word-test.true (rw c.in_default.is at c.in_ok-op.ensures.none)

pub loop-word-preserved : goal.loop-word-preserved
loop-word-preserved c = rw c.in_ok-push.ensures.ok (more_zip IsOp _ _ _ _ c.in-Some.op c.loop-word-test.true c.loop-word.invariant (rw c.in-Some.is at c.in_ok-op.ensures.some))
