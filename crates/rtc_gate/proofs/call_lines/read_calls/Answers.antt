use Rattle.rtc_gate.specs.CallLines.{IsCallLine}
use Rattle.rtc_gate.proofs.StoppedLines.{stops_at_no_call}
use Rattle.rtc_gate.proofs.ZipLemmas.{more_zip}
use Rattle.rtc_gate.proofs.call_lines.read_calls.Goals as goal

pub returns-in_default-clause-err : goal.returns-in_default-clause-err
returns-in_default-clause-err c = stops_at_no_call _ _ _ _ c.loop-i-test.true c.loop-i.invariant (rw c.in_default.is at c.in_ok-call.ensures.none)

pub loop-i-preserved : goal.loop-i-preserved
loop-i-preserved c = rw c.in_ok-push.ensures.items (more_zip IsCallLine _ _ _ _ c.in-Some.call c.loop-i-test.true c.loop-i.invariant (rw c.in-Some.is at c.in_ok-call.ensures.some))
