use Rattle.std.proofs.Common.{drop}
use Rattle.rtc_gate_calls.proofs.RunLemmas.{RunsSoFar}
use Rattle.rtc_gate_calls.proofs.running.run_calls.Given as goal

-- the calls so far were performed
abbrev pub invariant-loop-call : goal.invariant-loop-call
invariant-loop-call l = RunsSoFar l.calls (drop l.call-index l.calls) l.replies.items l.gate
