use Rattle.std.proofs.Common.{take, map}
use Rattle.rtc_gate.specs.GateScript.{HaveCallLines}
use Rattle.rtc_gate.proofs.call_lines.read_calls.Given as goal

-- the lines so far are those of the calls so far
abbrev pub invariant-loop-i : goal.invariant-loop-i
invariant-loop-i l = HaveCallLines (take l.i (map (λ line. line.now) l.lines)) l.calls.items
