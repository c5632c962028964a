use Rattle.std.proofs.Common.{take, map}
use Rattle.rtc_script.specs.Lines.{AreOps}
use Rattle.rtc_script.proofs.ops.read_negotiation.Given as goal

-- the words so far are those of the ops so far
abbrev pub invariant-loop-word : goal.invariant-loop-word
invariant-loop-word l = AreOps (take l.word-index (map (λ word. word.now) l.words)) l.ops
