use Rattle.std.proofs.Common.{◌≡◌, ◌++◌, drop}
use Rattle.rtc_sdp_values.proofs.sdp.append_candidates.Given as goal

abbrev pub invariant-loop-candidate : goal.invariant-loop-candidate
invariant-loop-candidate l = l.found.items ++ drop l.candidate-index l.candidates ≡ l.fn.found.items ++ l.candidates
