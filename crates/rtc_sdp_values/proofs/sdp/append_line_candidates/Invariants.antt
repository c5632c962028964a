use Rattle.std.proofs.Common.{◌≡◌, ◌++◌, drop}
use Rattle.std.specs.List.{flat_map}
use Rattle.rtc_sdp_values.proofs.sdp.append_line_candidates.Given as goal

abbrev pub invariant-loop-line : goal.invariant-loop-line
invariant-loop-line l = l.found.items ++ flat_map (λ line. line.candidates) (drop l.line-index l.lines) ≡ l.fn.found.items ++ flat_map (λ line. line.candidates) l.lines
