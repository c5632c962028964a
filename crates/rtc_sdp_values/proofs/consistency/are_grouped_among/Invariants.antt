use Rattle.std.proofs.Common.{◌≡◌, drop}
use Rattle.rtc_sdp_values.specs.Sdp as spec
use Rattle.rtc_sdp_values.proofs.consistency.are_grouped_among.Given as goal

abbrev pub invariant-loop-line : goal.invariant-loop-line
invariant-loop-line l = spec.are_grouped l.fn.group (drop l.line-index l.lines) ≡ spec.are_grouped l.fn.group l.lines
