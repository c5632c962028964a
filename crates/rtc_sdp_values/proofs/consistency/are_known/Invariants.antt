use Rattle.std.proofs.Common.{◌≡◌, drop}
use Rattle.rtc_sdp_values.specs.Sdp as spec
use Rattle.rtc_sdp_values.proofs.consistency.are_known.Given as goal

abbrev pub invariant-loop-mid : goal.invariant-loop-mid
invariant-loop-mid l = spec.are_known (drop l.mid-index l.group) l.lines ≡ spec.are_known l.group l.lines
