use Rattle.std.proofs.Common.{◌≡◌, drop}
use Rattle.rtc_sdp_values.specs.Mids.{are_distinct}
use Rattle.rtc_sdp_values.specs.Sdp as spec
use Rattle.rtc_sdp_values.proofs.consistency.are_distinct.Given as goal

abbrev pub invariant-loop-i : goal.invariant-loop-i
invariant-loop-i l = are_distinct (spec.mids_of (drop l.i l.lines)) ≡ are_distinct (spec.mids_of l.lines)
