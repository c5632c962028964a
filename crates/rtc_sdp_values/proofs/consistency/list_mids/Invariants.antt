use Rattle.std.proofs.Common.{◌≡◌, ◌++◌, drop}
use Rattle.rtc_sdp_values.specs.Sdp as spec
use Rattle.rtc_sdp_values.proofs.consistency.list_mids.Given as goal

abbrev pub invariant-loop-line : goal.invariant-loop-line
invariant-loop-line l = l.mids.items ++ spec.mids_of (drop l.line-index l.lines) ≡ spec.mids_of l.lines
