use Rattle.std.proofs.Common.{◌≡◌, drop}
use Rattle.rtc_sdp_values.specs.Mids.{is_among}
use Rattle.rtc_sdp_values.specs.Sdp as spec
use Rattle.rtc_sdp_values.proofs.consistency.has_line.Given as goal

abbrev pub invariant-loop-line : goal.invariant-loop-line
invariant-loop-line l = is_among (spec.mids_of (drop l.line-index l.lines)) l.mid ≡ is_among (spec.mids_of l.lines) l.mid
