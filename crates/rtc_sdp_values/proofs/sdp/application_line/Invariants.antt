use Rattle.std.proofs.Common.{◌≡◌, drop}
use Rattle.rtc_sdp_values.specs.Sdp as spec
use Rattle.rtc_sdp_values.proofs.sdp.application_line.Given as goal

abbrev pub invariant-loop-line : goal.invariant-loop-line
invariant-loop-line l = spec.application_line (drop l.line-index l.lines) ≡ spec.application_line l.lines
