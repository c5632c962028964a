use Rattle.std.proofs.Common.{◌≡◌, drop}
use Rattle.rtc_lines.specs.Rejecting as spec
use Rattle.rtc_lines.proofs.rejecting.has_live.Given as goal

abbrev pub invariant-loop-line : goal.invariant-loop-line
invariant-loop-line l =
    spec.has_live l.groups (drop l.line-index l.lines) ≡ spec.has_live l.groups l.lines
