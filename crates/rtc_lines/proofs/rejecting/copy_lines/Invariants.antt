use Rattle.std.proofs.Common.{◌≡◌, ◌++◌, drop, map}
use Rattle.rtc_lines.specs.Rejecting as spec
use Rattle.rtc_lines.proofs.rejecting.copy_lines.Given as goal

abbrev pub invariant-loop-line : goal.invariant-loop-line
invariant-loop-line l =
    l.made ++ map (spec.line_rejecting l.mids) (drop l.line-index l.lines) ≡ map (spec.line_rejecting l.mids) l.lines
