use Rattle.std.proofs.Common.{◌≡◌, ◌++◌, drop}
use Rattle.rtc_lines.specs.OfferedFormats as spec
use Rattle.rtc_lines.proofs.offered_formats.copy_lines.Given as goal

abbrev pub invariant-loop-line : goal.invariant-loop-line
invariant-loop-line l =
    l.made ++ spec.lines_with_offered (drop l.line-index l.lines) l.rest ≡ spec.lines_with_offered l.lines l.offered
