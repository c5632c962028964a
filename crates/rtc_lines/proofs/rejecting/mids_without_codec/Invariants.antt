use Rattle.std.proofs.Common.{◌≡◌, ◌++◌, drop}
use Rattle.rtc_lines.specs.Rejecting as spec
use Rattle.rtc_lines.proofs.rejecting.mids_without_codec.Given as goal

abbrev pub invariant-loop-line : goal.invariant-loop-line
invariant-loop-line l =
    l.mids.items ++ spec.mids_without_codec l.rows l.groups (drop l.line-index l.lines)
    ≡ spec.mids_without_codec l.rows l.groups l.lines
