use Rattle.std.proofs.Common.{◌≡◌, ◌++◌, drop}
use Rattle.rtc_lines.specs.Rejecting as spec
use Rattle.rtc_lines.proofs.rejecting.copy_group.Given as goal

abbrev pub invariant-loop-mid : goal.invariant-loop-mid
invariant-loop-mid l =
    l.made ++ spec.group_rejecting l.mids (drop l.mid-index l.group) ≡ spec.group_rejecting l.mids l.group
