use Rattle.std.proofs.Common.{◌≡◌, ◌++◌, drop, map}
use Rattle.rtc_lines.specs.Rejecting as spec
use Rattle.rtc_lines.proofs.rejecting.copy_groups.Given as goal

abbrev pub invariant-loop-group : goal.invariant-loop-group
invariant-loop-group l =
    l.made ++ map (spec.group_rejecting l.mids) (drop l.group-index l.groups) ≡ map (spec.group_rejecting l.mids) l.groups
