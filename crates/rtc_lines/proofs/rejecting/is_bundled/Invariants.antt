use Rattle.std.proofs.Common.{◌≡◌, drop}
use Rattle.rtc_sdp_values.specs.Mids as values
use Rattle.rtc_lines.proofs.rejecting.is_bundled.Given as goal

abbrev pub invariant-loop-group : goal.invariant-loop-group
invariant-loop-group l =
    values.is_bundled (drop l.group-index l.groups) l.mid ≡ values.is_bundled l.groups l.mid
