use Rattle.std.proofs.Common.{◌≡◌, drop}
use Rattle.rtc_lines.specs.Rejecting as spec
use Rattle.rtc_lines.proofs.rejecting.names_mid.Given as goal

abbrev pub invariant-loop-other : goal.invariant-loop-other
invariant-loop-other l =
    spec.names_mid (drop l.other-index l.mids) l.mid ≡ spec.names_mid l.mids l.mid
