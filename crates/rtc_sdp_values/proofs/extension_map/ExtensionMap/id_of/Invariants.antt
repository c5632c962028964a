use Rattle.std.proofs.Common.{◌≡◌, drop}
use Rattle.rtc_sdp_values.specs.ExtensionMap as spec
use Rattle.rtc_sdp_values.proofs.extension_map.ExtensionMap.id_of.Given as goal

abbrev pub invariant-loop-row : goal.invariant-loop-row
invariant-loop-row l = spec.id_of l.extension (drop l.row-index l.row-items) ≡ spec.id_of l.extension l.self.rows
