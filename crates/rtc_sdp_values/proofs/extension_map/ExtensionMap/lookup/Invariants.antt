use Rattle.std.proofs.Common.{◌≡◌, drop}
use Rattle.rtc_sdp_values.specs.ExtensionMap as spec
use Rattle.rtc_sdp_values.proofs.extension_map.ExtensionMap.lookup.Given as goal

abbrev pub invariant-loop-row : goal.invariant-loop-row
invariant-loop-row l = spec.lookup l.id (drop l.row-index l.row-items) ≡ spec.lookup l.id l.self.rows
