use Rattle.std.proofs.Common.{◌≡◌, drop}
use Rattle.rtc_peer.specs.Previews as spec
use Rattle.rtc_peer.proofs.previews.has_live_row.Given as goal

abbrev pub invariant-loop-row : goal.invariant-loop-row
invariant-loop-row l = spec.has_live_row (drop l.row-index l.rows) ≡ spec.has_live_row l.rows
