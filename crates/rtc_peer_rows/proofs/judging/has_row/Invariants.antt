use Rattle.std.proofs.Common.{◌≡◌, drop}
use Rattle.rtc_peer_rows.specs.Table.{has_mid}
use Rattle.rtc_peer_rows.proofs.judging.has_row.Given as goal

abbrev pub invariant-loop-row : goal.invariant-loop-row
invariant-loop-row l = has_mid l.mid (drop l.row-index l.rows) ≡ has_mid l.mid l.rows
