use Rattle.std.proofs.Common.{◌≡◌, drop}
use Rattle.std.specs.Prelude.{find}
use Rattle.rtc_peer_rows.specs.Table.{is_of}
use Rattle.rtc_peer_rows.proofs.judging.find_row.Given as goal

abbrev pub invariant-loop-row : goal.invariant-loop-row
invariant-loop-row l = find (is_of l.mid) (drop l.row-index l.rows) ≡ find (is_of l.mid) l.rows
