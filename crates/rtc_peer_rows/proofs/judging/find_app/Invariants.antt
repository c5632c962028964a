use Rattle.std.proofs.Common.{◌≡◌, drop}
use Rattle.std.specs.Prelude.{find}
use Rattle.rtc_peer_rows.specs.Table.{is_app}
use Rattle.rtc_peer_rows.proofs.judging.find_app.Given as goal

abbrev pub invariant-loop-row : goal.invariant-loop-row
invariant-loop-row l = find is_app (drop l.row-index l.rows) ≡ find is_app l.rows
