use Rattle.std.proofs.Common.{◌≤◌, drop, length}
use Rattle.rtc_peer_rows.specs.MidIndex.{HasPositions}
use Rattle.rtc_peer_rows.proofs.mid_index.find_positions.Given as goal

abbrev pub invariant-loop-at : goal.invariant-loop-at
invariant-loop-at l = record {
  held : HasPositions l.positions l.at (drop l.at l.rows);
  within : l.at ≤ length l.rows;
}

abbrev pub decreases-loop-at : goal.decreases-loop-at
decreases-loop-at l = l.at
