use Rattle.std.proofs.Common.{◌≡◌, ◌≤◌, take, length, vec_capacity}
use Rattle.rtc_run_steps.proofs.replying.fill_lines.Given as goal

abbrev pub invariant-loop-row : goal.invariant-loop-row
invariant-loop-row l =
    record {
      filled : l.room.items ≡ take l.row-index l.rows;
      room : length l.rows ≤ vec_capacity l.room;
    }
