use Rattle.std.proofs.Common.{◌≡◌, ◌++◌, drop}
use Rattle.rtc_change.specs.TableAfter.{rows_after}
use Rattle.rtc_change.proofs.table_after.list_rows_after.Given as goal

abbrev pub invariant-loop-place : goal.invariant-loop-place
invariant-loop-place l = l.after.items ++ rows_after l.rows l.offer l.place (drop l.place l.lines) ≡ rows_after l.rows l.offer 0 l.lines
