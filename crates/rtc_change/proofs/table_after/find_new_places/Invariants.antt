use Rattle.std.proofs.Common.{◌≡◌, ◌++◌, ◌≤◌, drop, length}
use Rattle.rtc_change.specs.TableAfter.{new_places}
use Rattle.rtc_change.proofs.table_after.find_new_places.Given as goal

abbrev pub invariant-loop-place : goal.invariant-loop-place
invariant-loop-place l = record {
  places : l.places.items ++ new_places l.rows l.place (drop l.place l.lines) ≡ new_places l.rows 0 l.lines;
  count : length l.places.items ≤ l.place;
}
