use Rattle.std.proofs.Common.{◌≡◌, ◌++◌, drop}
use Rattle.rtc_change.specs.TableAfter.{removed_mids}
use Rattle.rtc_change.proofs.table_after.find_removed.Given as goal

abbrev pub invariant-loop-place : goal.invariant-loop-place
invariant-loop-place l = l.mids.items ++ removed_mids l.rows l.place (drop l.place l.lines) ≡ removed_mids l.rows 0 l.lines
