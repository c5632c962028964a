use Rattle.std.proofs.Common.{◌≡◌, ◌+◌, ◌≤◌, drop, length}
use Rattle.rtc_change.specs.PendingOffer.{added_mids}
use Rattle.rtc_change.proofs.changes.count_added.Given as goal

abbrev pub invariant-loop-change : goal.invariant-loop-change
invariant-loop-change l =
    record {
      count : l.count + length (added_mids (drop l.change-index l.changes)) ≡ length (added_mids l.changes);
      few : l.count ≤ l.change-index;
    }
