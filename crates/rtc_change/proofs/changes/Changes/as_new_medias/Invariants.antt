use Rattle.std.proofs.Common.{◌≡◌, ◌+◌, ◌++◌, drop, length}
use Rattle.rtc_change.specs.PendingOffer.{added_mids, added_rows}
use Rattle.rtc_change.proofs.changes.Changes.as_new_medias.Given as goal

abbrev pub invariant-loop-change : goal.invariant-loop-change
invariant-loop-change l =
    record {
      rows : l.rows.items ++ added_rows l.place (drop l.change-index l.change-items) ≡ added_rows l.index_start l.change-items;
      place : l.place ≡ l.index_start + length l.rows.items;
      count : length l.rows.items + length (added_mids (drop l.change-index l.change-items)) ≡ length (added_mids l.change-items);
    }
