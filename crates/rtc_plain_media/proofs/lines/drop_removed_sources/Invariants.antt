use Rattle.std.proofs.Common.{◌≡◌, ◌-◌, ◌≤◌, ℕ}
use Rattle.indexmap.specs.IndexMap.{spare}
use Rattle.rtc_parts.specs.MediaUpdates.{removed_by}
use Rattle.rtc_plain_media.specs.SourceCounts.{count_for, gone_count}
use Rattle.rtc_plain_media.proofs.lines.drop_removed_sources.Given as goal

abbrev pub invariant-loop-key : goal.invariant-loop-key
invariant-loop-key l =
    (goal.iterator-loop-key).can_next l.key-iterator
    × (goal.iterator-loop-key).is_finite l.key-iterator
    × ((n : ℕ) → count_for l.counts n - gone_count n (removed_by l.updates.items) l.key-iterator ≡ count_for l.initial.counts n - gone_count n (removed_by l.updates.items) l.lines.entries)
    × (spare l.initial.counts ≤ spare l.counts)
