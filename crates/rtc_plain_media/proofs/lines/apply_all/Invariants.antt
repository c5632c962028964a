use Rattle.std.proofs.Common.{◌≡◌, ◌≤◌, ◌+◌, ◌++◌, ℕ}
use Rattle.std.specs.VecDeque.{deque_len, deque_capacity}
use Rattle.indexmap.specs.IndexMap.{spare}
use Rattle.rtc_plain_media.specs.Lines.{lines_after, events_after}
use Rattle.rtc_plain_media.specs.SourceCounts.{count_for, updates_numbers, CountsLines}
use Rattle.rtc_plain_media.proofs.lines.apply_all.Given as goal

abbrev pub invariant-loop-update : goal.invariant-loop-update
invariant-loop-update l = record {
  lines : lines_after l.pending.items l.lines.entries ≡ lines_after l.initial.pending.items l.initial.lines.entries;
  events : l.events.items ++ events_after l.pending.items l.lines.entries ≡ l.initial.events.items ++ events_after l.initial.pending.items l.initial.lines.entries;
  lines_room : deque_len l.pending ≤ spare l.lines;
  events_room : deque_len l.events + deque_len l.pending ≤ deque_capacity l.events;
  counts_room : updates_numbers l.pending.items ≤ spare l.counts;
  counts : CountsLines l.counts l.lines.entries;
  most : (n : ℕ) → count_for l.counts n + updates_numbers l.pending.items ≤ count_for l.initial.counts n + updates_numbers l.initial.pending.items;
}

abbrev pub decreases-loop-update : goal.decreases-loop-update
decreases-loop-update l = deque_len l.pending
