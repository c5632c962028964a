use Rattle.std.proofs.Common.{◌≡◌, ◌+◌, ◌*◌, ◌≤◌, ℕ, drop}
use Rattle.indexmap.specs.IndexMap.{spare}
use Rattle.rtc_plain_media.specs.SourceCounts.{count_for, sources_count}
use Rattle.rtc_plain_media.proofs.source_counts.add_sources.Given as goal

abbrev pub invariant-loop-source : goal.invariant-loop-source
invariant-loop-source l = record {
  counts : (n : ℕ) → count_for l.counts n + sources_count n (drop l.source-index l.sources) ≡ count_for l.initial.counts n + sources_count n l.sources;
  most : (n : ℕ) → count_for l.counts n ≤ count_for l.initial.counts n + 2 * l.source-index;
  room : spare l.initial.counts ≤ spare l.counts + 2 * l.source-index;
}
