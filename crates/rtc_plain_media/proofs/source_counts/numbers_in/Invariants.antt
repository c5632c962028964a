use Rattle.std.proofs.Common.{◌≡◌, ◌+◌, drop}
use Rattle.rtc_plain_media.specs.SourceCounts.{updates_numbers}
use Rattle.rtc_plain_media.proofs.source_counts.numbers_in.Given as goal

abbrev pub invariant-loop-update : goal.invariant-loop-update
invariant-loop-update l = l.numbers + updates_numbers (drop l.update-index l.updates) ≡ updates_numbers l.updates
