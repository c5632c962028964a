use Rattle.std.proofs.Common.{◌≡◌, ◌<◌, ◌^◌, drop}
use Rattle.rtc_demo.specs.DemoCounts.{last_counts, no_rows}
use Rattle.rtc_demo.proofs.last_rows.last_counts.Given as goal

-- the steps to come and their replies leave the counts of all, and channels are few enough
abbrev pub invariant-loop-number : goal.invariant-loop-number
invariant-loop-number g l =
    (last_counts l.at l.counts (drop l.number l.steps) (drop l.number l.replies) ≡ last_counts l.at no_rows l.steps l.replies) × (l.counts.channels < 2 ^ 63)
