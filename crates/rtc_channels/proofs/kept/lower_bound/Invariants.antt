use Rattle.std.proofs.Common.{◌<◌, ◌≤◌, ◌-◌, length, get_or, ℕ, Option}
use Rattle.rtc_channels.proofs.kept.lower_bound.Given as goal

abbrev pub invariant-search : goal.invariant-search
invariant-search l = record {
  within : l.low ≤ l.high;
  last : l.high ≤ length l.rows;
  before : (k : ℕ) (d : ℕ × Option ℕ) → k < l.low → (get_or l.rows k d).0 < l.id;
  behind : (k : ℕ) (d : ℕ × Option ℕ) → l.high ≤ k → k < length l.rows → l.id ≤ (get_or l.rows k d).0;
}

abbrev pub decreases-search : goal.decreases-search
decreases-search l = l.high - l.low
