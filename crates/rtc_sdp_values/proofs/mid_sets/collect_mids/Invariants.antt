use Rattle.std.proofs.Common.{◌≤◌, drop, length}
use Rattle.rtc_sdp_values.specs.MidSets.{HasMids}
use Rattle.rtc_sdp_values.proofs.mid_sets.collect_mids.Given as goal

abbrev pub invariant-loop-at : goal.invariant-loop-at
invariant-loop-at l = record {
  held : HasMids l.found (drop l.at l.mids);
  within : l.at ≤ length l.mids;
}

abbrev pub decreases-loop-at : goal.decreases-loop-at
decreases-loop-at l = l.at
