use Rattle.std.proofs.Common.{◌≡◌, ◌≤◌, ◌-◌}
use Rattle.rtc_sctp.specs.Calls.{buffered_sum}
use Rattle.rtc_sctp.proofs.SumLemmas.{sum_from}
use Rattle.rtc_sctp.proofs.buffered.left_of.Given as goal

abbrev pub invariant-streams : goal.invariant-streams
invariant-streams g l = record {
  within : l.from ≤ 65536;
  left : l.left - sum_from g.S.Association.association l.fn.association l.from l.fn.entries ≡ l.fn.max - buffered_sum g.S.Association.association l.fn.association l.fn.entries;
}

abbrev pub decreases-streams : goal.decreases-streams
decreases-streams g l = 65536 - l.from
