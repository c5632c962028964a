use Rattle.std.proofs.Common.{◌≤◌, ◌-◌}
use Rattle.rtc_sctp.proofs.RetryLemmas.{NoneBelow}
use Rattle.rtc_sctp.proofs.timing.any_retrying.Given as goal

abbrev pub invariant-streams : goal.invariant-streams
invariant-streams l = record {
  within : l.from ≤ 65536;
  none : NoneBelow l.from l.fn.entries;
}

abbrev pub decreases-streams : goal.decreases-streams
decreases-streams l = 65536 - l.from
