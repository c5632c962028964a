use Rattle.std.proofs.Common.{◌≡◌, ◌++◌, map}
use Rattle.std.specs.BTreeMap.{values}
use Rattle.rtc_parts.specs.declared.stats_event.StatsEvent.TheVariants.{MediaEgress}
use Rattle.rtc_config.proofs.stats.tell_egress.Given as goal

abbrev pub invariant-loop-report : goal.invariant-loop-report
invariant-loop-report l =
    (goal.iterator-loop-report).can_next l.report-iterator
    × (goal.iterator-loop-report).is_finite l.report-iterator
    × (l.reports.items ++ map MediaEgress l.report-iterator ≡ l.fn.reports.items ++ map MediaEgress (values l.egress))
