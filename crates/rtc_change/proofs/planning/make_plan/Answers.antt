use Rattle.rtc_change.proofs.TableAfterLemmas.{table_after_is_table}
use Rattle.rtc_change.proofs.planning.make_plan.Goals as goal

pub returns-clause-table : goal.returns-clause-table
returns-clause-table c =
    rw (c.in_ok-after.ensures) (table_after_is_table c.args.rows.now c.args.offer c.args.lines.now c.requires.table c.requires.allowed c.requires.distinct)
