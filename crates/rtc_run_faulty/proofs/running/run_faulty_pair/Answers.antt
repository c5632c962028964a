use Rattle.rtc_run_faulty.proofs.ListedCauses.{told_in_runs}
use Rattle.rtc_run_faulty.proofs.running.run_faulty_pair.Goals as goal

pub returns-clause-faults : goal.returns-clause-faults
returns-clause-faults c = told_in_runs c.args.pair.now c.run_pair.new.pair c.args.steps.now c.run_pair.result
