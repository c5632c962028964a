use Rattle.rtc_gate_calls.proofs.DueLaw.{delivered}
use Rattle.rtc_gate_calls.proofs.laws.due_is_delivered.Goals as goal

pub returns : goal.returns
returns c = delivered
