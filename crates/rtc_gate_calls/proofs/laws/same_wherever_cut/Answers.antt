use Rattle.rtc_gate_calls.proofs.CutLaw.{same_gate}
use Rattle.rtc_gate_calls.proofs.laws.same_wherever_cut.Goals as goal

pub returns : goal.returns
returns c = same_gate
