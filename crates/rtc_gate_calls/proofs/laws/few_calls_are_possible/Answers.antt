use Rattle.rtc_gate_calls.proofs.SizeLemmas.{few_are_possible}
use Rattle.rtc_gate_calls.proofs.laws.few_calls_are_possible.Goals as goal

pub returns : goal.returns
returns c = few_are_possible
