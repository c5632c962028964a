use Rattle.rtc_gate_calls.proofs.SplitLemmas.{cut_anywhere}
use Rattle.rtc_gate_calls.proofs.cutting.frames_wherever_cut.Goals as goal

pub returns : goal.returns
returns c = λ front later. cut_anywhere front later
