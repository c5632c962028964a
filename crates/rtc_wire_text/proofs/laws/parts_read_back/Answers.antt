use Rattle.rtc_wire_text.proofs.CutLemmas.{parts-after_each}
use Rattle.rtc_wire_text.proofs.laws.parts_read_back.Goals as goal

pub returns : goal.returns
returns c = parts-after_each
