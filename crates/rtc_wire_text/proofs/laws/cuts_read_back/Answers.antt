use Rattle.rtc_wire_text.proofs.CutLemmas.{cut-append}
use Rattle.rtc_wire_text.proofs.laws.cuts_read_back.Goals as goal

pub returns : goal.returns
returns c = cut-append
