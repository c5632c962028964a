use Rattle.rtc_wire_text.proofs.CutLemmas.{split_once_is_cut}
use Rattle.rtc_wire_text.proofs.cutting.cut.Goals as goal

pub returns : goal.returns
returns c = split_once_is_cut c.args.at c.args.text.now c.split_once.result c.split_once.ensures.cases c.requires
