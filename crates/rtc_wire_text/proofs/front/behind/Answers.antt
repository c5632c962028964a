use Rattle.rtc_wire_text.proofs.FrontLemmas.{strip_prefix_is_behind}
use Rattle.rtc_wire_text.proofs.front.behind.Goals as goal

pub returns : goal.returns
returns c = strip_prefix_is_behind c.args.byte c.args.text.now c.strip_prefix.result c.strip_prefix.ensures.cases c.requires
