use Rattle.std.proofs.Common.{◌∙◌}
use Rattle.rtc_wire_text.specs.Fronts.{is_blank}
use Rattle.rtc_wire_text.proofs.FrontLemmas.{from_first_done}
use Rattle.rtc_wire_text.proofs.front.without_blanks.Goals as goal

pub returns : goal.returns
returns c = from_first_done is_blank c.loop-next.rest.now c.in_default.ensures ∙ c.loop-next.invariant.0
