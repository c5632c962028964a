use Rattle.std.proofs.Common.{◌∙◌}
use Rattle.rtc_wire_text.specs.Fronts.{is_byte}
use Rattle.rtc_wire_text.proofs.FrontLemmas.{from_first_done}
use Rattle.rtc_wire_text.proofs.front.without_first.Goals as goal

pub returns : goal.returns
returns c = from_first_done (is_byte c.args.byte) c.loop-next.rest.now c.in_default.ensures ∙ c.loop-next.invariant.0
