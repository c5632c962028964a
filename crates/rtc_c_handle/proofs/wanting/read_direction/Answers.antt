use Rattle.std.proofs.Common.{Option, ap, sym, ◌∙◌}
use Rattle.rtc_sdp_values.specs.declared.direction.Direction.{Direction as Way}
use Rattle.rtc_c_handle.specs.WantedReads.{TurnsOne, turned_or}
use Rattle.rtc_c_handle.proofs.wanting.read_direction.Goals as goal

pub returns-in_default-direction_of : goal.returns-in_default-direction_of
returns-in_default-direction_of c = TurnsOne c.in-Some.mid c.in-Some.ensures (ap (λ (dir : Option Way). turned_or c.in-Some.mid dir) (sym c.in_default-direction_of.is ∙ c.direction_of.ensures))

pub returns : goal.returns
returns c = TurnsOne c.in-Some.mid c.in-Some.ensures (ap (λ (dir : Option Way). turned_or c.in-Some.mid dir) (sym c.in-Some-direction_of.is ∙ c.direction_of.ensures))
