use Rattle.std.proofs.Common.{◌∙◌}
use Rattle.rtc_assoc_state.proofs.PlaceLemmas.{slot_pushed}
use Rattle.rtc_assoc_state.proofs.places.add_slots.Goals as goal

pub slots-preserved : goal.slots-preserved
slots-preserved c = λ k. rw (c.push_reserved.ensures.items, c.reserve.ensures.items) (slot_pushed c.slots.slots.items k ∙ c.slots.invariant k)
