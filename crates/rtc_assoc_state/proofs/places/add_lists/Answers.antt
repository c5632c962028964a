use Rattle.std.proofs.Common.{◌∙◌}
use Rattle.rtc_assoc_state.proofs.PlaceLemmas.{list_pushed}
use Rattle.rtc_assoc_state.proofs.places.add_lists.Goals as goal

pub lists-preserved : goal.lists-preserved
lists-preserved c = λ list k. rw (c.push_reserved.ensures.items, c.reserve.ensures.items) (list_pushed c.lists.lists.items _ list k c.new.ensures.items ∙ c.lists.invariant list k)
