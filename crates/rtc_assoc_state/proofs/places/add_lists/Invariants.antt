use Rattle.std.proofs.Common.{◌≡◌, ◌+◌, ◌-◌, length, ℕ}
use Rattle.rtc_assoc_state.specs.Places.{slot_in}
use Rattle.rtc_assoc_state.proofs.places.add_lists.Given as goal

abbrev pub invariant-lists : goal.invariant-lists
invariant-lists l = (list k : ℕ) → slot_in l.lists.items list k ≡ slot_in l.fn.lists.items list k

abbrev pub decreases-lists : goal.decreases-lists
decreases-lists l = l.list + 1 - length l.lists.items
