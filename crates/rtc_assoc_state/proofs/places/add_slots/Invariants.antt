use Rattle.std.proofs.Common.{◌≡◌, ◌+◌, ◌-◌, length, get_or, ℕ}
use Rattle.rtc_assoc_state.proofs.places.add_slots.Given as goal

abbrev pub invariant-slots : goal.invariant-slots
invariant-slots l = (k : ℕ) → get_or l.slots.items k 0 ≡ get_or l.fn.slots.items k 0

abbrev pub decreases-slots : goal.decreases-slots
decreases-slots l = l.at + 1 - length l.slots.items
