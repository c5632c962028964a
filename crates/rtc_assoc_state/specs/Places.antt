-- Places of streams, by the two bytes of their ids.
use Rattle.std.specs.Prelude.{ℕ, zero, suc, ◌≡◌, ◌/◌, ◌%◌, nat_lt, Bool, true, false, List, [], ◌∷◌, length, slice_index_or}
use Rattle.std.specs.Prelude.{Option, Some, None}
use Rattle.rtc_assoc_state.specs.declared.places.Slots.{Slots}
use Rattle.rtc_assoc_state.specs.declared.places.Places.{Places}

-- a slot has one more than a place, or 0 where there is none
abbrev pub place_in_slot : ℕ → Option ℕ
place_in_slot zero = None
place_in_slot (suc place) = Some place

-- what a slot of a list has, where there are both
abbrev pub slot_in : List Slots → (list at : ℕ) → ℕ
slot_in [] list at = 0
slot_in (slots ∷ lists) zero at = slice_index_or slots.slots.items at 0
slot_in (slots ∷ lists) (suc list) at = slot_in lists list at

-- the place of a stream
abbrev pub place_at : Places → ℕ → Option ℕ
place_at places id = place_in_slot (slot_in places.lists.items (id / 256) (id % 256))

-- whether a list has a slot
abbrev pub has_slot : List Slots → (list at : ℕ) → Bool
has_slot [] list at = false
has_slot (slots ∷ lists) zero at = nat_lt at (length slots.slots.items)
has_slot (slots ∷ lists) (suc list) at = has_slot lists list at

-- room for the place of a stream
abbrev pub HasPlaceRoom : ℕ → Places → Type 0
HasPlaceRoom id places = has_slot places.lists.items (id / 256) (id % 256) ≡ true
