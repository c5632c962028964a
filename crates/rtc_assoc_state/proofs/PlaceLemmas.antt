-- Places of streams in lists of slots.
use Rattle.std.proofs.Common.{ℕ, zero, suc, ◌≡◌, ◌+◌, ◌<◌, ◌≤◌, ◌==◌, ◌/◌, ◌%◌, true, false, cond, inl, inr, Some, List, [], ◌∷◌, ◌++◌, length, get_or, set, refl, sym, ap, ◌∙◌, arith}
use Rattle.std.specs.Prelude.{nat_lt}
use Rattle.std.proofs.lemmas.Bool.Decides.{eqb_tells, nat_tests}
use Rattle.rtc_assoc_state.specs.declared.places.Slots.{Slots}
use Rattle.rtc_assoc_state.specs.Places.{place_in_slot, slot_in, has_slot}

-- ---- slots of one list

pub slot_past : (slots : List ℕ) (at : ℕ) → length slots ≤ at → get_or slots at 0 ≡ 0
slot_past [] at past = refl
slot_past (slot ∷ slots) zero past = absurd (omega (arith, past))
slot_past (slot ∷ slots) (suc at) past = slot_past slots at (omega (arith, past))

pub slot_pushed : (slots : List ℕ) (at : ℕ) → get_or (slots ++ 0 ∷ []) at 0 ≡ get_or slots at 0
slot_pushed [] zero = refl
slot_pushed [] (suc at) = refl
slot_pushed (slot ∷ slots) zero = refl
slot_pushed (slot ∷ slots) (suc at) = slot_pushed slots at

-- tests of numbers
same_true : (a b : ℕ) → a ≡ b → (a == b) ≡ true
same_true a b is = elim (eqb_tells a b) [ inl h ↦ h.0 | inr h ↦ absurd (h.1 is) ]

other_false : (a b : ℕ) → (a ≡ b → ⊥) → (a == b) ≡ false
other_false a b apart = elim (eqb_tells a b) [ inl h ↦ absurd (apart h.1) | inr h ↦ h.0 ]

same_suc : (a b : ℕ) → (suc a == suc b) ≡ (a == b)
same_suc a b = elim (eqb_tells a b) [
  | inl h ↦ same_true (suc a) (suc b) (ap (λ n. suc n) h.1) ∙ sym h.0
  | inr h ↦ other_false (suc a) (suc b) (λ e. h.1 (omega (arith, e))) ∙ sym h.0
]

pub slot_put : (slots : List ℕ) (at k v : ℕ) → at < length slots → get_or (set slots at v) k 0 ≡ cond (at == k) v (get_or slots k 0)
slot_put [] at k v within = absurd (omega (arith, within))
slot_put (slot ∷ slots) zero zero v within = refl
slot_put (slot ∷ slots) zero (suc k) v within = rw (other_false 0 (suc k) (λ e. omega (arith, e))) refl
slot_put (slot ∷ slots) (suc at) zero v within = rw (other_false (suc at) 0 (λ e. omega (arith, e))) refl
slot_put (slot ∷ slots) (suc at) (suc k) v within = rw (same_suc at k) (slot_put slots at k v (omega (arith, within)))

-- ---- lists of slots

pub list_past : (lists : List Slots) (list at : ℕ) → length lists ≤ list → slot_in lists list at ≡ 0
list_past [] list at past = refl
list_past (slots ∷ lists) zero at past = absurd (omega (arith, past))
list_past (slots ∷ lists) (suc list) at past = list_past lists list at (omega (arith, past))

pub list_here : (lists : List Slots) (list at : ℕ) (slots : Slots) → list < length lists → slots ≡ get_or lists list slots → slot_in lists list at ≡ get_or slots.slots.items at 0
list_here [] list at slots within is = absurd (omega (arith, within))
list_here (first ∷ lists) zero at slots within is = ap (λ (s : Slots). get_or s.slots.items at 0) (sym is)
list_here (first ∷ lists) (suc list) at slots within is = list_here lists list at slots (omega (arith, within)) is

pub list_pushed : (lists : List Slots) (slots : Slots) (list at : ℕ) → slots.slots.items ≡ [] → slot_in (lists ++ slots ∷ []) list at ≡ slot_in lists list at
list_pushed [] slots zero at none = ap (λ (l : List ℕ). get_or l at 0) none
list_pushed [] slots (suc list) at none = refl
list_pushed (first ∷ lists) slots zero at none = refl
list_pushed (first ∷ lists) slots (suc list) at none = list_pushed lists slots list at none

-- a list with the same slots in place of another
pub list_same : (lists : List Slots) (list : ℕ) (old new : Slots) → old ≡ get_or lists list old → ((k : ℕ) → get_or new.slots.items k 0 ≡ get_or old.slots.items k 0)
    → (l k : ℕ) → slot_in (set lists list new) l k ≡ slot_in lists l k
list_same [] list old new is same l k = refl
list_same (first ∷ lists) zero old new is same zero k = same k ∙ ap (λ (s : Slots). get_or s.slots.items k 0) is
list_same (first ∷ lists) zero old new is same (suc l) k = refl
list_same (first ∷ lists) (suc list) old new is same zero k = refl
list_same (first ∷ lists) (suc list) old new is same (suc l) k = list_same lists list old new is same l k

pub list_room : (lists : List Slots) (list at : ℕ) (new : Slots) → list < length lists → at < length new.slots.items → has_slot (set lists list new) list at ≡ true
list_room [] list at new within room = absurd (omega (arith, within))
list_room (first ∷ lists) zero at new within room = grind (arith, nat_tests, room)
list_room (first ∷ lists) (suc list) at new within room = list_room lists list at new (omega (arith, within)) room

-- where there is a slot, there is its list
pub room_list : (lists : List Slots) (list at : ℕ) → has_slot lists list at ≡ true → list < length lists
room_list [] list at room = absurd cc
room_list (first ∷ lists) zero at room = omega arith
room_list (first ∷ lists) (suc list) at room = let rest = room_list lists list at room in omega (arith, rest)

pub room_slot : (lists : List Slots) (list at : ℕ) (slots : Slots) → has_slot lists list at ≡ true → slots ≡ get_or lists list slots → at < length slots.slots.items
room_slot [] list at slots room is = absurd cc
room_slot (first ∷ lists) zero at slots room is = let room' : nat_lt at (length slots.slots.items) ≡ true = ap (λ (s : Slots). nat_lt at (length s.slots.items)) is ∙ room in grind (arith, nat_tests, room')
room_slot (first ∷ lists) (suc list) at slots room is = room_slot lists list at slots room is

-- a slot that is put
pub list_put : (lists : List Slots) (list at v : ℕ) (old new : Slots) → list < length lists → old ≡ get_or lists list old → at < length old.slots.items
    → new.slots.items ≡ set old.slots.items at v
    → (l k : ℕ) → slot_in (set lists list new) l k ≡ cond (list == l) (cond (at == k) v (slot_in lists l k)) (slot_in lists l k)
list_put [] list at v old new within is room put l k = absurd (omega (arith, within))
list_put (first ∷ lists) zero at v old new within is room put zero k =
    ap (λ (s : List ℕ). get_or s k 0) put
    ∙ (slot_put old.slots.items at k v room ∙ ap (λ (s : Slots). cond (at == k) v (get_or s.slots.items k 0)) is)
list_put (first ∷ lists) zero at v old new within is room put (suc l) k = rw (other_false 0 (suc l) (λ e. omega (arith, e))) refl
list_put (first ∷ lists) (suc list) at v old new within is room put zero k = rw (other_false (suc list) 0 (λ e. omega (arith, e))) refl
list_put (first ∷ lists) (suc list) at v old new within is room put (suc l) k = rw (same_suc list l) (list_put lists list at v old new (omega (arith, within)) is room put l k)

-- ---- ids

-- ids with the same bytes are one
pub same_bytes : (id q : ℕ) → id / 256 ≡ q / 256 → id % 256 ≡ q % 256 → id ≡ q
same_bytes id q upper lower = omega (arith, upper, lower)

-- what is put under an id is found there alone
pub place_put : (old new : List Slots) (id place : ℕ)
    → ((l k : ℕ) → slot_in new l k ≡ cond (id / 256 == l) (cond (id % 256 == k) (place + 1) (slot_in old l k)) (slot_in old l k))
    → (q : ℕ) → place_in_slot (slot_in new (q / 256) (q % 256)) ≡ cond (id == q) (Some place) (place_in_slot (slot_in old (q / 256) (q % 256)))
place_put old new id place put q =
    elim (eqb_tells id q) [
      | inl own ↦
          let upper : (id / 256 == q / 256) ≡ true = same_true (id / 256) (q / 256) (ap (λ n. n / 256) own.1) in
          let lower : (id % 256 == q % 256) ≡ true = same_true (id % 256) (q % 256) (ap (λ n. n % 256) own.1) in
          ap place_in_slot (put (q / 256) (q % 256) ∙ here upper lower) ∙ sym (ap (λ b. cond b (Some place) (place_in_slot (slot_in old (q / 256) (q % 256)))) own.0)
      | inr other ↦
          ap place_in_slot (put (q / 256) (q % 256) ∙ elsewhere other.1) ∙ sym (ap (λ b. cond b (Some place) (place_in_slot (slot_in old (q / 256) (q % 256)))) other.0)
    ]
  where
    more : place + 1 ≡ suc place
    more = omega arith

    here : (id / 256 == q / 256) ≡ true → (id % 256 == q % 256) ≡ true
        → cond (id / 256 == q / 256) (cond (id % 256 == q % 256) (place + 1) (slot_in old (q / 256) (q % 256))) (slot_in old (q / 256) (q % 256))
        ≡ suc place
    here upper lower = rw (upper, lower) more

    elsewhere : (id ≡ q → ⊥)
        → cond (id / 256 == q / 256) (cond (id % 256 == q % 256) (place + 1) (slot_in old (q / 256) (q % 256))) (slot_in old (q / 256) (q % 256))
        ≡ slot_in old (q / 256) (q % 256)
    elsewhere never = elim (eqb_tells (id / 256) (q / 256)) [
      | inl upper ↦ elim (eqb_tells (id % 256) (q % 256)) [
        | inl lower ↦ absurd (never (same_bytes id q upper.1 lower.1))
        | inr lower ↦ rw (upper.0, lower.0) refl
      ]
      | inr upper ↦ rw upper.0 refl
    ]
