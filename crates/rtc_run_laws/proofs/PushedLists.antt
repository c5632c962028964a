-- Lists with one more element, and with one element changed.
use Rattle.std.proofs.Common.{◌≡◌, ℕ, ◌==◌, List, [], ◌∷◌, ◌++◌, map, length, true, false, Some, None, refl, ◌∙◌, ap, arith, zero, suc, ◌⊎◌, inl, inr}
use Rattle.std.specs.Prelude.{slice_get, slice_set}

-- a place in a list with one more is one of the list, or the last
pub push_places : {A : Type 0} (xs : List A) (x : A) (t : ℕ)
    → (((length xs == t) ≡ false) × (slice_get (xs ++ x ∷ []) t ≡ slice_get xs t))
    ⊎ ((t ≡ length xs) × ((length xs == t) ≡ true) × (slice_get (xs ++ x ∷ []) t ≡ Some x))
push_places [] x zero = inr (refl, refl, refl)
push_places [] x (suc t) = inl (grind arith, refl)
push_places (y ∷ xs) x zero = inl (grind arith, refl)
push_places (y ∷ xs) x (suc t) = elim (push_places xs x t) [ inl h ↦ inl (grind (arith, h.0), h.1) | inr h ↦ inr (ap suc h.0, grind (arith, h.1), h.2) ]

-- a place in a list with one element changed is another one, or that
pub set_places : {A : Type 0} (xs : List A) (k : ℕ) (v w : A) (t : ℕ) → slice_get xs k ≡ Some w
    → (((k == t) ≡ false) × (slice_get (slice_set xs k v) t ≡ slice_get xs t))
    ⊎ ((t ≡ k) × ((k == t) ≡ true) × (slice_get (slice_set xs k v) t ≡ Some v))
set_places [] k v w t there = absurd (let e : None ≡ Some w = there in cc)
set_places (x ∷ xs) zero v w zero there = inr (refl, refl, refl)
set_places (x ∷ xs) zero v w (suc t) there = inl (grind arith, refl)
set_places (x ∷ xs) (suc k) v w zero there = inl (grind arith, refl)
set_places (x ∷ xs) (suc k) v w (suc t) there =
    elim (set_places xs k v w t there) [ inl h ↦ inl (grind (arith, h.0), h.1) | inr h ↦ inr (ap suc h.0, grind (arith, h.1), h.2) ]

-- an element changed to one of the same image
pub map-slice_set : {A B : Type 0} (f : A → B) (xs : List A) (k : ℕ) (v w : A) → slice_get xs k ≡ Some w → f v ≡ f w → map f (slice_set xs k v) ≡ map f xs
map-slice_set f [] k v w there same = refl
map-slice_set f (x ∷ xs) zero v w there same = let e : Some x ≡ Some w = there in ap (λ y. y ∷ map f xs) (same ∙ ap f (let g : w ≡ x = cc in g))
map-slice_set f (x ∷ xs) (suc k) v w there same = ap (λ ys. f x ∷ ys) (map-slice_set f xs k v w there same)
