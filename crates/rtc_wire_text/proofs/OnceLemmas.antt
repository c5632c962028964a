-- Each once, the first of each: what a loop that looks back makes, and what stays where none stands twice.
use Rattle.std.proofs.Common.{◌≡◌, ◌≢◌, ℕ, Bool, true, false, not, ◌||◌, cond, length, take, get_or, ◌+◌, ◌<◌, List, [], ◌∷◌, ◌++◌, refl, sym, ap, ◌∙◌, inl, inr, ◌⊎◌}
use Rattle.std.specs.Prelude.{filter}
use Rattle.std.specs.List.{list_any, AllByRecursion}
use Rattle.std.proofs.lemmas.List.{append-nil, take_more}
use Rattle.std.proofs.lemmas.List.Elements.{filter-append}
use Rattle.std.specs.Str.{bytes_eq}
use Rattle.std.proofs.lemmas.Slice.Eq.{bytes_eq-Decides}
use Rattle.rtc_wire_text.specs.Once.{each_once, IsApart}

-- the test tells which are one
abbrev pub Tells : {A : Type 0} → (A → A → Bool) → Type 0
Tells {A = A} same = (x y : A) → ((same x y ≡ true) × (x ≡ y)) ⊎ ((same x y ≡ false) × (x ≢ y))

abbrev pub among : {A : Type 0} → (A → A → Bool) → A → List A → Bool
among same x xs = list_any (λ y. same y x) xs

-- the list, and x behind it unless it is there
abbrev pub grown : {A : Type 0} → Bool → List A → A → List A
grown there xs x = cond there xs (xs ++ x ∷ [])

module _ {A : Type 0} (same : A → A → Bool) (tells : Tells same) where
  abbrev others : A → List A → List A
  others y xs = filter (λ z. not (same z y)) xs

  itself : (x : A) → same x x ≡ true
  itself x = elim (tells x x) [ inl (t, e) ↦ t | inr (f, ne) ↦ absurd (ne refl) ]

  among_others : (x y : A) (xs : List A) → same y x ≡ false → among same x (others y xs) ≡ among same x xs
  among_others x y [] ne = refl
  among_others x y (z ∷ zs) ne =
      elim (tells z y) [
        | inl (t, e) ↦ let no : same z x ≡ false = rw e ne in rw (t, no) (among_others x y zs ne)
        | inr (f, _) ↦ rw f (ap (λ (b : Bool). same z x || b) (among_others x y zs ne))
      ]

  others_self : (y : A) (xs : List A) → others y (xs ++ y ∷ []) ≡ others y xs
  others_self y xs =
      let none : others y (y ∷ []) ≡ [] = rw (itself y) refl in
      filter-append (λ z. not (same z y)) xs (y ∷ []) ∙ ap (λ (l : List A). others y xs ++ l) none ∙ append-nil (others y xs)

  others_other : (x y : A) (xs : List A) → same x y ≡ false → others y (xs ++ x ∷ []) ≡ others y xs ++ x ∷ []
  others_other x y xs ne =
      let one : others y (x ∷ []) ≡ x ∷ [] = rw ne refl in
      filter-append (λ z. not (same z y)) xs (x ∷ []) ∙ ap (λ (l : List A). others y xs ++ l) one

  grown_same : (y : A) (l : List A) (b : Bool) → y ∷ others y (grown b l y) ≡ y ∷ others y l
  grown_same y l true = refl
  grown_same y l false = ap (λ (m : List A). y ∷ m) (others_self y l)

  grown_other : (x y : A) (l : List A) (b : Bool) → same x y ≡ false → y ∷ others y (grown b l x) ≡ grown b (y ∷ others y l) x
  grown_other x y l true ne = refl
  grown_other x y l false ne = ap (λ (m : List A). y ∷ m) (others_other x y l ne)

  each_once-push : (xs : List A) (x : A) → each_once same (xs ++ x ∷ []) ≡ grown (among same x (each_once same xs)) (each_once same xs) x
  each_once-push [] x = refl
  each_once-push (y ∷ ys) x =
      let l = each_once same ys in
      let step : each_once same ((y ∷ ys) ++ x ∷ []) ≡ y ∷ others y (grown (among same x l) l x) = ap (λ (m : List A). y ∷ others y m) (each_once-push ys x) in
      elim (tells y x) [
        | inl (t, e) ↦ step ∙ rw (t, e) (grown_same x l (among same x l))
        | inr (f, ne) ↦ let back : same x y ≡ false = elim (tells x y) [ inl (_, e) ↦ absurd (ne (sym e)) | inr (g, _) ↦ g ] in
            step ∙ grown_other x y l (among same x l) back ∙ rw (f, among_others x y l f) refl
      ]

  -- a loop takes one more
  pub once_more : (xs : List A) (i : ℕ) (d : A) (once : List A) → i < length xs → once ≡ each_once same (take i xs)
      → grown (among same (get_or xs i d) once) once (get_or xs i d) ≡ each_once same (take (i + 1) xs)
  once_more xs i d once lt e =
      let x = get_or xs i d in
      let more : take (i + 1) xs ≡ take i xs ++ x ∷ [] = take_more xs i d lt in
      rw (more, e) (sym (each_once-push (take i xs) x))

  others_none : (x : A) (xs : List A) → AllByRecursion (λ y. same y x ≡ false) xs → others x xs ≡ xs
  others_none x [] h = refl
  others_none x (y ∷ ys) h = rw h.0 (ap (λ (l : List A). y ∷ l) (others_none x ys h.1))

  -- a list in which none stands twice stays
  pub each_once_apart : (xs : List A) → IsApart same xs → each_once same xs ≡ xs
  each_once_apart [] h = refl
  each_once_apart (x ∷ xs) h = ap (λ (l : List A). x ∷ others x l) (each_once_apart xs h.1) ∙ ap (λ (l : List A). x ∷ l) (others_none x xs h.0)

-- what a loop's step made, where it looked whether x was there
pub is_grown : {A : Type 0} (same : A → A → Bool) (b : Bool) (once next : List A) (x : A) → among same x once ≡ b → next ≡ grown b once x → next ≡ grown (among same x once) once x
is_grown same b once next x e h = rw e h

-- equal bytes tell which texts are one
pub bytes_tell : Tells bytes_eq
bytes_tell x y = go (bytes_eq x y) refl
  where
    go : (b : Bool) → bytes_eq x y ≡ b → ((b ≡ true) × (x ≡ y)) ⊎ ((b ≡ false) × (x ≢ y))
    go true e = inl (refl, (bytes_eq-Decides x y).0 e)
    go false e = inr (refl, λ same. let t : bytes_eq x y ≡ true = (bytes_eq-Decides x y).1 same in let bad : true ≡ false = sym t ∙ e in cc)
