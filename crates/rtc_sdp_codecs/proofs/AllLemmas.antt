-- What holds of each element, through joins, filters and mapped filters; and numbers that stand apart.
use Rattle.std.proofs.Common.{◌≡◌, ℕ, eqb, Bool, true, false, cond, List, [], ◌∷◌, ◌++◌, arith}
use Rattle.std.specs.Prelude.{filter}
use Rattle.std.specs.List.{AllByRecursion}
use Rattle.std.proofs.lemmas.Bool.Decides.{nat_tests}
use Rattle.rtc_wire_text.specs.Once.{IsApart}

-- ---- each element
pub all_left : {A : Type 0} (P : A → Type 0) (xs ys : List A) → AllByRecursion P (xs ++ ys) → AllByRecursion P xs
all_left P [] ys h = tt
all_left P (x ∷ xs) ys h = (h.0, all_left P xs ys h.1)

pub all_right : {A : Type 0} (P : A → Type 0) (xs ys : List A) → AllByRecursion P (xs ++ ys) → AllByRecursion P ys
all_right P [] ys h = h
all_right P (x ∷ xs) ys h = all_right P xs ys h.1

pub all_joined : {A : Type 0} (P : A → Type 0) (xs ys : List A) → AllByRecursion P xs → AllByRecursion P ys → AllByRecursion P (xs ++ ys)
all_joined P [] ys h k = k
all_joined P (x ∷ xs) ys h k = (h.0, all_joined P xs ys h.1 k)

pub all_weaker : {A : Type 0} (P Q : A → Type 0) → ((x : A) → P x → Q x) → (xs : List A) → AllByRecursion P xs → AllByRecursion Q xs
all_weaker P Q each [] h = tt
all_weaker P Q each (x ∷ xs) h = (each x h.0, all_weaker P Q each xs h.1)

pub all_kept : {A : Type 0} (P : A → Type 0) (test : A → Bool) (xs : List A) → AllByRecursion P xs → AllByRecursion P (filter test xs)
all_kept P test [] h = tt
all_kept {A} P test (x ∷ xs) h = by (test x) (all_kept P test xs h.1)
  where
    by : (b : Bool) → AllByRecursion P (filter test xs) → AllByRecursion P (cond b (x ∷ filter test xs) (filter test xs))
    by true rest = (h.0, rest)
    by false rest = rest

pub apart_kept : {A : Type 0} (same : A → A → Bool) (test : A → Bool) (xs : List A) → IsApart same xs → IsApart same (filter test xs)
apart_kept same test [] h = tt
apart_kept {A} same test (x ∷ xs) h = by (test x) (apart_kept same test xs h.1)
  where
    by : (b : Bool) → IsApart same (filter test xs) → IsApart same (cond b (x ∷ filter test xs) (filter test xs))
    by true rest = (all_kept (λ (y : A). same y x ≡ false) test xs h.0, rest)
    by false rest = rest

-- ---- numbers
-- no number of the first list stands in the second
abbrev pub AreOthers : List ℕ → List ℕ → Type 0
AreOthers xs ys = AllByRecursion (λ x. AllByRecursion (λ y. eqb y x ≡ false) ys) xs

pub others_none : (xs : List ℕ) → AreOthers xs []
others_none [] = tt
others_none (x ∷ xs) = (tt, others_none xs)

pub others_joined : (xs ys zs : List ℕ) → AreOthers xs ys → AreOthers xs zs → AreOthers xs (ys ++ zs)
others_joined [] ys zs h k = tt
others_joined (x ∷ xs) ys zs h k = (all_joined (λ (y : ℕ). eqb y x ≡ false) ys zs h.0 k.0, others_joined xs ys zs h.1 k.1)

pub others_left : (xs ys zs : List ℕ) → AreOthers xs (ys ++ zs) → AreOthers xs ys
others_left [] ys zs h = tt
others_left (x ∷ xs) ys zs h = (all_left (λ (y : ℕ). eqb y x ≡ false) ys zs h.0, others_left xs ys zs h.1)

flipped : (x y : ℕ) → eqb y x ≡ false → eqb x y ≡ false
flipped x y h = grind (arith, nat_tests)

heads : (y : ℕ) (xs ys : List ℕ) → AreOthers xs (y ∷ ys) → AllByRecursion (λ x. eqb x y ≡ false) xs
heads y [] ys h = tt
heads y (x ∷ xs) ys h = (flipped x y h.0.0, heads y xs ys h.1)

tails : (y : ℕ) (xs ys : List ℕ) → AreOthers xs (y ∷ ys) → AreOthers xs ys
tails y [] ys h = tt
tails y (x ∷ xs) ys h = (h.0.1, tails y xs ys h.1)

pub others_swapped : (xs ys : List ℕ) → AreOthers xs ys → AreOthers ys xs
others_swapped xs [] h = tt
others_swapped xs (y ∷ ys) h = (heads y xs ys h, others_swapped xs ys (tails y xs ys h))

-- two lists, each apart, and neither with a number of the other
pub record ArePartsApart (xs ys : List ℕ) : Type 0 where
  pub left : IsApart eqb xs
  pub others : AreOthers xs ys
  pub right : IsApart eqb ys

pub parts_apart : (xs ys : List ℕ) → IsApart eqb (xs ++ ys) → ArePartsApart xs ys
parts_apart [] ys h = record { left = tt; others = tt; right = h }
parts_apart (x ∷ xs) ys h =
    let rest = parts_apart xs ys h.1 in
    let test : ℕ → Type 0 = λ (y : ℕ). eqb y x ≡ false in
    record {
      left = (all_left test xs ys h.0, rest.left);
      others = (all_right test xs ys h.0, rest.others);
      right = rest.right;
    }

pub apart_joined : (xs ys : List ℕ) → ArePartsApart xs ys → IsApart eqb (xs ++ ys)
apart_joined [] ys h = h.right
apart_joined (x ∷ xs) ys h =
    (all_joined (λ (y : ℕ). eqb y x ≡ false) xs ys h.left.0 h.others.0, apart_joined xs ys (record { left = h.left.1; others = h.others.1; right = h.right }))
