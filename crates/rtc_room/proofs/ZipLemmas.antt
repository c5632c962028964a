-- Lists that stand in a relation place by place.
use Rattle.std.proofs.Common.{◌≡◌, ◌+◌, ◌<◌, ◌∙◌, ℕ, zero, suc, List, [], ◌∷◌, ◌++◌, length, take, map, get_or, refl, ap, Bor}
use Rattle.std.specs.List.{AllZip}
use Rattle.std.proofs.lemmas.List.{take_more, get_or-map, length-map}

-- the texts of slices
abbrev pub texts : List (Bor (List ℕ)) → List (List ℕ)
texts slices = map (λ slice. slice.now) slices

-- the texts up to a place, and the one there
pub text_more : (slices : List (Bor (List ℕ))) (i : ℕ) (d : Bor (List ℕ)) → i < length slices → take (i + 1) (texts slices) ≡ take i (texts slices) ++ (get_or slices i d).now ∷ []
text_more slices i d within =
    let short : i < length (texts slices) = rw length-map within in
    take_more (texts slices) i d.now short ∙ ap (λ (text : List ℕ). take i (texts slices) ++ text ∷ []) (get_or-map (λ slice. slice.now) slices i d d.now within)

module _ {B : Type 0} (R : List ℕ → B → Type 0) where
  -- one more of each
  push : (xs : List (List ℕ)) (ys : List B) (x : List ℕ) (y : B) → AllZip R xs ys → R x y → AllZip R (xs ++ x ∷ []) (ys ++ y ∷ [])
  push [] [] x y all is = (is, tt)
  push [] (b ∷ ys) x y all is = absurd all
  push (a ∷ xs) [] x y all is = absurd all
  push (a ∷ xs) (b ∷ ys) x y all is = (all.0, push xs ys x y all.1 is)

  -- the last one has its other
  last : (xs : List (List ℕ)) (x : List ℕ) (ys : List B) → AllZip R (xs ++ x ∷ []) ys → (y : B) × R x y
  last [] x [] all = absurd all
  last [] x (y ∷ ys) all = (y, all.0)
  last (a ∷ xs) x [] all = absurd all
  last (a ∷ xs) x (y ∷ ys) all = last xs x ys all.1

  -- the fronts stand in the relation too
  pub front_zip : (n : ℕ) (xs : List (List ℕ)) (ys : List B) → AllZip R xs ys → AllZip R (take n xs) (take n ys)
  front_zip zero xs ys all = tt
  front_zip (suc n) [] [] all = tt
  front_zip (suc n) [] (y ∷ ys) all = absurd all
  front_zip (suc n) (x ∷ xs) [] all = absurd all
  front_zip (suc n) (x ∷ xs) (y ∷ ys) all = (all.0, front_zip n xs ys all.1)

  -- one list stands in the relation at most, where one value does
  pub one_zip : ((x : List ℕ) (a b : B) → R x a → R x b → a ≡ b) → (xs : List (List ℕ)) (ys zs : List B) → AllZip R xs ys → AllZip R xs zs → ys ≡ zs
  one_zip one [] [] [] all all' = refl
  one_zip one [] [] (b ∷ zs) all all' = absurd all'
  one_zip one [] (a ∷ ys) zs all all' = absurd all
  one_zip one (x ∷ xs) [] zs all all' = absurd all
  one_zip one (x ∷ xs) (a ∷ ys) [] all all' = absurd all'
  one_zip one (x ∷ xs) (a ∷ ys) (b ∷ zs) all all' =
      let first = one x a b all.0 all'.0 in
      let rest = one_zip one xs ys zs all.1 all'.1 in
      cc

  -- the texts up to a place, and the one there, with their others
  pub more_zip : (slices : List (Bor (List ℕ))) (i : ℕ) (d : Bor (List ℕ)) (ys : List B) (y : B) → i < length slices → AllZip R (take i (texts slices)) ys → R (get_or slices i d).now y → AllZip R (take (i + 1) (texts slices)) (ys ++ y ∷ [])
  more_zip slices i d ys y within all is = rw (text_more slices i d within) (push (take i (texts slices)) ys (get_or slices i d).now y all is)

  -- texts one of which has no other have no others
  pub no_zip_at : (slices : List (Bor (List ℕ))) (i : ℕ) (d : Bor (List ℕ)) → i < length slices → ((y : B) → R (get_or slices i d).now y → ⊥) → (ys : List B) → AllZip R (take (i + 1) (texts slices)) ys → ⊥
  no_zip_at slices i d within none ys all =
      let end = last (take i (texts slices)) (get_or slices i d).now ys (rw (text_more slices i d within) at all) in
      none end.0 end.1

  pub no_zip : (slices : List (Bor (List ℕ))) (i : ℕ) (d : Bor (List ℕ)) → i < length slices → ((y : B) → R (get_or slices i d).now y → ⊥) → (ys : List B) → AllZip R (texts slices) ys → ⊥
  no_zip slices i d within none ys all = no_zip_at slices i d within none (take (i + 1) ys) (front_zip (i + 1) (texts slices) ys all)
