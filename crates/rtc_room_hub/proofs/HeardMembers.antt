-- The members of a room hear items one after the other.
use Rattle.std.proofs.Common.{◌≡◌, ◌∙◌, ◌+◌, ◌<◌, ◌++◌, ℕ, zero, suc, List, [], ◌∷◌, map, take, drop, get_or, length, refl, sym, ap, arith}
use Rattle.std.specs.Prelude.{slice_get, slice_set, Some, None}

-- one more is mapped
map_more : {A : Type 0} (f : A → A) (xs : List A) (i : ℕ) (d : A) → i < length xs
    → slice_set (map f (take i xs) ++ drop i xs) i (f (get_or xs i d)) ≡ map f (take (suc i) xs) ++ drop (suc i) xs
map_more f [] i d h = absurd (omega (arith, h))
map_more f (x ∷ xs) zero d h = refl
map_more f (x ∷ xs) (suc i) d h = ap (λ ys. f x ∷ ys) (map_more f xs i d (omega (arith, h)))

-- what is at a place that is not yet mapped
unmapped : {A : Type 0} (f : A → A) (xs : List A) (i : ℕ) (d : A) → i < length xs → get_or (map f (take i xs) ++ drop i xs) i d ≡ get_or xs i d
unmapped f [] i d h = absurd (omega (arith, h))
unmapped f (x ∷ xs) zero d h = refl
unmapped f (x ∷ xs) (suc i) d h = unmapped f xs i d (omega (arith, h))

-- one more member is written
pub mapped_on : {A : Type 0} (f : A → A) (xs now : List A) (i : ℕ) (d x : A) → i < length xs → now ≡ map f (take i xs) ++ drop i xs → x ≡ f (get_or now i d)
    → slice_set now i x ≡ map f (take (i + 1) xs) ++ drop (i + 1) xs
mapped_on f xs now i d x below is made =
    ap (λ l. slice_set l i x) is
    ∙ ap (λ y. slice_set (map f (take i xs) ++ drop i xs) i y) (made ∙ ap (λ l. f (get_or l i d)) is ∙ ap f (unmapped f xs i d below))
    ∙ map_more f xs i d below
    ∙ ap (λ n. map f (take n xs) ++ drop n xs) (let next : suc i ≡ i + 1 = omega arith in next)

-- what an index reads
pub get_here : {A : Type 0} (xs : List A) (i : ℕ) (x : A) → i < length xs → x ≡ get_or xs i x → slice_get xs i ≡ Some x
get_here [] i x below is = absurd (omega (arith, below))
get_here (a ∷ xs) zero x below is = ap Some (sym is)
get_here (a ∷ xs) (suc i) x below is = get_here xs i x (omega (arith, below)) is

-- what is there is before the end
pub place_inside : {A : Type 0} (xs : List A) (i : ℕ) (x : A) → slice_get xs i ≡ Some x → i < length xs
place_inside [] i x there = absurd (let bad : None ≡ Some x = there in cc)
place_inside (a ∷ xs) zero x there = omega arith
place_inside (a ∷ xs) (suc i) x there = let rest : i < length xs = place_inside xs i x there in omega (arith, rest)

pub got_there : {A : Type 0} (xs : List A) (i : ℕ) (d : A) → i < length xs → slice_get xs i ≡ Some (get_or xs i d)
got_there [] i d below = absurd (omega (arith, below))
got_there (a ∷ xs) zero d below = refl
got_there (a ∷ xs) (suc i) d below = got_there xs i d (omega (arith, below))

-- what is at a place before the end
pub some_at : {A : Type 0} (xs : List A) (k : ℕ) → k < length xs → (x : A) × (slice_get xs k ≡ Some x)
some_at [] k inside = absurd (omega (arith, inside))
some_at (x ∷ xs) zero inside = (x, refl)
some_at (x ∷ xs) (suc k) inside = some_at xs k (omega (arith, inside))
