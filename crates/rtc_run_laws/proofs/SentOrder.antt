-- The items that an end sent, in order: the closes below the generation of an item stand before it, and none of its own generation does.
use Rattle.std.proofs.Common.{◌≡◌, ◌∙◌, ◌⊎◌, inl, inr, ◌<◌, ◌≤◌, nat_le, ℕ, zero, suc, cond, Bool, true, false, List, [], ◌∷◌, ◌++◌, take, drop, length, take-append-drop, append-nil, append_assoc, refl, sym, subst, arith}
use Rattle.rtc_assoc_state.specs.declared.item.Item.{Item}
use Rattle.rtc_assoc_state.specs.declared.item_part.ItemPart.TheVariants.{Close, Last, More}
use Rattle.rtc_assoc_state.specs.Pieces.{piece, pieces_within}
use Rattle.rtc_assoc.proofs.MessageLemmas.{HasClose, close-append, close-left}

abbrev pub IsAfter : List Item → Item → Type 0
IsAfter pre x = ((g : ℕ) → g < x.generation → HasClose x.stream g pre) × (HasClose x.stream x.generation pre → ⊥)

abbrev pub OrderedFrom : List Item → List Item → Type 0
OrderedFrom pre [] = Unit {0}
OrderedFrom pre (x ∷ xs) = IsAfter pre x × OrderedFrom (pre ++ x ∷ []) xs

pub ordered_append : (pre xs ys : List Item) → OrderedFrom pre xs → OrderedFrom (pre ++ xs) ys → OrderedFrom pre (xs ++ ys)
ordered_append pre [] ys h k = subst (λ (l : List Item). OrderedFrom l ys) (append-nil pre) k
ordered_append pre (x ∷ xs) ys h k =
    (h.0, ordered_append (pre ++ x ∷ []) xs ys h.1 (subst (λ (l : List Item). OrderedFrom l ys) (sym (append_assoc pre (x ∷ []) xs)) k))

-- each item is after those before it
pub ordered_at : (pre front : List Item) (x : Item) (after : List Item) → OrderedFrom pre (front ++ x ∷ after) → IsAfter (pre ++ front) x
ordered_at pre [] x after h = subst (λ (l : List Item). IsAfter l x) (sym (append-nil pre)) h.0
ordered_at pre (y ∷ front) x after h = subst (λ (l : List Item). IsAfter l x) (append_assoc pre (y ∷ []) front) (ordered_at (pre ++ y ∷ []) front x after h.1)

pub ordered_rest : (pre xs ys : List Item) → OrderedFrom pre (xs ++ ys) → OrderedFrom (pre ++ xs) ys
ordered_rest pre [] ys h = subst (λ (l : List Item). OrderedFrom l ys) (sym (append-nil pre)) h
ordered_rest pre (x ∷ xs) ys h = subst (λ (l : List Item). OrderedFrom l ys) (append_assoc pre (x ∷ []) xs) (ordered_rest (pre ++ x ∷ []) xs ys h.1)

-- no close stands twice
pub once : (pre xs : List Item) (s g : ℕ) → OrderedFrom pre xs → HasClose s g pre → HasClose s g xs → ⊥
once pre [] s g h before after = after
once pre (x ∷ xs) s g h before (inl c) =
    h.0.1 (subst (λ (n : ℕ). HasClose n x.generation pre) (sym c.stream_is) (subst (λ (n : ℕ). HasClose s n pre) (sym c.generation_is) before))
once pre (x ∷ xs) s g h before (inr c) = once (pre ++ x ∷ []) xs s g h.1 (close-left s g pre (x ∷ []) before) c

-- ---- generations of items

-- those of a stream are of generations up to one
abbrev pub Within : ℕ → ℕ → List Item → Type 0
Within s n [] = Unit {0}
Within s n (x ∷ xs) = (x.stream ≡ s → x.generation ≤ n) × Within s n xs

pub within_append : (s n : ℕ) (xs ys : List Item) → Within s n xs → Within s n ys → Within s n (xs ++ ys)
within_append s n [] ys h k = k
within_append s n (x ∷ xs) ys h k = (h.0, within_append s n xs ys h.1 k)

pub within_up : (s n m : ℕ) (xs : List Item) → n ≤ m → Within s n xs → Within s m xs
within_up s n m [] le h = tt
within_up s n m (x ∷ xs) le h = ((λ e. let low = h.0 e in omega (arith, low, le)), within_up s n m xs le h.1)

pub within_at : (s n : ℕ) (front : List Item) (x : Item) (after : List Item) → Within s n (front ++ x ∷ after) → x.stream ≡ s → x.generation ≤ n
within_at s n [] x after h e = h.0 e
within_at s n (y ∷ front) x after h e = within_at s n front x after h.1 e

-- items of one stream
abbrev pub AllOf : ℕ → List Item → Type 0
AllOf s [] = Unit {0}
AllOf s (x ∷ xs) = (x.stream ≡ s) × AllOf s xs

pub all_of_close : (id s g : ℕ) (xs : List Item) → AllOf id xs → HasClose s g xs → s ≡ id
all_of_close id s g [] all c = absurd c
all_of_close id s g (x ∷ xs) all (inl c) = sym c.stream_is ∙ all.0
all_of_close id s g (x ∷ xs) all (inr c) = all_of_close id s g xs all.1 c

pub all_of_within : (id s n : ℕ) (xs : List Item) → (s ≡ id → ⊥) → AllOf id xs → Within s n xs
all_of_within id s n [] ne all = tt
all_of_within id s n (x ∷ xs) ne all = ((λ e. absurd (ne (sym e ∙ all.0))), all_of_within id s n xs ne all.1)

-- ---- the pieces of a message

abbrev pub AllPieces : ℕ → ℕ → List Item → Type 0
AllPieces id h [] = Unit {0}
AllPieces id h (x ∷ xs) = ((x.stream ≡ id) × (x.generation ≡ h) × (x.part ≡ Close → ⊥)) × AllPieces id h xs

no_last : Last ≡ Close → ⊥
no_last e = cc

no_more : More ≡ Close → ⊥
no_more e = cc

pub pieces_are : (count size id h i : ℕ) (bytes : List ℕ) → AllPieces id h (pieces_within count size id h i bytes)
unfolding pieces_within
pieces_are zero size id h i bytes = ((refl, refl, no_last), tt)
pieces_are (suc count) size id h i bytes = by (nat_le (length bytes) size) (pieces_are count size id h i (drop size bytes))
  where
    by : (b : Bool) → AllPieces id h (pieces_within count size id h i (drop size bytes)) → AllPieces id h (cond b (piece id h Last i bytes ∷ []) (piece id h More i (take size bytes) ∷ pieces_within count size id h i (drop size bytes)))
    by true rest = ((refl, refl, no_last), tt)
    by false rest = ((refl, refl, no_more), rest)

pub pieces_low : (id h s n : ℕ) (xs : List Item) → AllPieces id h xs → (id ≡ s → h ≤ n) → Within s n xs
pieces_low id h s n [] all low = tt
pieces_low id h s n (x ∷ xs) all low = ((λ e. let le = low (sym all.0.0 ∙ e) in let same = all.0.1 in omega (arith, le, same)), pieces_low id h s n xs all.1 low)

pub pieces_fit : (id h : ℕ) (pre xs : List Item) → AllPieces id h xs → ((g : ℕ) → g < h → HasClose id g pre) → (HasClose id h pre → ⊥) → OrderedFrom pre xs
pieces_fit id h pre [] all below unclosed = tt
pieces_fit id h pre (x ∷ xs) all below unclosed = (
  ((λ g less. subst (λ (n : ℕ). HasClose n g pre) (sym all.0.0) (below g (subst (λ (n : ℕ). g < n) all.0.1 less))), (λ c. unclosed (subst (λ (n : ℕ). HasClose n h pre) all.0.0 (subst (λ (n : ℕ). HasClose x.stream n pre) all.0.1 c)))),
  pieces_fit id h (pre ++ x ∷ []) xs all.1 (λ g less. close-left id g pre (x ∷ []) (below g less)) (λ c. by (close-append id h pre (x ∷ []) c)),
)
  where
    by : HasClose id h pre ⊎ HasClose id h (x ∷ []) → ⊥
    by (inl c) = unclosed c
    by (inr (inl c)) = all.0.2 c.part_is
    by (inr (inr c)) = absurd c

-- ---- the first items

pub close_take : (s g n : ℕ) (xs ys : List Item) → HasClose s g (take n xs) → HasClose s g (take n (xs ++ ys))
close_take s g zero xs ys c = absurd c
close_take s g (suc n) [] ys c = absurd c
close_take s g (suc n) (x ∷ xs) ys (inl c) = inl c
close_take s g (suc n) (x ∷ xs) ys (inr c) = inr (close_take s g n xs ys c)

pub close_take_up : (s g n m : ℕ) (xs : List Item) → n ≤ m → HasClose s g (take n xs) → HasClose s g (take m xs)
close_take_up s g zero m xs le c = absurd c
close_take_up s g (suc n) m [] le c = absurd c
close_take_up s g (suc n) zero (x ∷ xs) le c = absurd (omega (arith, le))
close_take_up s g (suc n) (suc m) (x ∷ xs) le (inl c) = inl c
close_take_up s g (suc n) (suc m) (x ∷ xs) le (inr c) = inr (close_take_up s g n m xs (omega (arith, le)) c)

-- no close stands among the first items and behind them
pub once_split : (s g n : ℕ) (w : List Item) → OrderedFrom [] w → HasClose s g (take n w) → HasClose s g (drop n w) → ⊥
once_split s g n w order c d =
    once (take n w) (drop n w) s g (ordered_rest [] (take n w) (drop n w) (subst (λ (l : List Item). OrderedFrom [] l) (sym (take-append-drop n w)) order)) c d
