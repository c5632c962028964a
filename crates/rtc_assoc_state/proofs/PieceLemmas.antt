-- Cutting a message, and packets of items.
use Rattle.std.proofs.Common.{ℕ, zero, suc, ◌≡◌, ◌+◌, ◌≤◌, ◌<◌, inl, inr, List, [], ◌∷◌, ◌++◌, length, take, drop, get_or, Some, refl, sym, ◌∙◌, ap, subst, arith, append_assoc, length-drop}
use Rattle.std.proofs.lemmas.Bool.{le-leb, lt-leb}
use Rattle.std.proofs.lemmas.Bool.Decides.{leb_tells}
use Rattle.std.proofs.lemmas.List.{take_more, length-take-le}
use Rattle.rtc_assoc_state.specs.declared.item_part.ItemPart.TheVariants.{More, Last}
use Rattle.rtc_assoc_state.specs.declared.item.Item.{Item}
use Rattle.rtc_assoc_state.specs.declared.frame.Frame.TheVariants.{Data}
use Rattle.rtc_assoc_state.specs.Packets.{data_bytes, frame_in}
use Rattle.rtc_assoc_state.specs.Pieces.{piece, pieces_within, pieces_of, packets_from, ReadBack}

-- bytes that fit one piece are the last
pub pieces_end : (count size s g i : ℕ) (bytes : List ℕ) → length bytes ≤ size → pieces_within count size s g i bytes ≡ piece s g Last i bytes ∷ []
unfolding pieces_within
pieces_end zero size s g i bytes h = refl
pieces_end (suc count) size s g i bytes h = rw (le-leb (length bytes) size h) refl

-- a count beyond the length changes nothing
pub pieces_enough : (count more size s g i : ℕ) (bytes : List ℕ) → 1 ≤ size → length bytes ≤ count → length bytes ≤ more → pieces_within count size s g i bytes ≡ pieces_within more size s g i bytes
unfolding pieces_within
pieces_enough zero more size s g i bytes h a b = sym (pieces_end more size s g i bytes (omega arith))
pieces_enough (suc count) zero size s g i bytes h a b = pieces_end (suc count) size s g i bytes (omega arith)
pieces_enough (suc count) (suc more) size s g i bytes h a b =
    elim (leb_tells (length bytes) size) [
      | inl e ↦ rw e.0 refl
      | inr e ↦
          let same : pieces_within count size s g i (drop size bytes) ≡ pieces_within more size s g i (drop size bytes) =
          pieces_enough count more size s g i (drop size bytes) h (omega (arith, length-drop size bytes, e.1)) (omega (arith, length-drop size bytes, e.1)) in
          rw e.0 (ap (λ l. piece s g More i (take size bytes) ∷ l) same)
    ]

more_within : (count size s g i : ℕ) (bytes : List ℕ) → 1 ≤ size → size < length bytes → length bytes ≡ count → pieces_within count size s g i bytes ≡ piece s g More i (take size bytes) ∷ pieces_within (length (drop size bytes)) size s g i (drop size bytes)
unfolding pieces_within
more_within zero size s g i bytes h a e = absurd (omega arith)
more_within (suc count) size s g i bytes h a e =
    let same : pieces_within count size s g i (drop size bytes) ≡ pieces_within (length (drop size bytes)) size s g i (drop size bytes) =
    pieces_enough count (length (drop size bytes)) size s g i (drop size bytes) h (omega (arith, length-drop size bytes)) (omega arith) in
    rw (lt-leb (length bytes) size a) (ap (λ l. piece s g More i (take size bytes) ∷ l) same)

-- bytes that do not fit one piece begin with one
pub pieces_more : (size s g i : ℕ) (bytes : List ℕ) → 1 ≤ size → size < length bytes → pieces_of size s g i bytes ≡ piece s g More i (take size bytes) ∷ pieces_of size s g i (drop size bytes)
pieces_more size s g i bytes h a = more_within (length bytes) size s g i bytes h a refl

-- one step of the cut
pub cut_step : (done : List Item) (size s g i : ℕ) (whole rest : List ℕ) → 1 ≤ size → size < length rest → done ++ pieces_of size s g i rest ≡ pieces_of size s g i whole → (done ++ piece s g More i (take size rest) ∷ []) ++ pieces_of size s g i (drop size rest) ≡ pieces_of size s g i whole
cut_step done size s g i whole rest h a e =
    append_assoc done (piece s g More i (take size rest) ∷ []) (pieces_of size s g i (drop size rest))
    ∙ ap (λ l. done ++ l) (sym (pieces_more size s g i rest h a)) ∙ e

-- its end
pub cut_end : (done : List Item) (size s g i : ℕ) (whole rest : List ℕ) → length rest ≤ size → done ++ pieces_of size s g i rest ≡ pieces_of size s g i whole → done ++ piece s g Last i rest ∷ [] ≡ pieces_of size s g i whole
cut_end done size s g i whole rest h e = ap (λ l. done ++ l) (sym (pieces_end (length rest) size s g i rest h)) ∙ e

pub packets-append : (a n : ℕ) (xs ys : List Item) → packets_from a n (xs ++ ys) ≡ packets_from a n xs ++ packets_from a (n + length xs) ys
packets-append a n [] ys = ap (λ k. packets_from a k ys) (omega arith)
packets-append a n (x ∷ xs) ys =
    let e : n + 1 + length xs ≡ n + length (x ∷ xs) = omega arith in
    ap (λ l. data_bytes a n x ∷ l) (packets-append a (n + 1) xs ys ∙ ap (λ k. packets_from a (n + 1) xs ++ packets_from a k ys) e)

pub ReadBack-append : (a n : ℕ) (xs ys : List Item) → ReadBack a n xs → ReadBack a (n + length xs) ys → ReadBack a n (xs ++ ys)
ReadBack-append a n [] ys h k = let e : n + 0 ≡ n = omega arith in subst (λ (j : ℕ). ReadBack a j ys) e k
ReadBack-append a n (x ∷ xs) ys h k =
    let e : n + length (x ∷ xs) ≡ n + 1 + length xs = omega arith in
    (h.0, ReadBack-append a (n + 1) xs ys h.1 (subst (λ (j : ℕ). ReadBack a j ys) e k))

-- one more packet
pub packets_step : (a n i : ℕ) (items : List Item) (item : Item) (packets : List (List ℕ)) → i < length items → item ≡ get_or items i item → packets ≡ packets_from a n (take i items) → packets ++ data_bytes a (n + i) item ∷ [] ≡ packets_from a n (take (i + 1) items)
packets_step a n i items item packets h e k =
    let t : take (i + 1) items ≡ take i items ++ item ∷ [] = take_more items i item h ∙ ap (λ y. take i items ++ y ∷ []) (sym e) in
    let m : i ≡ length (take i items) = omega (arith, length-take-le i items) in
    ap (λ l. l ++ data_bytes a (n + i) item ∷ []) k
    ∙ ap (λ j. packets_from a n (take i items) ++ data_bytes a (n + j) item ∷ []) m
    ∙ sym (packets-append a n (take i items) (item ∷ []))
    ∙ ap (packets_from a n) (sym t)

pub reads_step : (a n i : ℕ) (items : List Item) (item : Item) → i < length items → item ≡ get_or items i item → frame_in (data_bytes a (n + i) item) ≡ Some (Data a (n + i) item) → ReadBack a n (take i items) → ReadBack a n (take (i + 1) items)
reads_step a n i items item h e f k =
    let t : take (i + 1) items ≡ take i items ++ item ∷ [] = take_more items i item h ∙ ap (λ y. take i items ++ y ∷ []) (sym e) in
    let m : n + i ≡ n + length (take i items) = omega (arith, length-take-le i items) in
    subst (λ (l : List Item). ReadBack a n l) (sym t) (ReadBack-append a n (take i items) (item ∷ []) k
    (subst (λ (j : ℕ). (frame_in (data_bytes a j item) ≡ Some (Data a j item)) × Unit {0}) m (f, tt)))
