-- The messages that items carry, by generation and stream.
use Rattle.std.proofs.Common.{ℕ, zero, suc, ◌≡◌, ◌==◌, ◌&&◌, ◌⊎◌, inl, inr, Bool, true, false, cond, List, [], ◌∷◌, ◌++◌, length, take, drop, refl, sym, ap, ◌∙◌, append_assoc}
use Rattle.std.proofs.lemmas.Bool.Decides.{eqb_tells, leb_tells}
use Rattle.std.proofs.lemmas.List.{take-append-drop}
use Rattle.rtc_parts.specs.AssociationActs.{Wrote}
use Rattle.rtc_parts.specs.AssociationWords.{AssociationMessage, written}
use Rattle.rtc_assoc_state.specs.declared.item.Item.{Item}
use Rattle.rtc_assoc_state.specs.declared.item_part.ItemPart.{ItemPart}
use Rattle.rtc_assoc_state.specs.declared.item_part.ItemPart.TheVariants.{More, Last, Close}
use Rattle.rtc_assoc_state.specs.Pieces.{piece, pieces_within, pieces_of}

-- whether a pair of numbers is another
abbrev pub is_pair : (s g t h : ℕ) → Bool
is_pair s g t h = (s == t) && (g == h)

pub pair_tells : (s g t h : ℕ) → ((is_pair s g t h ≡ true) × (s ≡ t) × (g ≡ h)) ⊎ ((is_pair s g t h ≡ false) × (s ≡ t → g ≡ h → ⊥))
pair_tells s g t h =
    elim (eqb_tells s t) [
      | inl p ↦ elim (eqb_tells g h) [
        | inl q ↦ inl (rw (p.0, q.0) refl, p.1, q.1)
        | inr q ↦ inr (rw (p.0, q.0) refl, λ a b. q.1 b)
      ]
      | inr p ↦ inr (rw p.0 refl, λ a b. p.1 a)
    ]

pub pair_same : (s g : ℕ) → is_pair s g s g ≡ true
pair_same s g = elim (pair_tells s g s g) [ inl h ↦ h.0 | inr h ↦ absurd (h.1 refl refl) ]

abbrev pub message : ℕ → List ℕ → AssociationMessage
message identifier bytes = record { identifier = identifier; bytes = bytes }

-- the messages that one more piece completes, where these bytes of its message came before, and the bytes that are
-- left of a message whose last piece is to come
abbrev pub completed_by : ItemPart → ℕ → (bytes front : List ℕ) → List AssociationMessage
completed_by More identifier bytes front = []
completed_by Last identifier bytes front = message identifier (front ++ bytes) ∷ []
completed_by Close identifier bytes front = []

abbrev pub left_by : ItemPart → (bytes front : List ℕ) → List ℕ
left_by More bytes front = front ++ bytes
left_by Last bytes front = []
left_by Close bytes front = front

abbrev pub shown : ℕ → ℕ → List ℕ → Item → List AssociationMessage
shown s g front item = cond (is_pair item.stream item.generation s g) (completed_by item.part item.identifier item.bytes front) []

abbrev pub kept : ℕ → ℕ → List ℕ → Item → List ℕ
kept s g front item = cond (is_pair item.stream item.generation s g) (left_by item.part item.bytes front) front

-- the messages that items complete behind those bytes, and the bytes that they leave
abbrev pub messages : ℕ → ℕ → List ℕ → List Item → List AssociationMessage
messages s g front [] = []
messages s g front (item ∷ items) = shown s g front item ++ messages s g (kept s g front item) items

abbrev pub left : ℕ → ℕ → List ℕ → List Item → List ℕ
left s g front [] = front
left s g front (item ∷ items) = left s g (kept s g front item) items

pub messages-append : (s g : ℕ) (front : List ℕ) (xs ys : List Item) → messages s g front (xs ++ ys) ≡ messages s g front xs ++ messages s g (left s g front xs) ys
messages-append s g front [] ys = refl
messages-append s g front (x ∷ xs) ys = ap (λ l. shown s g front x ++ l) (messages-append s g (kept s g front x) xs ys) ∙ sym (append_assoc (shown s g front x) (messages s g (kept s g front x) xs) (messages s g (left s g (kept s g front x) xs) ys))

pub left-append : (s g : ℕ) (front : List ℕ) (xs ys : List Item) → left s g front (xs ++ ys) ≡ left s g (left s g front xs) ys
left-append s g front [] ys = refl
left-append s g front (x ∷ xs) ys = left-append s g (kept s g front x) xs ys

-- the pieces of a message complete it
pub messages-own : (count size id h i s g : ℕ) (front bytes : List ℕ) → is_pair id h s g ≡ true → messages s g front (pieces_within count size id h i bytes) ≡ message i (front ++ bytes) ∷ []
unfolding pieces_within
messages-own zero size id h i s g front bytes e = rw e refl
messages-own (suc count) size id h i s g front bytes e =
    elim (leb_tells (length bytes) size) [
      | inl k ↦ rw (k.0, e) refl
      | inr k ↦
          let rest = messages-own count size id h i s g (front ++ take size bytes) (drop size bytes) e in
          rw (k.0, e) (rest ∙ ap (λ l. message i l ∷ []) (append_assoc front (take size bytes) (drop size bytes) ∙ ap (λ l. front ++ l) (take-append-drop size bytes)))
    ]

pub left-own : (count size id h i s g : ℕ) (front bytes : List ℕ) → is_pair id h s g ≡ true → left s g front (pieces_within count size id h i bytes) ≡ []
unfolding pieces_within
left-own zero size id h i s g front bytes e = rw e refl
left-own (suc count) size id h i s g front bytes e =
    elim (leb_tells (length bytes) size) [
      | inl k ↦ rw (k.0, e) refl
      | inr k ↦ let rest = left-own count size id h i s g (front ++ take size bytes) (drop size bytes) e in let front_is : kept s g front (piece id h More i (take size bytes)) ≡ front ++ take size bytes = rw e refl in rw k.0 (ap (λ f. left s g f (pieces_within count size id h i (drop size bytes))) front_is ∙ rest)
    ]

pub messages-other : (count size id h i s g : ℕ) (front bytes : List ℕ) → is_pair id h s g ≡ false → messages s g front (pieces_within count size id h i bytes) ≡ []
unfolding pieces_within
messages-other zero size id h i s g front bytes e = rw e refl
messages-other (suc count) size id h i s g front bytes e =
    elim (leb_tells (length bytes) size) [
      | inl k ↦ rw (k.0, e) refl
      | inr k ↦ let rest = messages-other count size id h i s g front (drop size bytes) e in rw (k.0, e) rest
    ]

pub left-other : (count size id h i s g : ℕ) (front bytes : List ℕ) → is_pair id h s g ≡ false → left s g front (pieces_within count size id h i bytes) ≡ front
unfolding pieces_within
left-other zero size id h i s g front bytes e = rw e refl
left-other (suc count) size id h i s g front bytes e =
    elim (leb_tells (length bytes) size) [
      | inl k ↦ rw (k.0, e) refl
      | inr k ↦ let rest = left-other count size id h i s g front (drop size bytes) e in let front_is : kept s g front (piece id h More i (take size bytes)) ≡ front = rw e refl in rw k.0 (ap (λ f. left s g f (pieces_within count size id h i (drop size bytes))) front_is ∙ rest)
    ]

-- a message that is written goes as its pieces, and leaves nothing
pub messages-written : (size id h i s g : ℕ) (bytes : List ℕ) → messages s g [] (pieces_of size id h i bytes) ≡ written s g (Wrote id h i bytes ∷ [])
messages-written size id h i s g bytes =
    elim (pair_tells id h s g) [
      | inl e ↦ rw e.0 (messages-own (length bytes) size id h i s g [] bytes e.0)
      | inr e ↦ rw e.0 (messages-other (length bytes) size id h i s g [] bytes e.0)
    ]

pub left-written : (size id h i s g : ℕ) (bytes : List ℕ) → left s g [] (pieces_of size id h i bytes) ≡ []
left-written size id h i s g bytes =
    elim (pair_tells id h s g) [
      | inl e ↦ left-own (length bytes) size id h i s g [] bytes e.0
      | inr e ↦ left-other (length bytes) size id h i s g [] bytes e.0
    ]

-- an item is the close of a generation of a stream
pub record Closes (s g : ℕ) (item : Item) : Type 0 where
  pub part_is : item.part ≡ Close
  pub stream_is : item.stream ≡ s
  pub generation_is : item.generation ≡ g

abbrev pub HasClose : ℕ → ℕ → List Item → Type 0
HasClose s g [] = ⊥
HasClose s g (item ∷ items) = Closes s g item ⊎ HasClose s g items

pub close-append : (s g : ℕ) (xs ys : List Item) → HasClose s g (xs ++ ys) → HasClose s g xs ⊎ HasClose s g ys
close-append s g [] ys h = inr h
close-append s g (x ∷ xs) ys (inl c) = inl (inl c)
close-append s g (x ∷ xs) ys (inr h) = elim (close-append s g xs ys h) [ inl k ↦ inl (inr k) | inr k ↦ inr k ]

pub close-right : (s g : ℕ) (xs ys : List Item) → HasClose s g ys → HasClose s g (xs ++ ys)
close-right s g [] ys h = h
close-right s g (x ∷ xs) ys h = inr (close-right s g xs ys h)

pub close-left : (s g : ℕ) (xs ys : List Item) → HasClose s g xs → HasClose s g (xs ++ ys)
close-left s g [] ys h = absurd h
close-left s g (x ∷ xs) ys (inl c) = inl c
close-left s g (x ∷ xs) ys (inr h) = inr (close-left s g xs ys h)

no_close_last : (s g id h i : ℕ) (bytes : List ℕ) → HasClose s g (piece id h Last i bytes ∷ []) → ⊥
no_close_last s g id h i bytes (inl k) = let e : Last ≡ Close = k.part_is in cc
no_close_last s g id h i bytes (inr k) = k

no_close_more : (s g id h i : ℕ) (bytes : List ℕ) (rest : List Item) → (HasClose s g rest → ⊥) → HasClose s g (piece id h More i bytes ∷ rest) → ⊥
no_close_more s g id h i bytes rest n (inl k) = let e : More ≡ Close = k.part_is in cc
no_close_more s g id h i bytes rest n (inr k) = n k

-- the pieces of a message are no closes
pub close-pieces : (count size id h i s g : ℕ) (bytes : List ℕ) → HasClose s g (pieces_within count size id h i bytes) → ⊥
unfolding pieces_within
close-pieces zero size id h i s g bytes c = no_close_last s g id h i bytes c
close-pieces (suc count) size id h i s g bytes c =
    elim (leb_tells (length bytes) size) [
      | inl k ↦ no_close_last s g id h i bytes (rw k.0 at c)
      | inr k ↦ no_close_more s g id h i (take size bytes) (pieces_within count size id h i (drop size bytes)) (close-pieces count size id h i s g (drop size bytes)) (rw k.0 at c)
    ]
