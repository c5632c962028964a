-- The last of the items with data that are not acknowledged carries bytes: so it is behind a message that is not empty.
use Rattle.std.proofs.Common.{◌≡◌, ◌∙◌, ◌+◌, ◌-◌, ◌<◌, ◌==◌, ◌&&◌, ◌||◌, nat_le, cond, zero, suc, ℕ, Bool, true, false, true≢false, List, [], ◌∷◌, ◌++◌, drop, take, length, length-drop, refl, sym, ap, arith}
use Rattle.std.proofs.lemmas.List.Folds.{list_any-append}
use Rattle.rtc_parts.specs.Ppi.{ppi_of}
use Rattle.rtc_assoc_state.specs.declared.item.Item.{Item}
use Rattle.rtc_assoc_state.specs.declared.item_part.ItemPart.TheVariants.{Last, More}
use Rattle.rtc_assoc_state.specs.Pieces.{close_of, piece, pieces_within}
use Rattle.rtc_assoc_state.specs.Outbox.{buffered, bytes_for}
use Rattle.rtc_run_laws.specs.AcknowledgedData.{carries_data, has_unacknowledged_data, is_data_item}

both_false : (a b : Bool) → (a || b) ≡ false → (a ≡ false) × (b ≡ false)
both_false true b h = absurd (true≢false h)
both_false false b h = (refl, h)

none_of : (a : Bool) → (a && false) ≡ false
none_of true = refl
none_of false = refl

module _ (s g : ℕ) where
  -- the last item with data of a generation of a stream among some, if there is one, carries bytes
  abbrev pub EndsFull : List Item → Type 0
  EndsFull [] = Unit {0}
  EndsFull (item ∷ items) = (has_unacknowledged_data s g items ≡ false → is_data_item s g item ≡ true → item.bytes ≡ [] → ⊥) × EndsFull items

  any_front : (xs ys : List Item) → has_unacknowledged_data s g (xs ++ ys) ≡ false
      → (has_unacknowledged_data s g xs ≡ false) × (has_unacknowledged_data s g ys ≡ false)
  any_front xs ys h = both_false _ _ (sym (list_any-append (is_data_item s g) xs ys) ∙ h)

  pub full_dropped : (n : ℕ) (items : List Item) → EndsFull items → EndsFull (drop n items)
  full_dropped zero items h = h
  full_dropped (suc n) [] h = tt
  full_dropped (suc n) (x ∷ items) h = full_dropped n items h.1

  full_none : (items : List Item) → has_unacknowledged_data s g items ≡ false → EndsFull items
  full_none [] h = tt
  full_none (x ∷ items) h =
      let two : (is_data_item s g x ≡ false) × (has_unacknowledged_data s g items ≡ false) = both_false _ _ h in
      ((λ none own empty. true≢false (sym own ∙ two.0)), full_none items two.1)

  -- behind other items
  pub full_more : (xs ys : List Item) → has_unacknowledged_data s g ys ≡ false → EndsFull xs → EndsFull (xs ++ ys)
  full_more [] ys none h = full_none ys none
  full_more (x ∷ xs) ys none h = ((λ after own empty. h.0 (any_front xs ys after).0 own empty), full_more xs ys none h.1)

  -- behind some of its own
  pub full_last : (xs ys : List Item) → has_unacknowledged_data s g ys ≡ true → EndsFull ys → EndsFull (xs ++ ys)
  full_last [] ys some h = h
  full_last (x ∷ xs) ys some h = ((λ after own empty. true≢false (sym some ∙ (any_front xs ys after).1)), full_last xs ys some h)

  -- ---- pieces

  -- whether the pieces of a message are such items
  abbrev pub are_data : (stream generation identifier : ℕ) → Bool
  are_data t n i = ((t == s) && (n == g)) && carries_data (ppi_of i)

  no_bytes : (bytes : List ℕ) → 0 < length bytes → bytes ≡ [] → ⊥
  no_bytes bytes more none = let zero_length : length bytes ≡ 0 = ap length none in omega (arith, more, zero_length)

  pub pieces_some : (count size t n i : ℕ) (bytes : List ℕ) → are_data t n i ≡ true → has_unacknowledged_data s g (pieces_within count size t n i bytes) ≡ true
  unfolding pieces_within
  pieces_some zero size t n i bytes own = rw own refl
  pieces_some (suc count) size t n i bytes own = by (nat_le (length bytes) size)
    where
      by : (b : Bool) → has_unacknowledged_data s g (cond b (piece t n Last i bytes ∷ []) (piece t n More i (take size bytes) ∷ pieces_within count size t n i (drop size bytes))) ≡ true
      by true = rw own refl
      by false = rw own refl

  pub pieces_full : (count size t n i : ℕ) (bytes : List ℕ) → are_data t n i ≡ true → 0 < length bytes → EndsFull (pieces_within count size t n i bytes)
  unfolding pieces_within
  pieces_full zero size t n i bytes own more = ((λ none is empty. no_bytes bytes more empty), tt)
  pieces_full (suc count) size t n i bytes own more = by (nat_le (length bytes) size) refl (λ h. pieces_full count size t n i (drop size bytes) own h)
    where
      by : (b : Bool) → nat_le (length bytes) size ≡ b → (0 < length (drop size bytes) → EndsFull (pieces_within count size t n i (drop size bytes)))
          → EndsFull (cond b (piece t n Last i bytes ∷ []) (piece t n More i (take size bytes) ∷ pieces_within count size t n i (drop size bytes)))
      by true e rest = ((λ none is empty. no_bytes bytes more empty), tt)
      by false e rest =
          let longer : size < length bytes = grind (arith, e) in
          let left : length (drop size bytes) ≡ length bytes - size = length-drop size bytes in
          ((λ none is empty. true≢false (sym (pieces_some count size t n i (drop size bytes) own) ∙ none)), rest (omega (arith, longer, left)))

  pub pieces_none : (count size t n i : ℕ) (bytes : List ℕ) → are_data t n i ≡ false → has_unacknowledged_data s g (pieces_within count size t n i bytes) ≡ false
  unfolding pieces_within
  pieces_none zero size t n i bytes other = rw other refl
  pieces_none (suc count) size t n i bytes other = by (nat_le (length bytes) size) (pieces_none count size t n i (drop size bytes) other)
    where
      by : (b : Bool) → has_unacknowledged_data s g (pieces_within count size t n i (drop size bytes)) ≡ false
          → has_unacknowledged_data s g (cond b (piece t n Last i bytes ∷ []) (piece t n More i (take size bytes) ∷ pieces_within count size t n i (drop size bytes))) ≡ false
      by true rest = rw other refl
      by false rest = rw (other, rest) refl

  -- a close carries none
  pub close_none : (t n : ℕ) → has_unacknowledged_data s g (close_of t n ∷ []) ≡ false
  close_none t n = let none : (((t == s) && (n == g)) && false) ≡ false = none_of ((t == s) && (n == g)) in rw none refl

  -- ---- amounts

  both_true : (a b : Bool) → (a && b) ≡ true → (a ≡ true) × (b ≡ true)
  both_true true b h = (refl, h)
  both_true false b h = absurd (true≢false (sym h))

  sum_zero : (a b : ℕ) → a + b ≡ 0 → (a ≡ 0) × (b ≡ 0)
  sum_zero a b h = (omega (arith, h), omega (arith, h))

  none_counted : (bytes : List ℕ) → length bytes ≡ 0 → bytes ≡ []
  none_counted [] h = refl
  none_counted (x ∷ bytes) h = absurd (omega (arith, h))

  -- if no byte of a stream is unacknowledged, no item with its data is
  pub full_counted : (items : List Item) → EndsFull items → buffered s items ≡ 0 → has_unacknowledged_data s g items ≡ false
  full_counted [] h none = refl
  full_counted (x ∷ items) h none = by (is_data_item s g x) refl (sum_zero (bytes_for s x) (buffered s items) none) (λ k. full_counted items h.1 k)
    where
      by : (b : Bool) → is_data_item s g x ≡ b → (bytes_for s x ≡ 0) × (buffered s items ≡ 0) → (buffered s items ≡ 0 → has_unacknowledged_data s g items ≡ false)
          → (is_data_item s g x || has_unacknowledged_data s g items) ≡ false
      by true e zeros rest =
          let whole : (((x.stream == s) && (x.generation == g)) ≡ true) × (carries_data (ppi_of x.identifier) ≡ true) = both_true _ _ e in
          let stream : ((x.stream == s) ≡ true) × ((x.generation == g) ≡ true) = both_true _ _ whole.0 in
          let own : length x.bytes ≡ 0 = sym (ap (λ (c : Bool). cond c (length x.bytes) 0) stream.0) ∙ zeros.0 in
          absurd (h.0 (rest zeros.1) e (none_counted x.bytes own))
      by false e zeros rest = rw (e, rest zeros.1) refl
