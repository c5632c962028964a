-- The messages of a generation of a stream, in lists that are joined.
use Rattle.std.proofs.Common.{◌≡◌, ℕ, ◌<◌, ◌==◌, ◌&&◌, ◌||◌, cond, Bool, true, false, true≢false, List, [], ◌∷◌, ◌++◌, refl, sym, ap, ◌∙◌, arith}
use Rattle.std.proofs.lemmas.Bool.{ne_eqb, eqb-true}
use Rattle.std.proofs.lemmas.List.Elements.{filter-append}
use Rattle.std.proofs.lemmas.List.Folds.{list_all-append}
use Rattle.rtc_parts.specs.declared.ppi.Ppi.{Ppi}
use Rattle.rtc_sctp_laws.specs.StreamMessages.{StreamMessage, stream_message, is_dcep_message, are_dcep}
use Rattle.rtc_sctp_laws.specs.StreamUses.{is_of_generation, messages_of, are_of_stream, begins_with_dcep, any_dcep}

pub messages-append : (s g : ℕ) (xs ys : List StreamMessage) → messages_of s g (xs ++ ys) ≡ messages_of s g xs ++ messages_of s g ys
messages-append s g xs ys = filter-append (is_of_generation s g) xs ys

and_false : (a b : Bool) → b ≡ false → (a && b) ≡ false
and_false true b h = h
and_false false b h = refl

-- one of the generation
pub messages_one : (s g : ℕ) (i : Ppi) (bytes : List ℕ) → messages_of s g (stream_message s g i bytes ∷ []) ≡ stream_message s g i bytes ∷ []
messages_one s g i bytes =
    let same : (s == s) ≡ true = grind arith in
    let also : (g == g) ≡ true = grind arith in
    rw (same, also) refl

-- one of another generation
pub messages_later : (s h g : ℕ) (i : Ppi) (bytes : List ℕ) → h < g → messages_of s g (stream_message s h i bytes ∷ []) ≡ []
messages_later s h g i bytes lt =
    let other : (h == g) ≡ false = ne_eqb h g (λ e. omega (arith, lt, e)) in
    ap (λ b. cond b (stream_message s h i bytes ∷ []) []) (and_false (s == s) (h == g) other)

-- messages of another stream
pub messages_other : (id s g : ℕ) (xs : List StreamMessage) → are_of_stream id xs ≡ true → (id ≡ s → ⊥) → messages_of s g xs ≡ []
messages_other id s g [] h ne = refl
messages_other id s g (x ∷ xs) h ne = by (x.stream == id) refl h (λ k. messages_other id s g xs k ne)
  where
    other : (b : Bool) → b ≡ false → messages_of s g xs ≡ [] → cond (b && (x.generation == g)) (x ∷ messages_of s g xs) (messages_of s g xs) ≡ []
    other true e k = absurd (true≢false e)
    other false e k = k

    by : (b : Bool) → (x.stream == id) ≡ b → (b && are_of_stream id xs) ≡ true → (are_of_stream id xs ≡ true → messages_of s g xs ≡ []) → messages_of s g (x ∷ xs) ≡ []
    by true e k rest = other (x.stream == s) (ne_eqb x.stream s (λ f. ne (sym (eqb-true x.stream id e) ∙ f))) (rest k)
    by false e k rest = absurd (true≢false (sym k))

pub own_join : (s : ℕ) (xs ys : List StreamMessage) → are_of_stream s xs ≡ true → are_of_stream s ys ≡ true → are_of_stream s (xs ++ ys) ≡ true
own_join s xs ys h k = rw (list_all-append (λ (x : StreamMessage). x.stream == s) xs ys, h, k) refl

pub own_one : (s g : ℕ) (i : Ppi) (bytes : List ℕ) → are_of_stream s (stream_message s g i bytes ∷ []) ≡ true
own_one s g i bytes = let same : (s == s) ≡ true = grind arith in rw same refl

-- what the first message is stays where more come
pub begins_more : (xs ys : List StreamMessage) → begins_with_dcep xs ≡ true → begins_with_dcep (xs ++ ys) ≡ true
begins_more [] ys h = absurd (true≢false (sym h))
begins_more (x ∷ xs) ys h = h

pub none_data : (xs : List StreamMessage) (y : StreamMessage) → any_dcep xs ≡ false → is_dcep_message y ≡ false → any_dcep (xs ++ y ∷ []) ≡ false
none_data [] y h k = rw k refl
none_data (x ∷ xs) y h k = by (is_dcep_message x) h (none_data xs y)
  where
    by : (b : Bool) → (b || any_dcep xs) ≡ false → (any_dcep xs ≡ false → is_dcep_message y ≡ false → any_dcep (xs ++ y ∷ []) ≡ false) → (b || any_dcep (xs ++ y ∷ [])) ≡ false
    by true f rest = absurd (true≢false f)
    by false f rest = rest f k

pub begins_dcep : (xs : List StreamMessage) (y : StreamMessage) → are_dcep xs ≡ true → is_dcep_message y ≡ true → begins_with_dcep (xs ++ y ∷ []) ≡ true
begins_dcep [] y h k = k
begins_dcep (x ∷ xs) y h k = by (is_dcep_message x) refl h
  where
    by : (b : Bool) → is_dcep_message x ≡ b → (b && are_dcep xs) ≡ true → is_dcep_message x ≡ true
    by true e f = e
    by false e f = absurd (true≢false (sym f))
