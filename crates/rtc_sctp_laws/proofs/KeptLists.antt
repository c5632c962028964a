-- Of lists of messages, and of parts of messages: that there is one of a generation of a stream.
use Rattle.std.proofs.Common.{◌≡◌, ◌∙◌, ◌⊎◌, ◌==◌, ◌&&◌, inl, inr, ℕ, cond, not, nat_lt, Bool, true, false, true≢false, List, [], ◌∷◌, ◌++◌, refl, sym, ap, arith}
use Rattle.std.specs.List.{filter}
use Rattle.std.proofs.lemmas.Bool.{eqb-true, ne_eqb}
use Rattle.rtc_assoc_state.specs.declared.message.Message.{Message}
use Rattle.rtc_assoc_state.specs.Inbox.{MessagePart, is_message_of, is_of_later, is_part_above, is_part_below, is_part_of, is_part_on, with_bytes, with_message, with_more, without_messages, without_part}
use Rattle.rtc_assoc_state.specs.Calls.{messages_behind}

module _ {A : Type 0} (stream generation : A → ℕ) where
  -- one is of a generation of a stream
  abbrev pub HasOneOf : (s g : ℕ) → List A → Type 0
  HasOneOf s g [] = ⊥
  HasOneOf s g (x ∷ xs) = ((stream x ≡ s) × (generation x ≡ g)) ⊎ HasOneOf s g xs

  one_left : (s g : ℕ) (xs ys : List A) → HasOneOf s g xs → HasOneOf s g (xs ++ ys)
  one_left s g [] ys h = absurd h
  one_left s g (x ∷ xs) ys (inl h) = inl h
  one_left s g (x ∷ xs) ys (inr h) = inr (one_left s g xs ys h)

  one_right : (s g : ℕ) (xs ys : List A) → HasOneOf s g ys → HasOneOf s g (xs ++ ys)
  one_right s g [] ys h = h
  one_right s g (x ∷ xs) ys h = inr (one_right s g xs ys h)

  one_either : (s g : ℕ) (xs ys : List A) → HasOneOf s g (xs ++ ys) → HasOneOf s g xs ⊎ HasOneOf s g ys
  one_either s g [] ys h = inr h
  one_either s g (x ∷ xs) ys (inl h) = inl (inl h)
  one_either s g (x ∷ xs) ys (inr h) = by (one_either s g xs ys h)
    where
      by : HasOneOf s g xs ⊎ HasOneOf s g ys → HasOneOf s g (x ∷ xs) ⊎ HasOneOf s g ys
      by (inl k) = inl (inr k)
      by (inr k) = inr k

  -- what a test of all those of the stream lets through
  pub one_kept : (s g : ℕ) (t : A → Bool) (xs : List A) → ((x : A) → stream x ≡ s → t x ≡ true) → HasOneOf s g xs → HasOneOf s g (filter t xs)
  one_kept s g t [] all h = absurd h
  one_kept s g t (x ∷ xs) all (inl h) = by (t x) (all x h.0)
    where
      by : (b : Bool) → b ≡ true → HasOneOf s g (cond b (x ∷ filter t xs) (filter t xs))
      by true e = inl h
      by false e = absurd (true≢false (sym e))
  one_kept s g t (x ∷ xs) all (inr h) = by (t x) (one_kept s g t xs all h)
    where
      by : (b : Bool) → HasOneOf s g (filter t xs) → HasOneOf s g (cond b (x ∷ filter t xs) (filter t xs))
      by true k = inr k
      by false k = k

  pub one_was : (s g : ℕ) (t : A → Bool) (xs : List A) → HasOneOf s g (filter t xs) → HasOneOf s g xs
  one_was s g t [] h = absurd h
  one_was s g t (x ∷ xs) h = by (t x) h (λ k. one_was s g t xs k)
    where
      by : (b : Bool) → HasOneOf s g (cond b (x ∷ filter t xs) (filter t xs)) → (HasOneOf s g (filter t xs) → HasOneOf s g xs) → HasOneOf s g (x ∷ xs)
      by true (inl k) rest = inl k
      by true (inr k) rest = inr (rest k)
      by false k rest = inr (rest k)

-- ---- parts

abbrev pub HasPart : (s g : ℕ) → List MessagePart → Type 0
HasPart s g parts = HasOneOf (λ (p : MessagePart). p.stream) (λ (p : MessagePart). p.generation) s g parts

both_true : (a b : Bool) → (a && b) ≡ true → (a ≡ true) × (b ≡ true)
both_true true true h = (refl, refl)
both_true true false h = absurd (true≢false (sym h))
both_true false b h = absurd (true≢false (sym h))

more_keeps : (s g t n : ℕ) (bytes : List ℕ) (xs : List MessagePart) → HasPart s g xs → HasPart s g (with_more t n bytes xs)
more_keeps s g t n bytes [] h = absurd h
more_keeps s g t n bytes (p ∷ xs) h = by (is_part_of t n p) h (λ k. more_keeps s g t n bytes xs k)
  where
    by : (b : Bool) → HasPart s g (p ∷ xs) → (HasPart s g xs → HasPart s g (with_more t n bytes xs))
        → HasPart s g (cond b (record p { bytes = p.bytes ++ bytes } ∷ xs) (p ∷ with_more t n bytes xs))
    by true (inl k) rest = inl k
    by true (inr k) rest = inr k
    by false (inl k) rest = inl k
    by false (inr k) rest = inr (rest k)

more_own : (t n : ℕ) (bytes : List ℕ) (xs : List MessagePart) → HasPart t n (with_more t n bytes xs)
more_own t n bytes [] = inl (refl, refl)
more_own t n bytes (p ∷ xs) = by (is_part_of t n p) refl (more_own t n bytes xs)
  where
    by : (b : Bool) → is_part_of t n p ≡ b → HasPart t n (with_more t n bytes xs)
        → HasPart t n (cond b (record p { bytes = p.bytes ++ bytes } ∷ xs) (p ∷ with_more t n bytes xs))
    by true e rest = let two = both_true (p.stream == t) (p.generation == n) e in inl (eqb-true p.stream t two.0, eqb-true p.generation n two.1)
    by false e rest = inr rest

more_back : (s g t n : ℕ) (bytes : List ℕ) (xs : List MessagePart) → HasPart s g (with_more t n bytes xs) → HasPart s g xs ⊎ ((t ≡ s) × (n ≡ g))
more_back s g t n bytes [] (inl h) = inr h
more_back s g t n bytes [] (inr h) = absurd h
more_back s g t n bytes (p ∷ xs) h = by (is_part_of t n p) h (λ k. more_back s g t n bytes xs k)
  where
    later : HasPart s g xs ⊎ ((t ≡ s) × (n ≡ g)) → HasPart s g (p ∷ xs) ⊎ ((t ≡ s) × (n ≡ g))
    later (inl k) = inl (inr k)
    later (inr k) = inr k

    by : (b : Bool) → HasPart s g (cond b (record p { bytes = p.bytes ++ bytes } ∷ xs) (p ∷ with_more t n bytes xs))
        → (HasPart s g (with_more t n bytes xs) → HasPart s g xs ⊎ ((t ≡ s) × (n ≡ g))) → HasPart s g (p ∷ xs) ⊎ ((t ≡ s) × (n ≡ g))
    by true (inl k) rest = inl (inl k)
    by true (inr k) rest = inl (inr k)
    by false (inl k) rest = inl (inl k)
    by false (inr k) rest = later (rest k)

above : (s t : ℕ) → nat_lt s t ≡ false → (s == t) ≡ false → nat_lt t s ≡ true
above s t h k = grind (arith, h, k)

pub bytes_keeps : (s g t n : ℕ) (bytes : List ℕ) (xs : List MessagePart) → HasPart s g xs → HasPart s g (with_bytes t n bytes xs)
bytes_keeps s g t n bytes xs h = by (nat_lt s t) refl (s == t) refl
  where
    by : (b : Bool) → nat_lt s t ≡ b → (c : Bool) → (s == t) ≡ c → HasPart s g (with_bytes t n bytes xs)
    by true e c f =
        one_left (λ (p : MessagePart). p.stream) (λ (p : MessagePart). p.generation) s g (filter (is_part_below t) xs)
        (with_more t n bytes (filter (is_part_on t) xs) ++ filter (is_part_above t) xs)
        (one_kept (λ (p : MessagePart). p.stream) (λ (p : MessagePart). p.generation) s g (is_part_below t) xs (λ x same. ap (λ (k : ℕ). nat_lt k t) same ∙ e) h)
    by false e true f =
        one_right (λ (p : MessagePart). p.stream) (λ (p : MessagePart). p.generation) s g (filter (is_part_below t) xs)
        (with_more t n bytes (filter (is_part_on t) xs) ++ filter (is_part_above t) xs)
        (one_left (λ (p : MessagePart). p.stream) (λ (p : MessagePart). p.generation) s g (with_more t n bytes (filter (is_part_on t) xs)) (filter (is_part_above t) xs)
        (more_keeps s g t n bytes (filter (is_part_on t) xs)
        (one_kept (λ (p : MessagePart). p.stream) (λ (p : MessagePart). p.generation) s g (is_part_on t) xs (λ x same. ap (λ (k : ℕ). k == t) same ∙ f) h)))
    by false e false f =
        one_right (λ (p : MessagePart). p.stream) (λ (p : MessagePart). p.generation) s g (filter (is_part_below t) xs)
        (with_more t n bytes (filter (is_part_on t) xs) ++ filter (is_part_above t) xs)
        (one_right (λ (p : MessagePart). p.stream) (λ (p : MessagePart). p.generation) s g (with_more t n bytes (filter (is_part_on t) xs)) (filter (is_part_above t) xs)
        (one_kept (λ (p : MessagePart). p.stream) (λ (p : MessagePart). p.generation) s g (is_part_above t) xs (λ x same. ap (λ (k : ℕ). nat_lt t k) same ∙ above s t e f) h))

pub bytes_own : (t n : ℕ) (bytes : List ℕ) (xs : List MessagePart) → HasPart t n (with_bytes t n bytes xs)
bytes_own t n bytes xs =
    one_right (λ (p : MessagePart). p.stream) (λ (p : MessagePart). p.generation) t n (filter (is_part_below t) xs)
    (with_more t n bytes (filter (is_part_on t) xs) ++ filter (is_part_above t) xs)
    (one_left (λ (p : MessagePart). p.stream) (λ (p : MessagePart). p.generation) t n (with_more t n bytes (filter (is_part_on t) xs)) (filter (is_part_above t) xs)
    (more_own t n bytes (filter (is_part_on t) xs)))

pub bytes_back : (s g t n : ℕ) (bytes : List ℕ) (xs : List MessagePart) → HasPart s g (with_bytes t n bytes xs) → HasPart s g xs ⊎ ((t ≡ s) × (n ≡ g))
bytes_back s g t n bytes xs h =
    first
    (one_either (λ (p : MessagePart). p.stream) (λ (p : MessagePart). p.generation) s g (filter (is_part_below t) xs)
    (with_more t n bytes (filter (is_part_on t) xs) ++ filter (is_part_above t) xs) h)
  where
    was : (test : MessagePart → Bool) → HasPart s g (filter test xs) → HasPart s g xs
    was test k = one_was (λ (p : MessagePart). p.stream) (λ (p : MessagePart). p.generation) s g test xs k

    on : HasPart s g (filter (is_part_on t) xs) ⊎ ((t ≡ s) × (n ≡ g)) → HasPart s g xs ⊎ ((t ≡ s) × (n ≡ g))
    on (inl k) = inl (was (is_part_on t) k)
    on (inr k) = inr k

    second : HasPart s g (with_more t n bytes (filter (is_part_on t) xs)) ⊎ HasPart s g (filter (is_part_above t) xs) → HasPart s g xs ⊎ ((t ≡ s) × (n ≡ g))
    second (inl k) = on (more_back s g t n bytes (filter (is_part_on t) xs) k)
    second (inr k) = inl (was (is_part_above t) k)

    first : HasPart s g (filter (is_part_below t) xs) ⊎ HasPart s g (with_more t n bytes (filter (is_part_on t) xs) ++ filter (is_part_above t) xs)
        → HasPart s g xs ⊎ ((t ≡ s) × (n ≡ g))
    first (inl k) = inl (was (is_part_below t) k)
    first (inr k) =
        second
        (one_either (λ (p : MessagePart). p.stream) (λ (p : MessagePart). p.generation) s g (with_more t n bytes (filter (is_part_on t) xs))
        (filter (is_part_above t) xs) k)

-- without those of another stream
pub part_beside : (s g t n : ℕ) (xs : List MessagePart) → (t ≡ s → ⊥) → HasPart s g xs → HasPart s g (without_part t n xs)
part_beside s g t n xs ne h =
    one_kept (λ (p : MessagePart). p.stream) (λ (p : MessagePart). p.generation) s g (λ p. not (is_part_of t n p)) xs
    (λ x same. ap (λ (b : Bool). not (b && (x.generation == n))) (ne_eqb x.stream t (λ e. ne (sym e ∙ same)))) h

pub part_before : (s g t n : ℕ) (xs : List MessagePart) → HasPart s g (without_part t n xs) → HasPart s g xs
part_before s g t n xs h =
    one_was (λ (p : MessagePart). p.stream) (λ (p : MessagePart). p.generation) s g (λ p. not (is_part_of t n p)) xs h

-- ---- messages

abbrev pub HasMessage : (s g : ℕ) → List Message → Type 0
HasMessage s g messages = HasOneOf (λ (m : Message). m.stream) (λ (m : Message). m.generation) s g messages

pub message_own : (m : Message) (xs : List Message) → HasMessage m.stream m.generation (with_message m xs)
message_own m xs =
    one_right (λ (x : Message). x.stream) (λ (x : Message). x.generation) m.stream m.generation (filter (λ x. not (is_of_later m.stream x)) xs)
    (m ∷ filter (is_of_later m.stream) xs) (inl (refl, refl))

pub message_keeps : (s g : ℕ) (m : Message) (xs : List Message) → HasMessage s g xs → HasMessage s g (with_message m xs)
message_keeps s g m xs h = by (nat_lt m.stream s) refl
  where
    by : (b : Bool) → nat_lt m.stream s ≡ b → HasMessage s g (with_message m xs)
    by true e =
        one_right (λ (x : Message). x.stream) (λ (x : Message). x.generation) s g (filter (λ x. not (is_of_later m.stream x)) xs)
        (m ∷ filter (is_of_later m.stream) xs)
        (inr (one_kept (λ (x : Message). x.stream) (λ (x : Message). x.generation) s g (is_of_later m.stream) xs (λ x same. ap (λ (k : ℕ). nat_lt m.stream k) same ∙ e) h))
    by false e =
        one_left (λ (x : Message). x.stream) (λ (x : Message). x.generation) s g (filter (λ x. not (is_of_later m.stream x)) xs)
        (m ∷ filter (is_of_later m.stream) xs)
        (one_kept (λ (x : Message). x.stream) (λ (x : Message). x.generation) s g (λ x. not (is_of_later m.stream x)) xs
        (λ x same. ap (λ (k : ℕ). not (nat_lt m.stream k)) same ∙ ap not e) h)

pub message_beside : (s g t n : ℕ) (xs : List Message) → (t ≡ s → ⊥) → HasMessage s g xs → HasMessage s g (without_messages t n xs)
message_beside s g t n xs ne h =
    one_kept (λ (x : Message). x.stream) (λ (x : Message). x.generation) s g (λ x. not (is_message_of t n x)) xs
    (λ x same. ap (λ (b : Bool). not (b && (x.generation == n))) (ne_eqb x.stream t (λ e. ne (sym e ∙ same)))) h

-- the first message of another stream is taken
pub message_behind : (s g t n : ℕ) (xs : List Message) → (t ≡ s → ⊥) → HasMessage s g xs → HasMessage s g (messages_behind t n xs)
message_behind s g t n [] ne h = absurd h
message_behind s g t n (x ∷ xs) ne h = by (is_message_of t n x) refl h (λ k. message_behind s g t n xs ne k)
  where
    by : (b : Bool) → is_message_of t n x ≡ b → HasMessage s g (x ∷ xs) → (HasMessage s g xs → HasMessage s g (messages_behind t n xs))
        → HasMessage s g (cond b xs (x ∷ messages_behind t n xs))
    by true e (inl k) rest = absurd (ne (sym (eqb-true x.stream t (both_true (x.stream == t) (x.generation == n) e).0) ∙ k.0))
    by true e (inr k) rest = k
    by false e (inl k) rest = inl k
    by false e (inr k) rest = inr (rest k)
