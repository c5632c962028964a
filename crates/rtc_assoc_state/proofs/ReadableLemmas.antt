-- Which generations have a message unread, while messages come and go.
use Rattle.std.proofs.Common.{ℕ, suc, ◌≡◌, ◌+◌, ◌||◌, ◌⊎◌, inl, inr, Bool, true, false, not, cond, List, [], ◌∷◌, ◌++◌, length, filter, Some, None, refl, ap, arith, length-append}
use Rattle.std.specs.List.{list_any}
use Rattle.std.proofs.lemmas.Bool.Decides.{eqb_tells}
use Rattle.rtc_assoc_state.specs.declared.message.Message.{Message}
use Rattle.rtc_assoc_state.specs.Inbox.{is_message_of, is_of_later, with_message}
use Rattle.rtc_assoc_state.specs.Calls.{first_message_of, messages_behind}

either : (a b : Bool) → (a || b) ≡ true → (a ≡ true) ⊎ (b ≡ true)
either true b e = inl refl
either false b e = inr e

or_true : (a b : Bool) → b ≡ true → (a || b) ≡ true
or_true true b e = refl
or_true false b e = e

or_some : (a b c : Bool) → (b ≡ true → c ≡ true) → (a || b) ≡ true → (a || c) ≡ true
or_some true b c f e = refl
or_some false b c f e = f e

-- messages that were dropped
pub any-filter : (p q : Message → Bool) (xs : List Message) → list_any p (filter q xs) ≡ true → list_any p xs ≡ true
any-filter p q [] e = e
any-filter p q (x ∷ xs) e = by_test (q x) (any-filter p q xs) e
  where
    by_test : (b : Bool) → (list_any p (filter q xs) ≡ true → list_any p xs ≡ true) → list_any p (cond b (x ∷ filter q xs) (filter q xs)) ≡ true → (p x || list_any p xs) ≡ true
    by_test true f k = or_some (p x) (list_any p (filter q xs)) (list_any p xs) f k
    by_test false f k = or_true (p x) (list_any p xs) (f k)

-- one more message among the others
any-among : (p : Message → Bool) (xs ys : List Message) → list_any p (xs ++ ys) ≡ true → (list_any p xs ≡ true) ⊎ (list_any p ys ≡ true)
any-among p [] ys e = inr e
any-among p (x ∷ xs) ys e = elim (either (p x) (list_any p (xs ++ ys)) e) [
  | inl h ↦ inl (ap (λ b. b || list_any p xs) h)
  | inr h ↦ elim (any-among p xs ys h) [ inl k ↦ inl (or_true (p x) (list_any p xs) k) | inr k ↦ inr k ]
]

pub any-with : (p : Message → Bool) (xs : List Message) (m : Message) → list_any p (with_message m xs) ≡ true → (list_any p xs ≡ true) ⊎ (p m ≡ true)
any-with p xs m e =
    let front = filter (λ x. not (is_of_later m.stream x)) xs in
    let back = filter (is_of_later m.stream) xs in
    elim (any-among p front (m ∷ back) e) [
      | inl h ↦ inl (any-filter p (λ x. not (is_of_later m.stream x)) xs h)
      | inr h ↦ elim (either (p m) (list_any p back) h) [ inl k ↦ inr k | inr k ↦ inl (any-filter p (is_of_later m.stream) xs k) ]
    ]

-- how many messages there are with one more
length-parts : (q : Message → Bool) (xs : List Message) → length (filter (λ m. not (q m)) xs) + length (filter q xs) ≡ length xs
length-parts q [] = refl
length-parts q (x ∷ xs) = by_test (q x) (length-parts q xs)
  where
    by_test : (b : Bool) → length (filter (λ m. not (q m)) xs) + length (filter q xs) ≡ length xs → length (cond (not b) (x ∷ filter (λ m. not (q m)) xs) (filter (λ m. not (q m)) xs)) + length (cond b (x ∷ filter q xs) (filter q xs)) ≡ suc (length xs)
    by_test true h = omega (arith, h)
    by_test false h = omega (arith, h)

pub length-with : (m : Message) (xs : List Message) → length (with_message m xs) ≡ length xs + 1
length-with m xs =
    omega (arith, length-append (filter (λ x. not (is_of_later m.stream x)) xs) (m ∷ filter (is_of_later m.stream) xs), length-parts (is_of_later m.stream) xs)

-- a message that was taken out
pub any-taken : (p : Message → Bool) (s g : ℕ) (xs : List Message) → list_any p (messages_behind s g xs) ≡ true → list_any p xs ≡ true
any-taken p s g [] e = e
any-taken p s g (x ∷ xs) e = by_test (is_message_of s g x) (any-taken p s g xs) e
  where
    by_test : (b : Bool) → (list_any p (messages_behind s g xs) ≡ true → list_any p xs ≡ true) → list_any p (cond b xs (x ∷ messages_behind s g xs)) ≡ true → (p x || list_any p xs) ≡ true
    by_test true f k = or_true (p x) (list_any p xs) k
    by_test false f k = or_some (p x) (list_any p (messages_behind s g xs)) (list_any p xs) f k

-- the next message of a generation, by whether one is there
pub some-unread : (s g : ℕ) (xs : List Message) (m : Message) → first_message_of s g xs ≡ Some m → list_any (is_message_of s g) xs ≡ true
some-unread s g [] m e = absurd cc
some-unread s g (x ∷ xs) m e = by_test (is_message_of s g x) (some-unread s g xs m) e
  where
    by_test : (b : Bool) → (first_message_of s g xs ≡ Some m → list_any (is_message_of s g) xs ≡ true) → cond b (Some x) (first_message_of s g xs) ≡ Some m → (b || list_any (is_message_of s g) xs) ≡ true
    by_test true f k = refl
    by_test false f k = f k

pub none-unread : (s g : ℕ) (xs : List Message) → first_message_of s g xs ≡ None → list_any (is_message_of s g) xs ≡ false
none-unread s g [] e = refl
none-unread s g (x ∷ xs) e = by_test (is_message_of s g x) (none-unread s g xs) e
  where
    by_test : (b : Bool) → (first_message_of s g xs ≡ None → list_any (is_message_of s g) xs ≡ false) → cond b (Some x) (first_message_of s g xs) ≡ None → (b || list_any (is_message_of s g) xs) ≡ false
    by_test true f k = absurd cc
    by_test false f k = f k

-- a message is of its own stream
pub message_stream : (s g : ℕ) (m : Message) → is_message_of s g m ≡ true → m.stream ≡ s
message_stream s g m e = elim (eqb_tells m.stream s) [ inl h ↦ h.1 | inr h ↦ absurd (let k : false ≡ true = rw h.0 at e in cc) ]
