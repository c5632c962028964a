-- What is kept of a generation of a stream while messages come, are read and are dropped.
use Rattle.std.proofs.Common.{ℕ, ◌≡◌, not, nat_lt, inl, inr, Bool, true, false, cond, List, [], ◌∷◌, ◌++◌, filter, Some, None, refl, sym, ap, ◌∙◌, append_assoc, append-nil}
use Rattle.std.proofs.lemmas.Bool.{cases_Bool}
use Rattle.rtc_parts.specs.AssociationWords.{AssociationMessage}
use Rattle.rtc_assoc_state.specs.declared.message.Message.{Message}
use Rattle.rtc_assoc_state.specs.Inbox.{MessagePart, is_part_of, is_message_of, is_of_later, with_message, bytes_so_far, with_bytes, without_part, without_messages}
use Rattle.rtc_assoc_state.specs.Calls.{first_message_of, messages_behind}
use Rattle.rtc_assoc_state.proofs.ReadableLemmas.{message_stream}
use Rattle.rtc_assoc_state.proofs.MessageLists.{not_later_self}
use Rattle.rtc_assoc_state.proofs.PartLemmas.{bytes_so_far-with, bytes_so_far-with_other}
use Rattle.rtc_assoc.specs.Unread.{unread, IsPrefix}
use Rattle.rtc_assoc.proofs.MessageLemmas.{pair_tells, message}

-- lists that begin others
pub prefix_self : {A : Type 0} (xs : List A) → IsPrefix xs xs
prefix_self xs = record { rest = []; is = append-nil xs }

pub prefix_none : {A : Type 0} (ys : List A) → IsPrefix [] ys
prefix_none ys = record { rest = ys; is = refl }

pub prefix_then : {A : Type 0} (xs ys zs : List A) → IsPrefix xs ys → IsPrefix ys zs → IsPrefix xs zs
prefix_then xs ys zs h k = record { rest = h.rest ++ k.rest; is = sym (append_assoc xs h.rest k.rest) ∙ ap (λ l. l ++ k.rest) h.is ∙ k.is }

pub prefix_more : {A : Type 0} (xs ys zs : List A) → IsPrefix xs ys → IsPrefix xs (ys ++ zs)
prefix_more xs ys zs h = record { rest = h.rest ++ zs; is = sym (append_assoc xs h.rest zs) ∙ ap (λ l. l ++ zs) h.is }

pub prefix_front : {A : Type 0} (xs ys zs : List A) → IsPrefix (xs ++ ys) zs → IsPrefix xs zs
prefix_front xs ys zs h = record { rest = ys ++ h.rest; is = sym (append_assoc xs ys h.rest) ∙ h.is }

pub prefix_behind : {A : Type 0} (xs ys zs : List A) → IsPrefix ys zs → IsPrefix (xs ++ ys) (xs ++ zs)
prefix_behind xs ys zs h = record { rest = h.rest; is = append_assoc xs ys h.rest ∙ ap (λ l. xs ++ l) h.is }

pub prefix_is : {A : Type 0} (xs ys : List A) → xs ≡ ys → IsPrefix xs ys
prefix_is xs ys e = record { rest = []; is = append-nil xs ∙ e }

-- unread messages
cond-append : {A : Type 0} (b : Bool) (x : A) (us vs ws : List A) → us ≡ vs ++ ws → cond b (x ∷ us) us ≡ cond b (x ∷ vs) vs ++ ws
cond-append true x us vs ws e = ap (λ l. x ∷ l) e
cond-append false x us vs ws e = e

pub unread-append : (s g : ℕ) (xs ys : List Message) → unread s g (xs ++ ys) ≡ unread s g xs ++ unread s g ys
unread-append s g [] ys = refl
unread-append s g (x ∷ xs) ys = cond-append (is_message_of s g x) _ _ _ _ (unread-append s g xs ys)

-- one more message, behind those of its stream
unread-kept : (s g : ℕ) (q : Message → Bool) (xs : List Message) → ((m : Message) → is_message_of s g m ≡ true → q m ≡ true) → unread s g (filter q xs) ≡ unread s g xs
unread-kept s g q [] f = refl
unread-kept s g q (x ∷ xs) f = by (q x) (f x) (unread-kept s g q xs f)
  where
    by : (b : Bool) → (is_message_of s g x ≡ true → b ≡ true) → unread s g (filter q xs) ≡ unread s g xs → unread s g (cond b (x ∷ filter q xs) (filter q xs)) ≡ unread s g (x ∷ xs)
    by true h e = ap (λ l. cond (is_message_of s g x) (message x.identifier x.bytes ∷ l) l) e
    by false h e = elim (cases_Bool (is_message_of s g x)) [ inl k ↦ absurd (let z : false ≡ true = h k in cc) | inr k ↦ rw k e ]

unread-left_out : (s g : ℕ) (q : Message → Bool) (xs : List Message) → ((m : Message) → is_message_of s g m ≡ true → q m ≡ false) → unread s g (filter q xs) ≡ []
unread-left_out s g q [] f = refl
unread-left_out s g q (x ∷ xs) f = by (q x) (f x) (unread-left_out s g q xs f)
  where
    by : (b : Bool) → (is_message_of s g x ≡ true → b ≡ false) → unread s g (filter q xs) ≡ [] → unread s g (cond b (x ∷ filter q xs) (filter q xs)) ≡ []
    by true h e = elim (cases_Bool (is_message_of s g x)) [ inl k ↦ absurd (let z : true ≡ false = h k in cc) | inr k ↦ rw k e ]
    by false h e = e

pub unread-with : (s g : ℕ) (m : Message) (xs : List Message) → unread s g (with_message m xs) ≡ unread s g xs ++ unread s g (m ∷ [])
unread-with s g m xs =
    let front = filter (λ x. not (is_of_later m.stream x)) xs in
    let back = filter (is_of_later m.stream) xs in
    unread-append s g front (m ∷ back) ∙ elim (cases_Bool (nat_lt m.stream s)) [
      | inl l ↦ let other : is_message_of s g m ≡ false = elim (cases_Bool (is_message_of s g m)) [
        | inl k ↦ absurd (let z : false ≡ true = sym (not_later_self m.stream m.stream refl) ∙ ap (λ n. nat_lt m.stream n) (message_stream s g m k) ∙ l in cc)
        | inr k ↦ k
      ] in
          rw other (
          ap (λ us. us ++ unread s g back) (unread-left_out s g (λ x. not (is_of_later m.stream x)) xs (λ x h. ap (λ n. not (nat_lt m.stream n)) (message_stream s g x h) ∙ ap not l))
          ∙ unread-kept s g (is_of_later m.stream) xs (λ x h. ap (λ n. nat_lt m.stream n) (message_stream s g x h) ∙ l)
          ∙ sym (append-nil (unread s g xs)))
      | inr l ↦
          ap (λ us. us ++ unread s g (m ∷ back)) (unread-kept s g (λ x. not (is_of_later m.stream x)) xs (λ x h. ap (λ n. not (nat_lt m.stream n)) (message_stream s g x h) ∙ ap not l))
          ∙ ap (λ us. unread s g xs ++ cond (is_message_of s g m) (message m.identifier m.bytes ∷ us) us) (unread-left_out s g (is_of_later m.stream) xs (λ x h. ap (λ n. nat_lt m.stream n) (message_stream s g x h) ∙ l))
    ]

unread-dropped : (s g t h : ℕ) (m : Message) (b : Bool) (us vs : List AssociationMessage) (xs : List Message) → unread s g xs ≡ us → (b ≡ true → is_message_of s g m ≡ false) → unread s g (cond (not b) (m ∷ xs) xs) ≡ cond (is_message_of s g m) (message m.identifier m.bytes ∷ us) us
unread-dropped s g t h m true us vs xs e f = rw (f refl) e
unread-dropped s g t h m false us vs xs e f = ap (λ l. cond (is_message_of s g m) (message m.identifier m.bytes ∷ l) l) e

-- the messages of another generation stay where those of one are dropped
other_message : (s g t h : ℕ) (m : Message) → (t ≡ s → h ≡ g → ⊥) → is_message_of t h m ≡ true → is_message_of s g m ≡ false
other_message s g t h m n e =
    elim (pair_tells m.stream m.generation s g) [
      | inl p ↦ elim (pair_tells m.stream m.generation t h) [
        | inl q ↦ absurd (n (sym q.1 ∙ p.1) (sym q.2 ∙ p.2))
        | inr q ↦ absurd (let k : false ≡ true = sym q.0 ∙ e in cc)
      ]
      | inr p ↦ p.0
    ]

pub unread-without : (s g t h : ℕ) (xs : List Message) → (t ≡ s → h ≡ g → ⊥) → unread s g (without_messages t h xs) ≡ unread s g xs
unread-without s g t h [] n = refl
unread-without s g t h (m ∷ xs) n = unread-dropped s g t h m (is_message_of t h m) (unread s g xs) [] (without_messages t h xs) (unread-without s g t h xs n) (λ e. other_message s g t h m n e)

unread-none_by : (s g : ℕ) (m : Message) (b : Bool) (xs : List Message) → unread s g xs ≡ [] → is_message_of s g m ≡ b → unread s g (cond (not b) (m ∷ xs) xs) ≡ []
unread-none_by s g m true xs e f = e
unread-none_by s g m false xs e f = rw f e

pub unread-forgotten : (s g : ℕ) (xs : List Message) → unread s g (without_messages s g xs) ≡ []
unread-forgotten s g [] = refl
unread-forgotten s g (m ∷ xs) = unread-none_by s g m (is_message_of s g m) (without_messages s g xs) (unread-forgotten s g xs) refl

-- the first message of a generation is taken out
pub unread-taken : (s g : ℕ) (xs : List Message) (m : Message) → first_message_of s g xs ≡ Some m → unread s g xs ≡ message m.identifier m.bytes ∷ unread s g (messages_behind s g xs)
unread-taken s g [] m e = absurd (let k : None ≡ Some m = e in cc)
unread-taken s g (x ∷ xs) m e =
    elim (cases_Bool (is_message_of s g x)) [
      | inl b ↦ let same : Some x ≡ Some m = rw b at e in rw b (ap (λ (y : Message). message y.identifier y.bytes ∷ unread s g xs) (some_same x m same))
      | inr b ↦ let rest : first_message_of s g xs ≡ Some m = rw b at e in rw (b, b) (unread-taken s g xs m rest)
    ]
  where
    some_same : (x y : Message) → Some x ≡ Some y → x ≡ y
    some_same x y e = cc

pub unread-taken_other : (s g t h : ℕ) (xs : List Message) → (t ≡ s → h ≡ g → ⊥) → unread s g (messages_behind t h xs) ≡ unread s g xs
unread-taken_other s g t h [] n = refl
unread-taken_other s g t h (x ∷ xs) n = by (is_message_of t h x) (λ e. other_message s g t h x n e) (unread-taken_other s g t h xs n)
  where
    by : (b : Bool) → (b ≡ true → is_message_of s g x ≡ false) → unread s g (messages_behind t h xs) ≡ unread s g xs → unread s g (cond b xs (x ∷ messages_behind t h xs)) ≡ unread s g (x ∷ xs)
    by true f e = rw (f refl) refl
    by false f e = ap (λ l. cond (is_message_of s g x) (message x.identifier x.bytes ∷ l) l) e

-- the bytes that came of a message
pub so_far-with : (s g : ℕ) (bytes : List ℕ) (parts : List MessagePart) → bytes_so_far s g (with_bytes s g bytes parts) ≡ bytes_so_far s g parts ++ bytes
so_far-with s g bytes parts = bytes_so_far-with s g bytes parts

other_part : (s g t h : ℕ) (m : MessagePart) → (t ≡ s → h ≡ g → ⊥) → is_part_of t h m ≡ true → is_part_of s g m ≡ false
other_part s g t h m n e =
    elim (pair_tells m.stream m.generation s g) [
      | inl p ↦ elim (pair_tells m.stream m.generation t h) [
        | inl q ↦ absurd (n (sym q.1 ∙ p.1) (sym q.2 ∙ p.2))
        | inr q ↦ absurd (let k : false ≡ true = sym q.0 ∙ e in cc)
      ]
      | inr p ↦ p.0
    ]

pub so_far-with_other : (s g t h : ℕ) (bytes : List ℕ) (parts : List MessagePart) → (t ≡ s → h ≡ g → ⊥) → bytes_so_far s g (with_bytes t h bytes parts) ≡ bytes_so_far s g parts
so_far-with_other s g t h bytes parts n = bytes_so_far-with_other s g t h bytes parts n

so_far-dropped : (s g : ℕ) (m : MessagePart) (b : Bool) (us : List ℕ) (xs : List MessagePart) → bytes_so_far s g xs ≡ us → (b ≡ true → is_part_of s g m ≡ false) → bytes_so_far s g (cond (not b) (m ∷ xs) xs) ≡ cond (is_part_of s g m) m.bytes us
so_far-dropped s g m true us xs e f = rw (f refl) e
so_far-dropped s g m false us xs e f = ap (λ l. cond (is_part_of s g m) m.bytes l) e

pub so_far-without_other : (s g t h : ℕ) (parts : List MessagePart) → (t ≡ s → h ≡ g → ⊥) → bytes_so_far s g (without_part t h parts) ≡ bytes_so_far s g parts
so_far-without_other s g t h [] n = refl
so_far-without_other s g t h (p ∷ parts) n = so_far-dropped s g p (is_part_of t h p) (bytes_so_far s g parts) (without_part t h parts) (so_far-without_other s g t h parts n) (λ e. other_part s g t h p n e)

so_far-none_by : (s g : ℕ) (m : MessagePart) (b : Bool) (xs : List MessagePart) → bytes_so_far s g xs ≡ [] → is_part_of s g m ≡ b → bytes_so_far s g (cond (not b) (m ∷ xs) xs) ≡ []
so_far-none_by s g m true xs e f = e
so_far-none_by s g m false xs e f = rw f e

pub so_far-forgotten : (s g : ℕ) (parts : List MessagePart) → bytes_so_far s g (without_part s g parts) ≡ []
so_far-forgotten s g [] = refl
so_far-forgotten s g (p ∷ parts) = so_far-none_by s g p (is_part_of s g p) (without_part s g parts) (so_far-forgotten s g parts) refl
