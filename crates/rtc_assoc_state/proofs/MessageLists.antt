-- Lists of messages, by the streams of which the messages are.
use Rattle.std.proofs.Common.{ℕ, ◌≡◌, ◌<◌, ◌==◌, ◌⊎◌, inl, inr, Bool, true, false, not, cond, nat_lt, List, [], ◌∷◌, ◌++◌, filter, Some, refl, sym, ap, ◌∙◌, arith, append_assoc, append-nil}
use Rattle.std.specs.List.{list_any, AllByRecursion}
use Rattle.std.specs.Ordering.{nat_cmp, is_eq}
use Rattle.std.specs.declared.cmp.Ordering.TheVariants.{Less}
use Rattle.std.proofs.lemmas.Bool.Decides.{eqb_tells}
use Rattle.std.proofs.lemmas.Cmp.{ranked}
use Rattle.rtc_assoc_state.specs.declared.message.Message.{Message}
use Rattle.rtc_assoc_state.specs.Inbox.{is_message_of, is_of_later, with_message, without_messages}
use Rattle.rtc_assoc_state.specs.Calls.{first_message_of, messages_behind}
use Rattle.rtc_assoc_state.proofs.AmountLemmas.{is_eq-nat_cmp}
use Rattle.rtc_assoc_state.proofs.InboxLemmas.{head_fails, none-message_in, none-messages_behind}

pub true_or_false : (b : Bool) → (b ≡ true) ⊎ (b ≡ false)
true_or_false true = inl refl
true_or_false false = inr refl

pub key_is : (s k : ℕ) → is_eq (nat_cmp s k) ≡ true → s ≡ k
key_is s k t = elim (eqb_tells s k) [ inl h ↦ h.1 | inr h ↦ absurd (let x : false ≡ true = sym h.0 ∙ sym (is_eq-nat_cmp s k) ∙ t in cc) ]

pub less : (k y : ℕ) → nat_cmp k y ≡ Less → k < y
less k y e = ranked k y Less (sym e)

-- what holds of all items of a list
pub all_join : {M : Type 0} (P : M → Type 0) (xs ys : List M) → AllByRecursion P xs → AllByRecursion P ys → AllByRecursion P (xs ++ ys)
all_join P [] ys a b = b
all_join P (x ∷ xs) ys a b = (a.0, all_join P xs ys a.1 b)

pub all_so : {M : Type 0} (P Q : M → Type 0) → ((m : M) → P m → Q m) → (xs : List M) → AllByRecursion P xs → AllByRecursion Q xs
all_so P Q f [] a = tt
all_so P Q f (x ∷ xs) a = (f x a.0, all_so P Q f xs a.1)

all_behind : (P : Message → Type 0) (s g : ℕ) (xs : List Message) → AllByRecursion P xs → AllByRecursion P (messages_behind s g xs)
all_behind P s g [] a = tt
all_behind P s g (x ∷ xs) a = by (is_message_of s g x) (all_behind P s g xs a.1)
  where
    by : (b : Bool) → AllByRecursion P (messages_behind s g xs) → AllByRecursion P (cond b xs (x ∷ messages_behind s g xs))
    by true h = a.1
    by false h = (a.0, h)

pub all_kept : {M : Type 0} (P : M → Type 0) (q : M → Bool) (xs : List M) → AllByRecursion P xs → AllByRecursion P (filter q xs)
all_kept P q [] a = tt
all_kept P q (x ∷ xs) a = by (q x) (all_kept P q xs a.1)
  where
    by : (b : Bool) → AllByRecursion P (filter q xs) → AllByRecursion P (cond b (x ∷ filter q xs) (filter q xs))
    by true h = (a.0, h)
    by false h = h

-- messages of a stream alone
abbrev pub AllOf : ℕ → List Message → Type 0
AllOf s xs = AllByRecursion (λ m. m.stream ≡ s) xs

pub all_of-behind : (s g : ℕ) (xs : List Message) → AllOf s xs → AllOf s (messages_behind s g xs)
all_of-behind s g xs a = all_behind (λ m. m.stream ≡ s) s g xs a

pub all_of-without : (s g : ℕ) (xs : List Message) → AllOf s xs → AllOf s (without_messages s g xs)
all_of-without s g xs a = all_kept (λ m. m.stream ≡ s) (λ m. not (is_message_of s g m)) xs a

pub all_of-with : (m : Message) (xs : List Message) → AllOf m.stream xs → AllOf m.stream (xs ++ m ∷ [])
all_of-with m xs a = all_join (λ x. x.stream ≡ m.stream) xs (m ∷ []) a (refl, tt)

-- no message of a stream among those of others
pub none_of : (s g : ℕ) (xs : List Message) → AllByRecursion (λ m. (m.stream == s) ≡ false) xs → list_any (is_message_of s g) xs ≡ false
none_of s g [] a = refl
none_of s g (x ∷ xs) a = rw a.0 (none_of s g xs a.1)

pub not_same_below : (a s : ℕ) → a < s → (a == s) ≡ false
not_same_below a s h = grind (arith, h)

pub not_same_above : (a s : ℕ) → s < a → (a == s) ≡ false
not_same_above a s h = grind (arith, h)

not_later : (k a : ℕ) → a < k → nat_lt k a ≡ false
not_later k a h = grind (arith, h)

pub not_later_self : (k a : ℕ) → a ≡ k → nat_lt k a ≡ false
not_later_self k a h = grind (arith, h)

is_later : (k a : ℕ) → k < a → nat_lt k a ≡ true
is_later k a h = grind (arith, h)

-- a message put behind those of its stream
passed_front : (k : ℕ) (xs ys : List Message) → AllByRecursion (λ m. nat_lt k m.stream ≡ false) xs → filter (λ m. not (is_of_later k m)) (xs ++ ys) ≡ xs ++ filter (λ m. not (is_of_later k m)) ys
passed_front k [] ys a = refl
passed_front k (x ∷ xs) ys a = rw a.0 (ap (λ l. x ∷ l) (passed_front k xs ys a.1))

left_front : (k : ℕ) (xs ys : List Message) → AllByRecursion (λ m. nat_lt k m.stream ≡ false) xs → filter (is_of_later k) (xs ++ ys) ≡ filter (is_of_later k) ys
left_front k [] ys a = refl
left_front k (x ∷ xs) ys a = rw a.0 (left_front k xs ys a.1)

passed_back : (k : ℕ) (xs : List Message) → AllByRecursion (λ m. nat_lt k m.stream ≡ true) xs → filter (λ m. not (is_of_later k m)) xs ≡ []
passed_back k [] a = refl
passed_back k (x ∷ xs) a = rw a.0 (passed_back k xs a.1)

left_back : (k : ℕ) (xs : List Message) → AllByRecursion (λ m. nat_lt k m.stream ≡ true) xs → filter (is_of_later k) xs ≡ xs
left_back k [] a = refl
left_back k (x ∷ xs) a = rw a.0 (ap (λ l. x ∷ l) (left_back k xs a.1))

joined : (m : Message) (front q back : List Message) → (front ++ (q ++ [])) ++ m ∷ back ≡ front ++ ((q ++ m ∷ []) ++ back)
joined m front q back = ap (λ l. (front ++ l) ++ m ∷ back) (append-nil q) ∙ append_assoc front q (m ∷ back) ∙ ap (λ l. front ++ l) (sym (append_assoc q (m ∷ []) back))

pub with-split : (m : Message) (front q back : List Message) → AllByRecursion (λ x. x.stream < m.stream) front → AllOf m.stream q → AllByRecursion (λ x. m.stream < x.stream) back → with_message m (front ++ (q ++ back)) ≡ front ++ ((q ++ m ∷ []) ++ back)
with-split m front q back low own high =
    let k = m.stream in
    let f = all_so (λ x. x.stream < k) (λ x. nat_lt k x.stream ≡ false) (λ x h. not_later k x.stream h) front low in
    let o = all_so (λ x. x.stream ≡ k) (λ x. nat_lt k x.stream ≡ false) (λ x h. not_later_self k x.stream h) q own in
    let b = all_so (λ x. k < x.stream) (λ x. nat_lt k x.stream ≡ true) (λ x h. is_later k x.stream h) back high in
    let first : filter (λ x. not (is_of_later k x)) (front ++ (q ++ back)) ≡ front ++ (q ++ []) =
    passed_front k front (q ++ back) f ∙ ap (λ l. front ++ l) (passed_front k q back o ∙ ap (λ l. q ++ l) (passed_back k back b)) in
    let second : filter (is_of_later k) (front ++ (q ++ back)) ≡ back = left_front k front (q ++ back) f ∙ left_front k q back o ∙ left_back k back b in
    ap (λ l. l ++ m ∷ filter (is_of_later k) (front ++ (q ++ back))) first ∙ ap (λ l. (front ++ (q ++ [])) ++ m ∷ l) second ∙ joined m front q back

-- messages of other streams on both sides
pub first-front : (s g : ℕ) (xs ys : List Message) → list_any (is_message_of s g) xs ≡ false → first_message_of s g (xs ++ ys) ≡ first_message_of s g ys
first-front s g [] ys f = refl
first-front s g (x ∷ xs) ys f = let h = head_fails (is_message_of s g) x xs f in rw h.0 (first-front s g xs ys h.1)

pub first-back : (s g : ℕ) (xs ys : List Message) → list_any (is_message_of s g) ys ≡ false → first_message_of s g (xs ++ ys) ≡ first_message_of s g xs
first-back s g [] ys f = none-message_in s g ys f
first-back s g (x ∷ xs) ys f = ap (λ o. cond (is_message_of s g x) (Some x) o) (first-back s g xs ys f)

pub behind-front : (s g : ℕ) (xs ys : List Message) → list_any (is_message_of s g) xs ≡ false → messages_behind s g (xs ++ ys) ≡ xs ++ messages_behind s g ys
behind-front s g [] ys f = refl
behind-front s g (x ∷ xs) ys f = let h = head_fails (is_message_of s g) x xs f in rw h.0 (ap (λ l. x ∷ l) (behind-front s g xs ys h.1))

pub behind-back : (s g : ℕ) (xs ys : List Message) → list_any (is_message_of s g) ys ≡ false → messages_behind s g (xs ++ ys) ≡ messages_behind s g xs ++ ys
behind-back s g [] ys f = none-messages_behind s g ys f
behind-back s g (x ∷ xs) ys f = by (is_message_of s g x) (behind-back s g xs ys f)
  where
    by : (b : Bool) → messages_behind s g (xs ++ ys) ≡ messages_behind s g xs ++ ys → cond b (xs ++ ys) (x ∷ messages_behind s g (xs ++ ys)) ≡ cond b xs (x ∷ messages_behind s g xs) ++ ys
    by true h = refl
    by false h = ap (λ l. x ∷ l) h

pub without-front : (s g : ℕ) (xs ys : List Message) → list_any (is_message_of s g) xs ≡ false → without_messages s g (xs ++ ys) ≡ xs ++ without_messages s g ys
without-front s g [] ys f = refl
without-front s g (x ∷ xs) ys f = let h = head_fails (is_message_of s g) x xs f in rw h.0 (ap (λ l. x ∷ l) (without-front s g xs ys h.1))

pub without-none : (s g : ℕ) (xs : List Message) → list_any (is_message_of s g) xs ≡ false → without_messages s g xs ≡ xs
without-none s g [] f = refl
without-none s g (x ∷ xs) f = let h = head_fails (is_message_of s g) x xs f in rw h.0 (ap (λ l. x ∷ l) (without-none s g xs h.1))

pub without-back : (s g : ℕ) (xs ys : List Message) → list_any (is_message_of s g) ys ≡ false → without_messages s g (xs ++ ys) ≡ without_messages s g xs ++ ys
without-back s g [] ys f = without-none s g ys f
without-back s g (x ∷ xs) ys f = by (is_message_of s g x) (without-back s g xs ys f)
  where
    by : (b : Bool) → without_messages s g (xs ++ ys) ≡ without_messages s g xs ++ ys → cond (not b) (x ∷ without_messages s g (xs ++ ys)) (without_messages s g (xs ++ ys)) ≡ cond (not b) (x ∷ without_messages s g xs) (without_messages s g xs) ++ ys
    by true h = h
    by false h = ap (λ l. x ∷ l) h
