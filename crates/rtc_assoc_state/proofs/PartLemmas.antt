-- Queues of messages whose last piece is to come, and the list that they make.
use Rattle.std.proofs.Common.{ℕ, ◌≡◌, ◌<◌, ◌==◌, ◌&&◌, not, nat_lt, inl, inr, Bool, true, false, cond, List, [], ◌∷◌, ◌++◌, filter, None, refl, sym, ap, ◌∙◌, arith, append-nil}
use Rattle.std.specs.List.{list_any, AllByRecursion}
use Rattle.std.specs.Map.{lookup, set_value}
use Rattle.std.specs.Ordering.{nat_cmp}
use Rattle.std.specs.BTreeMap.{is_at}
use Rattle.std.proofs.lemmas.Bool.{cases_Bool}
use Rattle.std.proofs.lemmas.Bool.Decides.{eqb_tells}
use Rattle.rtc_assoc_state.specs.Inbox.{MessagePart, part, is_part_of, is_part_below, is_part_on, is_part_above, bytes_so_far, with_more, with_bytes, without_part}
use Rattle.rtc_assoc_state.specs.Queued.{all_queued, stream_of_part}
use Rattle.rtc_assoc_state.proofs.InboxLemmas.{head_fails, none-bytes_so_far, fails-without_part, bytes_so_far-with_more, without_part-with_more}
use Rattle.rtc_assoc_state.proofs.MessageLists.{all_so, all_kept, not_same_above, not_same_below}
use Rattle.rtc_assoc_state.proofs.SplitLemmas.{Own, Split, absent}

-- a message of a generation of a stream is of that stream
pub part_stream : (s g : ℕ) (p : MessagePart) → is_part_of s g p ≡ true → p.stream ≡ s
part_stream s g p e =
    elim (eqb_tells p.stream s) [
      | inl h ↦ h.1
      | inr h ↦ absurd (let k : false ≡ true = rw h.0 at e in cc)
    ]

part_generation : (s g : ℕ) (p : MessagePart) → is_part_of s g p ≡ true → p.generation ≡ g
part_generation s g p e =
    elim (eqb_tells p.generation g) [
      | inl h ↦ h.1
      | inr h ↦ absurd (let k : false ≡ true = sym (and_false (p.stream == s)) ∙ ap (λ b. (p.stream == s) && b) (sym h.0) ∙ e in cc)
    ]
  where
    and_false : (b : Bool) → (b && false) ≡ false
    and_false true = refl
    and_false false = refl

-- lists of which a test keeps all or nothing
kept_all : {M : Type 0} (q : M → Bool) (xs ys : List M) → AllByRecursion (λ m. q m ≡ true) xs → filter q (xs ++ ys) ≡ xs ++ filter q ys
kept_all q [] ys a = refl
kept_all q (x ∷ xs) ys a = rw a.0 (ap (λ l. x ∷ l) (kept_all q xs ys a.1))

kept_none : {M : Type 0} (q : M → Bool) (xs ys : List M) → AllByRecursion (λ m. q m ≡ false) xs → filter q (xs ++ ys) ≡ filter q ys
kept_none q [] ys a = refl
kept_none q (x ∷ xs) ys a = rw a.0 (kept_none q xs ys a.1)

all_of_it : {M : Type 0} (q : M → Bool) (xs : List M) → AllByRecursion (λ m. q m ≡ true) xs → filter q xs ≡ xs
all_of_it q [] a = refl
all_of_it q (x ∷ xs) a = rw a.0 (ap (λ l. x ∷ l) (all_of_it q xs a.1))

none_of_it : {M : Type 0} (q : M → Bool) (xs : List M) → AllByRecursion (λ m. q m ≡ false) xs → filter q xs ≡ []
none_of_it q [] a = refl
none_of_it q (x ∷ xs) a = rw a.0 (none_of_it q xs a.1)

below_lesser : (s a : ℕ) → a < s → nat_lt a s ≡ true
below_lesser s a h = grind (arith, h)

below_own : (s a : ℕ) → a ≡ s → nat_lt a s ≡ false
below_own s a h = grind (arith, h)

below_greater : (s a : ℕ) → s < a → nat_lt a s ≡ false
below_greater s a h = grind (arith, h)

above_own : (s a : ℕ) → a ≡ s → nat_lt s a ≡ false
above_own s a h = grind (arith, h)

on_own : (s a : ℕ) → a ≡ s → (a == s) ≡ true
on_own s a h = grind (arith, h)

-- more bytes of a message, where those of its stream stand between the others
module _ (s : ℕ) (front q back : List MessagePart) (low : AllByRecursion (λ p. p.stream < s) front) (own : AllByRecursion (λ p. p.stream ≡ s) q) (high : AllByRecursion (λ p. s < p.stream) back) where
  parted_below : filter (is_part_below s) (front ++ (q ++ back)) ≡ front
  parted_below =
      kept_all (is_part_below s) front (q ++ back) (all_so (λ p. p.stream < s) (λ p. nat_lt p.stream s ≡ true) (λ p h. below_lesser s p.stream h) front low)
      ∙ ap (λ l. front ++ l) (
      kept_none (is_part_below s) q back (all_so (λ p. p.stream ≡ s) (λ p. nat_lt p.stream s ≡ false) (λ p h. below_own s p.stream h) q own)
      ∙ none_of_it (is_part_below s) back (all_so (λ p. s < p.stream) (λ p. nat_lt p.stream s ≡ false) (λ p h. below_greater s p.stream h) back high)
      )
      ∙ append-nil front

  parted_on : filter (is_part_on s) (front ++ (q ++ back)) ≡ q
  parted_on =
      kept_none (is_part_on s) front (q ++ back) (all_so (λ p. p.stream < s) (λ p. (p.stream == s) ≡ false) (λ p h. not_same_below p.stream s h) front low)
      ∙ kept_all (is_part_on s) q back (all_so (λ p. p.stream ≡ s) (λ p. (p.stream == s) ≡ true) (λ p h. on_own s p.stream h) q own)
      ∙ ap (λ l. q ++ l) (none_of_it (is_part_on s) back (all_so (λ p. s < p.stream) (λ p. (p.stream == s) ≡ false) (λ p h. not_same_above p.stream s h) back high))
      ∙ append-nil q

  parted_above : filter (is_part_above s) (front ++ (q ++ back)) ≡ back
  parted_above =
      kept_none (is_part_above s) front (q ++ back) (all_so (λ p. p.stream < s) (λ p. nat_lt s p.stream ≡ false) (λ p h. below_greater p.stream s h) front low)
      ∙ kept_none (is_part_above s) q back (all_so (λ p. p.stream ≡ s) (λ p. nat_lt s p.stream ≡ false) (λ p h. above_own s p.stream h) q own)
      ∙ all_of_it (is_part_above s) back (all_so (λ p. s < p.stream) (λ p. nat_lt s p.stream ≡ true) (λ p h. below_lesser p.stream s h) back high)

  pub with_bytes-split : (g : ℕ) (bytes : List ℕ) → with_bytes s g bytes (front ++ (q ++ back)) ≡ front ++ (with_more s g bytes q ++ back)
  with_bytes-split g bytes =
      let all = front ++ (q ++ back) in
      ap (λ l. l ++ (with_more s g bytes (filter (is_part_on s) all) ++ filter (is_part_above s) all)) parted_below
      ∙ ap (λ l. front ++ (with_more s g bytes l ++ filter (is_part_above s) all)) parted_on
      ∙ ap (λ l. front ++ (with_more s g bytes q ++ l)) parted_above

-- parts of other streams on both sides
pub none_of_parts : (s g : ℕ) (xs : List MessagePart) → AllByRecursion (λ p. (p.stream == s) ≡ false) xs → list_any (is_part_of s g) xs ≡ false
none_of_parts s g [] a = refl
none_of_parts s g (x ∷ xs) a = rw a.0 (none_of_parts s g xs a.1)

pub so_far-front : (s g : ℕ) (xs ys : List MessagePart) → list_any (is_part_of s g) xs ≡ false → bytes_so_far s g (xs ++ ys) ≡ bytes_so_far s g ys
so_far-front s g [] ys f = refl
so_far-front s g (x ∷ xs) ys f = let h = head_fails (is_part_of s g) x xs f in rw h.0 (so_far-front s g xs ys h.1)

pub so_far-back : (s g : ℕ) (xs ys : List MessagePart) → list_any (is_part_of s g) ys ≡ false → bytes_so_far s g (xs ++ ys) ≡ bytes_so_far s g xs
so_far-back s g [] ys f = none-bytes_so_far s g ys f
so_far-back s g (x ∷ xs) ys f = ap (λ l. cond (is_part_of s g x) x.bytes l) (so_far-back s g xs ys f)

pub without_part-append : (s g : ℕ) (xs ys : List MessagePart) → without_part s g (xs ++ ys) ≡ without_part s g xs ++ without_part s g ys
without_part-append s g [] ys = refl
without_part-append s g (x ∷ xs) ys = by (is_part_of s g x) (without_part-append s g xs ys)
  where
    by : (b : Bool) → without_part s g (xs ++ ys) ≡ without_part s g xs ++ without_part s g ys → cond (not b) (x ∷ without_part s g (xs ++ ys)) (without_part s g (xs ++ ys)) ≡ cond (not b) (x ∷ without_part s g xs) (without_part s g xs) ++ without_part s g ys
    by true h = h
    by false h = ap (λ l. x ∷ l) h

-- parts of a stream alone
pub all_of-more : (s g : ℕ) (bytes : List ℕ) (xs : List MessagePart) → AllByRecursion (λ p. p.stream ≡ s) xs → AllByRecursion (λ p. p.stream ≡ s) (with_more s g bytes xs)
all_of-more s g bytes [] a = (refl, tt)
all_of-more s g bytes (x ∷ xs) a = by (is_part_of s g x) (all_of-more s g bytes xs a.1)
  where
    by : (b : Bool) → AllByRecursion (λ p. p.stream ≡ s) (with_more s g bytes xs) → AllByRecursion (λ p. p.stream ≡ s) (cond b (record x { bytes = x.bytes ++ bytes } ∷ xs) (x ∷ with_more s g bytes xs))
    by true h = (a.0, a.1)
    by false h = (a.0, h)

pub all_of-without_part : (s g : ℕ) (xs : List MessagePart) → AllByRecursion (λ p. p.stream ≡ s) xs → AllByRecursion (λ p. p.stream ≡ s) (without_part s g xs)
all_of-without_part s g xs a = all_kept (λ (p : MessagePart). p.stream ≡ s) (λ p. not (is_part_of s g p)) xs a

module _ {Q : Type 0} (items : Q → List MessagePart) where
  pub absent-part : (s g : ℕ) (es : List (ℕ × Q)) → Own items stream_of_part es → lookup (is_at (nat_cmp s)) es ≡ None → list_any (is_part_of s g) (all_queued items es) ≡ false
  absent-part s g es o f = none_of_parts s g (all_queued items es) (absent items stream_of_part s es o f)

  front_apart : (s g : ℕ) (es : List (ℕ × Q)) (q : Q) (w : Split items stream_of_part s es q) → list_any (is_part_of s g) w.front ≡ false
  front_apart s g es q w = none_of_parts s g w.front (all_so (λ (p : MessagePart). p.stream < s) (λ p. (p.stream == s) ≡ false) (λ p h. not_same_below p.stream s h) w.front w.low)

  back_apart : (s g : ℕ) (es : List (ℕ × Q)) (q : Q) (w : Split items stream_of_part s es q) → list_any (is_part_of s g) w.back ≡ false
  back_apart s g es q w = none_of_parts s g w.back (all_so (λ (p : MessagePart). s < p.stream) (λ p. (p.stream == s) ≡ false) (λ p h. not_same_above p.stream s h) w.back w.high)

  -- what is written to one queue, seen in the list
  pub queue_so_far : (s g : ℕ) (es : List (ℕ × Q)) (q : Q) → Split items stream_of_part s es q → bytes_so_far s g (items q) ≡ bytes_so_far s g (all_queued items es)
  queue_so_far s g es q w = sym (ap (bytes_so_far s g) w.is ∙ so_far-front s g w.front (items q ++ w.back) (front_apart s g es q w) ∙ so_far-back s g (items q) w.back (back_apart s g es q w))

  pub queue_more : (s g : ℕ) (bytes : List ℕ) (es : List (ℕ × Q)) (q new : Q) → Split items stream_of_part s es q → items new ≡ with_more s g bytes (items q) → all_queued items (set_value (is_at (nat_cmp s)) es new) ≡ with_bytes s g bytes (all_queued items es)
  queue_more s g bytes es q new w e =
      w.set new ∙ ap (λ l. w.front ++ (l ++ w.back)) e
      ∙ sym (ap (with_bytes s g bytes) w.is ∙ with_bytes-split s w.front (items q) w.back w.low w.own w.high g bytes)

  without-middle : (s g : ℕ) (front back : List MessagePart) (old new : List MessagePart) → without_part s g new ≡ without_part s g old → without_part s g (front ++ (new ++ back)) ≡ without_part s g (front ++ (old ++ back))
  without-middle s g front back old new e =
      without_part-append s g front (new ++ back) ∙ ap (λ l. without_part s g front ++ l) (without_part-append s g new back ∙ ap (λ l. l ++ without_part s g back) e ∙ sym (without_part-append s g old back))
      ∙ sym (without_part-append s g front (old ++ back))

  -- what stands beside a message stays where it gets more bytes
  pub queue_left : (s g : ℕ) (bytes : List ℕ) (es : List (ℕ × Q)) (q new : Q) → Split items stream_of_part s es q → items new ≡ with_more s g bytes (items q) → without_part s g (all_queued items (set_value (is_at (nat_cmp s)) es new)) ≡ without_part s g (all_queued items es)
  queue_left s g bytes es q new w e =
      ap (without_part s g) (w.set new) ∙ without-middle s g w.front w.back (items q) (items new) (ap (without_part s g) e ∙ without_part-with_more s g bytes (items q)) ∙ sym (ap (without_part s g) w.is)

  pub queue_without_part : (s g : ℕ) (es : List (ℕ × Q)) (q new : Q) → Split items stream_of_part s es q → items new ≡ without_part s g (items q) → all_queued items (set_value (is_at (nat_cmp s)) es new) ≡ without_part s g (all_queued items es)
  queue_without_part s g es q new w e =
      w.set new ∙ ap (λ l. w.front ++ (l ++ w.back)) e
      ∙ sym (
      ap (without_part s g) w.is ∙ without_part-append s g w.front (items q ++ w.back) ∙ ap (λ l. without_part s g w.front ++ l) (without_part-append s g (items q) w.back)
      ∙ ap (λ l. l ++ (without_part s g (items q) ++ without_part s g w.back)) (sym (fails-without_part s g w.front (front_apart s g es q w)))
      ∙ ap (λ l. w.front ++ (without_part s g (items q) ++ l)) (sym (fails-without_part s g w.back (back_apart s g es q w)))
      )

-- the bytes that came of a message, of which more came
none_left : (s g : ℕ) (q : MessagePart → Bool) (xs : List MessagePart) → ((p : MessagePart) → is_part_of s g p ≡ true → q p ≡ false) → list_any (is_part_of s g) (filter q xs) ≡ false
none_left s g q [] f = refl
none_left s g q (x ∷ xs) f = by (q x) (f x) (none_left s g q xs f)
  where
    by : (b : Bool) → (is_part_of s g x ≡ true → b ≡ false) → list_any (is_part_of s g) (filter q xs) ≡ false → list_any (is_part_of s g) (cond b (x ∷ filter q xs) (filter q xs)) ≡ false
    by true h e = elim (cases_Bool (is_part_of s g x)) [ inl k ↦ absurd (let z : true ≡ false = h k in cc) | inr k ↦ rw k e ]
    by false h e = e

so_far-kept : (s g : ℕ) (q : MessagePart → Bool) (xs : List MessagePart) → ((p : MessagePart) → is_part_of s g p ≡ true → q p ≡ true) → bytes_so_far s g (filter q xs) ≡ bytes_so_far s g xs
so_far-kept s g q [] f = refl
so_far-kept s g q (x ∷ xs) f = by (q x) (f x) (so_far-kept s g q xs f)
  where
    by : (b : Bool) → (is_part_of s g x ≡ true → b ≡ true) → bytes_so_far s g (filter q xs) ≡ bytes_so_far s g xs → bytes_so_far s g (cond b (x ∷ filter q xs) (filter q xs)) ≡ bytes_so_far s g (x ∷ xs)
    by true h e = ap (λ l. cond (is_part_of s g x) x.bytes l) e
    by false h e = elim (cases_Bool (is_part_of s g x)) [ inl k ↦ absurd (let z : false ≡ true = h k in cc) | inr k ↦ rw k e ]

-- of a stream that is below, on or above another
below_is : (s g t : ℕ) (b : Bool) → nat_lt s t ≡ b → (p : MessagePart) → is_part_of s g p ≡ true → is_part_below t p ≡ b
below_is s g t b e p h = ap (λ n. nat_lt n t) (part_stream s g p h) ∙ e

on_is : (s g t : ℕ) (b : Bool) → (s == t) ≡ b → (p : MessagePart) → is_part_of s g p ≡ true → is_part_on t p ≡ b
on_is s g t b e p h = ap (λ n. n == t) (part_stream s g p h) ∙ e

above_is : (s g t : ℕ) (b : Bool) → nat_lt t s ≡ b → (p : MessagePart) → is_part_of s g p ≡ true → is_part_above t p ≡ b
above_is s g t b e p h = ap (λ n. nat_lt t n) (part_stream s g p h) ∙ e

pub bytes_so_far-with : (s g : ℕ) (bytes : List ℕ) (parts : List MessagePart) → bytes_so_far s g (with_bytes s g bytes parts) ≡ bytes_so_far s g parts ++ bytes
bytes_so_far-with s g bytes parts =
    let low = filter (is_part_below s) parts in
    let own = filter (is_part_on s) parts in
    let high = filter (is_part_above s) parts in
    so_far-front s g low (with_more s g bytes own ++ high) (none_left s g (is_part_below s) parts (below_is s g s false (below_own s s refl)))
    ∙ so_far-back s g (with_more s g bytes own) high (none_left s g (is_part_above s) parts (above_is s g s false (above_own s s refl)))
    ∙ bytes_so_far-with_more s g bytes own
    ∙ ap (λ l. l ++ bytes) (so_far-kept s g (is_part_on s) parts (on_is s g s true (on_own s s refl)))

-- no message of one generation of a stream among others that got more bytes
other_part : (s g t h : ℕ) (p : MessagePart) → (t ≡ s → h ≡ g → ⊥) → is_part_of t h p ≡ true → is_part_of s g p ≡ false
other_part s g t h p n e =
    elim (eqb_tells p.stream s) [
      | inl a ↦ elim (eqb_tells p.generation g) [
        | inl b ↦ absurd (n (sym (part_stream t h p e) ∙ a.1) (sym (part_generation t h p e) ∙ b.1))
        | inr b ↦ rw (a.0, b.0) refl
      ]
      | inr a ↦ rw a.0 refl
    ]

other_new : (s g t h : ℕ) (bytes : List ℕ) → (t ≡ s → h ≡ g → ⊥) → is_part_of s g (part t h bytes) ≡ false
other_new s g t h bytes n =
    elim (eqb_tells t s) [
      | inl a ↦ elim (eqb_tells h g) [
        | inl b ↦ absurd (n a.1 b.1)
        | inr b ↦ rw (a.0, b.0) refl
      ]
      | inr a ↦ rw a.0 refl
    ]

more_other : (s g t h : ℕ) (bytes : List ℕ) (xs : List MessagePart) → (t ≡ s → h ≡ g → ⊥) → bytes_so_far s g (with_more t h bytes xs) ≡ bytes_so_far s g xs
more_other s g t h bytes [] n = rw (other_new s g t h bytes n) refl
more_other s g t h bytes (x ∷ xs) n = by (is_part_of t h x) (λ e. other_part s g t h x n e) (more_other s g t h bytes xs n)
  where
    by : (b : Bool) → (b ≡ true → is_part_of s g x ≡ false) → bytes_so_far s g (with_more t h bytes xs) ≡ bytes_so_far s g xs → bytes_so_far s g (cond b (record x { bytes = x.bytes ++ bytes } ∷ xs) (x ∷ with_more t h bytes xs)) ≡ bytes_so_far s g (x ∷ xs)
    by true f e = rw (f refl) refl
    by false f e = ap (λ l. cond (is_part_of s g x) x.bytes l) e

none_more : (s g t h : ℕ) (bytes : List ℕ) (xs : List MessagePart) → (t ≡ s → h ≡ g → ⊥) → list_any (is_part_of s g) xs ≡ false → list_any (is_part_of s g) (with_more t h bytes xs) ≡ false
none_more s g t h bytes [] n f = rw (other_new s g t h bytes n) refl
none_more s g t h bytes (x ∷ xs) n f = let k = head_fails (is_part_of s g) x xs f in by (is_part_of t h x) k.0 k.1 (none_more s g t h bytes xs n k.1)
  where
    by : (b : Bool) → is_part_of s g x ≡ false → list_any (is_part_of s g) xs ≡ false → list_any (is_part_of s g) (with_more t h bytes xs) ≡ false → list_any (is_part_of s g) (cond b (record x { bytes = x.bytes ++ bytes } ∷ xs) (x ∷ with_more t h bytes xs)) ≡ false
    by true e k m = rw e k
    by false e k m = rw e m

none_join : (s g : ℕ) (xs ys : List MessagePart) → list_any (is_part_of s g) xs ≡ false → list_any (is_part_of s g) ys ≡ false → list_any (is_part_of s g) (xs ++ ys) ≡ false
none_join s g [] ys a b = b
none_join s g (x ∷ xs) ys a b = let k = head_fails (is_part_of s g) x xs a in rw k.0 (none_join s g xs ys k.1 b)

apart_below : (s t : ℕ) → nat_lt s t ≡ true → ((s == t) ≡ false) × (nat_lt t s ≡ false)
apart_below s t e = (grind (arith, e), grind (arith, e))

apart_above : (s t : ℕ) → nat_lt s t ≡ false → (s == t) ≡ false → nat_lt t s ≡ true
apart_above s t e f = grind (arith, e, f)

same_apart : (s t : ℕ) → (s == t) ≡ true → nat_lt t s ≡ false
same_apart s t e = grind (arith, e)

pub bytes_so_far-with_other : (s g t h : ℕ) (bytes : List ℕ) (parts : List MessagePart) → (t ≡ s → h ≡ g → ⊥) → bytes_so_far s g (with_bytes t h bytes parts) ≡ bytes_so_far s g parts
bytes_so_far-with_other s g t h bytes parts n =
    let low = filter (is_part_below t) parts in
    let own = filter (is_part_on t) parts in
    let high = filter (is_part_above t) parts in
    elim (cases_Bool (nat_lt s t)) [
      | inl b ↦
          let k = apart_below s t b in
          let no_own = none_left s g (is_part_on t) parts (on_is s g t false k.0) in
          let no_high = none_left s g (is_part_above t) parts (above_is s g t false k.1) in
          so_far-back s g low (with_more t h bytes own ++ high) (none_join s g (with_more t h bytes own) high (none_more s g t h bytes own n no_own) no_high)
          ∙ so_far-kept s g (is_part_below t) parts (below_is s g t true b)
      | inr b ↦
          so_far-front s g low (with_more t h bytes own ++ high) (none_left s g (is_part_below t) parts (below_is s g t false b))
          ∙ elim (cases_Bool (s == t)) [
            | inl o ↦
                so_far-back s g (with_more t h bytes own) high (none_left s g (is_part_above t) parts (above_is s g t false (same_apart s t o)))
                ∙ more_other s g t h bytes own n ∙ so_far-kept s g (is_part_on t) parts (on_is s g t true o)
            | inr o ↦
                so_far-front s g (with_more t h bytes own) high (none_more s g t h bytes own n (none_left s g (is_part_on t) parts (on_is s g t false o)))
                ∙ so_far-kept s g (is_part_above t) parts (above_is s g t true (apart_above s t b o))
          ]
    ]
