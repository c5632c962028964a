-- Queues by stream, and the list that they make: at a stream it falls into three.
use Rattle.std.proofs.Common.{ℕ, ◌≡◌, ◌<◌, ◌==◌, inl, inr, true, false, List, [], ◌∷◌, ◌++◌, Option, Some, None, IfSome, Result, Ok, Err, OnOk, OnErr, refl, sym, ap, subst, ◌∙◌, arith, append_assoc}
use Rattle.std.specs.List.{AllByRecursion}
use Rattle.std.specs.List.Sorted.{IsStrictlySortedBy}
use Rattle.std.specs.Map.{lookup, set_value, remove_entry, keys_of}
use Rattle.std.specs.Ordering.{nat_cmp, is_eq, match_ordering}
use Rattle.std.specs.declared.cmp.Ordering.{Ordering}
use Rattle.std.specs.declared.cmp.Ordering.TheVariants.{Less, Equal, Greater}
use Rattle.std.specs.BTreeMap.{BTreeMap, IsOrdered, get, is_at, insert_entry}
use Rattle.std.proofs.lemmas.Map.Keys.{sorted_head, sorted_tail}
use Rattle.rtc_assoc_state.specs.Queued.{all_queued, SoundQueues, TakesOneMore}
use Rattle.rtc_assoc_state.proofs.AmountLemmas.{is_eq-nat_cmp}
use Rattle.rtc_assoc_state.proofs.MessageLists.{all_join, all_so, key_is, less, true_or_false}

-- a queue among the others: what is in it stands between those of lesser and those of greater streams
module _ {M Q : Type 0} (items : Q → List M) (stream : M → ℕ) where
  abbrev pub Own : List (ℕ × Q) → Type 0
  Own es = AllByRecursion (λ e. AllByRecursion (λ m. stream m ≡ e.0) (items e.1)) es

  pub record Split (s : ℕ) (es : List (ℕ × Q)) (q : Q) : Type 0 where
    pub front : List M
    pub back : List M
    pub low : AllByRecursion (λ m. stream m < s) front
    pub high : AllByRecursion (λ m. s < stream m) back
    pub own : AllByRecursion (λ m. stream m ≡ s) (items q)
    pub is : all_queued items es ≡ front ++ (items q ++ back)
    pub set : (w : Q) → all_queued items (set_value (is_at (nat_cmp s)) es w) ≡ front ++ (items w ++ back)
    pub gone : all_queued items (remove_entry (is_at (nat_cmp s)) es) ≡ front ++ back
    pub own_set : (w : Q) → AllByRecursion (λ m. stream m ≡ s) (items w) → Own (set_value (is_at (nat_cmp s)) es w)
    pub own_gone : Own (remove_entry (is_at (nat_cmp s)) es)

  above : (k : ℕ) (es : List (ℕ × Q)) → AllByRecursion (λ y. nat_cmp k y ≡ Less) (keys_of es) → Own es → AllByRecursion (λ m. k < stream m) (all_queued items es)
  above k [] a o = tt
  above k (e ∷ es) a o =
      all_join (λ m. k < stream m) (items e.1) (all_queued items es)
      (all_so (λ m. stream m ≡ e.0) (λ m. k < stream m) (λ m h. subst (λ n. k < n) (sym h) (less k e.0 a.0)) (items e.1) o.0)
      (above k es a.1 o.1)

  some_same : (a b : Q) → Some a ≡ Some b → a ≡ b
  some_same a b e = cc

  found_above : (k s : ℕ) (es : List (ℕ × Q)) (q : Q) → AllByRecursion (λ y. nat_cmp k y ≡ Less) (keys_of es) → lookup (is_at (nat_cmp s)) es ≡ Some q → k < s
  found_above k s [] q a f = absurd (let x : None ≡ Some q = f in cc)
  found_above k s (e ∷ es) q a f = elim (true_or_false (is_eq (nat_cmp s e.0))) [
    | inl t ↦ subst (λ n. k < n) (sym (key_is s e.0 t)) (less k e.0 a.0)
    | inr n ↦ let rest : lookup (is_at (nat_cmp s)) es ≡ Some q = rw n at f in found_above k s es q a.1 rest
  ]

  split_here : (s : ℕ) (e : ℕ × Q) (es : List (ℕ × Q)) (q : Q) → is_eq (nat_cmp s e.0) ≡ true → e.1 ≡ q → AllByRecursion (λ y. nat_cmp e.0 y ≡ Less) (keys_of es) → Own (e ∷ es) → Split s (e ∷ es) q
  split_here s e es q t same a o =
      let key = key_is s e.0 t in
      record {
        front = [];
        back = all_queued items es;
        low = tt;
        high = subst (λ k. AllByRecursion (λ m. k < stream m) (all_queued items es)) (sym key) (above e.0 es a o.1);
        own = subst (λ (k : ℕ). AllByRecursion (λ m. stream m ≡ k) (items q)) (sym key) (subst (λ (x : Q). AllByRecursion (λ m. stream m ≡ e.0) (items x)) same o.0);
        is = ap (λ (x : Q). items x ++ all_queued items es) same;
        set = λ w. rw t refl;
        gone = rw t refl;
        own_set = λ w h. rw t (subst (λ (k : ℕ). AllByRecursion (λ m. stream m ≡ k) (items w)) key h, o.1);
        own_gone = rw t o.1;
      }

  split_there : (s : ℕ) (e : ℕ × Q) (es : List (ℕ × Q)) (q : Q) → is_eq (nat_cmp s e.0) ≡ false → e.0 < s → Own (e ∷ es) → Split s es q → Split s (e ∷ es) q
  split_there s e es q n l o r = record {
    front = items e.1 ++ r.front;
    back = r.back;
    low = all_join (λ m. stream m < s) (items e.1) r.front (all_so (λ m. stream m ≡ e.0) (λ m. stream m < s) (λ m h. subst (λ k. k < s) (sym h) l) (items e.1) o.0) r.low;
    high = r.high;
    own = r.own;
    is = ap (λ xs. items e.1 ++ xs) r.is ∙ sym (append_assoc (items e.1) r.front (items q ++ r.back));
    set = λ w. rw n (ap (λ xs. items e.1 ++ xs) (r.set w) ∙ sym (append_assoc (items e.1) r.front (items w ++ r.back)));
    gone = rw n (ap (λ xs. items e.1 ++ xs) r.gone ∙ sym (append_assoc (items e.1) r.front r.back));
    own_set = λ w h. rw n (o.0, r.own_set w h);
    own_gone = rw n (o.0, r.own_gone);
  }

  pub split : (s : ℕ) (es : List (ℕ × Q)) (q : Q) → IsStrictlySortedBy nat_cmp (keys_of es) → Own es → lookup (is_at (nat_cmp s)) es ≡ Some q → Split s es q
  split s [] q i o f = absurd (let x : None ≡ Some q = f in cc)
  split s (e ∷ es) q i o f = elim (true_or_false (is_eq (nat_cmp s e.0))) [
    | inl t ↦ let here : Some e.1 ≡ Some q = rw t at f in split_here s e es q t (some_same e.1 q here) (sorted_head nat_cmp e.0 (keys_of es) i) o
    | inr n ↦ let rest : lookup (is_at (nat_cmp s)) es ≡ Some q = rw n at f in
        split_there s e es q n (found_above e.0 s es q (sorted_head nat_cmp e.0 (keys_of es) i) rest) o (split s es q (sorted_tail nat_cmp e.0 (keys_of es) i) o.1 rest)
  ]

  -- where a stream has no queue, nothing is of it
  pub absent : (s : ℕ) (es : List (ℕ × Q)) → Own es → lookup (is_at (nat_cmp s)) es ≡ None → AllByRecursion (λ m. (stream m == s) ≡ false) (all_queued items es)
  absent s [] o f = tt
  absent s (e ∷ es) o f = elim (true_or_false (is_eq (nat_cmp s e.0))) [
    | inl t ↦ absurd (let x : Some e.1 ≡ None = rw t at f in cc)
    | inr n ↦ let rest : lookup (is_at (nat_cmp s)) es ≡ None = rw n at f in
        let apart : (s == e.0) ≡ false = sym (is_eq-nat_cmp s e.0) ∙ n in
        all_join (λ m. (stream m == s) ≡ false) (items e.1) (all_queued items es)
        (all_so (λ m. stream m ≡ e.0) (λ m. (stream m == s) ≡ false) (λ m h. rw h (flip s e.0 apart)) (items e.1) o.0)
        (absent s es o.1 rest)
  ]
    where
      flip : (a b : ℕ) → (a == b) ≡ false → (b == a) ≡ false
      flip a b h = grind (arith, h)

  -- an empty queue that is put in changes nothing
  absent_key : (s : ℕ) (e : ℕ × Q) (es : List (ℕ × Q)) → lookup (is_at (nat_cmp s)) (e ∷ es) ≡ None → (is_eq (nat_cmp s e.0) ≡ false) × (lookup (is_at (nat_cmp s)) es ≡ None)
  absent_key s e es f = elim (true_or_false (is_eq (nat_cmp s e.0))) [
    | inl t ↦ absurd (let x : Some e.1 ≡ None = rw t at f in cc)
    | inr n ↦ (n, rw n at f)
  ]

  pub insert_empty : (s : ℕ) (es : List (ℕ × Q)) (q : Q) → items q ≡ [] → lookup (is_at (nat_cmp s)) es ≡ None → all_queued items (insert_entry nat_cmp es s q) ≡ all_queued items es
  insert_empty s [] q h f = rw h refl
  insert_empty s (e ∷ es) q h f = let k = absent_key s e es f in by (nat_cmp s e.0) k.0 (insert_empty s es q h k.1)
    where
      by : (r : Ordering) → is_eq r ≡ false → all_queued items (insert_entry nat_cmp es s q) ≡ all_queued items es → all_queued items (match_ordering r ((s, q) ∷ e ∷ es) ((e.0, q) ∷ es) (e ∷ insert_entry nat_cmp es s q)) ≡ items e.1 ++ all_queued items es
      by Less n i = rw h refl
      by Equal n i = absurd cc
      by Greater n i = ap (λ xs. items e.1 ++ xs) i

  pub insert_own : (s : ℕ) (es : List (ℕ × Q)) (q : Q) → items q ≡ [] → lookup (is_at (nat_cmp s)) es ≡ None → Own es → Own (insert_entry nat_cmp es s q)
  insert_own s [] q h f o = (rw h tt, tt)
  insert_own s (e ∷ es) q h f o = let k = absent_key s e es f in by (nat_cmp s e.0) k.0 (insert_own s es q h k.1 o.1)
    where
      by : (r : Ordering) → is_eq r ≡ false → Own (insert_entry nat_cmp es s q) → Own (match_ordering r ((s, q) ∷ e ∷ es) ((e.0, q) ∷ es) (e ∷ insert_entry nat_cmp es s q))
      by Less n i = (rw h tt, o)
      by Equal n i = absurd cc
      by Greater n i = (o.0, i)

  pub queue_same : (s : ℕ) (es : List (ℕ × Q)) (q new : Q) → Split s es q → items new ≡ items q → all_queued items (set_value (is_at (nat_cmp s)) es new) ≡ all_queued items es
  queue_same s es q new w e = w.set new ∙ ap (λ l. w.front ++ (l ++ w.back)) e ∙ sym w.is

  pub queue_gone : (s : ℕ) (es : List (ℕ × Q)) (q : Q) → Split s es q → items q ≡ [] → all_queued items (remove_entry (is_at (nat_cmp s)) es) ≡ all_queued items es
  queue_gone s es q w e = w.gone ∙ sym (w.is ∙ ap (λ l. w.front ++ (l ++ w.back)) e)

  lookup_set : (s : ℕ) (es : List (ℕ × Q)) (q w : Q) → lookup (is_at (nat_cmp s)) es ≡ Some q → lookup (is_at (nat_cmp s)) (set_value (is_at (nat_cmp s)) es w) ≡ Some w
  lookup_set s [] q w f = absurd (let x : None ≡ Some q = f in cc)
  lookup_set s (e ∷ es) q w f = elim (true_or_false (is_eq (nat_cmp s e.0))) [
    | inl t ↦ rw (t, t) refl
    | inr n ↦ let rest : lookup (is_at (nat_cmp s)) es ≡ Some q = rw n at f in rw (n, n) (lookup_set s es q w rest)
  ]

  -- the same, of whole maps
  pub split_of : (s : ℕ) (m : BTreeMap ℕ Q) (q : Q) → SoundQueues items stream m → get nat_cmp m s ≡ Some q → Split s m.entries q
  split_of s m q h f = split s m.entries q h.ordered h.own f

  pub sound_set : (s : ℕ) (m n : BTreeMap ℕ Q) (q w : Q) → SoundQueues items stream m → get nat_cmp m s ≡ Some q → n.entries ≡ set_value (is_at (nat_cmp s)) m.entries w → IsOrdered nat_cmp n → AllByRecursion (λ m. stream m ≡ s) (items w) → SoundQueues items stream n
  sound_set s m n q w h f e i a = record { ordered = i; own = subst Own (sym e) ((split_of s m q h f).own_set w a) }

  pub sound_same : (m n : BTreeMap ℕ Q) → n ≡ m → SoundQueues items stream m → SoundQueues items stream n
  sound_same m n e h = subst (SoundQueues items stream) (sym e) h

  pub room_set : (len capacity : Q → ℕ) (s : ℕ) (m n : BTreeMap ℕ Q) (q w : Q) → get nat_cmp m s ≡ Some q → n.entries ≡ set_value (is_at (nat_cmp s)) m.entries w → len w < capacity w → TakesOneMore len capacity s n
  room_set len capacity s m n q w f e r = record { queue = w; found = ap (lookup (is_at (nat_cmp s))) e ∙ lookup_set s m.entries q w f; room = r }

  pub sound_entries : (m n : BTreeMap ℕ Q) → n.entries ≡ m.entries → IsOrdered nat_cmp n → SoundQueues items stream m → SoundQueues items stream n
  sound_entries m n e i h = record { ordered = i; own = subst Own (sym e) h.own }

  pub sound_insert : (s : ℕ) (m n : BTreeMap ℕ Q) (q : Q) → SoundQueues items stream m → get nat_cmp m s ≡ None → n.entries ≡ insert_entry nat_cmp m.entries s q → IsOrdered nat_cmp n → items q ≡ [] → SoundQueues items stream n
  sound_insert s m n q h f e i a = record { ordered = i; own = subst Own (sym e) (insert_own s m.entries q a f h.own) }

  remove_none : (s : ℕ) (es : List (ℕ × Q)) → lookup (is_at (nat_cmp s)) es ≡ None → remove_entry (is_at (nat_cmp s)) es ≡ es
  remove_none s [] f = refl
  remove_none s (e ∷ es) f = let k = absent_key s e es f in rw k.0 (ap (λ l. e ∷ l) (remove_none s es k.1))

  -- an empty queue is let go
  pub release_same : (s : ℕ) (m n : BTreeMap ℕ Q) → SoundQueues items stream m → IfSome (get nat_cmp m s) (λ q. items q ≡ []) → n.entries ≡ remove_entry (is_at (nat_cmp s)) m.entries → all_queued items n.entries ≡ all_queued items m.entries
  release_same s m n h d e = ap (all_queued items) e ∙ by (get nat_cmp m s) refl d
    where
      by : (o : Option Q) → get nat_cmp m s ≡ o → IfSome o (λ q. items q ≡ []) → all_queued items (remove_entry (is_at (nat_cmp s)) m.entries) ≡ all_queued items m.entries
      by None f k = ap (all_queued items) (remove_none s m.entries f)
      by (Some q) f k = queue_gone s m.entries q (split_of s m q h f) k

  pub release_sound : (s : ℕ) (m n : BTreeMap ℕ Q) → SoundQueues items stream m → IfSome (get nat_cmp m s) (λ q. items q ≡ []) → n.entries ≡ remove_entry (is_at (nat_cmp s)) m.entries → IsOrdered nat_cmp n → SoundQueues items stream n
  release_sound s m n h d e i = record { ordered = i; own = subst Own (sym e) (by (get nat_cmp m s) refl d) }
    where
      by : (o : Option Q) → get nat_cmp m s ≡ o → IfSome o (λ q. items q ≡ []) → Own (remove_entry (is_at (nat_cmp s)) m.entries)
      by None f k = subst Own (sym (remove_none s m.entries f)) h.own
      by (Some q) f k = (split_of s m q h f).own_gone

-- the queue that is found is the one with room
pub some_room : {Q : Type 0} (len capacity : Q → ℕ) (s : ℕ) (m : BTreeMap ℕ Q) (q : Q) → get nat_cmp m s ≡ Some q → TakesOneMore len capacity s m → len q < capacity q
some_room {Q} len capacity s m q f h =
    let same : Some h.queue ≡ Some q = sym h.found ∙ f in
    subst (λ (x : Q). len x < capacity x) (the_same h.queue q same) h.room
  where
    the_same : (a b : Q) → Some a ≡ Some b → a ≡ b
    the_same a b e = cc

pub on_ok : {T E : Type 0} (r : Result T E) (P Q : Type 0) → (P → Q) → OnOk r P → OnOk r Q
on_ok (Ok x) P Q f h = f h
on_ok (Err e) P Q f h = tt

pub on_err : {T E : Type 0} (r : Result T E) (P Q : Type 0) → (P → Q) → OnErr r P → OnErr r Q
on_err (Ok x) P Q f h = tt
on_err (Err e) P Q f h = f h

-- what follows from either answer
pub either_answer : {T E : Type 0} (r : Result T E) (P Q R : Type 0) → OnOk r P → OnErr r Q → (P → R) → (Q → R) → R
either_answer (Ok x) P Q R h k f g = f h
either_answer (Err e) P Q R h k f g = g k
