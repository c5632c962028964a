-- What a search for the first that passes says of the list.
use Rattle.std.proofs.Common.{ℕ, ◌≡◌, ◌+◌, ◌<◌, ◌⊎◌, inl, inr, Bool, true, false, not, ◌||◌, cond, nat_lt, List, [], ◌∷◌, ◌++◌, length, get_or, set, Some, None, refl, sym, ap, subst, ◌∙◌, arith, length-append, append_assoc}
use Rattle.std.proofs.Math.Bool.{or-true}
use Rattle.std.specs.List.{position, prefix_len, list_any}
use Rattle.std.proofs.lemmas.Bool.{lt-ltb, le-ltb}

-- where a search stopped: the items before fail, and this one passes
pub record At {X : Type 0} (p : X → Bool) (xs : List X) (i : ℕ) (x : X) : Type 0 where
  pub before : List X
  pub after : List X
  pub is : xs ≡ before ++ x ∷ after
  pub place : length before ≡ i
  pub fails : list_any p before ≡ false
  pub passes : p x ≡ true

-- one item more in front of a search that stopped
at_behind : {X : Type 0} (p : X → Bool) (y : X) (xs : List X) (i : ℕ) (x : X) → p y ≡ false → At p xs i x → At p (y ∷ xs) (1 + i) x
at_behind p y xs i x e a = record {
  before = y ∷ a.before;
  after = a.after;
  is = ap (λ l. y ∷ l) a.is;
  place = omega (arith, a.place);
  fails = rw e a.fails;
  passes = a.passes;
}

-- a search stops, or all fail
pub data Search {X : Type 0} (p : X → Bool) (xs : List X) : Type 0 where
  Stops : (i : ℕ) (x : X) → prefix_len (λ x. not (p x)) xs ≡ i → i < length xs → At p xs i x → Search p xs
  Fails : prefix_len (λ x. not (p x)) xs ≡ length xs → list_any p xs ≡ false → Search p xs

search_head : {X : Type 0} (p : X → Bool) (y : X) (xs : List X) (b : Bool) → p y ≡ b → Search p xs → Search p (y ∷ xs)
search_head p y xs true e s = Stops 0 y (rw e refl) (omega arith) (record { before = []; after = xs; is = refl; place = refl; fails = refl; passes = e })
search_head p y xs false e (Stops i x l h a) = Stops (1 + i) x (rw e (ap (λ n. 1 + n) l)) (omega arith) (at_behind p y xs i x e a)
search_head p y xs false e (Fails l f) = Fails (rw e (ap (λ n. 1 + n) l ∙ omega arith)) (rw e f)

pub search_all : {X : Type 0} (p : X → Bool) (xs : List X) → Search p xs
search_all p [] = Fails refl refl
search_all p (y ∷ xs) = search_head p y xs (p y) refl (search_all p xs)

get-middle : {X : Type 0} (before after : List X) (x d : X) → get_or (before ++ x ∷ after) (length before) d ≡ x
get-middle [] after x d = refl
get-middle (b ∷ before) after x d = get-middle before after x d

pub set-middle : {X : Type 0} (before after : List X) (x y : X) → set (before ++ x ∷ after) (length before) y ≡ before ++ y ∷ after
set-middle [] after x y = refl
set-middle (b ∷ before) after x y = ap (λ l. b ∷ l) (set-middle before after x y)

some_is : {A : Type 0} (a b : A) → Some a ≡ Some b → a ≡ b
some_is a b e = cc

-- a place that `position` gives, with what stands there
pub at_position : {X : Type 0} (p : X → Bool) (xs : List X) (i : ℕ) (x d : X) → position p xs ≡ Some i → x ≡ get_or xs i d → At p xs i x
at_position {X} p xs i x d e g = by_search (search_all p xs)
  where
    by_search : Search p xs → At p xs i x
    by_search (Stops j y l h a) =
        let j_is : j ≡ i = some_is j i (rw (l, lt-ltb j (length xs) h) at e) in
        let there : get_or xs j d ≡ y = ap (λ l. get_or l j d) a.is ∙ ap (λ n. get_or (a.before ++ y ∷ a.after) n d) (sym a.place) ∙ get-middle a.before a.after y d in
        let y_is : y ≡ x = sym there ∙ ap (λ n. get_or xs n d) j_is ∙ sym g in
        subst (λ (n : ℕ). At p xs n x) j_is (subst (λ (z : X). At p xs j z) y_is a)
    by_search (Fails l f) = absurd (let k : None ≡ Some i = rw (l, le-ltb (length xs) (length xs) (omega arith)) at e in cc)

-- where `position` gives none, all fail
pub none_position : {X : Type 0} (p : X → Bool) (xs : List X) → position p xs ≡ None → list_any p xs ≡ false
none_position p xs e = by_search (search_all p xs)
  where
    by_search : Search p xs → list_any p xs ≡ false
    by_search (Stops j y l h a) = absurd (let k : Some j ≡ None = rw (l, lt-ltb j (length xs) h) at e in cc)
    by_search (Fails l f) = f

pub found_position : {X : Type 0} (p : X → Bool) (xs : List X) (i : ℕ) → position p xs ≡ Some i → (x : X) × At p xs i x
found_position {X} p xs i e = by_search (search_all p xs)
  where
    by_search : Search p xs → (x : X) × At p xs i x
    by_search (Stops j y l h a) = let j_is : j ≡ i = some_is j i (rw (l, lt-ltb j (length xs) h) at e) in (y, subst (λ (n : ℕ). At p xs n y) j_is a)
    by_search (Fails l f) = absurd (let k : None ≡ Some i = rw (l, le-ltb (length xs) (length xs) (omega arith)) at e in cc)

pub at_get : {X : Type 0} (p : X → Bool) (xs : List X) (i : ℕ) (x d : X) → At p xs i x → get_or xs i d ≡ x
at_get p xs i x d a = ap (λ l. get_or l i d) a.is ∙ ap (λ n. get_or (a.before ++ x ∷ a.after) n d) (sym a.place) ∙ get-middle a.before a.after x d

pub at_within : {X : Type 0} (p : X → Bool) (xs : List X) (i : ℕ) (x : X) → At p xs i x → i < length xs
at_within p xs i x a = omega (arith, a.place, ap length a.is, length-append a.before (x ∷ a.after))

stop-prefix_len : {X : Type 0} (p : X → Bool) (before after : List X) (x : X) → list_any p before ≡ false → p x ≡ true → prefix_len (λ y. not (p y)) (before ++ x ∷ after) ≡ length before
stop-prefix_len p [] after x f e = rw e refl
stop-prefix_len p (b ∷ before) after x f e = by (p b) refl f (λ g. stop-prefix_len p before after x g e)
  where
    by : (t : Bool) → p b ≡ t → (t || list_any p before) ≡ false → (list_any p before ≡ false → prefix_len (λ y. not (p y)) (before ++ x ∷ after) ≡ length before) → prefix_len (λ y. not (p y)) (b ∷ before ++ x ∷ after) ≡ length (b ∷ before)
    by true k g h = absurd cc
    by false k g h = rw k (ap (λ n. 1 + n) (h g) ∙ omega arith)

-- the place where a search stops is the one that `position` gives
pub position_at : {X : Type 0} (p : X → Bool) (xs : List X) (i : ℕ) (x : X) → At p xs i x → position p xs ≡ Some i
position_at p xs i x a =
    let stops : prefix_len (λ y. not (p y)) xs ≡ i = ap (prefix_len (λ y. not (p y))) a.is ∙ stop-prefix_len p a.before a.after x a.fails a.passes ∙ a.place in
    rw (stops, lt-ltb i (length xs) (at_within p xs i x a)) refl

passes_in : {X : Type 0} (p : X → Bool) (before after : List X) (x : X) → p x ≡ true → list_any p (before ++ x ∷ after) ≡ true
passes_in p [] after x k = rw k refl
passes_in p (b ∷ before) after x k = ap (λ t. p b || t) (passes_in p before after x k) ∙ or-true (p b)

-- where all fail, `position` gives none
pub position_fails : {X : Type 0} (p : X → Bool) (xs : List X) → list_any p xs ≡ false → position p xs ≡ None
position_fails p xs e = by_search (search_all p xs)
  where
    by_search : Search p xs → position p xs ≡ None
    by_search (Stops j y l h a) = absurd (let k : true ≡ false = sym (passes_in p a.before a.after y a.passes) ∙ ap (list_any p) (sym a.is) ∙ e in cc)
    by_search (Fails l f) = rw (l, le-ltb (length xs) (length xs) (omega arith)) refl

-- a search that stops does so with more behind
pub at_more : {X : Type 0} (p : X → Bool) (xs ys : List X) (i : ℕ) (x : X) → At p xs i x → At p (xs ++ ys) i x
at_more p xs ys i x a = record {
  before = a.before;
  after = a.after ++ ys;
  is = ap (λ l. l ++ ys) a.is ∙ append_assoc a.before (x ∷ a.after) ys;
  place = a.place;
  fails = a.fails;
  passes = a.passes;
}

any-push : {X : Type 0} (p : X → Bool) (xs : List X) (y : X) → list_any p xs ≡ false → p y ≡ false → list_any p (xs ++ y ∷ []) ≡ false
any-push p [] y e f = rw f refl
any-push p (x ∷ xs) y e f = by (p x) refl e (λ g. any-push p xs y g f)
  where
    by : (t : Bool) → p x ≡ t → (t || list_any p xs) ≡ false → (list_any p xs ≡ false → list_any p (xs ++ y ∷ []) ≡ false) → list_any p (x ∷ xs ++ y ∷ []) ≡ false
    by true k g h = absurd cc
    by false k g h = rw k (h g)

-- the place in a list with one more item: the one before, or that of the new item
pub position-push : {X : Type 0} (p : X → Bool) (xs : List X) (y : X) (i : ℕ) → position p (xs ++ y ∷ []) ≡ Some i → (position p xs ≡ Some i) ⊎ ((p y ≡ true) × (i ≡ length xs))
position-push {X} p xs y i e = by_search (search_all p xs)
  where
    by_last : (t : Bool) → p y ≡ t → list_any p xs ≡ false → (position p xs ≡ Some i) ⊎ ((p y ≡ true) × (i ≡ length xs))
    by_last true k f = inr (k, sym (some_is (length xs) i (sym (position_at p (xs ++ y ∷ []) (length xs) y (record { before = xs; after = []; is = refl; place = refl; fails = f; passes = k })) ∙ e)))
    by_last false k f = absurd (let n : None ≡ Some i = sym (position_fails p (xs ++ y ∷ []) (any-push p xs y f k)) ∙ e in cc)

    by_search : Search p xs → (position p xs ≡ Some i) ⊎ ((p y ≡ true) × (i ≡ length xs))
    by_search (Stops j z l h a) = inl (position_at p xs j z a ∙ sym (position_at p (xs ++ y ∷ []) j z (at_more p xs (y ∷ []) j z a)) ∙ e)
    by_search (Fails l f) = by_last (p y) refl f

-- the same place where one item is replaced by one that passes where it did
pub position-replaced : {X : Type 0} (p : X → Bool) (before after : List X) (x y : X) → p x ≡ p y → position p (before ++ x ∷ after) ≡ position p (before ++ y ∷ after)
position-replaced {X} p before after x y e = ap (λ n. cond (nat_lt n (length (before ++ x ∷ after))) (Some n) None) (same before) ∙ ap (λ l. cond (nat_lt (prefix_len (λ z. not (p z)) (before ++ y ∷ after)) l) (Some (prefix_len (λ z. not (p z)) (before ++ y ∷ after))) None) (omega (arith, length-append before (x ∷ after), length-append before (y ∷ after)))
  where
    same : (front : List X) → prefix_len (λ z. not (p z)) (front ++ x ∷ after) ≡ prefix_len (λ z. not (p z)) (front ++ y ∷ after)
    same [] = ap (λ b. cond (not b) (1 + prefix_len (λ z. not (p z)) after) 0) e
    same (z ∷ front) = ap (λ n. cond (not (p z)) (1 + n) 0) (same front)
