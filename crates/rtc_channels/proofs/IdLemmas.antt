-- Ids of one parity, and those among them that pass a test.
use Rattle.std.proofs.Common.{◌≡◌, ◌≢◌, ℕ, suc, zero, ◌+◌, ◌*◌, ◌/◌, ◌%◌, ◌^◌, ◌<◌, ◌≤◌, List, [], ◌∷◌, length, get_or, Bool, true, false, cond, not, ◌&&◌, eqb, sym, ap, ◌∙◌, inl, inr, arith, refl, Some, None}
use Rattle.std.specs.Prelude.{slice_get}
use Rattle.std.specs.List.{filter, All}
use Rattle.std.specs.List.Sorted.{IsStrictlyIncreasing}
use Rattle.std.proofs.lemmas.Bool.{cases_eq, lt-ltb, le-ltb, eq-eqb, ne_eqb}
use Rattle.std.proofs.lemmas.List.Elements.{All-filter}
use Rattle.std.proofs.lemmas.List.Kept.{IsStrictlyIncreasing-filter}
use Rattle.rtc_channels.specs.Ids.{IdPool, every_second, all_ids, is_of_parity, parity_of, full_pool, contains_id, ids_with, ids_without, is_free, without_id, with_id, pool_marked, IsIdOf}
use Rattle.rtc_sctp_values.specs.Words.{has_bit, IsFirstBit}
use Rattle.rtc_channels.specs.Words.{ids_of}

and_false : (a : Bool) → (a && false) ≡ false
and_false true = refl
and_false false = refl

and_true : (a : Bool) → (a && true) ≡ a
and_true true = refl
and_true false = refl

-- ---- the ids of a parity

pub length-every_second : (first count : ℕ) → length (every_second first count) ≡ count
length-every_second first zero = refl
length-every_second first (suc count) = ap suc (length-every_second (first + 2) count)

pub get_or-every_second : (first count k d : ℕ) → k < count → get_or (every_second first count) k d ≡ first + 2 * k
get_or-every_second first zero k d below = absurd (omega arith)
get_or-every_second first (suc count) zero d below = omega arith
get_or-every_second first (suc count) (suc k) d below = get_or-every_second (first + 2) count k d (omega arith) ∙ omega arith

pub increasing-every_second : (first count : ℕ) → IsStrictlyIncreasing (every_second first count)
increasing-every_second first count k within =
    let size = length-every_second first count in
    omega (arith, get_or-every_second first count k 0 (omega (arith, size)), get_or-every_second first count (k + 1) 0 (omega (arith, size)))

pub ids-every_second : (parity count : ℕ) → parity < 2 → count ≤ 32768 → All (IsIdOf parity) (every_second parity count)
ids-every_second parity count two few k d within =
    let size = length-every_second parity count in
    let is = get_or-every_second parity count k d (omega (arith, size)) in
    (omega arith, omega arith)

-- ---- steps over one id

step_without : (p : ℕ → Bool) (x : ℕ) (a : Bool) (us ts : List ℕ) → us ≡ filter p ts → cond (a && p x) (x ∷ us) us ≡ filter p (cond a (x ∷ ts) ts)
step_without p x true us ts is = rw is refl
step_without p x false us ts is = is

step_front : (id x : ℕ) (a : Bool) (ts : List ℕ) → id < x → ids_with id ts ≡ id ∷ ts → ids_with id (cond a (x ∷ ts) ts) ≡ id ∷ cond a (x ∷ ts) ts
step_front id x true ts less is = rw (le-ltb x id (omega arith), ne_eqb x id (λ e. omega arith)) refl
step_front id x false ts less is = is

step_here : (x : ℕ) (a : Bool) (ts : List ℕ) → ids_with x ts ≡ x ∷ ts → x ∷ ts ≡ ids_with x (cond a (x ∷ ts) ts)
step_here x true ts is = rw (le-ltb x x (omega arith), eq-eqb x x refl) refl
step_here x false ts is = sym is

step_with : (id x : ℕ) (a : Bool) (us ts : List ℕ) → x < id → us ≡ ids_with id ts → cond a (x ∷ us) us ≡ ids_with id (cond a (x ∷ ts) ts)
step_with id x true us ts less is = rw (lt-ltb x id less, is) refl
step_with id x false us ts less is = is

step_apart : (id x : ℕ) (a : Bool) (ts : List ℕ) → x ≢ id → contains_id id (cond a (x ∷ ts) ts) ≡ contains_id id ts
step_apart id x true ts differs = rw (ne_eqb x id differs) refl
step_apart id x false ts differs = refl

step_found : (id : ℕ) (a : Bool) (ts : List ℕ) → contains_id id ts ≡ false → contains_id id (cond a (id ∷ ts) ts) ≡ a
step_found id true ts absent = rw (eq-eqb id id refl) refl
step_found id false ts absent = absent

-- ---- ids that pass a test

-- an id of another place is not among them
pub absent_id : (t : ℕ → Bool) (id first count : ℕ) → ((k : ℕ) → first + 2 * k ≢ id) → contains_id id (filter t (every_second first count)) ≡ false
absent_id t id first zero never = refl
absent_id t id first (suc count) never =
    step_apart id first (t first) (filter t (every_second (first + 2) count)) (λ e. never 0 (omega arith))
    ∙ absent_id t id (first + 2) count (λ k e. never (k + 1) (omega arith))

module _ (t : ℕ → Bool) (parity id : ℕ) (even : id % 2 ≡ parity) where
  pub contained_id : (first count : ℕ) → first % 2 ≡ parity → first ≤ id → id < first + 2 * count
      → contains_id id (filter t (every_second first count)) ≡ t id
  contained_id first zero same low high = absurd (omega arith)
  contained_id first (suc count) same low high =
      elim (cases_eq first id) [
        | inl here ↦
            rw here (step_found id (t id) (filter t (every_second (id + 2) count)) (absent_id t id (id + 2) count (λ k e. omega arith)))
        | inr differs ↦
            step_apart id first (t first) (filter t (every_second (first + 2) count)) differs
            ∙ contained_id (first + 2) count (omega arith) (omega arith) (omega arith)
      ]

  pub first_id : (first count : ℕ) → first % 2 ≡ parity → first ≤ id → id < first + 2 * count → t id ≡ true
      → ((x : ℕ) → x % 2 ≡ parity → x < id → t x ≡ false) → slice_get (filter t (every_second first count)) 0 ≡ Some id
  first_id first zero same low high is before = absurd (omega arith)
  first_id first (suc count) same low high is before =
      elim (cases_eq first id) [
        | inl here ↦ rw (here, is) refl
        | inr differs ↦
            rw (before first same (omega arith))
            (first_id (first + 2) count (omega arith) (omega arith) (omega arith) is before)
      ]

pub no_ids : (t : ℕ → Bool) (first count : ℕ) → ((x : ℕ) → t x ≡ false) → filter t (every_second first count) ≡ []
no_ids t first zero none = refl
no_ids t first (suc count) none = rw (none first) (no_ids t (first + 2) count none)

front_id : (t : ℕ → Bool) (id first count : ℕ) → id < first
    → ids_with id (filter t (every_second first count)) ≡ id ∷ filter t (every_second first count)
front_id t id first zero less = refl
front_id t id first (suc count) less =
    step_front id first (t first) (filter t (every_second (first + 2) count)) less (front_id t id (first + 2) count (omega arith))

step_same : (x : ℕ) (a : Bool) (us ts : List ℕ) → us ≡ ts → cond a (x ∷ us) us ≡ cond a (x ∷ ts) ts
step_same x a us ts is = rw is refl

module _ (t u : ℕ → Bool) (parity id : ℕ) (even : id % 2 ≡ parity) (others : (x : ℕ) → x % 2 ≡ parity → x ≢ id → u x ≡ t x) where
  -- behind the id nothing changes
  same_behind : (first count : ℕ) → first % 2 ≡ parity → id < first → filter u (every_second first count) ≡ filter t (every_second first count)
  same_behind first zero same less = refl
  same_behind first (suc count) same less =
      rw (others first same (λ e. omega arith))
      (step_same first (t first) _ _ (same_behind (first + 2) count (omega arith) (omega arith)))

  pub filter_with : (first count : ℕ) → first % 2 ≡ parity → first ≤ id → id < first + 2 * count → u id ≡ true
      → filter u (every_second first count) ≡ ids_with id (filter t (every_second first count))
  filter_with first zero same low high is = absurd (omega arith)
  filter_with first (suc count) same low high is =
      elim (cases_eq first id) [
        | inl here ↦
            rw (here, is, same_behind (id + 2) count (omega arith) (omega arith))
            (step_here id (t id) (filter t (every_second (id + 2) count)) (front_id t id (id + 2) count (omega arith)))
        | inr differs ↦
            rw (others first same differs)
            (step_with id first (t first) (filter u (every_second (first + 2) count)) (filter t (every_second (first + 2) count)) (omega arith) (filter_with (first + 2) count (omega arith) (omega arith) (omega arith) is))
      ]

-- the ids that pass a test without one of them
pub filter_without : (t u : ℕ → Bool) (parity id first count : ℕ) → first % 2 ≡ parity
    → ((x : ℕ) → x % 2 ≡ parity → u x ≡ (t x && not (eqb x id)))
    → filter u (every_second first count) ≡ ids_without id (filter t (every_second first count))
filter_without t u parity id first zero same each = refl
filter_without t u parity id first (suc count) same each =
    rw (each first same)
    (step_without (λ own. not (eqb own id)) first (t first) _ _ (filter_without t u parity id (first + 2) count (omega arith) each))

step_absent : (id own : ℕ) (ids : List ℕ) → (contains_id id ids ≡ false → ids_without id ids ≡ ids) → (same : Bool) → eqb own id ≡ same
    → contains_id id (own ∷ ids) ≡ false → ids_without id (own ∷ ids) ≡ own ∷ ids
step_absent id own ids rest true is absent = absurd (grind arith)
step_absent id own ids rest false is absent = rw is (ap (λ (list : List ℕ). own ∷ list) (rest (sym (rw is refl) ∙ absent)))

-- a list without an id that it does not contain
pub without_absent : (id : ℕ) (ids : List ℕ) → contains_id id ids ≡ false → ids_without id ids ≡ ids
without_absent id [] absent = refl
without_absent id (own ∷ ids) absent = step_absent id own ids (λ rest. without_absent id ids rest) (eqb own id) refl absent

-- ---- ids by their bits

-- every id whose bit is set is one of all
pub increasing_ids : (parity : ℕ) (words : List ℕ) → IsStrictlyIncreasing (ids_of parity words)
unfolding ids_of all_ids
increasing_ids parity words = IsStrictlyIncreasing-filter (λ id. has_bit words (id / 2)) (every_second parity 32768) (increasing-every_second parity 32768)

pub sixteen_bits : (parity : ℕ) (words : List ℕ) → parity < 2 → All (IsIdOf parity) (ids_of parity words)
unfolding ids_of all_ids
sixteen_bits parity words two =
    All-filter (λ id. has_bit words (id / 2)) (IsIdOf parity) (every_second parity 32768) (ids-every_second parity 32768 two (omega arith))

pub contains_id-ids_of : (parity id : ℕ) (words : List ℕ) → parity < 2 → id < 2 ^ 16
    → contains_id id (ids_of parity words) ≡ (is_of_parity parity id && has_bit words (id / 2))
unfolding ids_of all_ids
contains_id-ids_of parity id words two fits =
    elim (cases_eq (id % 2) parity) [
      | inl same ↦
          contained_id (λ own. has_bit words (own / 2)) parity id same parity 32768 (omega arith) (omega arith) (omega arith)
          ∙ rw (eq-eqb (id % 2) parity same) refl
      | inr differs ↦
          absent_id (λ own. has_bit words (own / 2)) id parity 32768 (λ k e. differs (omega arith)) ∙ rw (ne_eqb (id % 2) parity differs) refl
    ]

pub least_id : (parity place : ℕ) (words : List ℕ) → parity < 2 → place < 32768 → IsFirstBit words place
    → slice_get (ids_of parity words) 0 ≡ Some (2 * place + parity)
unfolding ids_of all_ids
least_id parity place words two within first =
    let half : (2 * place + parity) / 2 ≡ place = omega arith in
    first_id (λ own. has_bit words (own / 2)) parity (2 * place + parity) (omega arith) parity 32768 (omega arith) (omega arith) (omega arith)
    (ap (λ k. has_bit words k) half ∙ first.set) (λ own same less. first.before (own / 2) (omega arith))

pub no_id : (parity : ℕ) (words : List ℕ) → ((place : ℕ) → has_bit words place ≡ false) → slice_get (ids_of parity words) 0 ≡ None
unfolding ids_of all_ids
no_id parity words none = ap (λ (ids : List ℕ). slice_get ids 0) (no_ids (λ own. has_bit words (own / 2)) parity 32768 (λ own. none (own / 2)))

all_pass : (t : ℕ → Bool) (first count : ℕ) → ((k : ℕ) → k < count → t (first + 2 * k) ≡ true) → filter t (every_second first count) ≡ every_second first count
all_pass t first zero all = refl
all_pass t first (suc count) all =
    let here : first ≡ first + 2 * 0 = omega arith in
    rw (ap t here ∙ all 0 (omega arith))
    (ap (λ (ids : List ℕ). first ∷ ids)
    (all_pass t (first + 2) count
    (λ k less.
    let next : first + 2 + 2 * k ≡ first + 2 * (k + 1) = omega arith in
    ap t next ∙ all (k + 1) (omega arith))))

pub every_id : (parity : ℕ) (words : List ℕ) → parity < 2 → ((place : ℕ) → place < 32768 → has_bit words place ≡ true) → ids_of parity words ≡ all_ids parity
unfolding ids_of all_ids
every_id parity words two full =
    all_pass (λ own. has_bit words (own / 2)) parity 32768
    (λ k less.
    let half : (parity + 2 * k) / 2 ≡ k = omega arith in
    ap (λ place. has_bit words place) half ∙ full k less)

pub full_pool-words : (client : Bool) (parity : ℕ) (words : List ℕ) → parity ≡ parity_of client → parity < 2
    → ((place : ℕ) → place < 32768 → has_bit words place ≡ true) → record { parity = parity; free = ids_of parity words } ≡ full_pool client
full_pool-words client parity words is two full = rw (every_id parity words two full, is) refl

-- the pool of which an id is taken that it does not have
pub without_missing : (id : ℕ) (pool : IdPool) → is_free id pool ≡ false → pool ≡ without_id id pool
without_missing id pool missing = sym (ap (λ (ids : List ℕ). record pool { free = ids }) (without_absent id pool.free missing))

module _ (parity id : ℕ) (words words' : List ℕ) (two : parity < 2) (fits : id < 2 ^ 16) (same : id % 2 ≡ parity)
    (others : (place : ℕ) → place ≢ id / 2 → has_bit words' place ≡ has_bit words place) where
  ids_with-ids_of : has_bit words' (id / 2) ≡ true → ids_of parity words' ≡ ids_with id (ids_of parity words)
  unfolding ids_of all_ids
  ids_with-ids_of set =
      filter_with (λ own. has_bit words (own / 2)) (λ own. has_bit words' (own / 2)) parity id same
      (λ own alike differs. others (own / 2) (λ e. differs (omega arith))) parity 32768 (omega arith) (omega arith) (omega arith) set

  without_bit : has_bit words' (id / 2) ≡ false → (own : ℕ) → own % 2 ≡ parity → has_bit words' (own / 2) ≡ (has_bit words (own / 2) && not (eqb own id))
  without_bit cleared own alike =
      elim (cases_eq own id) [
        | inl here ↦ rw (here, cleared, eq-eqb id id refl) (sym (and_false (has_bit words (id / 2))))
        | inr differs ↦ others (own / 2) (λ e. differs (omega arith)) ∙ rw (ne_eqb own id differs) (sym (and_true (has_bit words (own / 2))))
      ]

  ids_without-ids_of : has_bit words' (id / 2) ≡ false → ids_of parity words' ≡ ids_without id (ids_of parity words)
  unfolding ids_of all_ids
  ids_without-ids_of cleared =
      filter_without (λ own. has_bit words (own / 2)) (λ own. has_bit words' (own / 2)) parity id parity 32768 (omega arith) (without_bit cleared)

  -- the pool by its words after a bit was put
  pub pool_put : (free : Bool) → has_bit words' (id / 2) ≡ free
      → record { parity = parity; free = ids_of parity words' } ≡ pool_marked id free (record { parity = parity; free = ids_of parity words })
  pool_put true is = rw (eq-eqb (id % 2) parity same, ids_with-ids_of is) refl
  pool_put false is = rw (ids_without-ids_of is) refl

-- the pool that an id is given to which it has
pub with_present : (parity id : ℕ) (words : List ℕ) → parity < 2 → id < 2 ^ 16 → id % 2 ≡ parity → contains_id id (ids_of parity words) ≡ true
    → record { parity = parity; free = ids_of parity words } ≡ with_id id (record { parity = parity; free = ids_of parity words })
with_present parity id words two fits same present =
    let tested = contains_id-ids_of parity id words two fits in
    let set : has_bit words (id / 2) ≡ true = sym (rw (eq-eqb (id % 2) parity same) at tested) ∙ present in
    pool_put parity id words words two fits same (λ place differs. refl) true set
