-- Entries in order of their numbers: where one stands, and where one is put in.
use Rattle.std.proofs.Common.{◌≡◌, ℕ, zero, suc, ◌+◌, ◌<◌, ◌≤◌, ◌==◌, ◌||◌, ◌≢◌, not, cond, Bool, true, false, true≢false, List, [], ◌∷◌, length, get_or, set, insert, Option, Some, None, refl, sym, ap, subst, ◌∙◌, arith}
use Rattle.std.specs.Prelude.{nat_lt, unwrap_or, slice_get, option_copied, MatchOption}
use Rattle.std.proofs.Common.{Bor}
use Rattle.std.specs.List.{filter, prefix_len}
use Rattle.std.specs.List.Sorted.{IsNonDecreasingBy}
use Rattle.std.proofs.lemmas.List.{get_or_default}
use Rattle.std.proofs.lemmas.Bool.{eqb-true}
use Rattle.std.proofs.Math.Logic.{⊎_elim}
use Rattle.std.proofs.lemmas.Bool.{cases_lt}
use Rattle.rtc_wire.specs.declared.channel_config.ChannelConfig.{ChannelConfig}
use Rattle.rtc_sctp_entries.specs.declared.stream_entry.StreamEntry.{StreamEntry}
use Rattle.rtc_sctp_entries.specs.Entries.{AscendFrom, Ascend, is_entry_of, entry_place, new_place, with_entry, has_open, is_open_state, stream_config, stream_generation}

-- entries from a number on are from a lower one on too
pub ascend_lower : (low more : ℕ) (es : List StreamEntry) → low ≤ more → AscendFrom more es → AscendFrom low es
ascend_lower low more [] le h = tt
ascend_lower low more (x ∷ es) le h = (omega (arith, le, h.0), h.1)

-- each has at least that number
pub ascend_least : (low : ℕ) (es : List StreamEntry) (i : ℕ) (d : StreamEntry) → AscendFrom low es → i < length es → low ≤ (get_or es i d).id
ascend_least low [] i d h lt = absurd (omega (arith, lt))
ascend_least low (x ∷ es) zero d h lt = h.0
ascend_least low (x ∷ es) (suc i) d h lt = omega (arith, h.0, ascend_least (x.id + 1) es i d h.1 (omega (arith, lt)))

pub ascend_up : (low : ℕ) (es : List StreamEntry) → AscendFrom low es → IsNonDecreasingBy (λ (e : StreamEntry). e.id) es
ascend_up low [] h i j d le lt = absurd (omega (arith, lt))
ascend_up low (x ∷ es) h zero zero d le lt = omega arith
ascend_up low (x ∷ es) h zero (suc j) d le lt = omega (arith, ascend_least (x.id + 1) es j d h.1 (omega (arith, lt)))
ascend_up low (x ∷ es) h (suc i) zero d le lt = absurd (omega (arith, le))
ascend_up low (x ∷ es) h (suc i) (suc j) d le lt = ascend_up (x.id + 1) es h.1 i j d (omega (arith, le)) (omega (arith, lt))

-- a prefix of elements that pass, before one that does not
pub prefix_at : (p : StreamEntry → Bool) (es : List StreamEntry) (i : ℕ) → i ≤ length es → ((k : ℕ) (d : StreamEntry) → k < i → p (get_or es k d) ≡ true)
    → ((d : StreamEntry) → i < length es → p (get_or es i d) ≡ false) → prefix_len p es ≡ i
prefix_at p [] i le before behind = omega (arith, le)
prefix_at p (x ∷ es) zero le before behind = ap (λ b. cond b (1 + prefix_len p es) 0) (behind x (omega arith))
prefix_at p (x ∷ es) (suc i) le before behind =
    let rest = prefix_at p es i (omega (arith, le)) (λ k d lt. before (suc k) d (omega (arith, lt))) (λ d lt. behind d (omega (arith, lt))) in
    ap (λ b. cond b (1 + prefix_len p es) 0) (before 0 x (omega arith)) ∙ omega (arith, rest)

-- the place of the first that passes, where it stands at i and where there is none
place_some : (n len : ℕ) → n < len → cond (nat_lt n len) (Some n) None ≡ Some n
place_some n len lt = let e : nat_lt n len ≡ true = grind (arith, lt) in rw e refl

place_none : (n len : ℕ) → n ≡ len → cond (nat_lt n len) (Some n) None ≡ None
place_none n len is = let e : nat_lt n len ≡ false = grind (arith, is) in rw e refl

place_or : (n len : ℕ) → n ≤ len → unwrap_or (cond (nat_lt n len) (Some n) None) len ≡ n
place_or n len le = by (nat_lt n len) refl
  where
    by : (b : Bool) → nat_lt n len ≡ b → unwrap_or (cond b (Some n) None) len ≡ n
    by true e = refl
    by false e = grind (arith, le, e)

other_number : (id n : ℕ) → (n ≡ id → ⊥) → not (n == id) ≡ true
other_number id n ne = by (n == id) refl
  where
    by : (b : Bool) → (n == id) ≡ b → not b ≡ true
    by true e = absurd (ne (eqb-true n id e))
    by false e = refl

same_number : (id n : ℕ) → n ≡ id → not (n == id) ≡ false
same_number id n e = let same : (n == id) ≡ true = grind (arith, e) in rw same refl

-- the place of a stream, by the point before which numbers are lower
pub place_found : (id i : ℕ) (es : List StreamEntry) → i < length es → ((k : ℕ) (d : StreamEntry) → k < i → (get_or es k d).id < id) → ((d : StreamEntry) → (get_or es i d).id ≡ id) → entry_place id es ≡ Some i
place_found id i es lt before at =
    let is : prefix_len (λ x. not (is_entry_of id x)) es ≡ i =
    prefix_at (λ x. not (is_entry_of id x)) es i (omega (arith, lt)) (λ k d l. other_number id _ (λ e. omega (arith, before k d l, e))) (λ d l. same_number id _ (at d)) in
    ap (λ n. cond (nat_lt n (length es)) (Some n) None) is ∙ place_some i (length es) lt

pub place_missing : (id : ℕ) (es : List StreamEntry) → ((k : ℕ) (d : StreamEntry) → k < length es → (get_or es k d).id ≡ id → ⊥) → entry_place id es ≡ None
place_missing id es none =
    let is : prefix_len (λ x. not (is_entry_of id x)) es ≡ length es =
    prefix_at (λ x. not (is_entry_of id x)) es (length es) (omega arith) (λ k d l. other_number id _ (none k d l)) (λ d l. absurd (omega (arith, l))) in
    place_none _ (length es) is

-- where an entry is put in, by the point before which numbers are not greater
not_above : (id n : ℕ) → n ≤ id → not (nat_lt id n) ≡ true
not_above id n le = let e : nat_lt id n ≡ false = grind (arith, le) in rw e refl

above : (id n : ℕ) → id < n → not (nat_lt id n) ≡ false
above id n lt = let e : nat_lt id n ≡ true = grind (arith, lt) in rw e refl

pub new_place_at : (id i : ℕ) (es : List StreamEntry) → i ≤ length es → ((k : ℕ) (d : StreamEntry) → k < i → (get_or es k d).id ≤ id) → ((d : StreamEntry) → i < length es → id < (get_or es i d).id) → new_place id es ≡ i
new_place_at id i es le before behind =
    let is : prefix_len (λ x. not (nat_lt id x.id)) es ≡ i =
    prefix_at (λ x. not (nat_lt id x.id)) es i le (λ k d l. not_above id _ (before k d l)) (λ d l. above id _ (behind d l)) in
    ap (λ n. unwrap_or (cond (nat_lt n (length es)) (Some n) None) (length es)) is ∙ place_or i (length es) le

-- what is put in before the first with a greater number, where no other is of its stream
prefix_least : (p : StreamEntry → Bool) (es : List StreamEntry) → prefix_len p es ≤ length es
prefix_least p [] = omega arith
prefix_least p (x ∷ es) = by (p x) (prefix_least p es)
  where
    by : (b : Bool) → prefix_len p es ≤ length es → cond b (1 + prefix_len p es) 0 ≤ length (x ∷ es)
    by true rest = omega (arith, rest)
    by false rest = omega arith

ascend_prefix : (low : ℕ) (e : StreamEntry) (es : List StreamEntry) → AscendFrom low es → low ≤ e.id → ((k : ℕ) (d : StreamEntry) → k < length es → (get_or es k d).id ≡ e.id → ⊥) → AscendFrom low (insert es (prefix_len (λ x. not (nat_lt e.id x.id)) es) e)
ascend_prefix low e [] h le none = (le, tt)
ascend_prefix low e (x ∷ es) h le none = by (nat_lt e.id x.id) refl (λ k. ascend_prefix (x.id + 1) e es h.1 k (λ i d l. none (suc i) d (omega (arith, l))))
  where
    rest : ℕ
    rest = prefix_len (λ y. not (nat_lt e.id y.id)) es

    by : (b : Bool) → nat_lt e.id x.id ≡ b → (x.id + 1 ≤ e.id → AscendFrom (x.id + 1) (insert es rest e)) → AscendFrom low (insert (x ∷ es) (cond (not b) (1 + rest) 0) e)
    by true c more = (le, (let up : e.id < x.id = grind (arith, c) in omega (arith, up), h.1))
    by false c more =
        let down : x.id ≤ e.id = grind (arith, c) in
        let other : x.id ≢ e.id = none 0 x (omega arith) in
        let next : 1 + rest ≡ suc rest = omega arith in
        subst (λ (n : ℕ). AscendFrom low (insert (x ∷ es) n e)) (sym next) (h.0, more (omega (arith, down, other)))

pub ascend_with : (e : StreamEntry) (es : List StreamEntry) → Ascend es → ((k : ℕ) (d : StreamEntry) → k < length es → (get_or es k d).id ≡ e.id → ⊥) → Ascend (with_entry e es)
ascend_with e es h none =
    let p : StreamEntry → Bool = λ x. not (nat_lt e.id x.id) in
    subst (λ (n : ℕ). Ascend (insert es n e)) (sym (place_or (prefix_len p es) (length es) (prefix_least p es))) (ascend_prefix 0 e es h (omega arith) none)

-- entries that are dropped
pub ascend_filter : (p : StreamEntry → Bool) (low : ℕ) (es : List StreamEntry) → AscendFrom low es → AscendFrom low (filter p es)
ascend_filter p low [] h = tt
ascend_filter p low (x ∷ es) h = by (p x) (ascend_filter p (x.id + 1) es h.1)
  where
    by : (b : Bool) → AscendFrom (x.id + 1) (filter p es) → AscendFrom low (cond b (x ∷ filter p es) (filter p es))
    by true rest = (h.0, rest)
    by false rest = ascend_lower low (x.id + 1) (filter p es) (omega (arith, h.0)) rest

-- another entry of the same stream
pub ascend_set : (low : ℕ) (es : List StreamEntry) (i : ℕ) (e e' : StreamEntry) → slice_get es i ≡ Some e → e'.id ≡ e.id → AscendFrom low es → AscendFrom low (set es i e')
ascend_set low [] i e e' at same h = tt
ascend_set low (x ∷ es) zero e e' at same h =
    let is : x.id ≡ e'.id = ap (λ (o : Option StreamEntry). (unwrap_or o x).id) at ∙ sym same in
    (omega (arith, h.0, is), subst (λ (n : ℕ). AscendFrom (n + 1) es) is h.1)
ascend_set low (x ∷ es) (suc i) e e' at same h = (h.0, ascend_set (x.id + 1) es i e e' at same h.1)

-- the first of a stream is the only one
open_missing : (id low : ℕ) (es : List StreamEntry) → id < low → AscendFrom low es → has_open id es ≡ false
open_missing id low [] lt h = refl
open_missing id low (x ∷ es) lt h =
    let other : (x.id == id) ≡ false = let low : id < x.id = omega (arith, lt, h.0) in grind (arith, low) in
    rw other (open_missing id (x.id + 1) es (omega (arith, lt, h.0)) h.1)

or_false : (b : Bool) → (b || false) ≡ b
or_false true = refl
or_false false = refl

pub open_found : (id low i : ℕ) (es : List StreamEntry) (d : StreamEntry) → AscendFrom low es → i < length es → (get_or es i d).id ≡ id → has_open id es ≡ is_open_state (get_or es i d).state
open_found id low i [] d h lt at = absurd (omega (arith, lt))
open_found id low zero (x ∷ es) d h lt at =
    let same : (x.id == id) ≡ true = grind (arith, at) in
    rw (same, open_missing id (x.id + 1) es (omega (arith, at)) h.1) (or_false (is_open_state x.state))
open_found id low (suc i) (x ∷ es) d h lt at =
    let least = ascend_least (x.id + 1) es i d h.1 (omega (arith, lt)) in
    let other : (x.id == id) ≡ false = let low : x.id < id = omega (arith, at, least) in grind (arith, low) in
    rw other (open_found id (x.id + 1) i es d h.1 (omega (arith, lt)) at)

pub open_none : (id : ℕ) (es : List StreamEntry) → ((k : ℕ) (d : StreamEntry) → k < length es → (get_or es k d).id ≡ id → ⊥) → has_open id es ≡ false
open_none id [] none = refl
open_none id (x ∷ es) none =
    let other : (x.id == id) ≡ false = by (x.id == id) refl in
    rw other (open_none id es (λ k d l. none (suc k) d (omega (arith, l))))
  where
    by : (b : Bool) → (x.id == id) ≡ b → b ≡ false
    by true e = absurd (none 0 x (omega arith) (eqb-true x.id id e))
    by false e = refl

-- the config of a stream
pub config_found : (id low i : ℕ) (es : List StreamEntry) (d : StreamEntry) → AscendFrom low es → i < length es → (get_or es i d).id ≡ id → stream_config id es ≡ (get_or es i d).config
config_found id low i [] d h lt at = absurd (omega (arith, lt))
config_found id low zero (x ∷ es) d h lt at = let same : (x.id == id) ≡ true = grind (arith, at) in rw same refl
config_found id low (suc i) (x ∷ es) d h lt at =
    let least = ascend_least (x.id + 1) es i d h.1 (omega (arith, lt)) in
    let other : (x.id == id) ≡ false = let low : x.id < id = omega (arith, at, least) in grind (arith, low) in
    rw other (config_found id (x.id + 1) i es d h.1 (omega (arith, lt)) at)

pub config_none : (id : ℕ) (es : List StreamEntry) → ((k : ℕ) (d : StreamEntry) → k < length es → (get_or es k d).id ≡ id → ⊥) → stream_config id es ≡ None
config_none id [] none = refl
config_none id (x ∷ es) none =
    let other : (x.id == id) ≡ false = by (x.id == id) refl in
    rw other (config_none id es (λ k d l. none (suc k) d (omega (arith, l))))
  where
    by : (b : Bool) → (x.id == id) ≡ b → b ≡ false
    by true e = absurd (none 0 x (omega arith) (eqb-true x.id id e))
    by false e = refl

-- the generation that the entry of a stream keeps
pub generation_found : (id low i : ℕ) (es : List StreamEntry) (d : StreamEntry) → AscendFrom low es → i < length es → (get_or es i d).id ≡ id → stream_generation id es ≡ (get_or es i d).generation
generation_found id low i [] d h lt at = absurd (omega (arith, lt))
generation_found id low zero (x ∷ es) d h lt at = let same : (x.id == id) ≡ true = grind (arith, at) in rw same refl
generation_found id low (suc i) (x ∷ es) d h lt at =
    let least = ascend_least (x.id + 1) es i d h.1 (omega (arith, lt)) in
    let other : (x.id == id) ≡ false = let low : x.id < id = omega (arith, at, least) in grind (arith, low) in
    rw other (generation_found id (x.id + 1) i es d h.1 (omega (arith, lt)) at)

pub generation_none : (id : ℕ) (es : List StreamEntry) → ((k : ℕ) (d : StreamEntry) → k < length es → (get_or es k d).id ≡ id → ⊥) → stream_generation id es ≡ None
generation_none id [] none = refl
generation_none id (x ∷ es) none =
    let other : (x.id == id) ≡ false = by (x.id == id) refl in
    rw other (generation_none id es (λ k d l. none (suc k) d (omega (arith, l))))
  where
    by : (b : Bool) → (x.id == id) ≡ b → b ≡ false
    by true e = absurd (none 0 x (omega arith) (eqb-true x.id id e))
    by false e = refl

-- what stands at a place, read with any default
at_place : (es : List StreamEntry) (i : ℕ) (x d : StreamEntry) → i < length es → x ≡ get_or es i x → get_or es i d ≡ x
at_place es i x d lt is = get_or_default es i d x lt ∙ sym is

-- the entry of a stream stands behind those with lower numbers
pub place_here : (id i : ℕ) (es : List StreamEntry) (x : StreamEntry) → i < length es → x ≡ get_or es i x → x.id ≡ id → ((k : ℕ) (d : StreamEntry) → k < i → (get_or es k d).id < id) → entry_place id es ≡ Some i
place_here id i es x lt is at before = place_found id i es lt before (λ d. ap (λ (y : StreamEntry). y.id) (at_place es i x d lt is) ∙ at)

pub open_here : (id i : ℕ) (es : List StreamEntry) (x d : StreamEntry) → Ascend es → i < length es → x ≡ get_or es i x → x.id ≡ id → has_open id es ≡ is_open_state (get_or es i d).state
open_here id i es x d h lt is at = open_found id 0 i es d h lt (ap (λ (y : StreamEntry). y.id) (at_place es i x d lt is) ∙ at)

pub config_here : (id i : ℕ) (es : List StreamEntry) (x d : StreamEntry) → Ascend es → i < length es → x ≡ get_or es i x → x.id ≡ id → stream_config id es ≡ (get_or es i d).config
config_here id i es x d h lt is at = config_found id 0 i es d h lt (ap (λ (y : StreamEntry). y.id) (at_place es i x d lt is) ∙ at)

pub generation_here : (id i : ℕ) (es : List StreamEntry) (x d : StreamEntry) → Ascend es → i < length es → x ≡ get_or es i x → x.id ≡ id → stream_generation id es ≡ (get_or es i d).generation
generation_here id i es x d h lt is at = generation_found id 0 i es d h lt (ap (λ (y : StreamEntry). y.id) (at_place es i x d lt is) ∙ at)

-- a config that is lent
pub config_lent : (o : Option (Bor ChannelConfig)) (config : Option ChannelConfig) → option_copied o ≡ config → MatchOption o (config ≡ None) (λ lent. config ≡ Some lent.now)
config_lent None config h = sym h
config_lent (Some lent) config h = sym h

-- no entry is of a stream where all have lower numbers
pub none_past : (id i : ℕ) (es : List StreamEntry) → ((k : ℕ) (d : StreamEntry) → k < i → (get_or es k d).id < id) → length es ≤ i → (k : ℕ) (d : StreamEntry) → k < length es → (get_or es k d).id ≡ id → ⊥
none_past id i es before le k d lt at = let low = before k d (omega (arith, le, lt)) in omega (arith, low, at)

-- nor where the first that has no lower number has another one
pub none_at : (id i : ℕ) (es : List StreamEntry) (x : StreamEntry) → Ascend es → ((k : ℕ) (d : StreamEntry) → k < i → (get_or es k d).id < id) → ((k : ℕ) (d : StreamEntry) → i ≤ k → k < length es → id ≤ (get_or es k d).id)
    → i < length es → x ≡ get_or es i x → x.id ≢ id → (k : ℕ) (d : StreamEntry) → k < length es → (get_or es k d).id ≡ id → ⊥
none_at id i es x h before behind lt is other k d l at = ⊎_elim (λ a. let low = before k d a in omega (arith, low, at)) last (cases_lt k i)
  where
    last : i ≤ k → ⊥
    last a =
        let here : (get_or es i d).id ≡ x.id = ap (λ (y : StreamEntry). y.id) (at_place es i x d lt is) in
        let first = behind i d (omega arith) lt in
        let up = ascend_up 0 es h i k d a l in
        other (omega (arith, first, up, at, here))

-- where a stream has no place, no entry is of it
prefix_all : (p : StreamEntry → Bool) (es : List StreamEntry) (k : ℕ) (d : StreamEntry) → length es ≤ prefix_len p es → k < length es → p (get_or es k d) ≡ true
prefix_all p [] k d le lt = absurd (omega (arith, lt))
prefix_all p (x ∷ es) k d le lt = by (p x) refl le k lt (λ j l. prefix_all p es j d l)
  where
    by : (b : Bool) → p x ≡ b → length (x ∷ es) ≤ cond b (1 + prefix_len p es) 0 → (k : ℕ) → k < length (x ∷ es) → ((j : ℕ) → length es ≤ prefix_len p es → j < length es → p (get_or es j d) ≡ true) → p (get_or (x ∷ es) k d) ≡ true
    by true e le zero lt rest = e
    by true e le (suc k) lt rest = rest k (omega (arith, le)) (omega (arith, lt))
    by false e le k lt rest = absurd (omega (arith, le))

no_place : (n len : ℕ) → cond (nat_lt n len) (Some n) None ≡ None → len ≤ n
no_place n len e = by (nat_lt n len) refl e
  where
    by : (b : Bool) → nat_lt n len ≡ b → cond b (Some n) None ≡ None → len ≤ n
    by true c e = absurd (some_none e)
      where
        some_none : Some n ≡ None → ⊥
        some_none f = cc
    by false c e = grind (arith, c)

pub none_missing : (id : ℕ) (es : List StreamEntry) → entry_place id es ≡ None → (k : ℕ) (d : StreamEntry) → k < length es → (get_or es k d).id ≡ id → ⊥
none_missing id es e k d lt at =
    let p : StreamEntry → Bool = λ x. not (is_entry_of id x) in
    let passes = prefix_all p es k d (no_place (prefix_len p es) (length es) e) lt in
    true≢false (sym passes ∙ same_number id (get_or es k d).id at)
