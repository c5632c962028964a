-- The streams that can be given, and the channels after one was given.
use Rattle.std.proofs.Common.{◌≡◌, ◌+◌, ◌<◌, ◌==◌, ◌^◌, ℕ, suc, Bool, true, false, cond, not, ◌&&◌, ◌||◌, eqb, List, [], ◌∷◌, ◌++◌, length, get_or, refl, ap, sym, ◌∙◌, inl, inr, arith, Option, Some, None}
use Rattle.std.specs.Prelude.{◌-◌, slice_get, is_some, nat_lt, Result, Ok, Err, OnErr}
use Rattle.std.specs.List.{filter, list_any}
use Rattle.std.specs.BTreeMap.{BTreeMap, get, keys}
use Rattle.std.specs.Ordering.{nat_cmp, eq_by_cmp}
use Rattle.std.proofs.lemmas.Bool.{cases_eq, eq-eqb, ne_eqb}
use Rattle.std.proofs.lemmas.Map.Made.{is_some-lookup}
use Rattle.rtc_channels.specs.Ids.{all_ids, parity_of, contains_id, ids_without}
use Rattle.rtc_channels.proofs.IdLemmas.{ids-every_second}
use Rattle.rtc_channels.specs.declared.kept.Kept.{Kept}
use Rattle.rtc_channels.specs.declared.grants.Grant.{Grant}
use Rattle.rtc_channels.specs.Channels.{Channels, channel_of_stream}
use Rattle.rtc_channels.specs.Granted.{owner_at, holds_at, holds_of, is_granted, AreHandled}
use Rattle.rtc_channels.specs.Allocation.{is_taken, free_streams, is_ensured, channel_ensured, opened_by_other}
use Rattle.rtc_channels.proofs.GrantLemmas.{hold_count-holds_of, holds_same}
use Rattle.rtc_channels.proofs.KeptLemmas.{one_more}
use Rattle.rtc_channels.proofs.HoldLemmas.{handler_view}
use Rattle.rtc_channels.proofs.RowLemmas.{is_given-owner}

-- ---- lists that are filtered

step_same : (x : ℕ) (a b : Bool) (us ts : List ℕ) → a ≡ b → us ≡ ts → cond a (x ∷ us) us ≡ cond b (x ∷ ts) ts
step_same x a b us ts same is = rw (same, is) refl

pub filter_alike : (p q : ℕ → Bool) (xs : List ℕ) → ((x : ℕ) → p x ≡ q x) → filter p xs ≡ filter q xs
filter_alike p q [] same = refl
filter_alike p q (x ∷ xs) same = step_same x (p x) (q x) (filter p xs) (filter q xs) (same x) (filter_alike p q xs same)

pub filter_within : (p q : ℕ → Bool) (bound : ℕ) (xs : List ℕ) → ((i d : ℕ) → i < length xs → get_or xs i d < bound) → ((x : ℕ) → x < bound → p x ≡ q x) → filter p xs ≡ filter q xs
filter_within p q bound [] within same = refl
filter_within p q bound (x ∷ xs) within same =
    step_same x (p x) (q x) (filter p xs) (filter q xs) (same x (within 0 x (omega arith)))
    (filter_within p q bound xs (λ i d less. within (suc i) d (omega (arith, less))) same)

step_twice : (x : ℕ) (a : Bool) (q : ℕ → Bool) (us ts : List ℕ) → filter q us ≡ ts → filter q (cond a (x ∷ us) us) ≡ cond (a && q x) (x ∷ ts) ts
step_twice x true q us ts is = rw is refl
step_twice x false q us ts is = is

pub filter_twice : (p q : ℕ → Bool) (xs : List ℕ) → filter q (filter p xs) ≡ filter (λ x. p x && q x) xs
filter_twice p q [] = refl
filter_twice p q (x ∷ xs) = step_twice x (p x) q (filter p xs) (filter (λ y. p y && q y) xs) (filter_twice p q xs)

step_first : (x : ℕ) (p : ℕ → Bool) (ts : List ℕ) (a : Bool) → p x ≡ a → (y : ℕ) → (slice_get ts 0 ≡ Some y → p y ≡ true) → slice_get (cond a (x ∷ ts) ts) 0 ≡ Some y → p y ≡ true
step_first x p ts true is y rest found = let same : x ≡ y = cc in ap p (sym same) ∙ is
step_first x p ts false is y rest found = rest found

pub first_passes : (p : ℕ → Bool) (xs : List ℕ) (y : ℕ) → slice_get (filter p xs) 0 ≡ Some y → p y ≡ true
first_passes p [] y found = absurd cc
first_passes p (x ∷ xs) y found = step_first x p (filter p xs) (p x) refl y (first_passes p xs y) found

pub filter_all : (xs : List ℕ) → filter (λ x. true) xs ≡ xs
filter_all [] = refl
filter_all (x ∷ xs) = ap (λ (list : List ℕ). x ∷ list) (filter_all xs)

-- ---- ids that the keys of a map take away

-- what is left of free ids once those among these keys that cannot be given are taken
abbrev pub ids_left : (ℕ → Bool) → List ℕ → List ℕ → List ℕ
ids_left granted ks free = filter (λ id. not (contains_id id ks && granted id)) free

left_by : (granted : ℕ → Bool) (k : ℕ) (ks : List ℕ) (id : ℕ) → granted k ≡ true
    → (not (eqb id k) && not (contains_id id ks && granted id)) ≡ not (contains_id id (k ∷ ks) && granted id)
left_by granted k ks id is = elim (cases_eq id k) [
  | inl same ↦ rw (same, eq-eqb k k refl, is) refl
  | inr differs ↦ rw (ne_eqb id k differs, ne_eqb k id (λ e. differs (sym e))) refl
]

pub left_taken : (granted : ℕ → Bool) (k : ℕ) (ks free : List ℕ) → granted k ≡ true → ids_left granted ks (ids_without k free) ≡ ids_left granted (k ∷ ks) free
left_taken granted k ks free is =
    filter_twice (λ own. not (eqb own k)) (λ id. not (contains_id id ks && granted id)) free
    ∙ filter_alike (λ id. not (eqb id k) && not (contains_id id ks && granted id)) (λ id. not (contains_id id (k ∷ ks) && granted id)) free (λ id. left_by granted k ks id is)

left_free : (granted : ℕ → Bool) (k : ℕ) (ks : List ℕ) (id : ℕ) → granted k ≡ false → not (contains_id id ks && granted id) ≡ not (contains_id id (k ∷ ks) && granted id)
left_free granted k ks id is = elim (cases_eq id k) [
  | inl same ↦ by (contains_id id ks) (contains_id id (k ∷ ks)) (granted id) (ap granted same ∙ is)
  | inr differs ↦ rw (ne_eqb k id (λ e. differs (sym e))) refl
]
  where
    by : (a b c : Bool) → c ≡ false → not (a && c) ≡ not (b && c)
    by true true c is = refl
    by true false c is = rw is refl
    by false true c is = rw is refl
    by false false c is = refl

pub left_kept : (granted : ℕ → Bool) (k : ℕ) (ks free : List ℕ) → granted k ≡ false → ids_left granted ks free ≡ ids_left granted (k ∷ ks) free
left_kept granted k ks free is = filter_alike (λ id. not (contains_id id ks && granted id)) (λ id. not (contains_id id (k ∷ ks) && granted id)) free (λ id. left_free granted k ks id is)

key_test : (id : ℕ) (ks : List ℕ) → list_any (eq_by_cmp nat_cmp id) ks ≡ contains_id id ks
key_test id [] = refl
key_test id (k ∷ ks) = let first : eq_by_cmp nat_cmp id k ≡ (k == id) = grind arith in rw (first, key_test id ks) refl

no_key : (a : Bool) → not (a && false) ≡ true
no_key true = refl
no_key false = refl

-- a stream that cannot be given has a key
granted_key : (grants : BTreeMap ℕ Grant) (id : ℕ) → not (contains_id id (keys grants) && is_granted grants id) ≡ not (is_granted grants id)
granted_key grants id = by (get nat_cmp grants id) refl (is_some-lookup (eq_by_cmp nat_cmp id) grants.entries ∙ key_test id (keys grants))
  where
    by : (found : Option Grant) → get nat_cmp grants id ≡ found → is_some (get nat_cmp grants id) ≡ contains_id id (keys grants)
        → not (contains_id id (keys grants) && is_granted grants id) ≡ not (is_granted grants id)
    by None is key = rw is (no_key (contains_id id (keys grants)))
    by (Some grant) is key = rw (sym key, is) refl

pub left_all : (grants : BTreeMap ℕ Grant) (free : List ℕ) → ids_left (is_granted grants) (keys grants) free ≡ filter (λ id. not (is_granted grants id)) free
left_all grants free = filter_alike (λ id. not (contains_id id (keys grants) && is_granted grants id)) (λ id. not (is_granted grants id)) free (granted_key grants)

-- ---- the streams that can be given

pub taken_granted : (given s : ℕ) (rows : List (ℕ × Option ℕ)) (kept : List Kept) (grants : BTreeMap ℕ Grant) → AreHandled given rows kept grants → s < 65536
    → is_taken s (handler_view given rows kept (holds_of grants)) ≡ is_granted grants s
taken_granted given s rows kept grants handled below =
    rw (is_given-owner s rows kept handled.paired.same, hold_count-holds_of grants s below, handled.owners s) refl

ids_below : (parity : ℕ) → parity < 2 → (i d : ℕ) → i < length (all_ids parity) → get_or (all_ids parity) i d < 65536
unfolding all_ids
ids_below parity two i d within = let id = ids-every_second parity 32768 two (omega arith) i d within in omega (arith, id.1)

pub free_granted : (given parity : ℕ) (rows : List (ℕ × Option ℕ)) (kept : List Kept) (grants : BTreeMap ℕ Grant) → AreHandled given rows kept grants → parity < 2
    → filter (λ id. not (is_granted grants id)) (all_ids parity) ≡ free_streams parity (handler_view given rows kept (holds_of grants))
free_granted given parity rows kept grants handled two =
    filter_within (λ id. not (is_granted grants id)) (λ id. not (is_taken id (handler_view given rows kept (holds_of grants)))) 65536 (all_ids parity) (ids_below parity two)
    (λ id below. ap not (sym (taken_granted given id rows kept grants handled below)))

-- a stream that can be given has no owner
pub unowned : (grants : BTreeMap ℕ Grant) (rows : List (ℕ × Option ℕ)) (s : ℕ) → owner_at grants s ≡ channel_of_stream s rows → is_granted grants s ≡ false → channel_of_stream s rows ≡ None
unowned grants rows s owner free = sym owner ∙ by (owner_at grants s) (nat_lt 0 (holds_at grants s)) free
  where
    by : (found : Option ℕ) (held : Bool) → (is_some found || held) ≡ false → found ≡ None
    by None held is = refl
    by (Some id) held is = absurd (grind arith)

pub side_parity : (client : Bool) → parity_of client < 2
side_parity true = omega arith
side_parity false = omega arith

-- ---- a channel for a stream

module _ (given s : ℕ) (rows : List (ℕ × Option ℕ)) (kept : List Kept) (grants : BTreeMap ℕ Grant) (handled : AreHandled given rows kept grants) (held : Channels)
    (is : handler_view given rows kept (holds_of grants) ≡ held) where
  pub ensured_owner : is_ensured s held ≡ (is_some (owner_at grants s) || (given == 2 ^ 64 - 1))
  ensured_owner = rw (← is, is_given-owner s rows kept handled.paired.same, handled.owners s) refl

  pub ensured_free : is_ensured s held ≡ false → channel_of_stream s rows ≡ None
  ensured_free none = sym (handled.owners s) ∙ by (owner_at grants s) (given == 2 ^ 64 - 1) (sym ensured_owner ∙ none)
    where
      by : (found : Option ℕ) (full : Bool) → (is_some found || full) ≡ false → found ≡ None
      by None full missed = refl
      by (Some id) full missed = absurd (grind arith)

  pub ensured_view : (grants' : BTreeMap ℕ Grant) (id : ℕ) → id ≡ given → is_ensured s held ≡ false → ((q : ℕ) → holds_at grants' q ≡ holds_at grants q)
      → handler_view (given + 1) (rows ++ (id, Some s) ∷ []) (kept ++ record { negotiated = None; config = None; confirmed = false } ∷ []) (holds_of grants') ≡ channel_ensured s held
  ensured_view grants' id same none times =
      sym (by (is_ensured s held) none)
    where
      made : handler_view (given + 1) (rows ++ (id, Some s) ∷ []) (kept ++ record { negotiated = None; config = None; confirmed = false } ∷ []) (holds_of grants')
          ≡ record held { given = held.given + 1; rows = held.rows ++ opened_by_other held.given s ∷ [] }
      made = rw (← is, holds_same grants grants' times, one_more rows kept (id, Some s) (record { negotiated = None; config = None; confirmed = false }) handled.paired.same, same) refl

      by : (b : Bool) → b ≡ false → cond b held (record held { given = held.given + 1; rows = held.rows ++ opened_by_other held.given s ∷ [] })
          ≡ handler_view (given + 1) (rows ++ (id, Some s) ∷ []) (kept ++ record { negotiated = None; config = None; confirmed = false } ∷ []) (holds_of grants')
      by b missed = rw missed (sym made)

pub on_err : {X Y : Type 0} {P : Type 0} (r : Result X Y) → P → OnErr r P
on_err (Ok x) is = tt
on_err (Err e) is = is
