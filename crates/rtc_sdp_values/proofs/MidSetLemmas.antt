-- Sets of mids, filled from the last mid on.
use Rattle.std.proofs.Common.{◌≡◌, ◌+◌, ◌<◌, ◌≤◌, ◌∙◌, ◌||◌, ◌&&◌, ℕ, Bool, true, false, cond, List, [], ◌∷◌, drop, get_or, length, subst, refl, sym, ap, arith, suc, zero}
use Rattle.std.specs.List.{list_any, list_all}
use Rattle.std.specs.BTreeSet as set
use Rattle.std.specs.BTreeSet.{BTreeSet}
use Rattle.std.specs.BTreeMap.{is_at}
use Rattle.std.specs.Cmp.Lexicographic.{slice_cmp}
use Rattle.std.specs.Ordering.{nat_cmp}
use Rattle.std.specs.Str.{bytes_eq}
use Rattle.std.proofs.lemmas.Slice.Eq.{bytes_eq-Decides}
use Rattle.std.proofs.lemmas.Map.Text.{is_eq-slice_cmp}
use Rattle.rtc_sdp_values.specs.Mids.{is_among, are_distinct}
use Rattle.rtc_sdp_values.specs.MidSets.{HasMids}
use Rattle.rtc_sdp_values.specs.Sdp as spec
use Rattle.rtc_sdp_values.specs.declared.media_line.MediaLine.{MediaLine}

drop_all : (mids : List (List ℕ)) → drop (length mids) mids ≡ []
drop_all [] = refl
drop_all (mid ∷ mids) = drop_all mids

drop_from : (at : ℕ) (mids : List (List ℕ)) (mid : List ℕ) → at < length mids → mid ≡ get_or mids at mid → drop at mids ≡ mid ∷ drop (suc at) mids
drop_from at [] mid below is = absurd (omega (arith, below))
drop_from zero (first ∷ mids) mid below is = rw is refl
drop_from (suc at) (first ∷ mids) mid below is = drop_from at mids mid (omega (arith, below)) is

-- an empty set has no mids
pub no_mids : (found : BTreeSet (List ℕ)) (mids : List (List ℕ)) → found.keys ≡ [] → HasMids found (drop (length mids) mids)
no_mids found mids empty = λ mid. rw (drop_all mids) (ap (λ (keys : List (List ℕ)). list_any (is_at (slice_cmp nat_cmp mid)) keys) empty)

put : (found found' : BTreeSet (List ℕ)) (own : List ℕ) (mids : List (List ℕ)) → HasMids found mids
    → ((mid : List ℕ) → set.contains (slice_cmp nat_cmp) found' mid ≡ cond (is_at (slice_cmp nat_cmp own) mid) true (set.contains (slice_cmp nat_cmp) found mid))
    → HasMids found' (own ∷ mids)
put found found' own mids held more = λ mid.
    more mid
    ∙ (ap (λ (b : Bool). cond b true (set.contains (slice_cmp nat_cmp) found mid)) (is_eq-slice_cmp own mid)
    ∙ (ap (λ (b : Bool). cond (bytes_eq own mid) true b) (held mid) ∙ either (bytes_eq own mid) (is_among mids mid)))
  where
    either : (one other : Bool) → cond one true other ≡ (one || other)
    either true other = refl
    either false other = refl

-- What holds as one mid more, in front of the others, is put into a set.
pub record IsPut (found found' : BTreeSet (List ℕ)) (mids : List (List ℕ)) (before : ℕ) (own : List ℕ) : Type 0 where
  pub front : drop before mids ≡ own ∷ drop (before + 1) mids
  pub held : HasMids found (drop (before + 1) mids)
  pub holds : HasMids found' (drop before mids)

pub is_put : (found found' : BTreeSet (List ℕ)) (mids : List (List ℕ)) (at before : ℕ) (own : List ℕ) → before + 1 ≡ at → at ≤ length mids → own ≡ get_or mids before own
    → HasMids found (drop at mids)
    → ((mid : List ℕ) → set.contains (slice_cmp nat_cmp) found' mid ≡ cond (is_at (slice_cmp nat_cmp own) mid) true (set.contains (slice_cmp nat_cmp) found mid))
    → IsPut found found' mids before own
is_put found found' mids at before own next within is held more =
    let one : suc before ≡ before + 1 = omega arith in
    let held_next : HasMids found (drop (before + 1) mids) = subst (λ (n : ℕ). HasMids found (drop n mids)) (sym next) held in
    let front : drop before mids ≡ own ∷ drop (before + 1) mids = drop_from before mids own (omega (arith, next, within)) is ∙ ap (λ (n : ℕ). own ∷ drop n mids) one in
    record {
      front = front;
      held = held_next;
      holds = subst (λ (list : List (List ℕ)). HasMids found' list) (sym front) (put found found' own (drop (before + 1) mids) held_next more);
    }

-- where the last mids are not distinct, none of more are
pub repeats_stay : (n : ℕ) (mids : List (List ℕ)) → are_distinct (drop n mids) ≡ false → are_distinct mids ≡ false
repeats_stay zero mids repeated = repeated
repeats_stay (suc n) [] repeated = repeated
repeats_stay (suc n) (mid ∷ mids) repeated = grind (arith, repeats_stay n mids repeated)

-- a mid that is among those behind it
pub repeated_front : (found : BTreeSet (List ℕ)) (before : ℕ) (mids : List (List ℕ)) (own : List ℕ) → drop before mids ≡ own ∷ drop (before + 1) mids
    → HasMids found (drop (before + 1) mids) → set.contains (slice_cmp nat_cmp) found own ≡ true → are_distinct mids ≡ false
repeated_front found before mids own front held there =
    let among : is_among (drop (before + 1) mids) own ≡ true = sym (held own) ∙ there in
    repeats_stay before mids (rw (front, among) refl)

-- and one that is not
pub distinct_front : (found : BTreeSet (List ℕ)) (before : ℕ) (mids : List (List ℕ)) (own : List ℕ) → drop before mids ≡ own ∷ drop (before + 1) mids
    → HasMids found (drop (before + 1) mids) → set.contains (slice_cmp nat_cmp) found own ≡ false → are_distinct (drop (before + 1) mids) ≡ true → are_distinct (drop before mids) ≡ true
distinct_front found before mids own front held missed distinct =
    let among : is_among (drop (before + 1) mids) own ≡ false = sym (held own) ∙ missed in
    rw (front, among) distinct

-- no mid is distinct from none
pub distinct_none : (mids : List (List ℕ)) → are_distinct (drop (length mids) mids) ≡ true
distinct_none mids = rw (drop_all mids) refl

among_more : (mids : List (List ℕ)) (first mid : List ℕ) → is_among mids mid ≡ true → is_among (first ∷ mids) mid ≡ true
among_more mids first mid among = by (bytes_eq first mid)
  where
    by : (one : Bool) → (one || is_among mids mid) ≡ true
    by true = refl
    by false = among

all_among : (group mids : List (List ℕ)) (first : List ℕ) → list_all (λ mid. is_among mids mid) group ≡ true → list_all (λ mid. is_among (first ∷ mids) mid) group ≡ true
all_among [] mids first all = refl
all_among (mid ∷ group) mids first all =
    let parts : (is_among mids mid ≡ true) × (list_all (λ mid. is_among mids mid) group ≡ true) = grind arith in
    rw (among_more mids first mid parts.0, all_among group mids first parts.1) refl

-- each mid is among them all
pub all_among_all : (mids : List (List ℕ)) → list_all (λ mid. is_among mids mid) mids ≡ true
all_among_all [] = refl
all_among_all (mid ∷ mids) = rw ((bytes_eq-Decides mid mid).1 refl, all_among mids mids mid (all_among_all mids)) refl

-- each line is in a group of all their mids
pub all_grouped : (group : List (List ℕ)) (lines : List MediaLine) → list_all (λ mid. is_among group mid) (spec.mids_of lines) ≡ true → spec.are_grouped group lines ≡ true
all_grouped group [] all = refl
all_grouped group (line ∷ lines) all =
    let parts : (is_among group line.mid ≡ true) × (list_all (λ mid. is_among group mid) (spec.mids_of lines) ≡ true) = grind arith in
    rw (parts.0, all_grouped group lines parts.1) (by line.disabled)
  where
    by : (one : Bool) → ((one || true) && true) ≡ true
    by true = refl
    by false = refl
