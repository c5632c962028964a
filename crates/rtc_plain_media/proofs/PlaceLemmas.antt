-- The places of streams, their names and their numbers, after each change of their rows.
use Rattle.std.proofs.Common.{◌≡◌, ◌==◌, ◌+◌, ◌≤◌, ◌++◌, ◌||◌, ◌&&◌, ℕ, zero, suc, Bool, true, false, cond, nat_lt, nat_eq, Option, Some, None, List, [], ◌∷◌, length, filter, slice_set, slice_index_or, position, is_some, Result, Ok, Err, refl, sym, ap, subst, ◌∙◌, arith}
use Rattle.std.proofs.lemmas.Bool.Decides.{Decides-eqb}
use Rattle.std.proofs.lemmas.Grind.{common_steps}
use Rattle.std.specs.List.{list_any, position_from, position_or_len}
use Rattle.std.specs.Option.{option_eq}
use Rattle.std.specs.Prelude.{IsOk, OnOk}
use Rattle.indexmap.specs.IndexMap.{IndexMap, get, Updates}
use Rattle.indexmap.specs.IndexSet as set
use Rattle.rtc_parts.specs.MediaUpdates.{same_mid}
use Rattle.rtc_plain_media.specs.declared.plain_mark.PlainMark.{PlainMark}
use Rattle.rtc_plain_media.specs.declared.stream_row.StreamRow.{StreamRow}
use Rattle.rtc_plain_media.specs.declared.stream_name.LayerKey.{LayerKey}
use Rattle.rtc_plain_media.specs.declared.stream_name.StreamName.{StreamName}
use Rattle.rtc_plain_media.specs.declared.stream_index.StreamIndex.{StreamIndex}
use Rattle.rtc_plain_media.specs.Lines.{same_key}
use Rattle.rtc_plain_media.specs.Streams.{Streams, has_name, same_rid}
use Rattle.rtc_plain_media.specs.StreamIndex.{same_layer, same_name, layer_key, stream_name, is_numbered, has_stream_name, uses_number, or_else, PutsPlace, KeepsEntries, FindsStreams, FitsStreams, HasSpare, IndexesStreams}
use Rattle.rtc_plain_media.specs.UpdateLemmas.{same_is}

from_places : (P : StreamRow → Bool) (at : ℕ) (rows : Streams) → position_from P at rows ≡ cond (nat_lt (position_or_len P rows) (length rows)) (Some (at + position_or_len P rows)) None
from_places P at [] = refl
from_places P at (x ∷ xs) = grind (arith, common_steps, from_places P (at + 1) xs)

-- counted from 0 it is the first place
pub first_from : (P : StreamRow → Bool) (rows : Streams) → position_from P 0 rows ≡ position P rows
first_from P rows =
    let none : 0 + position_or_len P rows ≡ position_or_len P rows = omega arith in
    from_places P 0 rows ∙ ap (λ (n : ℕ). cond (nat_lt (position_or_len P rows) (length rows)) (Some n) None) none

same_rows : (P Q : StreamRow → Bool) (at : ℕ) (rows : Streams) → ((row : StreamRow) → P row ≡ Q row) → position_from P at rows ≡ position_from Q at rows
same_rows P Q at [] same = refl
same_rows P Q at (x ∷ xs) same = ap (λ (b : Bool). cond b (Some at) (position_from P (at + 1) xs)) (same x) ∙ ap (λ (o : Option ℕ). cond (Q x) (Some at) o) (same_rows P Q (at + 1) xs same)

layers_agree : (a b : Option (List ℕ)) → option_eq same_layer (layer_key a) (layer_key b) ≡ same_rid a b
layers_agree None None = refl
layers_agree None (Some b) = refl
layers_agree (Some a) None = refl
layers_agree (Some a) (Some b) = refl

-- a row of a line and a layer has their name
pub named_from : (mid : List ℕ) (rid : Option (List ℕ)) (rows : Streams) → position_from (has_stream_name (stream_name mid rid)) 0 rows ≡ position (has_name mid rid) rows
named_from mid rid rows =
    same_rows (has_stream_name (stream_name mid rid)) (has_name mid rid) 0 rows (λ row. ap (λ (b : Bool). same_mid row.mid mid && b) (layers_agree row.rid rid))
    ∙ first_from (has_name mid rid) rows

-- keys that are found equal are the same
pub same_number : (a b : ℕ) → nat_eq a b ≡ true → a ≡ b
same_number a b h = (Decides-eqb a b).0 h

abbrev layer_named : List ℕ → LayerKey
layer_named rid = record { rid = rid }

abbrev named_so : List ℕ → Option LayerKey → StreamName
named_so mid layer = record { line = record { mid = mid }; layer = layer }

same_layers : (a b : Option LayerKey) → option_eq same_layer a b ≡ true → a ≡ b
same_layers None None h = refl
same_layers None (Some b) h = absurd cc
same_layers (Some a) None h = absurd cc
same_layers (Some a) (Some b) h = ap (λ (rid : List ℕ). Some (layer_named rid)) (same_is a.rid b.rid h)

both : (s t : Bool) → s && t ≡ true → (s ≡ true) × (t ≡ true)
both true t h = (refl, h)
both false t h = absurd cc

pub same_stream : (a b : StreamName) → same_name a b ≡ true → a ≡ b
same_stream a b h =
    let parts = both (same_key a.line b.line) (option_eq same_layer a.layer b.layer) h in
    ap (λ (mid : List ℕ). named_so mid a.layer) (same_is a.line.mid b.line.mid parts.0)
    ∙ ap (λ (layer : Option LayerKey). named_so b.line.mid layer) (same_layers a.layer b.layer parts.1)

-- a place is put
or_none : (o : Option ℕ) → o ≡ or_else o None
or_none None = refl
or_none (Some n) = refl

or_old : (o p : Option ℕ) → is_some o ≡ true → o ≡ or_else o p
or_old None p there = absurd cc
or_old (Some n) p there = refl

or_new : (o p : Option ℕ) → is_some o ≡ false → p ≡ or_else o p
or_new None p none = refl
or_new (Some n) p none = absurd cc

module _ {K S : Type 0} (eq : K → K → Bool) (same : (a b : K) → eq a b ≡ true → a ≡ b) (old new : IndexMap K ℕ S) (key : K) (at : ℕ) where
  -- where one is there, nothing changes
  pub puts_none : is_some (get eq old key) ≡ true → PutsPlace eq key at old old
  puts_none there = λ q. by q (eq key q) refl
    where
      by : (q : K) (b : Bool) → eq key q ≡ b → get eq old q ≡ or_else (get eq old q) (cond (eq key q) (Some at) None)
      by q true is = or_old (get eq old q) (cond (eq key q) (Some at) None) (subst (λ (k : K). is_some (get eq old k) ≡ true) (same key q is) there)
      by q false is = rw is (or_none (get eq old q))

  pub puts_new : is_some (get eq old key) ≡ false → Updates eq old new key (Some at) → PutsPlace eq key at old new
  puts_new none put = λ q. put.0 q ∙ by q (eq key q) refl
    where
      by : (q : K) (b : Bool) → eq key q ≡ b → cond (eq key q) (Some at) (get eq old q) ≡ or_else (get eq old q) (cond (eq key q) (Some at) None)
      by q true is = rw is (or_new (get eq old q) (Some at) (subst (λ (k : K). is_some (get eq old k) ≡ false) (same key q is) none))
      by q false is = rw is (or_none (get eq old q))

-- a number is put
pub puts_no_number : (has : ℕ → Bool) (number : ℕ) → has number ≡ true → (n : ℕ) → has n ≡ (has n || (number == n))
puts_no_number has number there n = by (number == n) refl
  where
    all : (b : Bool) → b ≡ true → b ≡ (b || true)
    all true h = refl
    all false h = absurd cc

    none : (b : Bool) → b ≡ (b || false)
    none true = refl
    none false = refl

    by : (b : Bool) → (number == n) ≡ b → has n ≡ (has n || (number == n))
    by true is = rw is (all (has n) (subst (λ (k : ℕ). has k ≡ true) (same_number number n is) there))
    by false is = rw is (none (has n))

pub puts_number : (b x : Bool) → cond b true x ≡ (x || b)
puts_number true true = refl
puts_number true false = refl
puts_number false true = refl
puts_number false false = refl

-- a row is pushed
appended : (P : StreamRow → Bool) (at : ℕ) (rows : Streams) (row : StreamRow) → position_from P at (rows ++ row ∷ []) ≡ or_else (position_from P at rows) (cond (P row) (Some (at + length rows)) None)
appended P at [] row = let zero_more : at ≡ at + 0 = omega arith in ap (λ (n : ℕ). cond (P row) (Some n) None) zero_more
appended P at (x ∷ xs) row = by (P x) refl (appended P (at + 1) xs row)
  where
    by : (b : Bool) → P x ≡ b → position_from P (at + 1) (xs ++ row ∷ []) ≡ or_else (position_from P (at + 1) xs) (cond (P row) (Some (at + 1 + length xs)) None)
        → cond (P x) (Some at) (position_from P (at + 1) (xs ++ row ∷ [])) ≡ or_else (cond (P x) (Some at) (position_from P (at + 1) xs)) (cond (P row) (Some (at + suc (length xs))) None)
    by true is rest = rw is refl
    by false is rest =
        let one : at + 1 + length xs ≡ at + suc (length xs) = omega arith in
        rw is (rest ∙ ap (λ (n : ℕ). or_else (position_from P (at + 1) xs) (cond (P row) (Some n) None)) one)

pub any_appended : (P : StreamRow → Bool) (rows : Streams) (row : StreamRow) → list_any P (rows ++ row ∷ []) ≡ (list_any P rows || P row)
any_appended P [] row = by (P row)
  where
    by : (b : Bool) → (b || false) ≡ b
    by true = refl
    by false = refl
any_appended P (x ∷ xs) row = by (P x) (any_appended P xs row)
  where
    by : (b : Bool) → list_any P (xs ++ row ∷ []) ≡ (list_any P xs || P row) → (b || list_any P (xs ++ row ∷ [])) ≡ ((b || list_any P xs) || P row)
    by true rest = refl
    by false rest = rest

module _ {K S : Type 0} (eq : K → K → Bool) (old new : IndexMap K ℕ S) (own : StreamRow → K) (before : Streams) (row : StreamRow) (at : ℕ) where
  -- the place of a row that was pushed is put
  pub place_added : at ≡ length before → ((q : K) → get eq old q ≡ position_from (λ r. eq (own r) q) 0 before) → PutsPlace eq (own row) at old new
      → (q : K) → get eq new q ≡ position_from (λ r. eq (own r) q) 0 (before ++ row ∷ [])
  place_added last held put q =
      let behind : at ≡ 0 + length before = omega (arith, last) in
      put q
      ∙ ap (λ (o : Option ℕ). or_else o (cond (eq (own row) q) (Some at) None)) (held q)
      ∙ ap (λ (n : ℕ). or_else (position_from (λ r. eq (own r) q) 0 before) (cond (eq (own row) q) (Some n) None)) behind
      ∙ sym (appended (λ r. eq (own r) q) 0 before row)

-- the numbers of a row are put, one or both
pub numbers_one : (a b s : Bool) → b ≡ (a || s) → b ≡ (a || (s || false))
numbers_one true b s h = h
numbers_one false b true h = h
numbers_one false b false h = h

pub numbers_both : (a b c s r : Bool) → b ≡ (a || s) → c ≡ (b || r) → c ≡ (a || (s || r))
numbers_both a b c s r h k = k ∙ ap (λ (x : Bool). x || r) h ∙ joined a s r
  where
    joined : (a s r : Bool) → ((a || s) || r) ≡ (a || (s || r))
    joined true s r = refl
    joined false s r = refl

-- an index of as many entries finds the same
pub finds_same : (old new : StreamIndex) (rows : Streams) → new.places.entries ≡ old.places.entries → new.names.entries ≡ old.names.entries → new.numbers.keys ≡ old.numbers.keys
    → FindsStreams old rows → FindsStreams new rows
finds_same old new rows places names numbers held = record {
  places = λ n. rw places (held.places n);
  names = λ n. rw names (held.names n);
  numbers = λ n. rw numbers (held.numbers n);
}

filter_most : (keeps : StreamRow → Bool) (rows : Streams) → length (filter keeps rows) ≤ length rows
filter_most keeps [] = omega arith
filter_most keeps (x ∷ xs) = grind (arith, common_steps, filter_most keeps xs)

-- rows some of which went are no more than there were
pub rows_fewer : (keeps : StreamRow → Bool) (before rows : Streams) (count : ℕ) → rows ≡ filter keeps before → count ≡ length before → length rows ≤ count
rows_fewer keeps before rows count is counted =
    let left : length rows ≡ length (filter keeps before) = ap (λ (l : Streams). length l) is in
    omega (arith, left, counted, filter_most keeps before)

-- where as many rows are kept, all are
pub kept_all : (keeps : StreamRow → Bool) (rows : Streams) → length (filter keeps rows) ≡ length rows → filter keeps rows ≡ rows
kept_all keeps [] same = refl
kept_all keeps (x ∷ xs) same = by (kept_all keeps xs) (keeps x) refl same
  where
    by : (length (filter keeps xs) ≡ length xs → filter keeps xs ≡ xs) → (b : Bool) → keeps x ≡ b → length (filter keeps (x ∷ xs)) ≡ suc (length xs) → filter keeps (x ∷ xs) ≡ x ∷ xs
    by rest true is same = let fewer : length (filter keeps xs) ≡ length xs = omega (arith, rw is at same) in rw is (ap (λ (l : Streams). x ∷ l) (rest fewer))
    by rest false is same = absurd (omega (arith, filter_most keeps xs, rw is at same))

length_set : (rows : Streams) (i : ℕ) (row : StreamRow) → length (slice_set rows i row) ≡ length rows
length_set [] i row = refl
length_set (x ∷ xs) zero row = refl
length_set (x ∷ xs) (suc i) row = ap suc (length_set xs i row)

same_places : (P : StreamRow → Bool) (at : ℕ) (rows : Streams) (i : ℕ) (row made : StreamRow) → row ≡ slice_index_or rows i row → P made ≡ P row → position_from P at (slice_set rows i made) ≡ position_from P at rows
same_places P at [] i row made is same = refl
same_places P at (x ∷ xs) zero row made is same = ap (λ (b : Bool). cond b (Some at) (position_from P (at + 1) xs)) (same ∙ ap P is)
same_places P at (x ∷ xs) (suc i) row made is same = ap (λ (o : Option ℕ). cond (P x) (Some at) o) (same_places P (at + 1) xs i row made is same)

same_any : (P : StreamRow → Bool) (rows : Streams) (i : ℕ) (row made : StreamRow) → row ≡ slice_index_or rows i row → P made ≡ P row → list_any P (slice_set rows i made) ≡ list_any P rows
same_any P [] i row made is same = refl
same_any P (x ∷ xs) zero row made is same = ap (λ (b : Bool). b || list_any P xs) (same ∙ ap P is)
same_any P (x ∷ xs) (suc i) row made is same = ap (λ (b : Bool). P x || b) (same_any P xs i row made is same)

-- a mark is left in a row
pub indexes_marked : (index : StreamIndex) (rows : Streams) (i : ℕ) (row : StreamRow) (mark : PlainMark) → row ≡ slice_index_or rows i row → IndexesStreams index rows
    → IndexesStreams index (slice_set rows i (record row { mark = mark }))
indexes_marked index rows i row mark is held =
    let made : StreamRow = record row { mark = mark } in (
      record {
        places = λ q. held.0.places q ∙ sym (same_places (is_numbered q) 0 rows i row made is refl);
        names = λ q. held.0.names q ∙ sym (same_places (has_stream_name q) 0 rows i row made is refl);
        numbers = λ q. held.0.numbers q ∙ sym (same_any (uses_number q) rows i row made is refl);
      },
      subst (λ (n : ℕ). FitsStreams index n) (sym (length_set rows i made)) held.1,
    )

pub fits_set : (index : StreamIndex) (rows : Streams) (i : ℕ) (row : StreamRow) → IndexesStreams index rows → FitsStreams index (length (slice_set rows i row))
fits_set index rows i row held = subst (λ (n : ℕ). FitsStreams index n) (sym (length_set rows i row)) held.1

-- an index with the same entries and no less room serves the same rows
pub indexes_same : (old new : StreamIndex) (rows : Streams) → KeepsEntries old.places new.places → KeepsEntries old.names new.names → new.numbers.keys ≡ old.numbers.keys
    → set.spare old.numbers ≤ set.spare new.numbers → IndexesStreams old rows → IndexesStreams new rows
indexes_same old new rows places names keys spare held = (
  finds_same old new rows places.0 names.0 keys held.0,
  record {
    places = omega (arith, held.1.places, places.1, ap (λ (es : List (ℕ × ℕ)). length es) places.0);
    names = omega (arith, held.1.names, names.1, ap (λ (es : List (StreamName × ℕ)). length es) names.0);
    numbers = omega (arith, held.1.numbers, spare, ap (λ (ks : List ℕ). length ks) keys);
  },
)

-- room for more is room for fewer
pub has_less : (index : StreamIndex) (count fewer : ℕ) → fewer ≤ count → HasSpare index count → HasSpare index fewer
has_less index count fewer less room = record {
  places = omega (arith, less, room.places);
  names = omega (arith, less, room.names);
  numbers = omega (arith, less, room.numbers);
}

pub fits_less : (index : StreamIndex) (count fewer : ℕ) → fewer ≤ count → FitsStreams index count → FitsStreams index fewer
fits_less index count fewer less fits = record {
  places = omega (arith, less, fits.places);
  names = omega (arith, less, fits.names);
  numbers = omega (arith, less, fits.numbers);
}

-- rows some of which went
pub indexes_kept : (index : StreamIndex) (keeps : StreamRow → Bool) (before rows : Streams) → rows ≡ filter keeps before → length rows ≡ length before
    → IndexesStreams index before → IndexesStreams index rows
indexes_kept index keeps before rows is same held =
    let fewer : length (filter keeps before) ≡ length before = ap (λ (l : Streams). length l) (sym is) ∙ same in
    subst (λ (l : Streams). IndexesStreams index l) (sym (is ∙ kept_all keeps before fewer)) held

-- a call that ended well did what it says
pub on_ok : {T E : Type 0} (P : Type 0) (r : Result T E) → IsOk r → OnOk r P → P
on_ok P (Ok x) i h = h
on_ok P (Err e) i h = grind (arith, common_steps)
