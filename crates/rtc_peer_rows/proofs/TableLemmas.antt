-- Tables: each row stands at its place, and what a search among the rows finds.
use Rattle.std.proofs.Common.{◌≡◌, ◌+◌, ◌≤◌, ℕ, Bool, true, false, List, [], ◌∷◌, drop, Option, Some, None, refl, ap, subst, arith, suc, zero}
use Rattle.std.specs.Prelude.{find, slice_get, is_some}
use Rattle.std.specs.List.{list_any}
use Rattle.std.specs.Str.{bytes_eq}
use Rattle.std.proofs.lemmas.Slice.Eq.{bytes_eq-Decides}
use Rattle.std.proofs.lemmas.Bool.{or_parts}
use Rattle.rtc_sdp_values.specs.LineRow.{row_place, row_mid}
use Rattle.rtc_sdp_values.specs.declared.line_row.LineRow.{LineRow}
use Rattle.rtc_peer_rows.specs.Table.{Rising, Distinct, OneApp, NoMore, is_of, has_mid, row_of, is_app}

-- no row of rising places stands before the first of them
pub place_from : (test : LineRow → Bool) (place : ℕ) (rows : List LineRow) (row : LineRow)
    → Rising place rows → find test rows ≡ Some row → place ≤ row_place row
place_from test place [] row rising found = grind arith
place_from test place (first ∷ rows) row rising found = grind (arith, place_from test (place + 1) rows row rising.1)

-- what a search finds passes its test
pub found_passes : (test : LineRow → Bool) (rows : List LineRow) (row : LineRow) → find test rows ≡ Some row → test row ≡ true
found_passes test [] row found = grind arith
found_passes test (first ∷ rows) row found = grind (arith, found_passes test rows row)

-- where a search finds nothing, no row passes
pub none_passes : (test : LineRow → Bool) (rows : List LineRow) → find test rows ≡ None → list_any test rows ≡ false
none_passes test [] missed = refl
none_passes test (first ∷ rows) missed = grind (arith, none_passes test rows)

-- what a search finds stands at its place
pub found_at : (test : LineRow → Bool) (place : ℕ) (rows : List LineRow) (row : LineRow) (i : ℕ)
    → Rising place rows → find test rows ≡ Some row → row_place row ≡ place + i → drop i rows ≡ row ∷ drop (suc i) rows
found_at test place [] row i rising found at = grind arith
found_at test place (first ∷ rows) row zero rising found at = grind (arith, place_from test (place + 1) rows row rising.1)
found_at test place (first ∷ rows) row (suc i) rising found at = grind (arith, found_at test (place + 1) rows row i rising.1)

-- rows past the first few are still at their places
pub rising_drop : (place n : ℕ) (rows : List LineRow) → Rising place rows → Rising (place + n) (drop n rows)
rising_drop place zero rows rising = grind arith
rising_drop place (suc n) [] rising = tt
rising_drop place (suc n) (row ∷ rows) rising = grind (arith, rising_drop (place + 1) n rows rising.1)

pub distinct_drop : (n : ℕ) (rows : List LineRow) → Distinct rows → Distinct (drop n rows)
distinct_drop zero rows distinct = distinct
distinct_drop (suc n) [] distinct = tt
distinct_drop (suc n) (row ∷ rows) distinct = distinct_drop n rows distinct.1

pub one_app_drop : (n : ℕ) (rows : List LineRow) → OneApp rows → OneApp (drop n rows)
one_app_drop zero rows one = one
one_app_drop (suc n) [] one = tt
one_app_drop (suc n) (row ∷ rows) one = one_app_drop n rows one.1

-- where no row passes, none of the last ones does
pub none_drop : (test : LineRow → Bool) (n : ℕ) (rows : List LineRow) → list_any test rows ≡ false → list_any test (drop n rows) ≡ false
none_drop test zero rows missed = missed
none_drop test (suc n) [] missed = refl
none_drop test (suc n) (row ∷ rows) missed = grind (arith, none_drop test n rows)

-- a row that passes is found among the rows
pub passes_among : (test : LineRow → Bool) (n : ℕ) (rows rest : List LineRow) (row : LineRow)
    → drop n rows ≡ row ∷ rest → test row ≡ true → list_any test rows ≡ true
passes_among test zero rows rest row at passed = grind arith
passes_among test (suc n) [] rest row at passed = grind arith
passes_among test (suc n) (first ∷ rows) rest row at passed = grind (arith, passes_among test n rows rest row at passed)

-- where no row passes, a row that a search finds does not
pub found_fails : (test other : LineRow → Bool) (rows : List LineRow) (row : LineRow)
    → find test rows ≡ Some row → list_any other rows ≡ false → other row ≡ false
found_fails test other [] row found missed = grind arith
found_fails test other (first ∷ rows) row found missed = grind (arith, found_fails test other rows row)

-- one row fewer
pub none_drop_more : (test : LineRow → Bool) (n : ℕ) (rows : List LineRow) → list_any test (drop n rows) ≡ false → list_any test (drop (suc n) rows) ≡ false
none_drop_more test n [] missed = refl
none_drop_more test zero (row ∷ rows) missed = grind arith
none_drop_more test (suc n) (row ∷ rows) missed = none_drop_more test n rows missed

-- rows none of which is of data channels have at most one
pub none_one_app : (rows : List LineRow) → list_any is_app rows ≡ false → OneApp rows
none_one_app [] missed = tt
none_one_app (row ∷ rows) missed =
    let parts = or_parts (is_app row) (list_any is_app rows) missed in
    (no_more (is_app row) parts.0, none_one_app rows parts.1)
  where
    no_more : (app : Bool) → app ≡ false → NoMore app rows
    no_more true same = absurd (cc)
    no_more false same = tt

-- a row that a search for a mid finds has it
pub found_has_mid : (rows : List LineRow) (mid : List ℕ) (row : LineRow) → row_of rows mid ≡ Some row → row_mid row ≡ mid
found_has_mid rows mid row found = (bytes_eq-Decides (row_mid row) mid).0 (found_passes (is_of mid) rows row found)

-- a row has a mid exactly where a search finds one
pub has_mid_row_of : (rows : List LineRow) (mid : List ℕ) → has_mid mid rows ≡ is_some (row_of rows mid)
has_mid_row_of [] mid = refl
has_mid_row_of (row ∷ rows) mid = grind (arith, has_mid_row_of rows mid)

-- each row of a table is what a search for its mid finds
pub row_of_its_mid : (rows : List LineRow) (n : ℕ) (row : LineRow) → Distinct rows → slice_get rows n ≡ Some row → row_of rows (row_mid row) ≡ Some row
row_of_its_mid [] n row distinct at = absurd (cc)
row_of_its_mid (first ∷ rows) zero row distinct at =
    let same : first ≡ row = cc in
    let found : row_of (first ∷ rows) (row_mid first) ≡ Some first = rw ((bytes_eq-Decides (row_mid first) (row_mid first)).1 refl) refl in
    subst (λ (r : LineRow). row_of (first ∷ rows) (row_mid r) ≡ Some r) same found
row_of_its_mid (first ∷ rows) (suc n) row distinct at =
    by (bytes_eq (row_mid first) (row_mid row)) refl (row_of_its_mid rows n row distinct.1 at)
  where
    by : (equal : Bool) → bytes_eq (row_mid first) (row_mid row) ≡ equal → row_of rows (row_mid row) ≡ Some row → row_of (first ∷ rows) (row_mid row) ≡ Some row
    by false is found = rw is found
    by true is found =
        let same : row_mid first ≡ row_mid row = (bytes_eq-Decides (row_mid first) (row_mid row)).0 is in
        let missed : is_some (row_of rows (row_mid row)) ≡ false = rw (← has_mid_row_of rows (row_mid row), ← same) distinct.0 in
        absurd (cc (ap (λ (o : Option LineRow). is_some o) found))

-- each row of a table stands at its place
pub place_of_row : (place : ℕ) (rows : List LineRow) (n : ℕ) (row : LineRow) → Rising place rows → slice_get rows n ≡ Some row → row_place row ≡ place + n
place_of_row place [] n row rising at = absurd (cc)
place_of_row place (first ∷ rows) zero row rising at = grind arith
place_of_row place (first ∷ rows) (suc n) row rising at = omega (arith, place_of_row (place + 1) rows n row rising.1 at)

-- what a search finds is the row at its place
pub row_at_place : (test : LineRow → Bool) (place : ℕ) (rows : List LineRow) (row : LineRow) (i : ℕ)
    → Rising place rows → find test rows ≡ Some row → row_place row ≡ place + i → slice_get rows i ≡ Some row
row_at_place test place [] row i rising found at = absurd (cc)
row_at_place test place (first ∷ rows) row zero rising found at = grind (arith, place_from test (place + 1) rows row rising.1)
row_at_place test place (first ∷ rows) row (suc i) rising found at = grind (arith, row_at_place test (place + 1) rows row i rising.1)
