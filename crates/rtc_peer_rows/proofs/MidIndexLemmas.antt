-- Positions of rows by their mids.
use Rattle.std.proofs.Common.{◌≡◌, ◌+◌, ◌<◌, ◌≤◌, ◌∙◌, ℕ, Bool, true, false, cond, List, [], ◌∷◌, drop, get_or, length, subst, Option, Some, None, refl, sym, ap, arith, suc, zero}
use Rattle.std.specs.Prelude.{slice_get}
use Rattle.std.specs.Map.{lookup}
use Rattle.std.specs.BTreeMap as map
use Rattle.std.specs.BTreeMap.{BTreeMap, is_at}
use Rattle.std.specs.Cmp.Lexicographic.{slice_cmp}
use Rattle.std.specs.Ordering.{nat_cmp}
use Rattle.std.specs.Str.{bytes_eq}
use Rattle.std.proofs.lemmas.Map.Text.{is_eq-slice_cmp}
use Rattle.rtc_sdp_values.specs.LineRow.{row_mid}
use Rattle.rtc_sdp_values.specs.declared.line_row.LineRow.{LineRow}
use Rattle.rtc_peer_rows.specs.Table.{Distinct, is_of, row_of}
use Rattle.rtc_peer_rows.proofs.TableLemmas.{row_of_its_mid}
use Rattle.rtc_peer_rows.specs.MidIndex.{position_of, HasPositions, Serves}
use Rattle.rtc_peer_rows.proofs.RowChangeLemmas.{AreAlike}

-- one row more in front of those that the map has
pub position_put : (positions positions' : BTreeMap (List ℕ) ℕ) (at : ℕ) (row : LineRow) (rows : List LineRow) → HasPositions positions (at + 1) rows
    → ((mid : List ℕ) → map.get (slice_cmp nat_cmp) positions' mid ≡ cond (is_at (slice_cmp nat_cmp (row_mid row)) mid) (Some at) (map.get (slice_cmp nat_cmp) positions mid))
    → HasPositions positions' at (row ∷ rows)
position_put positions positions' at row rows held put = λ mid.
    put mid
    ∙ (ap (λ (b : Bool). cond b (Some at) (map.get (slice_cmp nat_cmp) positions mid)) (is_eq-slice_cmp (row_mid row) mid)
    ∙ ap (λ (found : Option ℕ). cond (bytes_eq (row_mid row) mid) (Some at) found) (held mid))

-- a position is at or behind the first
pub position_behind : (at : ℕ) (rows : List LineRow) (mid : List ℕ) (i : ℕ) → position_of at rows mid ≡ Some i → at ≤ i
position_behind at [] mid i found = absurd (cc)
position_behind at (row ∷ rows) mid i found = grind (arith, position_behind (at + 1) rows mid i)

-- What stands at the position of a mid is the row that a search finds.
pub record IsAtPosition (rows : List LineRow) (mid : List ℕ) (i : ℕ) : Type 0 where
  pub within : i < length rows
  pub found : slice_get rows i ≡ row_of rows mid

pub at_position : (at : ℕ) (rows : List LineRow) (mid : List ℕ) (i : ℕ) → position_of at rows mid ≡ Some (at + i) → IsAtPosition rows mid i
at_position at [] mid i found = absurd (cc)
at_position at (row ∷ rows) mid zero found = by (is_of mid row) refl found
  where
    by : (here : Bool) → is_of mid row ≡ here → position_of at (row ∷ rows) mid ≡ Some (at + 0) → IsAtPosition (row ∷ rows) mid zero
    by true is found = record { within = omega arith; found = rw is refl }
    by false is found = absurd (omega (arith, position_behind (at + 1) rows mid (at + 0) (sym (rw is refl) ∙ found)))
at_position at (row ∷ rows) mid (suc i) found = by (λ later. at_position (at + 1) rows mid i later) (is_of mid row) refl found
  where
    some_same : (one other : ℕ) → Some one ≡ Some other → one ≡ other
    some_same one other same = cc

    by : (position_of (at + 1) rows mid ≡ Some (at + 1 + i) → IsAtPosition rows mid i)
        → (here : Bool) → is_of mid row ≡ here → position_of at (row ∷ rows) mid ≡ Some (at + suc i) → IsAtPosition (row ∷ rows) mid (suc i)
    by rest true is found = absurd (omega (arith, some_same at (at + suc i) (sym (rw is refl) ∙ found)))
    by rest false is found =
        let later = rest ((sym (rw is refl) ∙ found) ∙ ap (λ (n : ℕ). Some n) (omega arith)) in
        record { within = omega (arith, later.within); found = rw is later.found }

-- no row has a mid that has no position
pub no_position : (at : ℕ) (rows : List LineRow) (mid : List ℕ) → position_of at rows mid ≡ None → row_of rows mid ≡ None
no_position at [] mid missed = refl
no_position at (row ∷ rows) mid missed = grind (arith, no_position (at + 1) rows mid)

drop_all : (rows : List LineRow) → drop (length rows) rows ≡ []
drop_all [] = refl
drop_all (row ∷ rows) = drop_all rows

-- an empty map has the positions of no rows
pub no_positions : (positions : BTreeMap (List ℕ) ℕ) (rows : List LineRow) → positions.entries ≡ [] → HasPositions positions (length rows) (drop (length rows) rows)
no_positions positions rows empty = λ mid. rw (drop_all rows) (ap (λ (entries : List (List ℕ × ℕ)). lookup (is_at (slice_cmp nat_cmp mid)) entries) empty)

drop_from : (at : ℕ) (rows : List LineRow) (row : LineRow) → at < length rows → row ≡ get_or rows at row → drop at rows ≡ row ∷ drop (suc at) rows
drop_from at [] row below is = absurd (omega (arith, below))
drop_from zero (first ∷ rows) row below is = rw is refl
drop_from (suc at) (first ∷ rows) row below is = drop_from at rows row (omega (arith, below)) is

-- the row before those that the map has is put into it
pub position_step : (positions positions' : BTreeMap (List ℕ) ℕ) (at before : ℕ) (rows : List LineRow) (row : LineRow) (own : List ℕ) → before + 1 ≡ at → at ≤ length rows
    → row ≡ get_or rows before row → own ≡ row_mid row → HasPositions positions at (drop at rows)
    → ((mid : List ℕ) → map.get (slice_cmp nat_cmp) positions' mid ≡ cond (is_at (slice_cmp nat_cmp own) mid) (Some before) (map.get (slice_cmp nat_cmp) positions mid))
    → HasPositions positions' before (drop before rows)
position_step positions positions' at before rows row own next within is names held put =
    let next_held : HasPositions positions (before + 1) (drop (before + 1) rows) = subst (λ (n : ℕ). HasPositions positions n (drop n rows)) (sym next) held in
    let one : suc before ≡ before + 1 = omega arith in
    let same : drop before rows ≡ row ∷ drop (before + 1) rows = drop_from before rows row (omega (arith, next, within)) is ∙ ap (λ (n : ℕ). row ∷ drop n rows) one in
    subst (λ (list : List LineRow). HasPositions positions' before list) (sym same)
    (position_put positions positions' before row (drop (before + 1) rows) next_held (subst (λ (name : List ℕ). (mid : List ℕ) → map.get (slice_cmp nat_cmp) positions' mid ≡ cond (is_at (slice_cmp nat_cmp name) mid) (Some before) (map.get (slice_cmp nat_cmp) positions mid)) names put))

-- the row at a place that has the mid is the one that a search finds
pub found_at_place : (rows : List LineRow) (place : ℕ) (row : LineRow) (mid : List ℕ) → Distinct rows → slice_get rows place ≡ Some row → row_mid row ≡ mid → Some row ≡ row_of rows mid
found_at_place rows place row mid distinct at is = sym (subst (λ (name : List ℕ). row_of rows name ≡ Some row) is (row_of_its_mid rows place row distinct at))

pub at_first : (rows : List LineRow) (mid : List ℕ) (i : ℕ) → position_of 0 rows mid ≡ Some i → IsAtPosition rows mid i
at_first rows mid i found =
    let more : i ≡ 0 + i = omega arith in
    at_position 0 rows mid i (found ∙ ap (λ (n : ℕ). Some n) more)

-- rows with the same mids have them at the same positions
position_alike : (at : ℕ) (rows others : List LineRow) (mid : List ℕ) → AreAlike rows others → position_of at others mid ≡ position_of at rows mid
position_alike at [] [] mid alike = refl
position_alike at (row ∷ rows) (other ∷ others) mid alike = rw (alike.0.mid, position_alike (at + 1) rows others mid alike.1) refl
position_alike at [] (other ∷ others) mid alike = absurd alike
position_alike at (row ∷ rows) [] mid alike = absurd alike

-- and the same map serves them
pub served_alike : (positions : Option (BTreeMap (List ℕ) ℕ)) (rows others : List LineRow) → AreAlike rows others → Serves positions rows → Serves positions others
served_alike None rows others alike served = tt
served_alike (Some positions) rows others alike served = λ mid. served mid ∙ sym (position_alike 0 rows others mid alike)
