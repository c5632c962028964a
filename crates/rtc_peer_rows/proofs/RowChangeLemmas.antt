-- Rows that are changed by their holder stay a table: each keeps its place, its mid, and whether it is that of the data channels.
use Rattle.std.proofs.Common.{◌≡◌, ◌+◌, ◌<◌, ◌≤◌, ℕ, zero, suc, Bool, true, false, List, [], ◌∷◌, length, Option, Some, None, refl, sym, ◌∙◌, ap, subst, arith}
use Rattle.std.specs.Prelude.{slice_set}
use Rattle.std.specs.Borrow.{Bor}
use Rattle.std.specs.Option.{option_copied}
use Rattle.std.specs.List.{list_any}
use Rattle.rtc_sdp_values.specs.Direction.{same_direction}
use Rattle.rtc_sdp_values.specs.LineRow.{row_place, row_mid}
use Rattle.rtc_sdp_values.specs.declared.direction.Direction.{Direction}
use Rattle.rtc_sdp_values.specs.declared.line_row.LineRow.{LineRow}
use Rattle.rtc_sdp_values.specs.declared.line_row.LineRow.TheVariants.{Media, App}
use Rattle.rtc_peer_rows.specs.Table.{Rising, Distinct, OneApp, NoMore, IsTable, is_of, has_mid, row_of, is_app}
use Rattle.rtc_peer_rows.specs.RowChanges.{RowChange, directed_row, stopped_row, restored_row, row_after_change, changed_at, changed_of}
use Rattle.rtc_peer_rows.proofs.TableLemmas.{place_from}

-- a row keeps its place and its mid, and whether it is that of the data channels
pub record AreAlikeRows (row other : LineRow) : Type 0 where
  pub place : row_place other ≡ row_place row
  pub mid : row_mid other ≡ row_mid row
  pub app : is_app other ≡ is_app row

abbrev pub AreAlike : List LineRow → List LineRow → Type 0
AreAlike [] [] = Unit {0}
AreAlike (row ∷ rows) (other ∷ others) = AreAlikeRows row other × AreAlike rows others
AreAlike rows others = ⊥

pub alike_self : (rows : List LineRow) → AreAlike rows rows
alike_self [] = tt
alike_self (row ∷ rows) = (record { place = refl; mid = refl; app = refl }, alike_self rows)

pub length-alike : (rows others : List LineRow) → AreAlike rows others → length others ≡ length rows
length-alike [] [] alike = refl
length-alike (row ∷ rows) (other ∷ others) alike = ap suc (length-alike rows others alike.1)
length-alike [] (other ∷ others) alike = absurd alike
length-alike (row ∷ rows) [] alike = absurd alike

-- a mid is found among both or among neither
pub has_mid-alike : (mid : List ℕ) (rows others : List LineRow) → AreAlike rows others → has_mid mid others ≡ has_mid mid rows
has_mid-alike mid [] [] alike = refl
has_mid-alike mid (row ∷ rows) (other ∷ others) alike = rw (alike.0.mid, has_mid-alike mid rows others alike.1) refl
has_mid-alike mid [] (other ∷ others) alike = absurd alike
has_mid-alike mid (row ∷ rows) [] alike = absurd alike

any_app-alike : (rows others : List LineRow) → AreAlike rows others → list_any is_app others ≡ list_any is_app rows
any_app-alike [] [] alike = refl
any_app-alike (row ∷ rows) (other ∷ others) alike = rw (alike.0.app, any_app-alike rows others alike.1) refl
any_app-alike [] (other ∷ others) alike = absurd alike
any_app-alike (row ∷ rows) [] alike = absurd alike

rising_alike : (place : ℕ) (rows others : List LineRow) → AreAlike rows others → Rising place rows → Rising place others
rising_alike place [] [] alike rising = tt
rising_alike place (row ∷ rows) (other ∷ others) alike rising = (alike.0.place ∙ rising.0, rising_alike (place + 1) rows others alike.1 rising.1)
rising_alike place [] (other ∷ others) alike rising = absurd alike
rising_alike place (row ∷ rows) [] alike rising = absurd alike

distinct_alike : (rows others : List LineRow) → AreAlike rows others → Distinct rows → Distinct others
distinct_alike [] [] alike distinct = tt
distinct_alike (row ∷ rows) (other ∷ others) alike distinct =
    (ap (λ (mid : List ℕ). has_mid mid others) alike.0.mid ∙ has_mid-alike (row_mid row) rows others alike.1 ∙ distinct.0, distinct_alike rows others alike.1 distinct.1)
distinct_alike [] (other ∷ others) alike distinct = absurd alike
distinct_alike (row ∷ rows) [] alike distinct = absurd alike

no_more_alike : (is : Bool) (rows others : List LineRow) → AreAlike rows others → NoMore is rows → NoMore is others
no_more_alike true rows others alike more = any_app-alike rows others alike ∙ more
no_more_alike false rows others alike more = tt

one_app_alike : (rows others : List LineRow) → AreAlike rows others → OneApp rows → OneApp others
one_app_alike [] [] alike one = tt
one_app_alike (row ∷ rows) (other ∷ others) alike one =
    (subst (λ (is : Bool). NoMore is others) (sym alike.0.app) (no_more_alike (is_app row) rows others alike.1 one.0), one_app_alike rows others alike.1 one.1)
one_app_alike [] (other ∷ others) alike one = absurd alike
one_app_alike (row ∷ rows) [] alike one = absurd alike

pub table_alike : (rows others : List LineRow) → AreAlike rows others → IsTable rows → IsTable others
table_alike rows others alike table = record {
  rising = rising_alike 0 rows others alike table.rising;
  distinct = distinct_alike rows others alike table.distinct;
  one_app = one_app_alike rows others alike table.one_app;
}

-- ---- the changes

-- a change that leaves a row alike
abbrev pub KeepsRow : RowChange → Type 0
KeepsRow change = (row : LineRow) → AreAlikeRows row (row_after_change change row)

pub directed_row_keeps : (to : Direction) → KeepsRow (directed_row to)
directed_row_keeps to (Media place mid kind dir true remote_created) = record { place = refl; mid = refl; app = refl }
directed_row_keeps to (App place mid) = record { place = refl; mid = refl; app = refl }
directed_row_keeps to (Media place mid kind dir false remote_created) = by (same_direction dir to) refl
  where
    by : (same : Bool) → same_direction dir to ≡ same → AreAlikeRows (Media place mid kind dir false remote_created) (row_after_change (directed_row to) (Media place mid kind dir false remote_created))
    by true is = rw is (record { place = refl; mid = refl; app = refl })
    by false is = rw is (record { place = refl; mid = refl; app = refl })

pub stopped_row_keeps : KeepsRow stopped_row
stopped_row_keeps (Media place mid kind dir true remote_created) = record { place = refl; mid = refl; app = refl }
stopped_row_keeps (Media place mid kind dir false remote_created) = record { place = refl; mid = refl; app = refl }
stopped_row_keeps (App place mid) = record { place = refl; mid = refl; app = refl }

pub restored_row_keeps : (to : Direction) (mark : Bool) → KeepsRow (restored_row to mark)
restored_row_keeps to mark (Media place mid kind dir stopped remote_created) = record { place = refl; mid = refl; app = refl }
restored_row_keeps to mark (App place mid) = record { place = refl; mid = refl; app = refl }

pub changed_at_alike : (change : RowChange) → KeepsRow change → (place : ℕ) (rows : List LineRow) → AreAlike rows (changed_at change place rows)
changed_at_alike change keeps place [] = tt
changed_at_alike change keeps zero (row ∷ rows) = (keeps row, alike_self rows)
changed_at_alike change keeps (suc place) (row ∷ rows) = (record { place = refl; mid = refl; app = refl }, changed_at_alike change keeps place rows)

pub changed_of_alike : (change : RowChange) → KeepsRow change → (mid : List ℕ) (rows : List LineRow) → AreAlike rows (changed_of change mid rows)
changed_of_alike change keeps mid [] = tt
changed_of_alike change keeps mid (row ∷ rows) = by (changed_of_alike change keeps mid rows) (is_of mid row) refl
  where
    by : AreAlike rows (changed_of change mid rows) → (found : Bool) → is_of mid row ≡ found → AreAlike (row ∷ rows) (changed_of change mid (row ∷ rows))
    by rest true is = rw is (keeps row, alike_self rows)
    by rest false is = rw is (record { place = refl; mid = refl; app = refl }, rest)

-- ---- the row of a mid, and the row at a place

some_same : (one other : LineRow) → Some one ≡ Some other → one ≡ other
some_same one other same = cc

-- where no row has the mid, nothing is changed
pub changed_of_none : (change : RowChange) (mid : List ℕ) (rows : List LineRow) → row_of rows mid ≡ None → changed_of change mid rows ≡ rows
changed_of_none change mid [] missed = refl
changed_of_none change mid (row ∷ rows) missed = by (λ rest. changed_of_none change mid rows rest) (is_of mid row) refl missed
  where
    by : (row_of rows mid ≡ None → changed_of change mid rows ≡ rows) → (found : Bool) → is_of mid row ≡ found → row_of (row ∷ rows) mid ≡ None → changed_of change mid (row ∷ rows) ≡ row ∷ rows
    by rest true is none = absurd (let e : Some row ≡ None = (rw is refl) ∙ none in cc)
    by rest false is none = rw is (ap (λ list. row ∷ list) (rest (sym (rw is refl) ∙ none)))

-- where the row of the mid stays as it is, nothing is changed
pub changed_of_same : (change : RowChange) (mid : List ℕ) (rows : List LineRow) (row : LineRow) → row_of rows mid ≡ Some row → change row ≡ None → changed_of change mid rows ≡ rows
changed_of_same change mid [] row found same = refl
changed_of_same change mid (first ∷ rows) row found same = by (λ rest. changed_of_same change mid rows row rest same) (is_of mid first) refl found
  where
    by : (row_of rows mid ≡ Some row → changed_of change mid rows ≡ rows) → (here : Bool) → is_of mid first ≡ here → row_of (first ∷ rows) mid ≡ Some row → changed_of change mid (first ∷ rows) ≡ first ∷ rows
    by rest true is at =
        let e : Some first ≡ Some row = (rw is refl) ∙ at in
        let stays : change first ≡ None = subst (λ (r : LineRow). change r ≡ None) (sym (some_same first row e)) same in
        rw (is, stays) refl
    by rest false is at = rw is (ap (λ list. first ∷ list) (rest (sym (rw is refl) ∙ at)))

-- what a change of the row of a mid leaves, where this row stands so far behind a place
abbrev Placed : RowChange → List ℕ → List LineRow → LineRow → ℕ → Type 0
Placed change mid rows changed i = (i < length rows) × (slice_set rows i changed ≡ changed_of change mid rows)

first_placed : (change : RowChange) (mid : List ℕ) (place : ℕ) (first : LineRow) (rows : List LineRow) (changed : LineRow) (i : ℕ)
    → row_place first ≡ place → row_place first ≡ place + i → is_of mid first ≡ true → change first ≡ Some changed → Placed change mid (first ∷ rows) changed i
first_placed change mid place first rows changed zero here at is makes = rw (is, makes) (omega arith, refl)
first_placed change mid place first rows changed (suc i) here at is makes = absurd (omega arith)

later_placed : (change : RowChange) (mid : List ℕ) (place : ℕ) (first : LineRow) (rows : List LineRow) (row changed : LineRow) (i : ℕ)
    → place + 1 ≤ row_place row → row_place row ≡ place + i → is_of mid first ≡ false
    → ((n : ℕ) → row_place row ≡ place + 1 + n → Placed change mid rows changed n) → Placed change mid (first ∷ rows) changed i
later_placed change mid place first rows row changed zero behind at is rest = absurd (omega arith)
later_placed change mid place first rows row changed (suc i) behind at is rest =
    let more = rest i (omega arith) in
    rw is (omega (arith, more.0), ap (λ list. first ∷ list) more.1)

-- the row of the mid stands at its place, and what is changed is that row
pub changed_of_found : (change : RowChange) (mid : List ℕ) (place : ℕ) (rows : List LineRow) (row changed : LineRow) (i : ℕ)
    → Rising place rows → row_of rows mid ≡ Some row → change row ≡ Some changed → row_place row ≡ place + i → Placed change mid rows changed i
changed_of_found change mid place [] row changed i rising found makes at = absurd (cc)
changed_of_found change mid place (first ∷ rows) row changed i rising found makes at =
    by (λ rest n at_n. changed_of_found change mid (place + 1) rows row changed n rising.1 rest makes at_n) (is_of mid first) refl found
  where
    by : (row_of rows mid ≡ Some row → (n : ℕ) → row_place row ≡ place + 1 + n → Placed change mid rows changed n)
        → (here : Bool) → is_of mid first ≡ here → row_of (first ∷ rows) mid ≡ Some row → Placed change mid (first ∷ rows) changed i
    by rest true is at_first =
        let one : first ≡ row = some_same first row ((rw is refl) ∙ at_first) in
        first_placed change mid place first rows changed i rising.0 (ap row_place one ∙ at) is (subst (λ (r : LineRow). change r ≡ Some changed) (sym one) makes)
    by rest false is at_first =
        let later : row_of rows mid ≡ Some row = sym (rw is refl) ∙ at_first in
        later_placed change mid place first rows row changed i (place_from (is_of mid) (place + 1) rows row rising.1 later) at is (rest later)

-- ---- as a call finds the row

pub row_found : (slice rows : List LineRow) (mid : List ℕ) (result : Option (Bor LineRow)) (row : Bor LineRow)
    → slice ≡ rows → option_copied result ≡ row_of slice mid → result ≡ Some row → row_of rows mid ≡ Some row.now
row_found slice rows mid result row same copied is = rw (sym same) (sym copied ∙ ap option_copied is)

pub row_missed : (slice rows : List LineRow) (mid : List ℕ) (result : Option (Bor LineRow))
    → slice ≡ rows → option_copied result ≡ row_of slice mid → result ≡ None → row_of rows mid ≡ None
row_missed slice rows mid result same copied is = rw (sym same) (sym copied ∙ ap option_copied is)

-- The row of a mid is replaced, at its place, by what a change that keeps rows makes of it.
pub record IsReplaced (change : RowChange) (mid : List ℕ) (rows : List LineRow) (changed : LineRow) : Type 0 where
  pub within : row_place changed < length rows
  pub set : slice_set rows (row_place changed) changed ≡ changed_of change mid rows
  pub table : IsTable (slice_set rows (row_place changed) changed)
  pub alike : AreAlike rows (slice_set rows (row_place changed) changed)

pub is_replaced : (change : RowChange) → KeepsRow change → (mid : List ℕ) (rows : List LineRow) (row changed : LineRow) → IsTable rows → row_of rows mid ≡ Some row → change row ≡ Some changed
    → IsReplaced change mid rows changed
is_replaced change keeps mid rows row changed table found makes =
    let same : row_after_change change row ≡ changed = rw makes refl in
    let place : row_place changed ≡ row_place row = ap row_place (sym same) ∙ (keeps row).place in
    let placed = changed_of_found change mid 0 rows row changed (row_place changed) table.rising found makes (omega (arith, place)) in
    record {
      within = placed.0;
      set = placed.1;
      alike = subst (λ (list : List LineRow). AreAlike rows list) (sym placed.1) (changed_of_alike change keeps mid rows);
      table = subst (λ (list : List LineRow). IsTable list) (sym placed.1) (table_alike rows (changed_of change mid rows) (changed_of_alike change keeps mid rows) table);
    }
