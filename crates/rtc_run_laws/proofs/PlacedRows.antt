-- An op names a line by its place, a call by its mid: in a table both are one row.
use Rattle.std.proofs.Common.{◌≡◌, ℕ, zero, suc, true, false, List, [], ◌∷◌, Option, Some, None, refl, ap, subst}
use Rattle.std.specs.Prelude.{slice_get, is_some}
use Rattle.std.proofs.lemmas.Bool.{both_ways, false_from_ne_true, or_right}
use Rattle.std.proofs.lemmas.Slice.Eq.{bytes_eq-Decides}
use Rattle.rtc_sdp_values.specs.LineRow.{row_mid}
use Rattle.rtc_sdp_values.specs.declared.line_row.LineRow.{LineRow}
use Rattle.rtc_sdp_values.specs.declared.line_row.LineRow.TheVariants.{Media, App}
use Rattle.rtc_peer_rows.specs.Table.{Distinct, is_of, has_mid, row_of}
use Rattle.rtc_peer_rows.specs.RowChanges.{RowChange, row_after_change, changed_at, changed_of, is_changed, media_mid}

-- the row at a place is the row of a mid, and what is made of it
pub record IsPlaced (change : RowChange) (place : ℕ) (mid : List ℕ) (rows : List LineRow) : Type 0 where
  pub found : row_of rows mid ≡ slice_get rows place
  pub changed : changed_of change mid rows ≡ changed_at change place rows

mid_there : (row : LineRow) (mid : List ℕ) → media_mid (Some row) ≡ Some mid → is_of mid row ≡ true
mid_there (Media place own kind dir stopped remote_created) mid there = (bytes_eq-Decides own mid).1 (let e : Some own ≡ Some mid = there in cc)
mid_there (App place own) mid there = absurd (let e : None ≡ Some mid = there in cc)

-- a mid at a place is that of a row
has_there : (place : ℕ) (mid : List ℕ) (rows : List LineRow) → media_mid (slice_get rows place) ≡ Some mid → has_mid mid rows ≡ true
has_there place mid [] there = absurd (let e : None ≡ Some mid = there in cc)
has_there zero mid (row ∷ rows) there = let is : is_of mid row ≡ true = mid_there row mid there in rw is refl
has_there (suc place) mid (row ∷ rows) there = or_right (is_of mid row) (has_mid mid rows) (has_there place mid rows there)

-- a row has not the mid of one behind it
another : (row : LineRow) (rows : List LineRow) (mid : List ℕ) → has_mid (row_mid row) rows ≡ false → has_mid mid rows ≡ true → is_of mid row ≡ false
another row rows mid none there =
    false_from_ne_true (is_of mid row) (λ same. both_ways (has_mid mid rows) (subst (λ (own : List ℕ). has_mid own rows ≡ false) ((bytes_eq-Decides (row_mid row) mid).0 same) none) there)

-- The media row at a place is the row of its mid.
pub placed : (change : RowChange) (place : ℕ) (mid : List ℕ) (rows : List LineRow) → Distinct rows → media_mid (slice_get rows place) ≡ Some mid → IsPlaced change place mid rows
placed change place mid [] distinct there = absurd (let e : None ≡ Some mid = there in cc)
placed change zero mid (row ∷ rows) distinct there =
    let is : is_of mid row ≡ true = mid_there row mid there in record { found = rw is refl; changed = rw is refl }
placed change (suc place) mid (row ∷ rows) distinct there =
    let other : is_of mid row ≡ false = another row rows mid distinct.0 (has_there place mid rows there) in
    let rest = placed change place mid rows distinct.1 there in
    record { found = rw other rest.found; changed = rw other (ap (λ list. row ∷ list) rest.changed) }

unchanged : (change : RowChange) (row : LineRow) (left : Option LineRow) → change row ≡ left → is_some left ≡ false → row_after_change change row ≡ row
unchanged change row None is none = rw is refl
unchanged change row (Some changed) is none = absurd (cc)

-- where the row at a place stays, all do
pub unchanged_at : (change : RowChange) (place : ℕ) (rows : List LineRow) → is_changed change (slice_get rows place) ≡ false → changed_at change place rows ≡ rows
unchanged_at change place [] none = refl
unchanged_at change zero (row ∷ rows) none = ap (λ first. first ∷ rows) (unchanged change row (change row) refl none)
unchanged_at change (suc place) (row ∷ rows) none = ap (λ list. row ∷ list) (unchanged_at change place rows none)
