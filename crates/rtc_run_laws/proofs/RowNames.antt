-- The names of rows: the mid and the kind of a media row, and the mid of a row of data channels.
use Rattle.std.specs.List.{AllZip}
use Rattle.std.proofs.Common.{◌≡◌, ℕ, Bool, true, false, List, [], ◌∷◌, length, Some, refl, sym, ◌∙◌, ap, suc}
use Rattle.rtc_sdp_values.specs.LineRow.{row_mid}
use Rattle.rtc_sdp_values.specs.declared.line_row.LineRow.{LineRow}
use Rattle.rtc_sdp_values.specs.declared.line_row.LineRow.TheVariants.{Media, App}
use Rattle.rtc_peer_rows.specs.Table.{has_mid, is_app}
use Rattle.rtc_run_history.specs.Answers.{has_app_row}
use Rattle.rtc_run_history.specs.Orderly.{mid_of_app}

-- two media rows of one mid and kind, or two rows of data channels of one mid
abbrev pub SameName : LineRow → LineRow → Type 0
SameName (Media place mid kind dir stopped remote_created) (Media place' mid' kind' dir' stopped' remote_created') = (mid' ≡ mid) × (kind' ≡ kind)
SameName (App place mid) (App place' mid') = mid' ≡ mid
SameName row other = ⊥

abbrev pub Aligned : List LineRow → List LineRow → Type 0
Aligned rows others = AllZip SameName rows others

pub name_sym : (row other : LineRow) → SameName row other → SameName other row
name_sym (Media place mid kind dir stopped remote_created) (Media place' mid' kind' dir' stopped' remote_created') same = (sym same.0, sym same.1)
name_sym (App place mid) (App place' mid') same = sym same
name_sym row other same = absurd same

pub aligned_sym : (rows others : List LineRow) → Aligned rows others → Aligned others rows
aligned_sym [] [] same = tt
aligned_sym (row ∷ rows) (other ∷ others) same = (name_sym row other same.0, aligned_sym rows others same.1)
aligned_sym rows others same = absurd same

pub name_trans : (row other third : LineRow) → SameName row other → SameName other third → SameName row third
name_trans (Media place mid kind dir stopped remote_created) (Media place' mid' kind' dir' stopped' remote_created') (Media p m k d s r) same more = (more.0 ∙ same.0, more.1 ∙ same.1)
name_trans (Media place mid kind dir stopped remote_created) (Media place' mid' kind' dir' stopped' remote_created') (App p m) same more = absurd more
name_trans (App place mid) (App place' mid') (App p m) same more = more ∙ same
name_trans (App place mid) (App place' mid') (Media p m k d s r) same more = absurd more
name_trans (Media place mid kind dir stopped remote_created) (App place' mid') third same more = absurd same
name_trans (App place mid) (Media place' mid' kind' dir' stopped' remote_created') third same more = absurd same

pub aligned_trans : (rows others thirds : List LineRow) → Aligned rows others → Aligned others thirds → Aligned rows thirds
aligned_trans [] [] [] same more = tt
aligned_trans (row ∷ rows) (other ∷ others) (third ∷ thirds) same more = (name_trans row other third same.0 more.0, aligned_trans rows others thirds same.1 more.1)
aligned_trans [] [] (third ∷ thirds) same more = absurd more
aligned_trans (row ∷ rows) (other ∷ others) [] same more = absurd more
aligned_trans [] (other ∷ others) thirds same more = absurd same
aligned_trans (row ∷ rows) [] thirds same more = absurd same

same_mid : (row other : LineRow) → SameName row other → row_mid other ≡ row_mid row
same_mid (Media place mid kind dir stopped remote_created) (Media place' mid' kind' dir' stopped' remote_created') same = same.0
same_mid (App place mid) (App place' mid') same = same
same_mid row other same = absurd same

name_self : (row : LineRow) → SameName row row
name_self (Media place mid kind dir stopped remote_created) = (refl, refl)
name_self (App place mid) = refl

-- rows have their own names
pub aligned_self : (rows : List LineRow) → Aligned rows rows
aligned_self [] = tt
aligned_self (row ∷ rows) = (name_self row, aligned_self rows)

pub has_mid-aligned : (rows others : List LineRow) (mid : List ℕ) → Aligned rows others → has_mid mid others ≡ has_mid mid rows
has_mid-aligned [] [] mid same = refl
has_mid-aligned (row ∷ rows) (other ∷ others) mid same = rw (same_mid row other same.0, has_mid-aligned rows others mid same.1) refl
has_mid-aligned rows others mid same = absurd same

same_app : (row other : LineRow) → SameName row other → is_app other ≡ is_app row
same_app (Media place mid kind dir stopped remote_created) (Media place' mid' kind' dir' stopped' remote_created') same = refl
same_app (App place mid) (App place' mid') same = refl
same_app row other same = absurd same

pub has_app-aligned : (rows others : List LineRow) → Aligned rows others → has_app_row others ≡ has_app_row rows
has_app-aligned [] [] same = refl
has_app-aligned (row ∷ rows) (other ∷ others) same = by (is_app row) refl (same_app row other same.0) (has_app-aligned rows others same.1)
  where
    by : (here : Bool) → is_app row ≡ here → is_app other ≡ is_app row → has_app_row others ≡ has_app_row rows → has_app_row (other ∷ others) ≡ has_app_row (row ∷ rows)
    by true is alike rest = rw (alike, is) refl
    by false is alike rest = rw (alike, is) rest
has_app-aligned rows others same = absurd same

-- the line of data channels has the same mid
pub app_mid-aligned : (rows others : List LineRow) → Aligned rows others → mid_of_app others ≡ mid_of_app rows
app_mid-aligned [] [] same = refl
app_mid-aligned (Media place mid kind dir stopped remote_created ∷ rows) (Media place' mid' kind' dir' stopped' remote_created' ∷ others) same = app_mid-aligned rows others same.1
app_mid-aligned (App place mid ∷ rows) (App place' mid' ∷ others) same = ap (λ (m : List ℕ). Some m) same.0
app_mid-aligned (Media place mid kind dir stopped remote_created ∷ rows) (App place' mid' ∷ others) same = absurd same.0
app_mid-aligned (App place mid ∷ rows) (Media place' mid' kind' dir' stopped' remote_created' ∷ others) same = absurd same.0
app_mid-aligned rows others same = absurd same

pub length-aligned : (rows others : List LineRow) → Aligned rows others → length others ≡ length rows
length-aligned [] [] same = refl
length-aligned (row ∷ rows) (other ∷ others) same = ap suc (length-aligned rows others same.1)
length-aligned rows others same = absurd same
