-- The rows of a peer: places in order from 0, mids distinct, at most one row of data channels.
use Rattle.std.specs.Prelude.{◌≡◌, ◌+◌, ℕ, Bool, true, false, List, [], ◌∷◌, Option, find}
use Rattle.std.specs.List.{list_any}
use Rattle.std.specs.Str.{bytes_eq}
use Rattle.rtc_sdp_values.specs.LineRow.{row_place, row_mid}
use Rattle.rtc_sdp_values.specs.declared.line_row.LineRow.{LineRow}
use Rattle.rtc_sdp_values.specs.declared.line_row.LineRow.TheVariants.{Media, App}

abbrev pub is_of : List ℕ → LineRow → Bool
is_of mid row = bytes_eq (row_mid row) mid

-- whether a row has a mid
abbrev pub has_mid : List ℕ → List LineRow → Bool
has_mid mid rows = list_any (is_of mid) rows

-- the row of a mid
abbrev pub row_of : List LineRow → List ℕ → Option LineRow
row_of rows mid = find (is_of mid) rows

abbrev pub is_app : LineRow → Bool
is_app (Media place mid kind dir stopped remote_created) = false
is_app (App place mid) = true

-- the row of the data channels
abbrev pub app_of : List LineRow → Option LineRow
app_of rows = find is_app rows

-- places count up by one from this one on
abbrev pub Rising : ℕ → List LineRow → Type 0
Rising place [] = Unit {0}
Rising place (row ∷ rows) = (row_place row ≡ place) × Rising (place + 1) rows

-- no mid is repeated
abbrev pub Distinct : List LineRow → Type 0
Distinct [] = Unit {0}
Distinct (row ∷ rows) = (has_mid (row_mid row) rows ≡ false) × Distinct rows

abbrev pub NoMore : Bool → List LineRow → Type 0
NoMore true rows = list_any is_app rows ≡ false
NoMore false rows = Unit {0}

-- no row of data channels is repeated
abbrev pub OneApp : List LineRow → Type 0
OneApp [] = Unit {0}
OneApp (row ∷ rows) = NoMore (is_app row) rows × OneApp rows

pub record IsTable (rows : List LineRow) : Type 0 where
  pub rising : Rising 0 rows
  pub distinct : Distinct rows
  pub one_app : OneApp rows
