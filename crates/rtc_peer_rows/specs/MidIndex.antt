-- Rows that are found by mid without a walk over them.
use Rattle.std.specs.Prelude.{◌≡◌, ◌+◌, ℕ, List, [], ◌∷◌, if◌then◌else◌, Option, Some, None}
use Rattle.std.specs.BTreeMap as map
use Rattle.std.specs.BTreeMap.{BTreeMap}
use Rattle.std.specs.Cmp.Lexicographic.{slice_cmp}
use Rattle.std.specs.Ordering.{nat_cmp}
use Rattle.rtc_sdp_values.specs.declared.line_row.LineRow.{LineRow}
use Rattle.rtc_peer_rows.specs.Table.{IsTable, is_of}

-- the position of the first row of a mid, the rows being at positions from this one on
abbrev pub position_of : ℕ → List LineRow → List ℕ → Option ℕ
position_of at [] mid = None
position_of at (row ∷ rows) mid = if is_of mid row then Some at else position_of (at + 1) rows mid

-- a map has the position of the first row of each mid
abbrev pub HasPositions : BTreeMap (List ℕ) ℕ → ℕ → List LineRow → Type 0
HasPositions positions at rows = (mid : List ℕ) → map.get (slice_cmp nat_cmp) positions mid ≡ position_of at rows mid

-- if there is a map, it has the position of the first row of each mid
abbrev pub Serves : Option (BTreeMap (List ℕ) ℕ) → List LineRow → Type 0
Serves None rows = Unit {0}
Serves (Some positions) rows = HasPositions positions 0 rows

-- a table, and a map that serves it if there is one
pub record IsServedTable (positions : Option (BTreeMap (List ℕ) ℕ)) (rows : List LineRow) : Type 0 where
  pub table : IsTable rows
  pub served : Serves positions rows
