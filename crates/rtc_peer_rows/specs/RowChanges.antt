-- Rows whose direction is set, or that are stopped (RFC 8829, sections 4.2.1 and 4.2.3).
use Rattle.std.specs.Prelude.{ℕ, zero, suc, Bool, true, false, List, [], ◌∷◌, Option, Some, None, is_some, if◌then◌else◌}
use Rattle.rtc_sdp_values.specs.Direction.{same_direction}
use Rattle.rtc_sdp_values.specs.declared.direction.Direction.{Direction}
use Rattle.rtc_sdp_values.specs.declared.direction.Direction.TheVariants.{Inactive}
use Rattle.rtc_sdp_values.specs.declared.line_row.LineRow.{LineRow}
use Rattle.rtc_sdp_values.specs.declared.line_row.LineRow.TheVariants.{Media, App}
use Rattle.rtc_peer_rows.specs.Table.{is_of}

-- a change of a row: the row that it leaves, or None if it leaves the row as it is
abbrev pub RowChange : Type 0
RowChange = LineRow → Option LineRow

-- a live media row with the direction that is set, if it has another
abbrev pub directed_row : Direction → RowChange
directed_row to (Media place mid kind dir false remote_created) =
    if same_direction dir to then None else Some (Media place mid kind to false remote_created)
directed_row to (Media place mid kind dir true remote_created) = None
directed_row to (App place mid) = None

-- a live media row stopped for good
abbrev pub stopped_row : RowChange
stopped_row (Media place mid kind dir false remote_created) = Some (Media place mid kind Inactive true remote_created)
stopped_row (Media place mid kind dir true remote_created) = None
stopped_row (App place mid) = None

abbrev pub row_after_change : RowChange → LineRow → LineRow
row_after_change change row = by (change row)
  where
    by : Option LineRow → LineRow
    by None = row
    by (Some changed) = changed

-- the rows after a change of the one at a place
abbrev pub changed_at : RowChange → ℕ → List LineRow → List LineRow
changed_at change place [] = []
changed_at change zero (row ∷ rows) = row_after_change change row ∷ rows
changed_at change (suc place) (row ∷ rows) = row ∷ changed_at change place rows

-- whether there is a row that is changed
abbrev pub is_changed : RowChange → Option LineRow → Bool
is_changed change None = false
is_changed change (Some row) = is_some (change row)

-- the rows after a change of the one of a mid
abbrev pub changed_of : RowChange → List ℕ → List LineRow → List LineRow
changed_of change mid [] = []
changed_of change mid (row ∷ rows) = if is_of mid row then row_after_change change row ∷ rows else row ∷ changed_of change mid rows

-- the mid of the media row that is found, if any
abbrev pub media_mid : Option LineRow → Option (List ℕ)
media_mid None = None
media_mid (Some (Media place mid kind dir stopped remote_created)) = Some mid
media_mid (Some (App place mid)) = None

-- a media row with a direction and a mark of being stopped, whatever it had
abbrev pub restored_row : Direction → (stopped : Bool) → RowChange
restored_row to mark (Media place mid kind dir stopped remote_created) = Some (Media place mid kind to mark remote_created)
restored_row to mark (App place mid) = None

-- a stopped row is inactive
abbrev pub dir_restored : Direction → (stopped : Bool) → Direction
dir_restored dir true = Inactive
dir_restored dir false = dir

-- the rows after each of these that is still there has again the direction and the mark that it had (RFC 8829, section 5.7)
abbrev pub all_restored : List (List ℕ × Direction × Bool) → List LineRow → List LineRow
all_restored [] rows = rows
all_restored (was ∷ more) rows = all_restored more (changed_of (restored_row (dir_restored was.1 was.2) was.2) was.0 rows)
