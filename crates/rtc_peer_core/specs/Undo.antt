-- The rows that staged changes set or stopped, as they were before, for an offer that is rolled back (RFC 8829, section 5.7).
use Rattle.std.specs.Prelude.{ℕ, Bool, true, List, [], ◌∷◌, ◌++◌, map, if◌then◌else◌, Option, Some, None}
use Rattle.rtc_sdp_values.specs.Mids.{is_among}
use Rattle.rtc_sdp_values.specs.declared.direction.Direction.{Direction}
use Rattle.rtc_sdp_values.specs.declared.line_row.LineRow.{LineRow}
use Rattle.rtc_sdp_values.specs.declared.line_row.LineRow.TheVariants.{Media, App}

-- the mid of a row, its direction, and whether it was stopped
abbrev pub RowBefore : Type 0
RowBefore = List ℕ × Direction × Bool

abbrev pub undo_mids : List RowBefore → List (List ℕ)
undo_mids undo = map (λ was. was.0) undo

-- whether a row is noted already; one of data channels is never set or stopped
abbrev pub has_undo : LineRow → List RowBefore → Bool
has_undo (Media place mid kind dir stopped remote_created) undo = is_among (undo_mids undo) mid
has_undo (App place mid) undo = true

abbrev pub has_undo_of : Option LineRow → List RowBefore → Bool
has_undo_of None undo = true
has_undo_of (Some row) undo = has_undo row undo

-- the rows that are noted once this one is set or stopped: the first note of a row is kept
abbrev pub noted : LineRow → List RowBefore → List RowBefore
noted (Media place mid kind dir stopped remote_created) undo =
    if is_among (undo_mids undo) mid then undo else undo ++ (mid, dir, stopped) ∷ []
noted (App place mid) undo = undo

abbrev pub without_last : List RowBefore → List RowBefore
without_last [] = []
without_last (was ∷ []) = []
without_last (was ∷ next ∷ more) = was ∷ without_last (next ∷ more)
