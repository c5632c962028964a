-- Media lines that are declared and removed without an offer.
use Rattle.std.specs.Prelude.{
  ◌≡◌,
  ◌+◌,
  ◌==◌,
  ◌++◌,
  ℕ,
  Bool,
  true,
  false,
  List,
  [],
  ◌∷◌,
  length,
  take,
  Option,
  Some,
  None,
  if◌then◌else◌,
  Result,
  Ok,
  Err,
}
use Rattle.std.specs.declared.alloc.AllocError.{AllocError}
use Rattle.rtc_sdp_values.specs.declared.direction.Direction.TheVariants.{SendRecv}
use Rattle.rtc_sdp_values.specs.declared.line_row.LineRow.{LineRow}
use Rattle.rtc_sdp_values.specs.declared.line_row.LineRow.TheVariants.{Media, App}
use Rattle.rtc_sdp_values.specs.declared.media_kind.MediaKind.{MediaKind}
use Rattle.rtc_peer_rows.specs.RowChanges.{changed_of, stopped_row}
use Rattle.rtc_peer_rows.specs.Table.{has_mid, row_of}

-- the row of a media line that is declared at a place: it sends and receives, is live, and was created here
abbrev pub declared_row : ℕ → List ℕ → MediaKind → LineRow
declared_row place mid kind = Media place mid kind SendRecv false false

-- A media line is declared behind the others, if no row has its mid.
abbrev pub Declares : List LineRow → List ℕ → MediaKind → Result Bool AllocError → List LineRow → Type 0
Declares rows mid kind (Ok true) rows' = (has_mid mid rows ≡ false) × (rows' ≡ rows ++ declared_row (length rows) mid kind ∷ [])
Declares rows mid kind (Ok false) rows' = (has_mid mid rows ≡ true) × (rows' ≡ rows)
Declares rows mid kind (Err error) rows' = rows' ≡ rows

-- the place of the media row that is found, if any
abbrev pub media_place : Option LineRow → Option ℕ
media_place None = None
media_place (Some (Media place mid kind dir stopped remote_created)) = Some place
media_place (Some (App place mid)) = None

-- the rows after the media row of a mid is removed: the last one is dropped, another one is stopped
abbrev pub rows_without : List ℕ → List LineRow → List LineRow
rows_without mid rows = by (media_place (row_of rows mid))
  where
    by : Option ℕ → List LineRow
    by None = rows
    by (Some place) = if place + 1 == length rows then take place rows else changed_of stopped_row mid rows
