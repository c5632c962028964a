-- The table that an accepted offer or answer leaves (RFC 8829, sections 5.10 and 5.11).
use Rattle.std.specs.Prelude.{
  ◌&&◌,
  ◌||◌,
  ◌+◌,
  not,
  Bool,
  true,
  false,
  ℕ,
  List,
  [],
  ◌∷◌,
  ◌++◌,
  length,
  drop,
  if◌then◌else◌,
  slice_get,
  Option,
  Some,
  None,
  is_some,
  option_map,
}
use Rattle.rtc_sdp_values.specs.Direction.{inverse_of}
use Rattle.rtc_sdp_values.specs.LineRow.{row_mid}
use Rattle.rtc_sdp_values.specs.declared.direction.Direction.{Direction}
use Rattle.rtc_sdp_values.specs.declared.direction.Direction.TheVariants.{SendRecv, SendOnly, RecvOnly, Inactive}
use Rattle.rtc_sdp_values.specs.declared.line_row.LineRow.{LineRow}
use Rattle.rtc_sdp_values.specs.declared.line_row.LineRow.TheVariants.{Media, App}
use Rattle.rtc_sdp_values.specs.declared.media_kind.MediaKind.{MediaKind}
use Rattle.rtc_sdp_values.specs.declared.media_kind.MediaKind.TheVariants.{Audio as AudioMedia, Video as VideoMedia}
use Rattle.rtc_sdp_values.specs.declared.line_kind.LineKind.{LineKind}
use Rattle.rtc_sdp_values.specs.declared.line_kind.LineKind.TheVariants.{Audio, Video, Application, Unknown}
use Rattle.rtc_peer_rows.specs.declared.parsed_line.ParsedLine.{ParsedLine}
use Rattle.rtc_peer_rows.specs.Table.{row_of, app_of}

abbrev pub is_inactive : Direction → Bool
is_inactive Inactive = true
is_inactive SendRecv = false
is_inactive SendOnly = false
is_inactive RecvOnly = false

abbrev pub is_send_only : Direction → Bool
is_send_only SendOnly = true
is_send_only SendRecv = false
is_send_only RecvOnly = false
is_send_only Inactive = false

-- whether the row of a mid was stopped, if there was one
abbrev pub was_stopped : Option LineRow → Bool
was_stopped None = false
was_stopped (Some (Media p m k dir stopped remote_created)) = stopped
was_stopped (Some (App p m)) = false

abbrev pub was_remote : Bool → Option LineRow → Bool
was_remote offer None = offer
was_remote offer (Some (Media p m k dir stopped remote_created)) = remote_created
was_remote offer (Some (App p m)) = offer

-- an inactive row that this side created remains inactive if the other side would have it send
abbrev pub stays_inactive : Direction → Option LineRow → Bool
stays_inactive parsed None = false
stays_inactive parsed (Some (Media p m k dir stopped remote_created)) =
    not remote_created && (is_inactive dir && is_send_only (inverse_of parsed))
stays_inactive parsed (Some (App p m)) = false

abbrev pub is_stopped_by : ParsedLine → Option LineRow → Bool
is_stopped_by parsed before = parsed.rejected || was_stopped before

-- the inverse of the direction of the line, but inactive if the row is stopped or remains inactive
abbrev pub dir_after : ParsedLine → Option LineRow → Direction
dir_after parsed before = if is_stopped_by parsed before || stays_inactive parsed.dir before then Inactive else inverse_of parsed.dir

-- the row that a media line leaves at a place, from the row of its mid before, if any
abbrev pub media_after : Bool → ℕ → MediaKind → ParsedLine → Option LineRow → LineRow
media_after offer place kind parsed before =
    Media place parsed.mid kind (dir_after parsed before) (is_stopped_by parsed before) (was_remote offer before)

-- the mid of the row of the data channels is its own, and that of a new row is the line's
abbrev pub app_mid : List ℕ → Option LineRow → List ℕ
app_mid mid None = mid
app_mid mid (Some row) = row_mid row

abbrev pub app_after : List LineRow → ℕ → List ℕ → LineRow
app_after rows place mid = App place (app_mid mid (app_of rows))

-- the row that a line leaves; a line of an unknown kind is always refused
abbrev pub row_after : List LineRow → Bool → ℕ → ParsedLine → LineRow
row_after rows offer place parsed = by_kind parsed.kind
  where
    by_kind : LineKind → LineRow
    by_kind Audio = media_after offer place AudioMedia parsed (row_of rows parsed.mid)
    by_kind Video = media_after offer place VideoMedia parsed (row_of rows parsed.mid)
    by_kind Application = app_after rows place parsed.mid
    by_kind Unknown = App place parsed.mid

abbrev pub rows_after : List LineRow → Bool → ℕ → List ParsedLine → List LineRow
rows_after rows offer place [] = []
rows_after rows offer place (parsed ∷ rest) = row_after rows offer place parsed ∷ rows_after rows offer (place + 1) rest

-- the table afterwards: a row for each line, and the rows past its lines
abbrev pub table_after : List LineRow → List ParsedLine → Bool → List LineRow
table_after rows parsed offer = rows_after rows offer 0 parsed ++ drop (length parsed) rows

-- whether a line adds a row
abbrev pub is_new : List LineRow → ParsedLine → Bool
is_new rows parsed = by_kind parsed.kind
  where
    by_kind : LineKind → Bool
    by_kind Audio = not (is_some (row_of rows parsed.mid))
    by_kind Video = not (is_some (row_of rows parsed.mid))
    by_kind Application = not (is_some (app_of rows))
    by_kind Unknown = false

-- the places of the lines that add a row
abbrev pub new_places : List LineRow → ℕ → List ParsedLine → List ℕ
new_places rows place [] = []
new_places rows place (parsed ∷ rest) =
    if is_new rows parsed then place ∷ new_places rows (place + 1) rest else new_places rows (place + 1) rest

-- the mid of the row whose place a line takes
abbrev pub removed_mid : List LineRow → ℕ → ParsedLine → Option (List ℕ)
removed_mid rows place parsed = if is_new rows parsed then option_map row_mid (slice_get rows place) else None

-- the list with one more in front, if there is one
abbrev pub with_front : {A : Type 0} → Option A → List A → List A
with_front None rest = rest
with_front (Some first) rest = first ∷ rest

-- the mids of the rows whose place is given to another mid
abbrev pub removed_mids : List LineRow → ℕ → List ParsedLine → List (List ℕ)
removed_mids rows place [] = []
removed_mids rows place (parsed ∷ rest) = with_front (removed_mid rows place parsed) (removed_mids rows (place + 1) rest)
