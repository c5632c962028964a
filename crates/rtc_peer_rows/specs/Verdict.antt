-- Why a line of an offer or an answer is refused: by its kind, its place and the rows that are there (RFC 8829, section 5.2.2).
use Rattle.std.specs.Prelude.{◌&&◌, ◌||◌, ◌+◌, ◌==◌, nat_lt, not, Bool, ℕ, List, [], ◌∷◌, length}
use Rattle.std.specs.Prelude.{if◌then◌else◌, slice_get, Option, Some, None}
use Rattle.std.specs.Option.{option_or}
use Rattle.rtc_sdp_values.specs.LineRow.{row_place}
use Rattle.rtc_sdp_values.specs.MediaKind.{same_kind}
use Rattle.rtc_sdp_values.specs.Sdp.{is_application}
use Rattle.rtc_sdp_values.specs.declared.line_row.LineRow.{LineRow}
use Rattle.rtc_sdp_values.specs.declared.line_row.LineRow.TheVariants.{Media, App}
use Rattle.rtc_sdp_values.specs.declared.media_kind.MediaKind.{MediaKind}
use Rattle.rtc_sdp_values.specs.declared.media_kind.MediaKind.TheVariants.{Audio as AudioMedia, Video as VideoMedia}
use Rattle.rtc_sdp_values.specs.declared.line_kind.LineKind.{LineKind}
use Rattle.rtc_sdp_values.specs.declared.line_kind.LineKind.TheVariants.{Audio, Video, Application, Unknown}
use Rattle.rtc_peer_rows.specs.declared.parsed_line.ParsedLine.{ParsedLine}
use Rattle.rtc_peer_rows.specs.declared.why.Why.{Why}
use Rattle.rtc_peer_rows.specs.declared.why.Why.TheVariants.{MovedLine, PlaceTaken, AnswerRecycles}
use Rattle.rtc_peer_rows.specs.Table.{row_of, app_of, has_mid}

-- the first that is there
abbrev pub first_of : {A : Type 0} → List (Option A) → Option A
first_of [] = None
first_of (one ∷ rest) = option_or one (first_of rest)

-- an application line: at the row of the data channels; else at a free place, with a mid that no row has, and the first application line
abbrev pub app_refusal : List LineRow → Bool → ℕ → List ℕ → Option Why
app_refusal rows came place mid = by_app (app_of rows)
  where
    by_app : Option LineRow → Option Why
    by_app None = if came || (nat_lt place (length rows) || has_mid mid rows) then Some (MovedLine mid) else None
    by_app (Some row) = if (row_place row == place) && not came then None else Some (MovedLine mid)

-- a media line with the mid of a row: at the place and of the kind of that row
abbrev pub known_refusal : ℕ → MediaKind → List ℕ → LineRow → Option Why
known_refusal place kind mid (Media p m k dir stopped remote_created) =
    if (p == place) && same_kind k kind then None else Some (MovedLine mid)
known_refusal place kind mid (App p m) = Some (MovedLine mid)

-- a media line with a mid that no row has: at a free place; or, in an offer, at the place of a stopped media row
abbrev pub place_refusal : Bool → List ℕ → Option LineRow → Option Why
place_refusal offer mid None = None
place_refusal offer mid (Some (App p m)) = Some (MovedLine mid)
place_refusal offer mid (Some (Media p m k dir stopped remote_created)) =
    if not offer then Some (AnswerRecycles mid) else if stopped then None else Some (PlaceTaken mid)

abbrev pub media_refusal : List LineRow → Bool → ℕ → MediaKind → List ℕ → Option Why
media_refusal rows offer place kind mid = by_row (row_of rows mid)
  where
    by_row : Option LineRow → Option Why
    by_row None = place_refusal offer mid (slice_get rows place)
    by_row (Some row) = known_refusal place kind mid row

-- why a line at a place is refused, given whether an application line was before it
abbrev pub line_refusal : List LineRow → Bool → Bool → ℕ → ParsedLine → Option Why
line_refusal rows offer came place parsed = by_kind parsed.kind
  where
    by_kind : LineKind → Option Why
    by_kind Audio = media_refusal rows offer place AudioMedia parsed.mid
    by_kind Video = media_refusal rows offer place VideoMedia parsed.mid
    by_kind Application = app_refusal rows came place parsed.mid
    by_kind Unknown = Some (MovedLine parsed.mid)

-- the refusal of the first line that is refused, the lines being at places from this one on
abbrev pub first_refusal : List LineRow → Bool → Bool → ℕ → List ParsedLine → Option Why
first_refusal rows offer came place [] = None
first_refusal rows offer came place (parsed ∷ rest) =
    option_or (line_refusal rows offer came place parsed) (first_refusal rows offer (came || is_application parsed.kind) (place + 1) rest)
