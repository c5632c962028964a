-- The new lines of an answer are those that its offer added (RFC 8829, section 5.3.1).
use Rattle.std.specs.Prelude.{◌+◌, ◌==◌, ℕ, List, [], ◌∷◌, length, if◌then◌else◌, Option, Some, None}
use Rattle.rtc_sdp_values.specs.MediaKind.{same_kind}
use Rattle.rtc_sdp_values.specs.declared.line_row.LineRow.{LineRow}
use Rattle.rtc_sdp_values.specs.declared.line_row.LineRow.TheVariants.{Media, App}
use Rattle.rtc_sdp_values.specs.declared.media_kind.MediaKind.{MediaKind}
use Rattle.rtc_sdp_values.specs.declared.media_kind.MediaKind.TheVariants.{Audio as AudioMedia, Video as VideoMedia}
use Rattle.rtc_sdp_values.specs.declared.line_kind.LineKind.{LineKind}
use Rattle.rtc_sdp_values.specs.declared.line_kind.LineKind.TheVariants.{Audio, Video, Application, Unknown}
use Rattle.rtc_peer_rows.specs.declared.parsed_line.ParsedLine.{ParsedLine}
use Rattle.rtc_peer_rows.specs.declared.new_line.NewLine.{NewLine}
use Rattle.rtc_peer_rows.specs.declared.new_line.NewLine.TheVariants.{Count, NotMedia, NotChannel, NotOffered, OtherKind, OtherPlace}
use Rattle.rtc_peer_rows.specs.Table.{row_of}
use Rattle.rtc_change.specs.TableAfter.{is_new, new_places}
use Rattle.std.specs.Option.{option_or}

abbrev pub at_its_place : ℕ → ℕ → List ℕ → Option NewLine
at_its_place offered place mid = if offered == place then None else Some (OtherPlace mid)

-- what is wrong with a line if the offer added a media row of its mid
abbrev pub not_that_media : ℕ → MediaKind → ℕ → ParsedLine → Option NewLine
not_that_media offered kind place parsed = by_kind parsed.kind
  where
    by_kind : LineKind → Option NewLine
    by_kind Audio = if same_kind kind AudioMedia then at_its_place offered place parsed.mid else Some (OtherKind parsed.mid)
    by_kind Video = if same_kind kind VideoMedia then at_its_place offered place parsed.mid else Some (OtherKind parsed.mid)
    by_kind Application = Some (NotMedia parsed.mid Application)
    by_kind Unknown = Some (NotMedia parsed.mid Unknown)

-- what is wrong with a line if the offer added a row of data channels of its mid
abbrev pub not_that_channel : ℕ → ℕ → ParsedLine → Option NewLine
not_that_channel offered place parsed = by_kind parsed.kind
  where
    by_kind : LineKind → Option NewLine
    by_kind Application = at_its_place offered place parsed.mid
    by_kind Audio = Some (NotChannel parsed.mid Audio)
    by_kind Video = Some (NotChannel parsed.mid Video)
    by_kind Unknown = Some (NotChannel parsed.mid Unknown)

abbrev pub by_added : ℕ → ParsedLine → Option LineRow → Option NewLine
by_added place parsed None = Some (NotOffered parsed.mid)
by_added place parsed (Some (Media p mid kind dir stopped remote_created)) = not_that_media p kind place parsed
by_added place parsed (Some (App p mid)) = not_that_channel p place parsed

-- what is wrong with the first new line that isn't an added row
abbrev pub wrong_line : List LineRow → List LineRow → ℕ → List ParsedLine → Option NewLine
wrong_line rows added place [] = None
wrong_line rows added place (parsed ∷ rest) =
    option_or (if is_new rows parsed then by_added place parsed (row_of added parsed.mid) else None)
    (wrong_line rows added (place + 1) rest)

-- what is wrong with the new lines of an answer, given the rows that its offer added
abbrev pub wrong_lines : List LineRow → List LineRow → List ParsedLine → Option NewLine
wrong_lines rows added parsed =
    if length added == length (new_places rows 0 parsed) then wrong_line rows added 0 parsed
    else Some (Count (length added) (length (new_places rows 0 parsed)))
