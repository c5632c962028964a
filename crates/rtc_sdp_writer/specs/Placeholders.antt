-- The text of a value in which each m-line has a format (RFC 8866, section 5.14): a line without a port and without payload rows has the
-- format 0, which no row of it describes.
use Rattle.std.specs.Prelude.{ℕ, Bool, true, List, [], ◌∷◌, ◌++◌, codes}
use Rattle.rtc_wire_text.specs.Lines.{text_of}
use Rattle.rtc_sdp_values.specs.declared.line_kind.LineKind.{LineKind}
use Rattle.rtc_sdp_values.specs.declared.line_kind.LineKind.TheVariants.{Audio, Video, Application, Unknown}
use Rattle.rtc_sdp_values.specs.declared.media_line.MediaLine.{MediaLine}
use Rattle.rtc_sdp_values.specs.declared.payload_row.PayloadRow.{PayloadRow}
use Rattle.rtc_sdp_values.specs.declared.sdp.Sdp.{Sdp}
use Rattle.rtc_sdp_grammar.specs.LineTexts.{origin_line, media_line}
use Rattle.rtc_sdp_reader.specs.PlainPayloads.{formats_of}
use Rattle.rtc_sdp_writer.specs.Rows.{in_order}
use Rattle.rtc_sdp_writer.specs.LineRows.{inner_rows}
use Rattle.rtc_sdp_writer.specs.SessionRows.{session_groups}

-- the m-line of a rejected line without payload rows; that of the data channels has its format anyway
abbrev pub rejected_line : LineKind → List ℕ
rejected_line Audio = codes "m=audio 0 UDP/TLS/RTP/SAVPF 0"
rejected_line Video = codes "m=video 0 UDP/TLS/RTP/SAVPF 0"
rejected_line Application = codes "m=application 0 UDP/DTLS/SCTP webrtc-datachannel"
rejected_line Unknown = codes "m=unknown 0 UDP 0"

abbrev pub filled_media_line : LineKind → (disabled : Bool) → List PayloadRow → List ℕ
filled_media_line kind true [] = rejected_line kind
filled_media_line kind disabled rows = media_line kind disabled (formats_of rows)

-- the lines of a line part
unfoldable pub filled_line_rows : MediaLine → List (List ℕ)
filled_line_rows line = filled_media_line line.kind line.disabled line.payloads ∷ inner_rows line

abbrev pub all_filled_line_rows : List MediaLine → List (List ℕ)
all_filled_line_rows [] = []
all_filled_line_rows (line ∷ rest) = filled_line_rows line ++ all_filled_line_rows rest

abbrev pub filled_sdp_rows : Sdp → List (List ℕ)
filled_sdp_rows sdp = codes "v=0" ∷ (origin_line sdp.id ∷ (in_order (session_groups sdp) ++ all_filled_line_rows sdp.lines))

-- the text of a value
unfoldable pub filled_sdp : Sdp → List ℕ
filled_sdp sdp = text_of (filled_sdp_rows sdp)
