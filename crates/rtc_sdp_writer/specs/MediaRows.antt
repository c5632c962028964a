-- The lines that a medium's attributes are written as.
use Rattle.std.specs.Prelude.{ℕ, List, [], ◌∷◌, ◌++◌, map, Option, Some, None, if◌then◌else◌, codes}
use Rattle.rtc_sdp_values.specs.declared.line_kind.LineKind.{LineKind}
use Rattle.rtc_sdp_values.specs.declared.line_kind.LineKind.TheVariants.{Audio, Video, Application, Unknown}
use Rattle.rtc_sdp_values.specs.declared.media_line.MediaLine.{MediaLine}
use Rattle.rtc_sdp_values.specs.declared.msid.Msid.{Msid}
use Rattle.rtc_sdp_values.specs.declared.payload_row.PayloadRow.{PayloadRow}
use Rattle.rtc_sdp_values.specs.declared.pt.Pt.{Pt}
use Rattle.rtc_sdp_values.specs.declared.simulcast.Simulcast.{Simulcast}
use Rattle.rtc_sdp_values.specs.declared.ssrc.Ssrc.{Ssrc}
use Rattle.rtc_sdp_attributes.specs.declared.rid_line.RidLine.{RidLine}
use Rattle.rtc_sdp_attributes.specs.declared.ssrc_name.SsrcName.{SsrcName}
use Rattle.rtc_sdp_attributes.specs.AttributeTexts.{apt_text, red_text}
use Rattle.rtc_sdp_reader.specs.PlainLayers.{rid_lines}
use Rattle.rtc_sdp_reader.specs.PlainPayloads.{codec_row, rtx_row, fmtp_row, own_fmtp}
use Rattle.rtc_sdp_grammar.specs.MediaTexts.{codec_line, parameters_line, feedback_line, source_line, source_stream_line}
use Rattle.rtc_sdp_writer.specs.Rows.{single, optional}

-- ---- a line that is disabled shows neither stream nor SSRCs
abbrev pub shown_stream : MediaLine → Option Msid
shown_stream line = if line.disabled then None else line.msid

abbrev pub shown_sources : MediaLine → List (Ssrc × Option Ssrc)
shown_sources line = if line.disabled then [] else line.ssrcs

-- ---- payload rows
-- the feedback that a video line asks for (RFC 4585, section 4.2; RFC 5104, section 7.1)
abbrev pub feedback_kinds : LineKind → List (List ℕ)
feedback_kinds Audio = []
feedback_kinds Video = codes "nack" ∷ (codes "nack pli" ∷ (codes "ccm fir" ∷ []))
feedback_kinds Application = []
feedback_kinds Unknown = []

abbrev pub feedback_lines : LineKind → ℕ → List (List ℕ)
feedback_lines kind pt = map (feedback_line pt) (feedback_kinds kind)

-- redundant packets: their codec, and whose they are
abbrev pub red_lines : PayloadRow → Option Pt → List (List ℕ)
red_lines row red =
    optional (λ pt. codec_line (codec_row row (codes "red") pt.0)) red
    ++ optional (λ pt. parameters_line (fmtp_row (red_text row.pt.0) pt.0)) red

-- retransmissions
abbrev pub rtx_lines : PayloadRow → Option Pt → List (List ℕ)
rtx_lines row rtx =
    optional (λ pt. codec_line (rtx_row row pt.0)) rtx ++ optional (λ pt. parameters_line (fmtp_row (apt_text row.pt.0) pt.0)) rtx

abbrev pub payload_lines : LineKind → PayloadRow → List (List ℕ)
payload_lines kind row =
    single (codec_line (codec_row row row.codec row.pt.0))
    ++ (feedback_lines kind row.pt.0
    ++ (map parameters_line (own_fmtp row.pt.0 row.fmtp)
    ++ (red_lines row row.red
    ++ rtx_lines row row.rtx)))

abbrev pub all_payload_lines : LineKind → List PayloadRow → List (List ℕ)
all_payload_lines kind [] = []
all_payload_lines kind (row ∷ rest) = payload_lines kind row ++ all_payload_lines kind rest

-- ---- layers: those that are received, then those that are sent
abbrev pub layers_in : Option Simulcast → List RidLine
layers_in None = []
layers_in (Some simulcast) = rid_lines simulcast

-- ---- SSRCs: the name and the stream of each, then of its RTX SSRC
abbrev pub named : ℕ → List ℕ → SsrcName
named ssrc cname = record { ssrc = record { 0 = ssrc }; cname = cname }

abbrev pub number_lines : Option (List ℕ) → Option Msid → ℕ → List (List ℕ)
number_lines cname msid ssrc = optional (λ c. source_line (named ssrc c)) cname ++ optional (source_stream_line ssrc) msid

abbrev pub rtx_number_lines : Option (List ℕ) → Option Msid → Option Ssrc → List (List ℕ)
rtx_number_lines cname msid None = []
rtx_number_lines cname msid (Some rtx) = number_lines cname msid rtx.0

abbrev pub source_lines : Option (List ℕ) → Option Msid → Ssrc × Option Ssrc → List (List ℕ)
source_lines cname msid source = number_lines cname msid source.0.0 ++ rtx_number_lines cname msid source.1

abbrev pub all_source_lines : Option (List ℕ) → Option Msid → List (Ssrc × Option Ssrc) → List (List ℕ)
all_source_lines cname msid [] = []
all_source_lines cname msid (source ∷ rest) = source_lines cname msid source ++ all_source_lines cname msid rest
