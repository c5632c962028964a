-- The m-lines that are written for line parts, with the formats that are read of them.
use Rattle.std.proofs.Common.{◌≡◌, ℕ, Bool, true, false, List, [], ◌∷◌, ◌++◌, refl, sym, ap, subst, rules}
use Rattle.std.specs.List.{AllByRecursion}
use Rattle.rtc_wire_text.specs.Numbers.{number}
use Rattle.rtc_sdp_attributes.specs.declared.fmtp.Fmtp.{Fmtp}
use Rattle.rtc_sdp_attributes.specs.declared.rtpmap.Rtpmap.{Rtpmap}
use Rattle.rtc_sdp_values.specs.declared.line_kind.LineKind.{LineKind}
use Rattle.rtc_sdp_values.specs.declared.line_kind.LineKind.TheVariants.{Audio, Video, Application, Unknown}
use Rattle.rtc_sdp_values.specs.declared.media_line.MediaLine.{MediaLine}
use Rattle.rtc_sdp_values.specs.declared.payload_row.PayloadRow.{PayloadRow}
use Rattle.rtc_sdp_grammar.specs.ItemForm.{item_of}
use Rattle.rtc_sdp_grammar.specs.LineTexts.{media_line}
use Rattle.rtc_sdp_grammar.proofs.LineLaws.{IsLineOf, media_line_is, head_of, formats_of as formats_for}
use Rattle.rtc_sdp_reader.specs.Payloads.{payload_rows}
use Rattle.rtc_sdp_reader.specs.PlainPayloads.{formats_of, codecs_of, AreApart}
use Rattle.rtc_sdp_reader.specs.Said.{codec_of, parameters_of}
use Rattle.rtc_sdp_writer.specs.LineRows.{inner_rows, line_rows, all_line_rows}
use Rattle.rtc_sdp_writer.specs.Placeholders.{rejected_line, filled_media_line, filled_line_rows, all_filled_line_rows}
use Rattle.rtc_sdp_writer.specs.Plain.{IsPlainRow, SuitsKind, IsLegibleLine}
use Rattle.rtc_sdp_writer.proofs.LineBlocks.{formats_small}
use Rattle.rtc_sdp_writer.proofs.LineFound.{all_found, codecs_are_found, payloads_found}

-- how the m-line of each line part is written, and that its formats give the rows of the line
pub record Heads : Type 0 where
  pub written : MediaLine → List ℕ
  pub formats : MediaLine → List ℕ
  pub line : (line : MediaLine) → IsLegibleLine line → IsLineOf (written line) (head_of line.kind line.disabled (formats line))
  pub table : (line : MediaLine) (h : IsLegibleLine line) → payload_rows (formats_for line.kind (formats line)) (all_found codec_of line.kind line h) (all_found parameters_of line.kind line h) ≡ line.payloads

abbrev pub rows_by : Heads → List MediaLine → List (List ℕ)
rows_by heads [] = []
rows_by heads (line ∷ rest) = (heads.written line ∷ inner_rows line) ++ rows_by heads rest

-- ---- the formats of the rows
abbrev pub own_heads : Heads
own_heads = record {
  written = λ line. media_line line.kind line.disabled (formats_of line.payloads);
  formats = λ line. formats_of line.payloads;
  line = λ line h. media_line_is line.kind line.disabled (formats_of line.payloads) (formats_small line.payloads h.payloads) h.payloads_apart;
  table = λ line h. payloads_found line.kind line h h.kind;
}

pub own_rows : (lines : List MediaLine) → rows_by own_heads lines ≡ all_line_rows lines
unfolding line_rows
own_rows [] = refl
own_rows (line ∷ rest) = ap (λ (l : List (List ℕ)). line_rows line ++ l) (own_rows rest)

-- ---- a format where there is no row
abbrev pub filled_formats : (disabled : Bool) → List PayloadRow → List ℕ
filled_formats true [] = 0 ∷ []
filled_formats disabled rows = formats_of rows

rejected_audio_is : IsLineOf (rejected_line Audio) (head_of Audio true (0 ∷ []))
unfolding item_of number
rejected_audio_is = record { again = refl; one = search rules }

rejected_video_is : IsLineOf (rejected_line Video) (head_of Video true (0 ∷ []))
unfolding item_of number
rejected_video_is = record { again = refl; one = search rules }

rejected_channels_is : IsLineOf (rejected_line Application) (head_of Application true (0 ∷ []))
unfolding item_of number
rejected_channels_is = record { again = refl; one = search rules }

pub filled_line_is : (kind : LineKind) (line : MediaLine) (disabled : Bool) (rows : List PayloadRow) → SuitsKind kind line → AllByRecursion IsPlainRow rows → AreApart rows
    → IsLineOf (filled_media_line kind disabled rows) (head_of kind disabled (filled_formats disabled rows))
filled_line_is Unknown line disabled rows k h apart = absurd k
filled_line_is Audio line true [] k h apart = rejected_audio_is
filled_line_is Video line true [] k h apart = rejected_video_is
filled_line_is Application line true [] k h apart = rejected_channels_is
filled_line_is kind line true (row ∷ rows) k h apart = media_line_is kind true (formats_of (row ∷ rows)) (formats_small (row ∷ rows) h) apart
filled_line_is kind line false rows k h apart = media_line_is kind false (formats_of rows) (formats_small rows h) apart

-- a format that no codec describes gives no row
no_row : (fmtps : List Fmtp) → payload_rows (0 ∷ []) [] fmtps ≡ []
unfolding payload_rows
no_row fmtps = refl

pub filled_table : (kind : LineKind) (disabled : Bool) (rows : List PayloadRow) (codecs : List Rtpmap) (fmtps : List Fmtp) → codecs ≡ codecs_of rows
    → payload_rows (formats_for kind (formats_of rows)) codecs fmtps ≡ rows → payload_rows (formats_for kind (filled_formats disabled rows)) codecs fmtps ≡ rows
filled_table Audio true [] codecs fmtps e h = subst (λ (c : List Rtpmap). payload_rows (0 ∷ []) c fmtps ≡ []) (sym e) (no_row fmtps)
filled_table Video true [] codecs fmtps e h = subst (λ (c : List Rtpmap). payload_rows (0 ∷ []) c fmtps ≡ []) (sym e) (no_row fmtps)
filled_table Application true [] codecs fmtps e h = h
filled_table Unknown true [] codecs fmtps e h = h
filled_table kind true (row ∷ rows) codecs fmtps e h = h
filled_table kind false rows codecs fmtps e h = h

abbrev pub filled_heads : Heads
filled_heads = record {
  written = λ line. filled_media_line line.kind line.disabled line.payloads;
  formats = λ line. filled_formats line.disabled line.payloads;
  line = λ line h. filled_line_is line.kind line line.disabled line.payloads h.kind h.payloads h.payloads_apart;
  table = λ line h. filled_table line.kind line.disabled line.payloads (all_found codec_of line.kind line h) (all_found parameters_of line.kind line h) (codecs_are_found line.kind line h h.kind) (payloads_found line.kind line h h.kind);
}

pub filled_rows : (lines : List MediaLine) → rows_by filled_heads lines ≡ all_filled_line_rows lines
unfolding filled_line_rows
filled_rows [] = refl
filled_rows (line ∷ rest) = ap (λ (l : List (List ℕ)). filled_line_rows line ++ l) (filled_rows rest)
