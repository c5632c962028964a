-- Answers whose rejected lines name the formats that were offered (RFC 3264, section 6: there is at least one, and they are ignored).
use Rattle.std.specs.Prelude.{Bool, ◌&&◌, List, [], ◌∷◌, drop, if◌then◌else◌}
use Rattle.std.specs.List.{AllByRecursion}
use Rattle.rtc_sdp_values.specs.declared.media_line.MediaLine.{MediaLine}
use Rattle.rtc_sdp_values.specs.declared.payload_row.PayloadRow.{PayloadRow}
use Rattle.rtc_sdp_values.specs.declared.sdp.Sdp.{Sdp}
use Rattle.rtc_sdp_reader.specs.PlainPayloads.{AreApart}
use Rattle.rtc_sdp_writer.specs.Plain.{IsPlainRow}
use Rattle.rtc_lines.specs.Rejecting.{is_none}

-- a rejected line that names no format
abbrev pub lacks_formats : MediaLine → Bool
lacks_formats line = line.disabled && is_none line.payloads

abbrev pub line_with_formats : MediaLine → List PayloadRow → MediaLine
line_with_formats line rows = if lacks_formats line then record line { payloads = rows } else line

-- the formats of the first line
abbrev pub first_formats : List MediaLine → List PayloadRow
first_formats [] = []
first_formats (line ∷ rest) = line.payloads

-- each line, with the formats of the offered line at its place if it lacks formats
abbrev pub lines_with_offered : List MediaLine → (offered : List MediaLine) → List MediaLine
lines_with_offered [] offered = []
lines_with_offered (line ∷ rest) offered = line_with_formats line (first_formats offered) ∷ lines_with_offered rest (drop 1 offered)

abbrev pub answer_with_offered : Sdp → (offer : Sdp) → Sdp
answer_with_offered answer offer = record answer { lines = lines_with_offered answer.lines offer.lines }

-- the formats of a line are read back once they are written
abbrev pub HasPlainFormats : MediaLine → Type 0
HasPlainFormats line = AllByRecursion IsPlainRow line.payloads × AreApart line.payloads
