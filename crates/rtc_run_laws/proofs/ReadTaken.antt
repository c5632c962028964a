-- What is read of a text can be taken, whoever wrote it.
use Rattle.std.proofs.Common.{◌≡◌, ℕ, true, List, [], ◌∷◌, Ok, sym, subst}
use Rattle.std.specs.Prelude.{◌==◌}
use Rattle.std.specs.List.{AllByRecursion}
use Rattle.rtc_wire_text.specs.Once.{IsApart}
use Rattle.rtc_wire_text.specs.Tokens.{is_short_token}
use Rattle.rtc_sdp_values.specs.declared.media_line.MediaLine.{MediaLine}
use Rattle.rtc_sdp_values.specs.declared.sdp.Sdp.{Sdp}
use Rattle.rtc_sdp_reader.specs.Reading.{reading}
use Rattle.rtc_sdp_writer.specs.ReadLines.{IsReadLine}
use Rattle.rtc_sdp_writer.proofs.ReadLines.{lines_of_texts}
use Rattle.rtc_peer_rows.specs.ParsedLines.{parsed_line, parsed_lines}
use Rattle.rtc_peer_core.specs.Formed.{IsTakenLine}
use Rattle.rtc_peer_core.proofs.Alls.{all-map}
use Rattle.rtc_peer_core.proofs.TokenTables.{NameTokens}
use Rattle.rtc_run_laws.proofs.CarriedLines.{formats_same}
use Rattle.rtc_run_laws.proofs.TakenLines.{rows_small, extensions_taken, layers_taken}

line_taken : (line : MediaLine) → IsReadLine line → IsTakenLine line
line_taken line read = record {
  payloads = record {
    small = rows_small line.payloads read.payloads;
    apart = subst (IsApart (λ x y. x == y)) (sym (formats_same line.payloads)) read.numbers;
  };
  exts = extensions_taken line.exts read.exts;
  simulcast = layers_taken line.simulcast read.simulcast;
}

all_taken : (lines : List MediaLine) → AllByRecursion IsReadLine lines → AllByRecursion IsTakenLine lines
all_taken [] read = tt
all_taken (line ∷ lines) read = (line_taken line read.0, all_taken lines read.1)

-- the lines of a text that is read can be taken
pub read_lines_taken : (text : List ℕ) (sdp : Sdp) → reading text ≡ Ok sdp → AllByRecursion IsTakenLine sdp.lines
read_lines_taken text sdp is = all_taken sdp.lines (lines_of_texts text sdp is)

-- and their mids are short tokens
pub read_names_tokens : (text : List ℕ) (sdp : Sdp) → reading text ≡ Ok sdp → NameTokens (parsed_lines sdp)
read_names_tokens text sdp is =
    all-map IsReadLine (λ line. is_short_token line.mid ≡ true) (parsed_line sdp.groups) (λ line read. read.mid) sdp.lines (lines_of_texts text sdp is)
