-- Lines of a text (RFC 8866, section 5), and the text of lines.
use Rattle.std.specs.Prelude.{ℕ, List, [], ◌∷◌, ◌++◌}
use Rattle.std.specs.List.{AllByRecursion}
use Rattle.std.specs.Str.Lines as ends
use Rattle.rtc_wire_text.specs.Cuts.{Lacks}
use Rattle.rtc_wire_text.specs.Words.{parts}

-- the lines that LF or CRLF ends, in order; the end of the last may be missing, and a CR that is not before an LF is part of its line
abbrev pub lines : List ℕ → List (List ℕ)
lines text = ends.lines text

-- the line with its end, as it is written: CR and LF
abbrev pub crlf : List ℕ → List ℕ
crlf line = line ++ 13 ∷ 10 ∷ []

-- what is between line feeds, a carriage return in front of one too: the lines, and what is behind the last line feed
abbrev pub pieces : List ℕ → List (List ℕ)
pieces text = parts 10 text

-- the text of lines
abbrev pub text_of : List (List ℕ) → List ℕ
text_of [] = []
text_of (line ∷ rest) = crlf line ++ text_of rest

-- no line holds an LF
abbrev pub AreLines : List (List ℕ) → Type 0
AreLines rows = AllByRecursion (λ line. Lacks 10 line) rows
