-- Bytes as a session description: a line that is not UTF-8 has no form.
use Rattle.std.specs.Prelude.{ℕ, List, [], ◌∷◌, ◌++◌, codes, Result, if◌then◌else◌}
use Rattle.std.specs.Str.{is_utf8}
use Rattle.rtc_wire_text.specs.Lines.{pieces}
use Rattle.rtc_sdp_values.specs.declared.sdp.Sdp.{Sdp}
use Rattle.rtc_sdp_reader.specs.Reading.{reading}

-- a piece as it is read: one that is not UTF-8 is a question mark, which is refused at every place
abbrev pub piece_in : List ℕ → List ℕ
piece_in piece = if is_utf8 piece then piece else 63 ∷ []

-- pieces with a line feed in front of each
abbrev pub fed : List (List ℕ) → List ℕ
fed [] = []
fed (piece ∷ rest) = codes "\n" ++ (piece_in piece ++ fed rest)

-- pieces, parted by line feeds
abbrev pub parted : List (List ℕ) → List ℕ
parted [] = []
parted (piece ∷ rest) = piece_in piece ++ fed rest

-- the bytes with each line that is not UTF-8 as a question mark
abbrev pub repaired : List ℕ → List ℕ
repaired bytes = parted (pieces bytes)

-- the reading of bytes, as a session description
abbrev pub bytes_reading : List ℕ → Result Sdp ℕ
bytes_reading bytes = if is_utf8 bytes then reading bytes else reading (repaired bytes)
