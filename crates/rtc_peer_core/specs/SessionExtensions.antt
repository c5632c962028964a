-- The header extensions of the lines that a peer adds: in a BUNDLE group one number denotes one extension (RFC 8843, section 12).
use Rattle.std.specs.Prelude.{◌≡◌, ℕ, ◌==◌, Bool, true, false, not, ◌&&◌, if◌then◌else◌, List, [], ◌∷◌, ◌++◌, Option, Some, None}
use Rattle.std.specs.Option.{option_or}
use Rattle.std.specs.List.{list_any}
use Rattle.rtc_wire_text.specs.Fields.{first}
use Rattle.rtc_wire_text.specs.Once.{IsApart}
use Rattle.rtc_parts.specs.Among.{Member}
use Rattle.rtc_sdp_values.specs.Extension.{same_extension}
use Rattle.rtc_sdp_values.specs.declared.extension.Extension.{Extension}
use Rattle.rtc_sdp_values.specs.declared.media_line.MediaLine.{MediaLine}
use Rattle.rtc_peer_core.specs.declared.formats.Formats.{Formats}
use Rattle.rtc_peer_core.specs.declared.told_row.ToldRow.{ToldRow}

-- ---- what is asked of rows
abbrev pub has_number_of : ℕ × Extension → ℕ × Extension → Bool
has_number_of row other = other.0 == row.0

-- no number is repeated
abbrev pub HaveNumbersApart : List (ℕ × Extension) → Type 0
HaveNumbersApart rows = IsApart has_number_of rows

-- rows of one number are of one extension
abbrev pub HaveOneMeaning : List (ℕ × Extension) → Type 0
HaveOneMeaning rows = (x y : ℕ × Extension) → Member x rows → Member y rows → x.0 ≡ y.0 → x.1 ≡ y.1

-- ---- numbers
abbrev pub is_number_taken : List (ℕ × Extension) → ℕ → Bool
is_number_taken rows id = list_any (λ row. row.0 == id) rows

-- the number that a session uses for an extension, unless a row that was made has it
abbrev pub session_id : (used made : List (ℕ × Extension)) → Extension → Option ℕ
session_id used made extension =
    first (λ row. if same_extension row.1 extension && not (is_number_taken made row.0) then Some row.0 else None) used

-- the numbers of headers of one byte (RFC 8285, section 4.2)
abbrev pub short_ids : List ℕ
short_ids = 1 ∷ 2 ∷ 3 ∷ 4 ∷ 5 ∷ 6 ∷ 7 ∷ 8 ∷ 9 ∷ 10 ∷ 11 ∷ 12 ∷ 13 ∷ 14 ∷ []

-- the first of these numbers that neither the session nor a row that was made has
abbrev pub free_id : (used made : List (ℕ × Extension)) → List ℕ → Option ℕ
free_id used made = first (λ id. if not (is_number_taken used id) && not (is_number_taken made id) then Some id else None)

-- the number of a row of the configuration: that of the session, or else its own if it is free, or else the least free one from 1 to 14
abbrev pub number_for : (used made : List (ℕ × Extension)) → ℕ × Extension → Option ℕ
number_for used made row = option_or (session_id used made row.1) (free_id used made (row.0 ∷ short_ids))

-- ---- rows
abbrev pub has_extension : List (ℕ × Extension) → Extension → Bool
has_extension rows extension = list_any (λ row. same_extension row.1 extension) rows

abbrev pub with_number : List (ℕ × Extension) → Extension → Option ℕ → List (ℕ × Extension)
with_number made extension None = made
with_number made extension (Some id) = made ++ (id, extension) ∷ []

-- an extension that no row has yet is put last, unless no number is left for it
abbrev pub with_extension : (used made : List (ℕ × Extension)) → ℕ × Extension → List (ℕ × Extension)
with_extension used made row = if has_extension made row.1 then made else with_number made row.1 (number_for used made row)

-- these rows, then those of a configuration by the numbers of a session
abbrev pub numbered_extensions : (used made : List (ℕ × Extension)) → List (ℕ × Extension) → List (ℕ × Extension)
numbered_extensions used made [] = made
numbered_extensions used made (row ∷ rows) = numbered_extensions used (with_extension used made row) rows

-- ---- what a peer offers on the lines that it adds
-- the extensions of the lines of a session, stopped ones too
abbrev pub told_extensions : List ToldRow → List (ℕ × Extension)
told_extensions [] = []
told_extensions (told ∷ rest) = told.media.exts ++ told_extensions rest

-- those of the m-lines of a description
abbrev pub line_extensions : List MediaLine → List (ℕ × Extension)
line_extensions [] = []
line_extensions (line ∷ rest) = line.exts ++ line_extensions rest

abbrev pub session_formats : Formats → List (ℕ × Extension) → Formats
session_formats formats used = record formats { extensions = record { rows = numbered_extensions used [] formats.extensions.rows } }

-- what a peer was built with; if it was so set, its extensions have the numbers of the session
abbrev pub added_formats : (session_ids : Bool) → Formats → List ToldRow → Formats
added_formats false formats told = formats
added_formats true formats told = session_formats formats (told_extensions told)
