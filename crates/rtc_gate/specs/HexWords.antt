-- Bytes as a word: two lower-case hex digits each, and a dash if there are none.
use Rattle.std.specs.Prelude.{ℕ, ◌+◌, ◌*◌, ◌-◌, ◌/◌, ◌%◌, List, [], ◌∷◌, ◌++◌, codes, Option, Some, None, if◌then◌else◌, nat_lt}
use Rattle.std.specs.Int.{is_in_range}
use Rattle.std.specs.Str.{bytes_eq}

-- the number of a digit
abbrev pub lower_digit : ℕ → Option ℕ
lower_digit byte =
    if is_in_range 48 57 byte then Some (byte - 48)
    else if is_in_range 97 102 byte then Some (byte - 87)
    else None

-- the byte of two digits, the higher one first
abbrev pub byte_of_digits : Option ℕ → Option ℕ → Option ℕ
byte_of_digits (Some high) (Some low) = Some (16 * high + low)
byte_of_digits _ _ = None

abbrev pub byte_before : Option ℕ → Option (List ℕ) → Option (List ℕ)
byte_before (Some byte) (Some bytes) = Some (byte ∷ bytes)
byte_before _ _ = None

-- the bytes of pairs of digits
abbrev pub bytes_of_digits : List ℕ → Option (List ℕ)
bytes_of_digits [] = Some []
bytes_of_digits (high ∷ []) = None
bytes_of_digits (high ∷ low ∷ rest) = byte_before (byte_of_digits (lower_digit high) (lower_digit low)) (bytes_of_digits rest)

abbrev pub bytes_of_some_digits : List ℕ → Option (List ℕ)
bytes_of_some_digits [] = None
bytes_of_some_digits (first ∷ rest) = bytes_of_digits (first ∷ rest)

-- the bytes that a word writes
abbrev pub bytes_in_word : List ℕ → Option (List ℕ)
bytes_in_word word = if bytes_eq word (codes "-") then Some [] else bytes_of_some_digits word

-- the digit of a number below 16
abbrev pub lower_glyph : ℕ → ℕ
lower_glyph n = if nat_lt n 10 then n + 48 else n + 87

abbrev pub glyphs : ℕ → List ℕ
glyphs byte = lower_glyph (byte / 16) ∷ lower_glyph (byte % 16) ∷ []

abbrev pub digits_of : List ℕ → List ℕ
digits_of [] = []
digits_of (byte ∷ bytes) = glyphs byte ++ digits_of bytes

-- the word of bytes
abbrev pub word_of_bytes : List ℕ → List ℕ
word_of_bytes [] = codes "-"
word_of_bytes (byte ∷ bytes) = digits_of (byte ∷ bytes)
