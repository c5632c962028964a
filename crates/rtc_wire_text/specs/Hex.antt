-- Bytes as two hex digits each, with colons between (RFC 8122, section 5).
use Rattle.std.specs.Prelude.{ℕ, ◌+◌, ◌*◌, ◌-◌, ◌/◌, ◌%◌, List, [], ◌∷◌, map, Option, Some, None, if◌then◌else◌, nat_lt}
use Rattle.std.specs.Int.{is_in_range}
use Rattle.rtc_wire_text.specs.Words.{parts, joined}
use Rattle.rtc_wire_text.specs.Fields.{each}

-- the number of a hex digit of either case
abbrev pub hex_digit : ℕ → Option ℕ
hex_digit byte =
    if is_in_range 48 57 byte then Some (byte - 48)
    else if is_in_range 65 70 byte then Some (byte - 55)
    else if is_in_range 97 102 byte then Some (byte - 87)
    else None

abbrev pub hex_pair : Option ℕ → Option ℕ → Option ℕ
hex_pair (Some high) (Some low) = Some (16 * high + low)
hex_pair _ _ = None

-- the byte of two hex digits, the higher one first
abbrev pub hex_byte : List ℕ → Option ℕ
hex_byte (high ∷ low ∷ []) = hex_pair (hex_digit high) (hex_digit low)
hex_byte _ = None

-- the bytes that colons part, at least one
abbrev pub hex_bytes : List ℕ → Option (List ℕ)
hex_bytes text = each hex_byte (parts 58 text)

-- the digit of a number below 16, an upper-case letter from 10 on
abbrev pub hex_glyph : ℕ → ℕ
hex_glyph n = if nat_lt n 10 then n + 48 else n + 55

-- the two digits of a byte
abbrev pub hex_pair_text : ℕ → List ℕ
hex_pair_text byte = hex_glyph (byte / 16) ∷ hex_glyph (byte % 16) ∷ []

-- the digits of each byte, with colons between
abbrev pub hex_text : List ℕ → List ℕ
hex_text bytes = joined 58 (map hex_pair_text bytes)
