-- Tokens: the bytes that names are made of (`token-char` of RFC 8866, section 9).
use Rattle.std.specs.Prelude.{ℕ, ◌==◌, Bool, ◌&&◌, ◌||◌, nat_lt, nat_le, List, length}
use Rattle.std.specs.List.{list_all}
use Rattle.std.specs.Int.{is_in_range}

-- whether a byte may be in a token
abbrev pub is_token_byte : ℕ → Bool
is_token_byte byte =
    byte == 0x21 || is_in_range 0x23 0x27 byte || is_in_range 0x2A 0x2B byte || is_in_range 0x2D 0x2E byte
    || is_in_range 0x30 0x39 byte || is_in_range 0x41 0x5A byte || is_in_range 0x5E 0x7E byte

-- token bytes alone, and at least one
abbrev pub is_token : List ℕ → Bool
is_token text = nat_lt 0 (length text) && list_all is_token_byte text

-- a token of at most 32 bytes
abbrev pub is_short_token : List ℕ → Bool
is_short_token text = is_token text && nat_le (length text) 32
