-- Numbers as texts of other stacks write them: digits, which may begin with zeros.
use Rattle.std.specs.Prelude.{ℕ, ◌-◌, ◌^◌, ◌==◌, Bool, false, not, ◌&&◌, [], ◌∷◌, nat_lt, nat_le, min, List, length, Option, Some}
use Rattle.std.specs.Prelude.{None, if◌then◌else◌}
use Rattle.std.specs.List.{list_all}
use Rattle.std.specs.Char.{is_ascii_digit}
use Rattle.std.specs.Str.Parse.{digits_value}

-- digits and no other byte, at least one
abbrev pub is_numeral : List ℕ → Bool
is_numeral text = nat_lt 0 (length text) && list_all is_ascii_digit text

-- their number, or 2 ^ 64 - 1 if that is less
unfoldable pub number : List ℕ → Option ℕ
number text = if is_numeral text then Some (min (digits_value 10 text) (2 ^ 64 - 1)) else None

abbrev pub at_most : ℕ → Option ℕ → Option ℕ
at_most most None = None
at_most most (Some n) = if nat_le n most then Some n else None

-- their number, if it is at most `most`, which is below 2 ^ 64 - 1
abbrev pub number_up_to : ℕ → List ℕ → Option ℕ
number_up_to most text = at_most most (number text)

-- a zero with more behind it
abbrev pub has_zero_in_front : List ℕ → Bool
has_zero_in_front [] = false
has_zero_in_front (first ∷ rest) = first == 48 && nat_lt 0 (length rest)

-- digits with no zero in front
abbrev pub is_plain_numeral : List ℕ → Bool
is_plain_numeral text = is_numeral text && not (has_zero_in_front text)
