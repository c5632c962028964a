-- Letters of either case.
use Rattle.std.specs.Prelude.{ℕ, Bool, List, not}
use Rattle.std.specs.List.{list_all}
use Rattle.std.specs.Char.{is_ascii_uppercase}
use Rattle.std.specs.Str.{str_to_ascii_lowercase}

-- the text with each ASCII capital made small
abbrev pub lower : List ℕ → List ℕ
lower = str_to_ascii_lowercase

-- no byte is an ASCII capital
abbrev pub is_lower : List ℕ → Bool
is_lower text = list_all (λ byte. not (is_ascii_uppercase byte)) text
