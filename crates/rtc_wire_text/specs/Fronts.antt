-- The front of a text.
use Rattle.std.specs.Prelude.{ℕ, ◌==◌, Bool, ◌||◌, List, [], ◌∷◌, Option, Some, None, if◌then◌else◌}

-- what is behind a first byte that passes
abbrev pub behind : (ℕ → Bool) → List ℕ → Option (List ℕ)
behind test [] = None
behind test (x ∷ xs) = if test x then Some xs else None

-- the text from the first byte on that does not pass
abbrev pub from_first : (ℕ → Bool) → List ℕ → List ℕ
from_first test [] = []
from_first test (x ∷ xs) = if test x then from_first test xs else x ∷ xs

abbrev pub is_byte : ℕ → ℕ → Bool
is_byte byte x = x == byte

-- a space or a tab
abbrev pub is_blank : ℕ → Bool
is_blank x = x == 32 || x == 9
