-- Parts of a text with a byte between them, and words, which single spaces part.
use Rattle.std.specs.Prelude.{ℕ, ◌==◌, List, [], ◌∷◌, ◌++◌}
use Rattle.std.specs.List.{slice_split}

-- the parts round a byte: an empty one between two such bytes in a row
abbrev pub parts : ℕ → List ℕ → List (List ℕ)
parts byte = slice_split (λ x. x == byte)

-- each part behind a byte
abbrev pub after_each : ℕ → List (List ℕ) → List ℕ
after_each byte [] = []
after_each byte (part ∷ rest) = byte ∷ (part ++ after_each byte rest)

-- the parts with a byte between
abbrev pub joined : ℕ → List (List ℕ) → List ℕ
joined byte [] = []
joined byte (part ∷ rest) = part ++ after_each byte rest

-- the words that single spaces part: an empty one between two spaces in a row
abbrev pub words : List ℕ → List (List ℕ)
words = parts 32

-- each word behind a space
abbrev pub spaced : List (List ℕ) → List ℕ
spaced = after_each 32
