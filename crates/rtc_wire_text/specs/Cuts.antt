-- A text in two at a byte.
use Rattle.std.specs.Prelude.{◌≡◌, ℕ, ◌==◌, false, List, [], ◌∷◌, Option, Some, None, option_map, if◌then◌else◌}
use Rattle.std.specs.List.{AllByRecursion}

-- what is before the first such byte, and what is behind it
abbrev pub cut : ℕ → List ℕ → Option (List ℕ × List ℕ)
cut byte [] = None
cut byte (x ∷ xs) = if x == byte then Some ([], xs) else option_map (λ parts. (x ∷ parts.0, parts.1)) (cut byte xs)

-- no byte of the text is this one
abbrev pub Lacks : ℕ → List ℕ → Type 0
Lacks byte text = AllByRecursion (λ x. (x == byte) ≡ false) text
