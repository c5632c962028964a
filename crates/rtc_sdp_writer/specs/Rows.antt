-- Lines in groups, as the writer puts them.
use Rattle.std.specs.Prelude.{ℕ, List, [], ◌∷◌, ◌++◌, Option, Some, None}

-- the lines of groups, one group after the other
abbrev pub in_order : List (List (List ℕ)) → List (List ℕ)
in_order [] = []
in_order (group ∷ rest) = group ++ in_order rest

-- one line that is always there
abbrev pub single : List ℕ → List (List ℕ)
single line = line ∷ []

-- a line if there is a value for it
abbrev pub optional : {A : Type 0} → (A → List ℕ) → Option A → List (List ℕ)
optional line None = []
optional line (Some value) = line value ∷ []
