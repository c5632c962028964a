-- Fields and rows that are read each by itself.
use Rattle.std.specs.Prelude.{List, [], ◌∷◌, Option, Some, None}
use Rattle.std.specs.Option.{option_or}

-- a value in front of those of the rest, if both are there
abbrev pub onto : {B : Type 0} → Option B → Option (List B) → Option (List B)
onto None rest = None
onto (Some b) None = None
onto (Some b) (Some bs) = Some (b ∷ bs)

-- each field by its form, if all have it
abbrev pub each : {A B : Type 0} → (A → Option B) → List A → Option (List B)
each form [] = Some []
each form (field ∷ rest) = onto (form field) (each form rest)

-- what the first of the rows that gives something gives
abbrev pub first : {A B : Type 0} → (A → Option B) → List A → Option B
first gives [] = None
first gives (row ∷ rest) = option_or (gives row) (first gives rest)
