-- Lists each of whose members is in another list.
use Rattle.std.specs.Prelude.{◌≡◌, ◌⊎◌, List, [], ◌∷◌}

-- a value is one of a list
abbrev pub Member : {A : Type 0} → A → List A → Type 0
Member x [] = ⊥
Member x (y ∷ ys) = (x ≡ y) ⊎ Member x ys

-- each of these is one of those, whatever their order and however often they occur
pub record Among {A : Type 0} (xs ys : List A) : Type 0 where
  pub each : (x : A) → Member x xs → Member x ys
