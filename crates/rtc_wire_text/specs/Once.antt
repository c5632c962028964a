-- Lists in which nothing is repeated.
use Rattle.std.specs.Prelude.{◌≡◌, Bool, false, not, List, [], ◌∷◌, filter}
use Rattle.std.specs.List.{AllByRecursion}

-- the first of each; `same` says which are one
abbrev pub each_once : {A : Type 0} → (A → A → Bool) → List A → List A
each_once same [] = []
each_once same (x ∷ xs) = x ∷ filter (λ y. not (same y x)) (each_once same xs)

-- none is repeated
abbrev pub IsApart : {A : Type 0} → (A → A → Bool) → List A → Type 0
IsApart same [] = Unit {0}
IsApart same (x ∷ xs) = AllByRecursion (λ y. same y x ≡ false) xs × IsApart same xs
