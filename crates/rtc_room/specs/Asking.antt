-- The words of the command line.
use Rattle.std.specs.Prelude.{ℕ, Bool, false, List, [], ◌∷◌, codes}
use Rattle.std.specs.Str.{bytes_eq}

-- the words are one, `run`
abbrev pub asks_to_run_room : List (List ℕ) → Bool
asks_to_run_room (word ∷ []) = bytes_eq word (codes "run")
asks_to_run_room _ = false
