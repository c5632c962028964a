-- The words that ask for a demo.
use Rattle.std.specs.Prelude.{◌≡◌, ◌<◌, ◌≤◌, ◌^◌, ℕ, List, [], ◌∷◌, codes}
use Rattle.std.specs.Fmt.{decimal}

-- how many rounds, from 1 to 100, and a seed below 2 ^ 32, as decimals without leading zeros
pub record AreDemoWords (words : List (List ℕ)) (rounds seed : ℕ) : Type 0 where
  pub are : words ≡ codes "demo" ∷ decimal rounds ∷ decimal seed ∷ []
  pub some : 1 ≤ rounds
  pub few : rounds ≤ 100
  pub small : seed < 2 ^ 32

-- the words ask for some demo
abbrev pub AskForDemo : List (List ℕ) → Type 0
AskForDemo words = (rounds : ℕ) × (seed : ℕ) × AreDemoWords words rounds seed
