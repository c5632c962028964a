-- Words that are numbers.
use Rattle.std.specs.Prelude.{◌≡◌, ◌<◌, ◌^◌, ℕ, List, map, All}
use Rattle.std.specs.Fmt.{decimal}

-- a decimal without leading zeros for each number, all below 2 ^ 32
abbrev pub AreNumbers : List (List ℕ) → List ℕ → Type 0
AreNumbers found numbers = (found ≡ map decimal numbers) × All (λ n. n < 2 ^ 32) numbers

-- such a number for each, all below 2 ^ 64
abbrev pub AreLongNumbers : List (List ℕ) → List ℕ → Type 0
AreLongNumbers found numbers = (found ≡ map decimal numbers) × All (λ n. n < 2 ^ 64) numbers
