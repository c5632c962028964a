-- The words of the command line: `run`, and how many records the receiver takes in each session.
use Rattle.std.specs.Prelude.{ℕ, ◌≡◌, ◌<◌, ◌≤◌, ◌^◌, List, ◌∷◌, length, map, codes, All, String, string_bytes}
use Rattle.std.specs.Fmt.{decimal}

-- the bytes of each word
abbrev pub bytes_of_words : {Z : Type 0} → List (String Z) → List (List ℕ)
bytes_of_words words = map (λ word. string_bytes word) words

-- the words are the decimals of these sizes, which are below 2 ^ 32
pub record AreSizes (words : List (List ℕ)) (sizes : List ℕ) : Type 0 where
  pub decimals : words ≡ map decimal sizes
  pub small : All (λ size. size < 2 ^ 32) sizes

-- the words are `run` and 1 to 1000 sizes
pub record AskFor (words : List (List ℕ)) (sizes : List ℕ) : Type 0 where
  pub rest : List (List ℕ)
  pub run : words ≡ codes "run" ∷ rest
  pub each : AreSizes rest sizes
  pub some : 0 < length rest
  pub most : length rest ≤ 1000

abbrev pub AskForSessions : List (List ℕ) → Type 0
AskForSessions words = (sizes : List ℕ) × AskFor words sizes
