-- What the words of the program ask for.
use Rattle.std.specs.Prelude.{◌≢◌, ℕ, List}
use Rattle.rtc_demo.specs.DemoWords.{AskForDemo}
use Rattle.rtc_pair.specs.Answers.{run_words}

-- nothing that the program does
abbrev pub AskForNothing : List (List ℕ) → Type 0
AskForNothing words = (words ≢ run_words) × (AskForDemo words → ⊥)
