-- A text behind which a program ends, and what it says of what a source had left.
use Rattle.std.specs.Prelude.{◌≡◌, ℕ, List, Option, Some, None, ◌⊎◌}
use Rattle.std.specs.Io.KnownBytes.{Appends}
use Rattle.rtc_io.specs.Faults.{Rose}
use Rattle.rtc_io.specs.Writing.{AppendsFront}

-- A text was written and this is the status; or the sink failed behind a front of it, and the status is 5.
abbrev pub Says : ℕ → List ℕ → Option (List ℕ) → Option (List ℕ) → ℕ → ℕ → ℕ → Type 0
Says status text written written' faults faults' result =
    ((result ≡ status) × Appends written written' text) ⊎ ((result ≡ 5) × Rose faults faults' × AppendsFront written written' text)

-- a fact of what a source had left, if it reports that
abbrev pub IfTold : Option (List ℕ) → (List ℕ → Type 0) → Type 0
IfTold None P = Unit {0}
IfTold (Some text) P = P text

-- The sink failed behind a front of a text that was due.
pub record BreaksOff (IsDue : List ℕ → Type 0) (written written' : Option (List ℕ)) (faults faults' : ℕ) : Type 0 where
  pub text : List ℕ
  pub due : IsDue text
  pub front : AppendsFront written written' text
  pub rose : Rose faults faults'
