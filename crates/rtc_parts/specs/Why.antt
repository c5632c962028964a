-- Why a part changed with nothing given, taken, written, read or reported.
use Rattle.std.specs.Prelude.{ℕ}

pub data Why : Type 0 where
  Timed : (now : ℕ) → Why
  Shut : Why
  Other : Why
