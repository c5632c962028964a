-- The place at which the lines behind a header stop being lines of calls.
use Rattle.std.specs.Prelude.{ℕ, List}
use Rattle.rtc_gate.specs.GateScript.{StopsAt}
use Rattle.rtc_gate.specs.declared.call_lines.LinesError.{LinesError}
use Rattle.rtc_gate.specs.declared.call_lines.LinesError.TheVariants.{NotCall, Alloc}

abbrev pub IsLinesError : List (List ℕ) → LinesError → Type 0
IsLinesError lines (NotCall place) = StopsAt lines place
IsLinesError lines Alloc = Unit {0}
