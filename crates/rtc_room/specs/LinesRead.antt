-- The place at which the lines behind a header stop being lines of steps.
use Rattle.std.specs.Prelude.{ℕ, List}
use Rattle.rtc_room.specs.RoomScript.{StopsAtRoomLine}
use Rattle.rtc_room.specs.declared.step_lines.LinesError.{LinesError}
use Rattle.rtc_room.specs.declared.step_lines.LinesError.TheVariants.{NotStep, Alloc}

abbrev pub IsRoomLinesError : List (List ℕ) → LinesError → Type 0
IsRoomLinesError lines (NotStep place) = StopsAtRoomLine lines place
IsRoomLinesError lines Alloc = Unit {0}
