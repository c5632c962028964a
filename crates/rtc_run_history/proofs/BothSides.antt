-- What holds of a side and of the other one holds of both.
use Rattle.rtc_run_history.specs.declared.side.Side.{Side}
use Rattle.rtc_run_history.specs.declared.side.Side.TheVariants.{Left, Right}
use Rattle.rtc_run_history.specs.Sides.{other_side}

pub both_sides : (P : Side → Type 0) (at : Side) → P at → P (other_side at) → (side : Side) → P side
both_sides P Left here there Left = here
both_sides P Left here there Right = there
both_sides P Right here there Left = there
both_sides P Right here there Right = here
