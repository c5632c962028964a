-- The sizes of steps of rooms: how much they can add to the size of a pair.
use Rattle.std.specs.Prelude.{◌+◌, ◌≤◌, ◌<◌, ◌^◌, ℕ, List, [], ◌∷◌}
use Rattle.std.specs.List.{AllByRecursion}
use Rattle.rtc_run_history.specs.Sizes.{step_size}
use Rattle.rtc_run.specs.ProgramPair.{PlainPairState}
use Rattle.rtc_room_laws.specs.declared.room_step.RoomStep.{RoomStep}
use Rattle.rtc_room_laws.specs.declared.room_step.RoomStep.TheVariants.{Join, Leave, Perform, Arrive, Forward}

-- a forward performs at most so many writes
abbrev pub room_step_size : RoomStep → ℕ
room_step_size (Join room) = 1
room_step_size (Leave member) = 1
room_step_size (Perform member step) = step_size step
room_step_size (Arrive member packet now) = 1
room_step_size (Forward member) = 1024

abbrev pub room_size : List RoomStep → ℕ
room_size [] = 0
room_size (step ∷ steps) = room_step_size step + room_size steps

-- no pair has performed steps of a greater size together
abbrev pub AreWithin : (most : ℕ) → List PlainPairState → Type 0
AreWithin most pairs = AllByRecursion (λ pair. pair.size ≤ most) pairs

-- each pair can perform steps of this size more
abbrev pub HaveRoom : (size : ℕ) → List PlainPairState → Type 0
HaveRoom size pairs = AllByRecursion (λ pair. pair.size + size < 2 ^ 32) pairs
