-- The sizes of the steps of rooms.
use Rattle.std.proofs.Common.{◌≤◌, ◌<◌, ◌≡◌, ◌+◌, ◌*◌, ◌^◌, List, [], ◌∷◌, ◌++◌, length, length-append, arith}
use Rattle.rtc_room_laws.specs.declared.room_step.RoomStep.{RoomStep}
use Rattle.rtc_room_laws.specs.RoomSizes.{room_size, room_step_size}

room_size-append : (steps : List RoomStep) (step : RoomStep) → room_size (steps ++ step ∷ []) ≡ room_size steps + room_step_size step
room_size-append [] step = omega arith
room_size-append (first ∷ steps) step = omega (arith, room_size-append steps step)

pub pushed_is_small : (steps : List RoomStep) (step : RoomStep) → room_size steps ≤ 1024 * length steps → room_step_size step ≤ 1024
    → room_size (steps ++ step ∷ []) ≤ 1024 * length (steps ++ step ∷ [])
pushed_is_small steps step small few = omega (arith, small, few, room_size-append steps step, length-append steps (step ∷ []))

pub course_is_small : (steps : List RoomStep) → room_size steps ≤ 1024 * length steps → length steps ≤ 1000000
    → room_size steps < 2 ^ 32
course_is_small steps small few = omega (arith, small, few)
