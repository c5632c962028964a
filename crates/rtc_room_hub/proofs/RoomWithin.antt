-- The sizes of the pairs of a room.
use Rattle.std.proofs.Common.{◌≡◌, ◌+◌, ◌≤◌, ◌<◌, ◌^◌, ◌++◌, ℕ, zero, suc, List, [], ◌∷◌, Some, None, subst, arith}
use Rattle.std.specs.Prelude.{slice_get, slice_set}
use Rattle.rtc_run.specs.ProgramPair.{PlainPairState}
use Rattle.rtc_room_laws.specs.RoomSizes.{AreWithin, HaveRoom, room_size, room_step_size}
use Rattle.rtc_room_laws.specs.declared.room_step.RoomStep.{RoomStep}

pub within_at : (most k : ℕ) (pairs : List PlainPairState) (pair : PlainPairState) → AreWithin most pairs → slice_get pairs k ≡ Some pair → pair.size ≤ most
within_at most k [] pair h there = absurd (let bad : None ≡ Some pair = there in cc)
within_at most zero (first ∷ pairs) pair h there =
    let one : Some first ≡ Some pair = there in
    let same : first ≡ pair = cc in
    subst (λ (p : PlainPairState). p.size ≤ most) same h.0
within_at most (suc k) (first ∷ pairs) pair h there = within_at most k pairs pair h.1 there

pub within_more : (most more : ℕ) (pairs : List PlainPairState) → most ≤ more → AreWithin most pairs → AreWithin more pairs
within_more most more [] small h = tt
within_more most more (pair ∷ pairs) small h = (omega (arith, h.0, small), within_more most more pairs small h.1)

pub within_set : (most k : ℕ) (pairs : List PlainPairState) (pair : PlainPairState) → AreWithin most pairs → pair.size ≤ most → AreWithin most (slice_set pairs k pair)
within_set most k [] pair h small = tt
within_set most zero (first ∷ pairs) pair h small = (small, h.1)
within_set most (suc k) (first ∷ pairs) pair h small = (h.0, within_set most k pairs pair h.1 small)

pub within_append : (most : ℕ) (pairs : List PlainPairState) (pair : PlainPairState) → AreWithin most pairs → pair.size ≤ most → AreWithin most (pairs ++ pair ∷ [])
within_append most [] pair h small = (small, tt)
within_append most (first ∷ pairs) pair h small = (h.0, within_append most pairs pair h.1 small)

pub have_room : (most size : ℕ) (pairs : List PlainPairState) → AreWithin most pairs → most + size < 2 ^ 32 → HaveRoom size pairs
have_room most size [] h small = tt
have_room most size (pair ∷ pairs) h small = (omega (arith, h.0, small), have_room most size pairs h.1 small)

pub size_append : (steps : List RoomStep) (step : RoomStep) → room_size (steps ++ step ∷ []) ≡ room_size steps + room_step_size step
size_append [] step = omega arith
size_append (first ∷ steps) step = omega (arith, size_append steps step)
