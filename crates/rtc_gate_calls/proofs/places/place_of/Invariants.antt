use Rattle.std.proofs.Common.{◌≡◌, ℕ, ◌-◌, ◌<◌, ◌≤◌, length, Some}
use Rattle.std.specs.Prelude.{slice_get}
use Rattle.rtc_gate_calls.specs.GateState.{ConnectionState}
use Rattle.rtc_gate_calls.proofs.places.place_of.Given as goal

-- what stands before the range has a smaller number, what behind it a greater one
abbrev pub invariant-loop-low : goal.invariant-loop-low
invariant-loop-low l =
    (l.low ≤ l.high) × (l.high ≤ length l.connections)
    × ((i : ℕ) (c : ConnectionState) → i < l.low → slice_get l.connections i ≡ Some c → c.number < l.number)
    × ((i : ℕ) (c : ConnectionState) → l.high ≤ i → slice_get l.connections i ≡ Some c → l.number < c.number)

abbrev pub decreases-loop-low : goal.decreases-loop-low
decreases-loop-low l = l.high - l.low
