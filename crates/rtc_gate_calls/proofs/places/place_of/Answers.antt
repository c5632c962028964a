use Rattle.std.proofs.Common.{◌≡◌, ◌+◌, ◌-◌, ◌/◌, ◌^◌, ℕ, Some, arith}
use Rattle.std.specs.Prelude.{slice_get}
use Rattle.rtc_gate_calls.proofs.ConnectionLemmas.{get_here, smaller_before, greater_behind, nobody_between}
use Rattle.rtc_gate_calls.proofs.places.place_of.Goals as goal

pub loop-low-preserved-then-there-number-2 : goal.loop-low-preserved-then-there-number-2
loop-low-preserved-then-there-number-2 c =
    let middle : ℕ = c.loop-low.low + (c.loop-low.high - c.loop-low.low) / 2 in
    let there : slice_get c.args.connections.now middle ≡ Some c.index-connections-middle.result = get_here _ middle _ (omega arith) c.index-connections-middle.is in
    (omega arith, c.loop-low.invariant.1, smaller_before (2 ^ 32) _ middle _ _ c.requires there (omega (arith, c.number-there.ensures)), c.loop-low.invariant.3)

pub loop-low-preserved : goal.loop-low-preserved
loop-low-preserved c =
    let middle : ℕ = c.loop-low.low + (c.loop-low.high - c.loop-low.low) / 2 in
    let there : slice_get c.args.connections.now middle ≡ Some c.index-connections-middle.result = get_here _ middle _ (omega arith) c.index-connections-middle.is in
    (omega arith, omega arith, c.loop-low.invariant.2, greater_behind (2 ^ 32) _ middle _ _ c.requires there (omega (arith, c.number-there.ensures)))

pub returns-clause-none : goal.returns-clause-none
returns-clause-none c = nobody_between _ c.loop-low.low c.loop-low.high _ c.loop-low-test.false c.loop-low.invariant.2 c.loop-low.invariant.3
