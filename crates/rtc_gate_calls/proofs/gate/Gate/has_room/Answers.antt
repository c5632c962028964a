use Rattle.std.proofs.Common.{◌^◌, sym, subst, List}
use Rattle.rtc_gate_calls.specs.GateState.{ConnectionState}
use Rattle.rtc_gate_calls.specs.Gate.{AreNumbered}
use Rattle.rtc_gate_calls.proofs.GateLemmas.{numbered_below}
use Rattle.rtc_gate_calls.proofs.gate.Gate.has_room.Goals as goal

pub room_for-requires : goal.room_for-requires
room_for-requires c = subst (λ (cs : List ConnectionState). AreNumbered 0 cs (2 ^ 32)) (sym c.as_slice.ensures.value) (numbered_below 0 c.self.inside.joined (2 ^ 32) c.self.inside.connections.items c.self.invariant.few c.self.invariant.numbered)
