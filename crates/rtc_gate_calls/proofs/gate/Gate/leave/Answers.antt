use Rattle.std.proofs.Common.{◌^◌, ◌∙◌, sym, subst, List}
use Rattle.rtc_gate_calls.specs.GateState.{ConnectionState}
use Rattle.rtc_gate_calls.specs.Gate.{IsKept}
use Rattle.rtc_gate_calls.proofs.GateLemmas.{numbered_below, kept_leave, nobody_filtered}
use Rattle.rtc_gate_calls.proofs.gate.Gate.leave.Goals as goal

pub leave_from-requires : goal.leave_from-requires
leave_from-requires c = numbered_below 0 c.self.inside.joined (2 ^ 32) c.self.inside.connections.items c.self.invariant.few c.self.invariant.numbered

pub invariant_of-self : goal.invariant_of-self
invariant_of-self c =
    let left = c.in-Ok.ensures.name in
    subst (λ (cs : List ConnectionState). IsKept c.self.inside.joined c.remove.new.self cs) (sym c.leave_from.ensures.left) (kept_leave c.self.inside.joined c.self.inside.names c.remove.new.self c.args.conn c.self.inside.connections.items left.0 c.in-Ok.name c.self.invariant left.1 left.2 c.remove.ensures.updates.0)

pub invariant_of-self-in-Err : goal.invariant_of-self-in-Err
invariant_of-self-in-Err c = subst (λ (cs : List ConnectionState). IsKept c.self.inside.joined c.self.inside.names cs) (sym (c.leave_from.ensures.left ∙ nobody_filtered c.args.conn c.self.inside.connections.items c.in-Err.ensures.name)) c.self.invariant
