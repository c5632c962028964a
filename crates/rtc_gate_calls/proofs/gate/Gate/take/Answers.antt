use Rattle.std.proofs.Common.{◌≡◌, ◌^◌, ◌∙◌, ap, sym, subst, length, map, List}
use Rattle.rtc_gate_calls.specs.GateState.{ConnectionState, without_first}
use Rattle.rtc_gate_calls.specs.Gate.{AreNumbered, IsKept}
use Rattle.rtc_gate_calls.proofs.FeedLemmas.{count_map}
use Rattle.rtc_gate_calls.proofs.GateLemmas.{numbered_below, kept_without, back_whole}
use Rattle.rtc_gate_calls.proofs.gate.Gate.take.Goals as goal

pub take_from-requires : goal.take_from-requires
take_from-requires c = subst (λ (cs : List ConnectionState). AreNumbered 0 cs (2 ^ 32)) (sym c.as_mut_slice.ensures.value) (numbered_below 0 c.self.inside.joined (2 ^ 32) c.self.inside.connections.items c.self.invariant.few c.self.invariant.numbered)

pub invariant_of-self : goal.invariant_of-self
invariant_of-self c =
    let items = c.self.inside.connections.items in
    let new_is : c.take_from.new.connections ≡ map (without_first c.args.conn) items = c.take_from.ensures.left ∙ ap (map (without_first c.args.conn)) c.as_mut_slice.ensures.value in
    let same : length c.take_from.new.connections ≡ length items = ap length new_is ∙ count_map (without_first c.args.conn) items in
    let count : length items ≡ c.self.inside.connections.len = ap length (sym c.as_mut_slice.ensures.value) ∙ c.as_mut_slice.ensures.len in
    subst (λ (cs : List ConnectionState). IsKept c.self.inside.joined c.self.inside.names cs) (sym (back_whole c.self.inside.connections.len c.take_from.new.connections items same count ∙ new_is)) (kept_without c.self.inside.joined c.self.inside.names c.args.conn items c.self.invariant)
