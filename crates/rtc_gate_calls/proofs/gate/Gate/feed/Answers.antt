use Rattle.std.proofs.Common.{◌≡◌, ◌^◌, ◌++◌, ◌∙◌, ap, sym, subst, length, take, drop, List}
use Rattle.rtc_gate_calls.specs.GateState.{ConnectionState, connection_numbered, feed_answer, fed_connections}
use Rattle.rtc_gate_calls.specs.Gate.{AreNumbered, IsKept}
use Rattle.rtc_gate_calls.proofs.GateLemmas.{numbered_below, back_whole}
use Rattle.rtc_gate_calls.proofs.CallLemmas.{kept_fed, length_fed, answered_either}
use Rattle.rtc_gate_calls.proofs.gate.Gate.feed.Goals as goal

pub feed_to-requires-clause-numbered : goal.feed_to-requires-clause-numbered
feed_to-requires-clause-numbered c = subst (λ (cs : List ConnectionState). AreNumbered 0 cs (2 ^ 32)) (sym c.as_mut_slice-connections.ensures.value) (numbered_below 0 c.self.inside.joined (2 ^ 32) c.self.inside.connections.items c.self.invariant.few c.self.invariant.numbered)

pub invariant_of-self : goal.invariant_of-self
invariant_of-self c =
    let items = c.self.inside.connections.items in
    let old = c.as_mut_slice-connections.result.now in
    let count : length items ≡ c.self.inside.connections.len = ap length (sym c.as_mut_slice-connections.ensures.value) ∙ c.as_mut_slice-connections.ensures.len in
    let kept : IsKept c.self.inside.joined c.self.inside.names old = subst (λ (cs : List ConnectionState). IsKept c.self.inside.joined c.self.inside.names cs) (sym c.as_mut_slice-connections.ensures.value) c.self.invariant in
    let P : List ConnectionState → Type 0 = λ (cs : List ConnectionState). IsKept c.self.inside.joined c.self.inside.names (take c.self.inside.connections.len (cs ++ drop (length cs) items)) in
    let whole = λ (cs : List ConnectionState) (same : length cs ≡ length items) (k : IsKept c.self.inside.joined c.self.inside.names cs). subst (λ (ds : List ConnectionState). IsKept c.self.inside.joined c.self.inside.names ds) (sym (back_whole c.self.inside.connections.len cs items same count)) k in
    let sender = connection_numbered old c.args.conn in
    answered_either c.feed_to.result (feed_answer sender c.args.piece.now) old c.feed_to.new.connections (fed_connections sender old c.args.piece.now) P
    (whole old (ap length c.as_mut_slice-connections.ensures.value) kept)
    (whole (fed_connections sender old c.args.piece.now) (length_fed sender old c.args.piece.now ∙ ap length c.as_mut_slice-connections.ensures.value) (kept_fed c.self.inside.joined c.self.inside.names sender old c.args.piece.now kept))
    c.feed_to.ensures
