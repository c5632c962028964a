use Rattle.std.proofs.Common.{◌≡◌, ◌+◌, ◌<◌, ◌≤◌, ◌++◌, ◌∷◌, [], ◌∙◌, ℕ, ap, sym, subst, length, List, None, arith}
use Rattle.std.specs.Prelude.{Ok, Err}
use Rattle.rtc_gate_calls.specs.GateState.{ConnectionState, GateState, fresh_connection, roster_of, after_join}
use Rattle.rtc_gate_calls.specs.Routing.{number_named, join_answer}
use Rattle.rtc_gate_calls.specs.Gate.{IsKept}
use Rattle.rtc_gate_calls.specs.declared.gate_error.GateError.TheVariants.{Full}
use Rattle.rtc_gate_calls.proofs.CallLemmas.{read_token, none_from, kept_join, join_full, join_next, join_left, join_refused}
use Rattle.rtc_gate_calls.proofs.gate.Gate.join.Goals as goal

pub returns-then-len-ge-CONNECTION_LIMIT : goal.returns-then-len-ge-CONNECTION_LIMIT
returns-then-len-ge-CONNECTION_LIMIT c =
    let items = c.self.inside.connections.items in
    let joined = c.self.inside.joined in
    let token = read_token c.args.name.now c.in-Some.name c.in-Some.ensures in
    let free = none_from _ (sym c.contains_key.ensures ∙ c.if-contains_key.false) in
    let nobody : number_named (roster_of items) c.args.name.now ≡ None = subst (λ (n : List ℕ). number_named (roster_of items) n ≡ None) token.1 (sym (c.self.invariant.index c.in-Some.name) ∙ free) in
    let many : 1024 ≤ length items = grind (arith, c.len.ensures, c.if-len-ge-CONNECTION_LIMIT.true) in
    let answer : join_answer joined (roster_of items) c.args.name.now ≡ Err Full = join_full joined items c.args.name.now token.0 nobody many in
    let P : GateState → Type 0 = λ (g : GateState). (join_answer g.joined (roster_of g.connections) c.args.name.now ≡ Err Full) × (g ≡ after_join g c.args.name.now) in
    subst P c.self.view_is (answer, sym (join_refused joined items c.args.name.now Full answer))

pub invariant_of-self-in-Ok : goal.invariant_of-self-in-Ok
invariant_of-self-in-Ok c =
    let items = c.self.inside.connections.items in
    let free = none_from _ (sym c.contains_key.ensures ∙ c.if-contains_key.false) in
    let grown : c.push.new.self.items ≡ items ++ fresh_connection c.self.inside.joined c.in-Some.name ∷ [] = c.in_ok-push.ensures.items ∙ ap (λ (d : ConnectionState). items ++ d ∷ []) c.new.ensures in
    subst (λ (cs : List ConnectionState). IsKept (c.self.inside.joined + 1) c.insert.new.self cs) (sym grown) (kept_join c.self.inside.joined c.self.inside.names c.insert.new.self items c.in-Some.name c.self.invariant (omega (arith, ap (λ (g : GateState). g.joined) c.self.view_is)) free c.in-Ok.ensures.updates.0)

pub returns-in-Ok : goal.returns-in-Ok
returns-in-Ok c =
    let items = c.self.inside.connections.items in
    let joined = c.self.inside.joined in
    let token = read_token c.args.name.now c.in-Some.name c.in-Some.ensures in
    let free = none_from _ (sym c.contains_key.ensures ∙ c.if-contains_key.false) in
    let nobody : number_named (roster_of items) c.args.name.now ≡ None = subst (λ (n : List ℕ). number_named (roster_of items) n ≡ None) token.1 (sym (c.self.invariant.index c.in-Some.name) ∙ free) in
    let few : length items < 1024 = grind (arith, c.len.ensures, c.if-len-ge-CONNECTION_LIMIT.false) in
    let answer : join_answer joined (roster_of items) c.args.name.now ≡ Ok joined = join_next joined items c.args.name.now token.0 nobody few in
    let grown : c.push.new.self.items ≡ items ++ fresh_connection joined c.args.name.now ∷ [] = c.in_ok-push.ensures.items ∙ ap (λ (d : ConnectionState). items ++ d ∷ []) c.new.ensures ∙ ap (λ (n : List ℕ). items ++ fresh_connection joined n ∷ []) token.1 in
    let left : List ConnectionState → GateState = λ (cs : List ConnectionState). record { joined = joined + 1; connections = cs } in
    let P : GateState → Type 0 = λ (g : GateState). (join_answer g.joined (roster_of g.connections) c.args.name.now ≡ Ok joined) × (left c.push.new.self.items ≡ after_join g c.args.name.now) in
    subst P c.self.view_is (answer, ap left grown ∙ sym (join_left joined items c.args.name.now answer))
