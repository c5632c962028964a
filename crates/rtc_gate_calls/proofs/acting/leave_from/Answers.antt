use Rattle.std.proofs.Common.{◌≡◌, ◌<◌, ◌^◌, ◌∙◌, sym, subst, length, List, None, arith}
use Rattle.std.specs.Prelude.{slice_get, IsSomeAnd}
use Rattle.rtc_gate_calls.specs.GateState.{ConnectionState, connection_numbered}
use Rattle.rtc_gate_calls.proofs.ConnectionLemmas.{place_within}
use Rattle.rtc_gate_calls.proofs.GateLemmas.{nobody_filtered, removed_is, found_at}
use Rattle.rtc_gate_calls.proofs.acting.leave_from.Goals as goal

pub returns-in_default-clause-left : goal.returns-in_default-clause-left
returns-in_default-clause-left c = sym (nobody_filtered c.args.conn c.args.connections.now.items (subst (λ (cs : List ConnectionState). connection_numbered cs c.args.conn ≡ None) c.as_slice.ensures.value c.in_default.ensures.none))

pub take_out-name-requires : goal.take_out-name-requires
take_out-name-requires c =
    let within : c.in-Some.place < length c.as_slice.result.now = place_within c.as_slice.result.now c.in-Some.place (λ d. d.number ≡ c.args.conn) c.in-Some.ensures.some in
    omega (arith, c.as_slice.ensures.len)

pub returns-clause-name : goal.returns-clause-name
returns-clause-name c =
    let some : IsSomeAnd (slice_get c.args.connections.now.items c.in-Some.place) (λ d. d.number ≡ c.args.conn) = subst (λ (cs : List ConnectionState). IsSomeAnd (slice_get cs c.in-Some.place) (λ d. d.number ≡ c.args.conn)) c.as_slice.ensures.value c.in-Some.ensures.some in
    let f = found_at c.args.connections.now.items c.in-Some.place c.args.conn (2 ^ 32) c.requires some in
    (f.0, f.2, sym (c.take_out-name.ensures.name f.0 f.1))

pub returns-clause-left : goal.returns-clause-left
returns-clause-left c =
    let some : IsSomeAnd (slice_get c.args.connections.now.items c.in-Some.place) (λ d. d.number ≡ c.args.conn) = subst (λ (cs : List ConnectionState). IsSomeAnd (slice_get cs c.in-Some.place) (λ d. d.number ≡ c.args.conn)) c.as_slice.ensures.value c.in-Some.ensures.some in
    let f = found_at c.args.connections.now.items c.in-Some.place c.args.conn (2 ^ 32) c.requires some in
    c.take_out-name.ensures.left ∙ removed_is c.args.conn 0 (2 ^ 32) c.args.connections.now.items c.in-Some.place f.0 c.requires f.1 f.3
