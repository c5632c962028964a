use Rattle.std.proofs.Common.{◌≡◌, ◌+◌, ◌<◌, ◌^◌, ◌∙◌, ap, sym, subst, length, Option, arith}
use Rattle.std.specs.Prelude.{IfSome}
use Rattle.std.proofs.lemmas.Bool.Decides.{nat_tests}
use Rattle.rtc_gate_calls.specs.GateState.{ConnectionState}
use Rattle.rtc_gate_calls.proofs.ConnectionLemmas.{got}
use Rattle.rtc_gate_calls.proofs.GateLemmas.{found_at}
use Rattle.rtc_gate_calls.proofs.acting.room_for.Goals as goal

pub returns-then-kept-left : goal.returns-then-kept-left
returns-then-kept-left c = λ holds.
    let f = found_at c.args.connections.now c.in-Some.place c.args.conn (2 ^ 32) c.requires c.in-Some.ensures.some in
    let one = c.index-connections-place.is ∙ got c.args.connections.now c.in-Some.place f.0 c.index-connections-place.result f.1 in
    let done : c.done-left.result ≡ f.0.incoming.done = c.done-left.ensures ∙ ap (λ (d : ConnectionState). d.incoming.done) one in
    let kept : length c.kept.result.now ≡ length f.0.incoming.kept = ap length c.kept.ensures ∙ ap (λ (d : ConnectionState). length d.incoming.kept) one in
    let room : f.0.incoming.done + length f.0.incoming.kept + c.args.count < 2 ^ 64 = grind (arith, nat_tests, holds, done, kept) in
    subst (λ (o : Option ConnectionState). IfSome o (λ d. d.incoming.done + length d.incoming.kept + c.args.count < 2 ^ 64)) (sym f.2) room
