use Rattle.std.proofs.Common.{◌≡◌, ◌∙◌, ◌^◌, ◌+◌, ◌<◌, ap, sym, subst, length, Option}
use Rattle.std.specs.Prelude.{IsSomeAnd, IfSome}
use Rattle.rtc_gate_calls.specs.GateState.{ConnectionState, IsAnswered, feed_answer, fed_connections}
use Rattle.rtc_gate_calls.proofs.ConnectionLemmas.{got}
use Rattle.rtc_gate_calls.proofs.GateLemmas.{found_at}
use Rattle.rtc_gate_calls.proofs.CallLemmas.{stuck_answer, stuck_fed}
use Rattle.rtc_gate_calls.proofs.feeding.feed_to.Goals as goal

pub returns-then-is_stuck : goal.returns-then-is_stuck
returns-then-is_stuck c =
    let f = found_at c.args.connections.now c.in-Some.place c.args.conn (2 ^ 32) c.requires.numbered c.in-Some.ensures.some in
    let one = got c.args.connections.now c.in-Some.place f.0 c.index-connections-place.result f.1 in
    let stuck = sym (ap (λ (d : ConnectionState). d.incoming.stuck) one) ∙ sym c.is_stuck.ensures ∙ c.if-is_stuck.true in
    let done = c.done.ensures ∙ ap (λ (d : ConnectionState). d.incoming.done) one in (
      ap (λ (o : Option ConnectionState). feed_answer o c.args.piece.now) f.2 ∙ rw done (stuck_answer f.0 c.args.piece.now stuck),
      sym (ap (λ (o : Option ConnectionState). fed_connections o c.args.connections.now c.args.piece.now) f.2 ∙ stuck_fed c.args.connections.now c.in-Some.place c.args.conn (2 ^ 32) f.0 c.args.piece.now c.requires.numbered f.1 stuck),
    )

pub feed_more-requires-clause-room : goal.feed_more-requires-clause-room
feed_more-requires-clause-room c =
    let f = found_at c.args.connections.now c.in-Some.place c.args.conn (2 ^ 32) c.requires.numbered c.in-Some.ensures.some in
    let one = got c.args.connections.now c.in-Some.place f.0 c.index-connections-place.result f.1 in
    let room : f.0.incoming.done + length f.0.incoming.kept + length c.args.piece.now < 2 ^ 64 = subst (λ (o : Option ConnectionState). IfSome o (λ d. d.incoming.done + length d.incoming.kept + length c.args.piece.now < 2 ^ 64)) f.2 c.requires.room in
    let P : Option ConnectionState → Type 0 = λ (o : Option ConnectionState). IsSomeAnd o (λ d. (d.name ≡ c.name.result) × (d.incoming.done + length d.incoming.kept + length c.args.piece.now < 2 ^ 64)) in
    subst P (sym f.1) (sym (c.name.ensures ∙ ap (λ (d : ConnectionState). d.name) one), room)

pub returns : goal.returns
returns c =
    let f = found_at c.args.connections.now c.in-Some.place c.args.conn (2 ^ 32) c.requires.numbered c.in-Some.ensures.some in
    let one = got c.args.connections.now c.in-Some.place f.0 c.index-connections-place.result f.1 in
    let flows = sym (ap (λ (d : ConnectionState). d.incoming.stuck) one) ∙ sym c.is_stuck.ensures ∙ c.if-is_stuck.false in
    subst (λ (o : Option ConnectionState). IsAnswered c.feed_more.result (feed_answer o c.args.piece.now) c.args.connections.now c.feed_more.new.connections (fed_connections o c.args.connections.now c.args.piece.now)) (sym f.2) (c.feed_more.ensures f.0 f.1 flows)
