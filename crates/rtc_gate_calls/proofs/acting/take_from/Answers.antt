use Rattle.std.proofs.Common.{◌≡◌, ◌^◌, ◌∙◌, ap, sym, Some}
use Rattle.rtc_gate_calls.proofs.ConnectionLemmas.{place_within}
use Rattle.rtc_gate_calls.proofs.GateLemmas.{nobody_left, found_at, one_found}
use Rattle.rtc_gate_calls.proofs.acting.take_from.Goals as goal

pub returns-in_default-clause-left : goal.returns-in_default-clause-left
returns-in_default-clause-left c = sym (nobody_left c.args.conn c.args.connections.now c.in_default.ensures.none)

pub returns-clause-answer : goal.returns-clause-answer
returns-clause-answer c = λ conn is.
    let f = found_at c.args.connections.now c.in-Some.place c.args.conn (2 ^ 32) c.requires c.in-Some.ensures.some in
    c.next_at.ensures.frame conn (f.1 ∙ ap Some (one_found c.args.connections.now c.args.conn f.0 conn f.2 is))

pub returns-clause-here : goal.returns-clause-here
returns-clause-here c =
    let f = found_at c.args.connections.now c.in-Some.place c.args.conn (2 ^ 32) c.requires c.in-Some.ensures.some in
    (f.0, f.2)

pub next_at-requires : goal.next_at-requires
next_at-requires c = place_within c.args.connections.now c.in-Some.place (λ d. d.number ≡ c.args.conn) c.in-Some.ensures.some

pub returns-clause-left : goal.returns-clause-left
returns-clause-left c = c.next_at.ensures.left c.args.conn (record { numbered = c.requires; there = c.in-Some.ensures.some })
