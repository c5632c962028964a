use Rattle.std.proofs.Common.{rules, arith, ◌≤◌, length}
use Rattle.std.proofs.lemmas.Bool.Decides.{nat_tests}
use Rattle.rtc_gate_calls.proofs.RunLemmas.{run_has_room, run_goes_on, run_ends}
use Rattle.rtc_gate_calls.proofs.running.run_calls.Goals as goal

pub perform-reply-requires : goal.perform-reply-requires
perform-reply-requires c = run_has_room c.args.calls.now c.loop-call.call-index c.call-item.result c.call-item.result c.loop-call.replies.items c.loop-call.gate (search rules) (search rules) c.requires.sizes c.loop-call.invariant

pub loop-call-preserved : goal.loop-call-preserved
loop-call-preserved c =
    run_goes_on c.args.calls.now c.loop-call.call-index c.call-item.result c.call-item.result c.loop-call.replies.items c.push.new.self.items c.perform-reply.result c.loop-call.gate c.perform-reply.new.gate
    c.loop-call-test.true (search rules) (search rules) c.perform-reply.ensures.reply c.perform-reply.ensures.left c.in_ok-push.ensures.items c.loop-call.invariant

pub returns : goal.returns
returns c = run_ends c.args.calls.now c.loop-call.call-index c.new.result c.loop-call.gate (let over : length c.args.calls.now ≤ c.loop-call.call-index = grind (arith, nat_tests, c.loop-call-test.false) in over) (search rules)
