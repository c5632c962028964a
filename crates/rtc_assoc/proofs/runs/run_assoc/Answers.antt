use Rattle.std.proofs.Common.{sym, subst, take, List, ◌+◌, true, false, arith}
use Rattle.rtc_assoc.specs.declared.assoc_reply.AssocReply.{AssocReply}
use Rattle.rtc_assoc.specs.Steps.{Ran, World, first_world}
use Rattle.rtc_assoc.proofs.WorldLemmas.{ran_next, ran_all, one_way_left, one_way_right, told_once}
use Rattle.rtc_assoc.proofs.runs.run_assoc.Goals as goal

pub loop-step-preserved : goal.loop-step-preserved
loop-step-preserved c = record {
  ran = subst (λ (l : List AssocReply). Ran (take (c.loop-step.step-index + 1) c.args.steps.now) l (first_world c.args.max_payload) (record { left = c.perform.new.left; right = c.perform.new.right; packets = c.perform.new.packets.items })) (sym c.in_ok-add.ensures)
      (ran_next c.args.steps.now c.loop-step.replies.items c.loop-step.step-index (first_world c.args.max_payload)
      (record { left = c.loop-step.left; right = c.loop-step.right; packets = c.loop-step.packets.items })
      (record { left = c.perform.new.left; right = c.perform.new.right; packets = c.perform.new.packets.items })
      c.step-item.result c.in_ok-reply.reply c.loop-step-test.true c.step-item.is c.loop-step.invariant.ran c.in_ok-reply.ensures.steps);
  few = omega (arith, c.loop-step.invariant.few, c.in_ok-reply.ensures.few);
}

pub returns-clause-from_left : goal.returns-clause-from_left
returns-clause-from_left c =
    let w : World = record { left = c.loop-step.left; right = c.loop-step.right; packets = c.loop-step.packets.items } in
    one_way_left c.args.max_payload c.args.steps.now c.loop-step.replies.items w (ran_all c.args.steps.now c.loop-step.replies.items c.loop-step.step-index (first_world c.args.max_payload) w (omega arith) c.loop-step.invariant.ran)

pub returns-clause-from_right : goal.returns-clause-from_right
returns-clause-from_right c =
    let w : World = record { left = c.loop-step.left; right = c.loop-step.right; packets = c.loop-step.packets.items } in
    one_way_right c.args.max_payload c.args.steps.now c.loop-step.replies.items w (ran_all c.args.steps.now c.loop-step.replies.items c.loop-step.step-index (first_world c.args.max_payload) w (omega arith) c.loop-step.invariant.ran)

pub returns-clause-told_left : goal.returns-clause-told_left
returns-clause-told_left c =
    let w : World = record { left = c.loop-step.left; right = c.loop-step.right; packets = c.loop-step.packets.items } in
    told_once true c.args.max_payload c.args.steps.now c.loop-step.replies.items w (ran_all c.args.steps.now c.loop-step.replies.items c.loop-step.step-index (first_world c.args.max_payload) w (omega arith) c.loop-step.invariant.ran)

pub returns-clause-told_right : goal.returns-clause-told_right
returns-clause-told_right c =
    let w : World = record { left = c.loop-step.left; right = c.loop-step.right; packets = c.loop-step.packets.items } in
    told_once false c.args.max_payload c.args.steps.now c.loop-step.replies.items w (ran_all c.args.steps.now c.loop-step.replies.items c.loop-step.step-index (first_world c.args.max_payload) w (omega arith) c.loop-step.invariant.ran)
