use Rattle.std.proofs.Common.{arith, rules}
use Rattle.rtc_room_laws.proofs.HandsOnLaw.{hands_on}
use Rattle.rtc_room_hub.proofs.RoomSoFar.{next_has_room, room_runs, so_far_begins, so_far_next}
use Rattle.rtc_room_hub.proofs.running.run_room.Goals as goal

pub loop-step-init : goal.loop-step-init
loop-step-init c =
    record {
      so_far = so_far_begins c.args.alloc _ _ _ _ (search rules) (search rules) (search rules) (search rules);
      count = search rules;
      room = search rules;
    }

pub take_step-requires-clause-same : goal.take_step-requires-clause-same
take_step-requires-clause-same c = c.loop-step.invariant.so_far.same

pub take_step-requires-clause-few : goal.take_step-requires-clause-few
take_step-requires-clause-few c = omega (arith, c.loop-step.invariant.so_far.same, c.loop-step.invariant.so_far.few)

pub take_step-requires-clause-size : goal.take_step-requires-clause-size
take_step-requires-clause-size c =
    next_has_room c.args.alloc c.args.steps.now c.loop-step.step-index c.step-item.result c.loop-step.replies.items c.loop-step.members.items c.loop-step.pairs.items
    c.loop-step-test.true c.step-item.is c.requires.sizes c.loop-step.invariant.so_far

pub loop-step-preserved : goal.loop-step-preserved
loop-step-preserved c =
    record {
      so_far = so_far_next c.args.alloc c.args.steps.now c.loop-step.step-index c.step-item.result c.loop-step.replies.items c.push_reserved.new.self.items _
          c.loop-step.members.items c.take_step.new.members.items c.loop-step.pairs.items c.take_step.new.pairs.items c.loop-step-test.true c.step-item.is
          c.requires.sizes c.loop-step.invariant.so_far c.in_ok-reply.ensures c.push_reserved.ensures.items;
      count = search rules;
      room = search rules;
    }

pub returns-clause-hands_on : goal.returns-clause-hands_on
returns-clause-hands_on c = λ run. hands_on c.args.alloc c.args.steps.now _ _ run

pub returns-clause-runs : goal.returns-clause-runs
returns-clause-runs c =
    room_runs c.args.alloc c.args.steps.now c.loop-step.step-index c.loop-step.replies.items _ c.loop-step.members.items c.loop-step.pairs.items (search rules) (search rules)
    c.loop-step.invariant.so_far
