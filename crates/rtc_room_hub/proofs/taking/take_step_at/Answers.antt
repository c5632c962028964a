use Rattle.std.proofs.Common.{rules}
use Rattle.rtc_room_hub.proofs.TakenSteps.{refuses_step, takes_step}
use Rattle.rtc_room_hub.proofs.taking.take_step_at.Goals as goal

pub returns-then-not-is_allowed : goal.returns-then-not-is_allowed
returns-then-not-is_allowed c = refuses_step c.args.k c.args.step.now c.is_allowed.result c.args.members.now c.args.pairs.now c.is_allowed.ensures (search rules)

pub returns : goal.returns
returns c =
    takes_step c.args.k c.args.step.now c.is_allowed.result _ c.args.members.now c.perform.new.members c.args.pairs.now c.perform.new.pairs c.is_allowed.ensures (search rules)
    c.in_ok-reply.ensures
