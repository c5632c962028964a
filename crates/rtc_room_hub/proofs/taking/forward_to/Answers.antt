use Rattle.rtc_room_laws.specs.declared.room_step.RoomStep.TheVariants.{Forward}
use Rattle.rtc_room_laws.specs.Members.{is_here}
use Rattle.rtc_room_hub.proofs.TakenSteps.{on_away, on_here, place_here}
use Rattle.rtc_room_hub.proofs.taking.forward_to.Goals as goal

pub forward_at-requires-clause-place : goal.forward_at-requires-clause-place
forward_at-requires-clause-place c = place_here c.args.number c.in-Some.k c.args.members.now c.in-Some.ensures

pub returns-in-None : goal.returns-in-None
returns-in-None c = on_away c.args.number _ c.args.members.now c.args.pairs.now c.in-None.ensures

pub returns-in-Some : goal.returns-in-Some
returns-in-Some c =
    on_here (is_here c.args.number c.args.members.now) c.args.number c.in-Some.k (λ n. Forward n) c.forward_at.result c.args.members.now c.forward_at.new.members
    c.args.pairs.now c.forward_at.new.pairs c.in-Some.ensures c.forward_at.ensures
