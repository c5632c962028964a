use Rattle.rtc_room_laws.specs.declared.room_step.RoomStep.TheVariants.{Perform}
use Rattle.rtc_room_laws.specs.Members.{is_here}
use Rattle.rtc_room_hub.proofs.TakenSteps.{on_away, on_here, place_here}
use Rattle.rtc_room_hub.proofs.taking.take_step_of_pair.Goals as goal

pub take_step_at-requires-clause-place : goal.take_step_at-requires-clause-place
take_step_at-requires-clause-place c = place_here c.args.number c.in-Some.k c.args.members.now c.in-Some.ensures

pub returns-in-None : goal.returns-in-None
returns-in-None c = on_away c.args.number _ c.args.members.now c.args.pairs.now c.in-None.ensures

pub returns-in-Some : goal.returns-in-Some
returns-in-Some c =
    on_here (is_here c.args.number c.args.members.now) c.args.number c.in-Some.k (λ n. Perform n c.args.step.now) c.take_step_at.result c.args.members.now c.take_step_at.new.members
    c.args.pairs.now c.take_step_at.new.pairs c.in-Some.ensures c.take_step_at.ensures
