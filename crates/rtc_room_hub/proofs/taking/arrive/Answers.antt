use Rattle.rtc_room_laws.specs.declared.room_step.RoomStep.TheVariants.{Arrive}
use Rattle.rtc_room_laws.specs.Members.{is_here}
use Rattle.rtc_room_hub.proofs.TakenSteps.{on_away, on_here, place_here}
use Rattle.rtc_room_hub.proofs.taking.arrive.Goals as goal

pub arrive_at-requires-clause-place : goal.arrive_at-requires-clause-place
arrive_at-requires-clause-place c = place_here c.args.number c.in-Some.k c.args.members.now c.in-Some.ensures

pub returns-in-None : goal.returns-in-None
returns-in-None c = on_away c.args.number _ c.args.members.now c.args.pairs.now c.in-None.ensures

pub returns-in-Some : goal.returns-in-Some
returns-in-Some c =
    on_here (is_here c.args.number c.args.members.now) c.args.number c.in-Some.k (λ n. Arrive n c.args.packet c.args.now) c.arrive_at.result c.args.members.now c.arrive_at.new.members
    c.args.pairs.now c.arrive_at.new.pairs c.in-Some.ensures c.arrive_at.ensures
