use Rattle.rtc_room_hub.proofs.TakenSteps.{takes_join}
use Rattle.rtc_room_hub.proofs.taking.take_step.Goals as goal

pub returns-in-Join : goal.returns-in-Join
returns-in-Join c = takes_join c.args.alloc c.in-Join.room c.args.step.now c.join.result _ _ c.in-Join.is c.join.ensures
