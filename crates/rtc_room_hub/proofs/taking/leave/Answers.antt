use Rattle.rtc_room_hub.proofs.TakenSteps.{leaves, on_away}
use Rattle.rtc_room_hub.proofs.taking.leave.Goals as goal

pub returns-in-None : goal.returns-in-None
returns-in-None c = on_away c.args.number _ c.args.members.now c.args.pairs.now c.in-None.ensures

pub returns-in-Some : goal.returns-in-Some
returns-in-Some c = leaves c.args.number c.in-Some.k c.args.members.now c.leave_at.new.members c.args.pairs.now c.in-Some.ensures c.leave_at.ensures
