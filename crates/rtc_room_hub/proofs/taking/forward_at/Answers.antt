use Rattle.std.proofs.Common.{arith}
use Rattle.rtc_room_hub.proofs.TakenSteps.{forwards_takes}
use Rattle.rtc_room_hub.proofs.taking.forward_at.Goals as goal

pub returns : goal.returns
returns c =
    forwards_takes c.args.k c.forward.result c.args.members.now c.args.pairs.now c.index-members-k.result c.forward.new.member c.index-pairs-k.result c.forward.new.pair
    c.requires.place (omega (arith, c.requires.place, c.requires.same)) c.forward.ensures
