use Rattle.std.proofs.Common.{rules}
use Rattle.rtc_room_hub.proofs.TakenSteps.{joined}
use Rattle.rtc_room_hub.proofs.taking.join.Goals as goal

pub returns : goal.returns
returns c =
    joined c.args.alloc c.args.room _ c.args.members.now.items c.push.new.self.items c.args.pairs.now.items c.push-2.new.self.items c.new.result c.in_ok-pair.pair
    (search rules) (search rules) c.in_ok-pair.ensures.state c.in_ok-pair.ensures.fresh c.in_ok-pair.ensures.formed c.new.ensures c.in_ok-push.ensures.items c.in_ok-push-2.ensures.items
