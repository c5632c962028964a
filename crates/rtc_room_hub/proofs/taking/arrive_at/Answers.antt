use Rattle.std.proofs.Common.{rules}
use Rattle.rtc_room_hub.proofs.TakenSteps.{refuses_datagram, takes_datagram}
use Rattle.rtc_room_hub.proofs.taking.arrive_at.Goals as goal

pub returns-then-not-is_for : goal.returns-then-not-is_for
returns-then-not-is_for c =
    refuses_datagram c.args.k c.args.packet c.args.now c.addressee_of-found.result c.args.members.now c.args.pairs.now c.addressee_of-found.ensures (search rules)

pub returns : goal.returns
returns c =
    takes_datagram c.args.k c.args.packet c.args.now c.addressee_of-found.result _ c.args.members.now c.perform.new.members c.args.pairs.now c.perform.new.pairs
    c.addressee_of-found.ensures (search rules) c.in_ok-reply.ensures
