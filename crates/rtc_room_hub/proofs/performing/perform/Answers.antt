use Rattle.rtc_room_hub.proofs.PerformedHere.{performed_here}
use Rattle.rtc_room_hub.proofs.performing.perform.Goals as goal

pub returns : goal.returns
returns c = (
  c.in_ok-reply.ensures.0,
  performed_here c.args.k c.args.step.now c.side-side.result _ c.args.members.now c.hear_reply.new.members c.args.pairs.now _ c.in_ok-reply.ensures.0 c.index-pairs-k.result
      c.in_ok-reply.ensures.1 c.requires.place c.requires.same c.side-side.ensures c.in_ok-hear_reply.ensures,
)
