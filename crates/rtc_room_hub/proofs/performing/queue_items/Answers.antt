use Rattle.rtc_room_laws.specs.Members.{hearing_member}
use Rattle.rtc_room_hub.proofs.HeardMembers.{mapped_on}
use Rattle.rtc_room_hub.proofs.performing.queue_items.Goals as goal

pub loop-member-preserved : goal.loop-member-preserved
loop-member-preserved c =
    mapped_on (hearing_member c.args.sender c.args.room c.args.items.now) c.args.members.now c.loop-member.members c.loop-member.member-index _ c.hear.new.self
    c.loop-member-test.true c.loop-member.invariant c.in_ok-hear.ensures
