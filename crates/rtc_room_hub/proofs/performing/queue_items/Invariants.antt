use Rattle.std.proofs.Common.{◌≡◌, ◌++◌, map, take, drop}
use Rattle.rtc_room_laws.specs.Members.{hearing_member}
use Rattle.rtc_room_hub.proofs.performing.queue_items.Given as goal

-- the members so far have heard the items
abbrev pub invariant-loop-member : goal.invariant-loop-member
invariant-loop-member l =
    l.members ≡ map (hearing_member l.sender l.room l.items) (take l.member-index l.fn.members) ++ drop l.member-index l.fn.members
