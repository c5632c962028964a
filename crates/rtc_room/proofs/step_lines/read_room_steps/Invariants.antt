use Rattle.std.proofs.Common.{take, map}
use Rattle.rtc_room.specs.RoomScript.{HaveRoomLines}
use Rattle.rtc_room.proofs.step_lines.read_room_steps.Given as goal

-- the lines so far are those of the steps so far
abbrev pub invariant-loop-i : goal.invariant-loop-i
invariant-loop-i l = HaveRoomLines (take l.i (map (λ line. line.now) l.lines)) l.steps.items
