use Rattle.std.proofs.Common.{◌≡◌, ◌++◌, drop}
use Rattle.rtc_room.specs.RoomReport.{room_report, room_report_from}
use Rattle.rtc_room.proofs.replying.write_room_report.Given as goal

-- the lines so far, and those of the replies to come, are the report
abbrev pub invariant-loop-number : goal.invariant-loop-number
invariant-loop-number l = l.out.items ++ room_report_from l.number (drop l.number l.replies) ≡ room_report l.replies
