use Rattle.std.proofs.Common.{◌∙◌, ap, length}
use Rattle.rtc_room.proofs.RoomCounts.{as_many}
use Rattle.rtc_room.proofs.top.perform_steps.Goals as goal

pub write_room_report-requires : goal.write_room_report-requires
write_room_report-requires g c = ap length c.as_slice.ensures.value ∙ as_many c.args.alloc c.args.steps.now c.in-Ok.replies.items c.run_room.new.pairs.items c.in-Ok.ensures.runs
