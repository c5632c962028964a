use Rattle.rtc_room.specs.RoomLines.{IsRoomLine}
use Rattle.rtc_room.proofs.StoppedLines.{stops_at_no_step}
use Rattle.rtc_room.proofs.ZipLemmas.{more_zip}
use Rattle.rtc_room.proofs.step_lines.read_room_steps.Goals as goal

pub returns-in_default-clause-err : goal.returns-in_default-clause-err
returns-in_default-clause-err c = stops_at_no_step _ _ _ _ c.loop-i-test.true c.loop-i.invariant (rw c.in_default.is at c.in_ok-step.ensures.none)

pub loop-i-preserved : goal.loop-i-preserved
loop-i-preserved c = rw c.in_ok-push.ensures.items (more_zip IsRoomLine _ _ _ _ c.in-Some.step c.loop-i-test.true c.loop-i.invariant (rw c.in-Some.is at c.in_ok-step.ensures.some))
