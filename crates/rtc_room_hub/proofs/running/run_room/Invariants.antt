use Rattle.std.proofs.Common.{◌≡◌, ◌≤◌, take, length, vec_capacity}
use Rattle.rtc_room_hub.proofs.RoomSoFar.{SoFar}
use Rattle.rtc_room_hub.proofs.running.run_room.Given as goal

-- the steps so far are a run of the room
abbrev pub invariant-loop-step : goal.invariant-loop-step
invariant-loop-step l =
    record {
      so_far : SoFar l.alloc (take l.step-index l.steps) l.replies.items l.members.items l.pairs.items;
      count : length l.replies.items ≡ l.step-index;
      room : length l.steps ≤ vec_capacity l.replies;
    }
