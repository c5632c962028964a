use Rattle.std.proofs.Common.{◌≤◌, ◌-◌, length}
use Rattle.rtc_room_hub.proofs.SentSoFar.{SentSoFar}
use Rattle.rtc_room_hub.proofs.forwarding.send_items.Given as goal

-- the items so far were taken
abbrev pub invariant-loop-taken : goal.invariant-loop-taken
invariant-loop-taken l =
    record {
      few : l.taken ≤ length l.items;
      sent : SentSoFar l.line l.items l.taken l.fn.pair l.pair;
    }

abbrev pub decreases-loop-taken : goal.decreases-loop-taken
decreases-loop-taken l = length l.items - l.taken
