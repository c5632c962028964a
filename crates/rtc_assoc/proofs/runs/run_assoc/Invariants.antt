use Rattle.std.proofs.Common.{◌≤◌, take, length}
use Rattle.rtc_assoc.specs.Steps.{Ran, first_world}
use Rattle.rtc_assoc.proofs.runs.run_assoc.Given as goal

abbrev pub invariant-loop-step : goal.invariant-loop-step
invariant-loop-step l = record {
  ran : Ran (take l.step-index l.steps) l.replies.items (first_world l.max_payload) (record { left = l.left; right = l.right; packets = l.packets.items });
  few : length l.packets.items ≤ l.step-index;
}
