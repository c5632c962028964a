use Rattle.std.proofs.Common.{◌-◌, length}
use Rattle.rtc_gate_calls.proofs.SortLemmas.{SortsSoFar}
use Rattle.rtc_gate_calls.proofs.sorting.sort.Given as goal

abbrev pub invariant-frames : goal.invariant-frames
invariant-frames l = SortsSoFar l.connections l.sender l.bytes l.deliveries.items l.at

abbrev pub decreases-frames : goal.decreases-frames
decreases-frames l = length l.bytes - l.at
