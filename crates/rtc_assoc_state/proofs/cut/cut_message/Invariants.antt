use Rattle.std.proofs.Common.{◌≡◌, ◌≤◌, ◌+◌, ◌++◌, length}
use Rattle.std.specs.VecDeque.{deque_len}
use Rattle.rtc_assoc_state.specs.Pieces.{pieces_of}
use Rattle.rtc_assoc_state.proofs.cut.cut_message.Given as goal

abbrev pub invariant-loop-rest : goal.invariant-loop-rest
invariant-loop-rest l = record {
  cut : l.items.items ++ pieces_of l.size l.stream l.generation l.identifier l.rest ≡ pieces_of l.size l.stream l.generation l.identifier l.bytes;
  few : deque_len l.items + length l.rest ≤ length l.bytes;
}

abbrev pub decreases-loop-rest : goal.decreases-loop-rest
decreases-loop-rest l = length l.rest
