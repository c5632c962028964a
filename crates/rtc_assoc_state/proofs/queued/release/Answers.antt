use Rattle.std.specs.VecDeque.{deque_items}
use Rattle.rtc_assoc_state.specs.Queued.{stream_of_message}
use Rattle.rtc_assoc_state.proofs.SplitLemmas.{release_same, release_sound}
use Rattle.rtc_assoc_state.proofs.queued.release.Goals as goal

pub returns-then-is_drained-clause-same : goal.returns-then-is_drained-clause-same
returns-then-is_drained-clause-same c =
    release_same deque_items stream_of_message c.args.stream c.args.queues.now c.remove.new.self c.requires (rw c.if-is_drained.true at c.is_drained.ensures) c.remove.ensures.entries

pub returns-then-is_drained-clause-sound : goal.returns-then-is_drained-clause-sound
returns-then-is_drained-clause-sound c =
    release_sound deque_items stream_of_message c.args.stream c.args.queues.now c.remove.new.self c.requires (rw c.if-is_drained.true at c.is_drained.ensures) c.remove.ensures.entries c.remove.ensures.ordered
