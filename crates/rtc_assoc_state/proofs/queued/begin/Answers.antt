use Rattle.std.proofs.Common.{ap, ◌∙◌, arith}
use Rattle.std.specs.VecDeque.{deque_items}
use Rattle.rtc_assoc_state.specs.Queued.{all_queued, stream_of_message}
use Rattle.rtc_assoc_state.proofs.SplitLemmas.{insert_empty, sound_insert}
use Rattle.rtc_assoc_state.proofs.queued.begin.Goals as goal

pub returns-clause-same : goal.returns-clause-same
returns-clause-same c =
    ap (all_queued deque_items) c.in_ok-insert.ensures.entries
    ∙ insert_empty deque_items stream_of_message c.args.stream c.args.queues.now.entries c.in_ok-queue.queue c.in_ok-queue.ensures.items c.requires.absent

pub returns-clause-sound : goal.returns-clause-sound
returns-clause-sound c =
    sound_insert deque_items stream_of_message c.args.stream c.args.queues.now c.insert.new.self c.in_ok-queue.queue c.requires.sound c.requires.absent c.in_ok-insert.ensures.entries c.in_ok-insert.ensures.ordered c.in_ok-queue.ensures.items

pub returns-clause-room : goal.returns-clause-room
returns-clause-room c = record {
  queue = c.in_ok-queue.queue;
  found = c.in_ok-insert.ensures.updates.1;
  room = omega (arith, c.in_ok-queue.ensures.len, c.in_ok-queue.ensures.capacity);
}
