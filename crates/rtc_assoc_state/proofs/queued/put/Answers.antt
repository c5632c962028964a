use Rattle.std.proofs.Common.{◌≡◌, None, Some, sym, ap, subst, ◌∙◌}
use Rattle.std.specs.VecDeque.{deque_items, deque_len, deque_capacity}
use Rattle.rtc_assoc_state.specs.Queued.{all_queued, stream_of_message}
use Rattle.rtc_assoc_state.proofs.MessageLists.{AllOf, all_of-with}
use Rattle.rtc_assoc_state.proofs.QueueLemmas.{queue_with}
use Rattle.rtc_assoc_state.proofs.SplitLemmas.{split_of, sound_set, some_room}
use Rattle.rtc_assoc_state.proofs.queued.put.Goals as goal

pub unreachable-requires : goal.unreachable-requires
unreachable-requires c =
    let broken : None ≡ Some c.requires.room.queue = c.in-None.ensures.value ∙ c.requires.room.found in
    cc

pub enqueue-requires : goal.enqueue-requires
enqueue-requires c = some_room deque_len deque_capacity c.args.message.stream c.args.queues.now c.in-Some.queue.now (sym c.in-Some.ensures.value) c.requires.room

pub returns-clause-messages : goal.returns-clause-messages
returns-clause-messages c =
    ap (all_queued deque_items) (c.get_mut.follows.holds c.enqueue.new.queue).0
    ∙ queue_with deque_items c.args.message c.args.queues.now.entries c.in-Some.queue.now c.enqueue.new.queue
    (split_of deque_items stream_of_message c.args.message.stream c.args.queues.now c.in-Some.queue.now c.requires.sound (sym c.in-Some.ensures.value)) c.enqueue.ensures.items

pub returns-clause-sound : goal.returns-clause-sound
returns-clause-sound c =
    let w = split_of deque_items stream_of_message c.args.message.stream c.args.queues.now c.in-Some.queue.now c.requires.sound (sym c.in-Some.ensures.value) in
    let written = c.get_mut.follows.holds c.enqueue.new.queue in
    sound_set deque_items stream_of_message c.args.message.stream c.args.queues.now (c.get_mut.follows.lender c.enqueue.new.queue) c.in-Some.queue.now c.enqueue.new.queue
    c.requires.sound (sym c.in-Some.ensures.value) written.0 written.4
    (subst (AllOf c.args.message.stream) (sym c.enqueue.ensures.items) (all_of-with c.args.message c.in-Some.queue.now.items w.own))
