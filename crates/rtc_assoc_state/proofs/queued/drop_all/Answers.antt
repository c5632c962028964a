use Rattle.std.proofs.Common.{sym, ap, subst, ◌∙◌}
use Rattle.std.specs.VecDeque.{deque_items}
use Rattle.rtc_assoc_state.specs.Queued.{all_queued, stream_of_message}
use Rattle.rtc_assoc_state.proofs.MessageLists.{AllOf, all_of-without, without-none}
use Rattle.rtc_assoc_state.proofs.QueueLemmas.{absent-any, queue_without}
use Rattle.rtc_assoc_state.proofs.SplitLemmas.{split_of, sound_set}
use Rattle.rtc_assoc_state.proofs.queued.drop_all.Goals as goal

pub returns-in-None-clause-rest : goal.returns-in-None-clause-rest
returns-in-None-clause-rest c =
    rw c.get_mut.follows.holds-at-none
    (sym (without-none c.args.stream c.args.generation _ (absent-any deque_items c.args.stream c.args.generation c.args.queues.now.entries c.requires.own (sym c.in-None.ensures.value))))

pub returns-in-Some-clause-rest : goal.returns-in-Some-clause-rest
returns-in-Some-clause-rest c =
    ap (all_queued deque_items) (c.get_mut.follows.holds c.drop_messages.new.unread).0
    ∙ queue_without deque_items c.args.stream c.args.generation c.args.queues.now.entries c.in-Some.queue.now c.drop_messages.new.unread
    (split_of deque_items stream_of_message c.args.stream c.args.queues.now c.in-Some.queue.now c.requires (sym c.in-Some.ensures.value)) c.drop_messages.ensures

pub returns-in-Some-clause-sound : goal.returns-in-Some-clause-sound
returns-in-Some-clause-sound c =
    let w = split_of deque_items stream_of_message c.args.stream c.args.queues.now c.in-Some.queue.now c.requires (sym c.in-Some.ensures.value) in
    let written = c.get_mut.follows.holds c.drop_messages.new.unread in
    sound_set deque_items stream_of_message c.args.stream c.args.queues.now (c.get_mut.follows.lender c.drop_messages.new.unread) c.in-Some.queue.now c.drop_messages.new.unread
    c.requires (sym c.in-Some.ensures.value) written.0 written.4
    (subst (AllOf c.args.stream) (sym c.drop_messages.ensures) (all_of-without c.args.stream c.args.generation c.in-Some.queue.now.items w.own))
