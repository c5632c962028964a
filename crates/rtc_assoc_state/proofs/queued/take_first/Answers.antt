use Rattle.std.proofs.Common.{sym, ap, subst, ◌∙◌}
use Rattle.std.specs.VecDeque.{deque_items}
use Rattle.rtc_assoc_state.specs.Queued.{all_queued, stream_of_message}
use Rattle.rtc_assoc_state.proofs.InboxLemmas.{none-message_in, none-messages_behind}
use Rattle.rtc_assoc_state.proofs.MessageLists.{AllOf, all_of-behind}
use Rattle.rtc_assoc_state.proofs.QueueLemmas.{absent-any, queue_first, queue_taken}
use Rattle.rtc_assoc_state.proofs.SplitLemmas.{split_of, sound_set}
use Rattle.rtc_assoc_state.proofs.queued.take_first.Goals as goal

pub returns-in-None-clause-message : goal.returns-in-None-clause-message
returns-in-None-clause-message c =
    sym (none-message_in c.args.stream c.args.generation _ (absent-any deque_items c.args.stream c.args.generation c.args.queues.now.entries c.requires.own (sym c.in-None.ensures.value)))

pub returns-in-None-clause-rest : goal.returns-in-None-clause-rest
returns-in-None-clause-rest c =
    rw c.get_mut.follows.holds-at-none
    (sym (none-messages_behind c.args.stream c.args.generation _ (absent-any deque_items c.args.stream c.args.generation c.args.queues.now.entries c.requires.own (sym c.in-None.ensures.value))))

pub returns-in-Some-clause-message : goal.returns-in-Some-clause-message
returns-in-Some-clause-message c =
    c.take_out.ensures.message
    ∙ queue_first deque_items c.args.stream c.args.generation c.args.queues.now.entries c.in-Some.queue.now (split_of deque_items stream_of_message c.args.stream c.args.queues.now c.in-Some.queue.now c.requires (sym c.in-Some.ensures.value))

pub returns-in-Some-clause-rest : goal.returns-in-Some-clause-rest
returns-in-Some-clause-rest c =
    ap (all_queued deque_items) (c.get_mut.follows.holds c.take_out.new.unread).0
    ∙ queue_taken deque_items c.args.stream c.args.generation c.args.queues.now.entries c.in-Some.queue.now c.take_out.new.unread
    (split_of deque_items stream_of_message c.args.stream c.args.queues.now c.in-Some.queue.now c.requires (sym c.in-Some.ensures.value)) c.take_out.ensures.rest

pub returns-in-Some-clause-sound : goal.returns-in-Some-clause-sound
returns-in-Some-clause-sound c =
    let w = split_of deque_items stream_of_message c.args.stream c.args.queues.now c.in-Some.queue.now c.requires (sym c.in-Some.ensures.value) in
    let written = c.get_mut.follows.holds c.take_out.new.unread in
    sound_set deque_items stream_of_message c.args.stream c.args.queues.now (c.get_mut.follows.lender c.take_out.new.unread) c.in-Some.queue.now c.take_out.new.unread
    c.requires (sym c.in-Some.ensures.value) written.0 written.4
    (subst (AllOf c.args.stream) (sym c.take_out.ensures.rest) (all_of-behind c.args.stream c.args.generation c.in-Some.queue.now.items w.own))
