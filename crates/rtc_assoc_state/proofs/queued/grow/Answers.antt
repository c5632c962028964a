use Rattle.std.proofs.Common.{◌≤◌, ◌+◌, sym, ap, subst, ◌∙◌, arith}
use Rattle.std.specs.VecDeque.{deque_items, deque_len, deque_capacity}
use Rattle.rtc_assoc_state.specs.Queued.{all_queued, TakesOneMore, stream_of_message}
use Rattle.rtc_assoc_state.proofs.MessageLists.{AllOf}
use Rattle.rtc_assoc_state.proofs.SplitLemmas.{on_ok, split_of, queue_same, sound_set, room_set}
use Rattle.rtc_assoc_state.proofs.queued.grow.Goals as goal

pub returns-in-Some-clause-same : goal.returns-in-Some-clause-same
returns-in-Some-clause-same c =
    ap (all_queued deque_items) (c.get_mut.follows.holds c.reserve.new.self).0
    ∙ queue_same deque_items stream_of_message c.args.stream c.args.queues.now.entries c.in-Some.queue.now c.reserve.new.self
    (split_of deque_items stream_of_message c.args.stream c.args.queues.now c.in-Some.queue.now c.requires (sym c.in-Some.ensures.value)) c.reserve.ensures.items

pub returns-in-Some-clause-sound : goal.returns-in-Some-clause-sound
returns-in-Some-clause-sound c =
    let w = split_of deque_items stream_of_message c.args.stream c.args.queues.now c.in-Some.queue.now c.requires (sym c.in-Some.ensures.value) in
    let written = c.get_mut.follows.holds c.reserve.new.self in
    sound_set deque_items stream_of_message c.args.stream c.args.queues.now (c.get_mut.follows.lender c.reserve.new.self) c.in-Some.queue.now c.reserve.new.self
    c.requires (sym c.in-Some.ensures.value) written.0 written.4
    (subst (AllOf c.args.stream) (sym c.reserve.ensures.items) w.own)

pub returns-in-Some-clause-room : goal.returns-in-Some-clause-room
returns-in-Some-clause-room c =
    let new = c.reserve.new.self in
    on_ok c.reserve.result (deque_len new + 1 ≤ deque_capacity new) (TakesOneMore deque_len deque_capacity c.args.stream (c.get_mut.follows.lender new))
    (λ r. room_set deque_items stream_of_message deque_len deque_capacity c.args.stream c.args.queues.now (c.get_mut.follows.lender new) c.in-Some.queue.now new
    (sym c.in-Some.ensures.value) (c.get_mut.follows.holds new).0 (omega (arith, r)))
    c.reserve.ensures.ok
