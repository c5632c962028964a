use Rattle.std.proofs.Common.{refl, sym}
use Rattle.rtc_assoc_state.specs.Calls.{item_counted, finished, reset_told, answered}
use Rattle.rtc_assoc_end.proofs.SaysLemmas.{queues_acknowledgement}
use Rattle.rtc_assoc_end.proofs.association.PlainAssociation.take_last_close.Goals as goal

pub count_item-requires-clause-place : goal.count_item-requires-clause-place
count_item-requires-clause-place c = rw c.reset.ensures c.in_ok-answer.ensures.place

pub returns-clause-ok : goal.returns-clause-ok
unfolding item_counted finished reset_told answered
returns-clause-ok c =
    let packets_is = rw (c.in_ok-answer.ensures.packets, c.in_ok-answer.ensures.bytes) at c.count_item.ensures.packets in
    let streams_is = rw (c.in_ok-answer.ensures.rows, c.reset.ensures) at c.count_item.ensures.streams in
    let events_is = rw (c.finish.ensures.events, c.in_ok-answer.ensures.events) at c.enqueue.ensures.items in
    rw (← c.self.view_is)
    (rw (packets_is, streams_is, events_is, c.count_item.ensures.received, c.finish.ensures.parts, c.finish.ensures.unread) refl, queues_acknowledgement _ _ _ packets_is c.in_ok-answer.ensures.reads (sym c.count_item.ensures.received))
