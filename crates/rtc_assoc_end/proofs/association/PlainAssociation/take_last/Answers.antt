use Rattle.std.proofs.Common.{refl, sym}
use Rattle.rtc_assoc_state.specs.Calls.{item_counted, last_kept, answered}
use Rattle.rtc_assoc_end.proofs.SaysLemmas.{queues_acknowledgement}
use Rattle.rtc_assoc_end.proofs.association.PlainAssociation.take_last.Goals as goal

pub returns-clause-ok : goal.returns-clause-ok
unfolding item_counted last_kept answered
returns-clause-ok c =
    let packets_is = rw (c.in_ok-answer.ensures.packets, c.in_ok-answer.ensures.bytes) at c.count_item.ensures.packets in
    let streams_is = rw c.in_ok-answer.ensures.rows at c.count_item.ensures.streams in
    let events_is = rw c.in_ok-answer.ensures.events at c.enqueue.ensures.items in
    rw (← c.self.view_is)
    (rw (packets_is, streams_is, events_is, c.count_item.ensures.received, c.in_ok-keep_last.ensures.parts, c.in_ok-keep_last.ensures.unread) refl, queues_acknowledgement _ _ _ packets_is c.in_ok-answer.ensures.reads (sym c.count_item.ensures.received))
