use Rattle.std.proofs.Common.{◌≡◌, ◌+◌, length, refl, sym, ap, arith}
use Rattle.rtc_assoc_state.specs.Outbox.{last_number}
use Rattle.rtc_assoc_state.specs.Contents.{Contents}
use Rattle.rtc_assoc_state.specs.Calls.{item_counted, finished, sent, answered}
use Rattle.rtc_assoc_end.proofs.SentLemmas.{numbers_left, agree-closed}
use Rattle.rtc_assoc_end.proofs.SaysLemmas.{queues_close}
use Rattle.rtc_assoc_end.proofs.association.PlainAssociation.take_first_close.Goals as goal

pub invariant_of-self-2 : goal.invariant_of-self-2
invariant_of-self-2 c =
    let left = numbers_left c.args.self.now c.requires.lives in
    let last : c.self.inside.acked + length c.self.inside.items.items ≡ last_number c.args.self.now.outbox = ap (λ (p : Contents). last_number p.outbox) c.self.view_is in
    record {
      least = c.self.invariant.least;
      most = c.self.invariant.most;
      numbers = omega (arith, left, last, c.in_ok-queue_close.ensures.count);
      agree = rw c.in_ok-queue_close.ensures.items (agree-closed _ _ _ _ c.self.invariant.agree);
      table = c.count_item.ensures.sound;
    }

pub returns-clause-ok : goal.returns-clause-ok
unfolding item_counted finished sent answered
returns-clause-ok c =
    let items_is = c.in_ok-queue_close.ensures.items in
    let number_is : c.self.inside.acked + c.len.result + 1 ≡ c.self.inside.acked + length c.self.inside.items.items + 1 = omega (arith, c.len.ensures) in
    let made = rw number_is at c.in_ok-queue_close.ensures.packets in
    let reads = rw number_is at c.in_ok-queue_close.ensures.reads in
    let packets_is = rw (made, c.in_ok-answer.ensures.packets, c.in_ok-answer.ensures.bytes) at c.count_item.ensures.packets in
    let streams_is = rw c.in_ok-answer.ensures.rows at c.count_item.ensures.streams in
    let events_is = rw c.in_ok-answer.ensures.events at c.finish.ensures.events in
    rw (← c.self.view_is) (
      rw (items_is, packets_is, streams_is, events_is, c.count_item.ensures.received, c.finish.ensures.parts, c.finish.ensures.unread) refl,
      queues_close _ _ _ _ _ (sym c.count_item.ensures.received) packets_is reads c.in_ok-answer.ensures.reads c.self.inside.items.items items_is refl,
    )
