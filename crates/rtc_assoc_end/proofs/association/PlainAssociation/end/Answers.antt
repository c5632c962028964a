use Rattle.std.proofs.Common.{◌≡◌, ◌+◌, ◌∷◌, [], length, refl, ap, arith}
use Rattle.rtc_assoc_state.specs.Outbox.{last_number}
use Rattle.rtc_assoc_state.specs.Calls.{sent, stream_ended}
use Rattle.rtc_assoc_state.specs.Contents.{Contents}
use Rattle.rtc_assoc_end.proofs.SentLemmas.{numbers_left, agree-closed}
use Rattle.rtc_assoc_end.proofs.SaysLemmas.{queues_more, all_say_items}
use Rattle.rtc_assoc_end.proofs.association.PlainAssociation.end.Goals as goal

pub invariant_of-self-2 : goal.invariant_of-self-2
invariant_of-self-2 c =
    let left = numbers_left c.args.self.now c.requires in
    let last : c.self.inside.acked + length c.self.inside.items.items ≡ last_number c.args.self.now.outbox = ap (λ (p : Contents). last_number p.outbox) c.self.view_is in
    record {
      least = c.self.invariant.least;
      most = c.self.invariant.most;
      numbers = omega (arith, left, last, c.in_ok-queue_close.ensures.count);
      agree = rw c.in_ok-queue_close.ensures.items (agree-closed _ _ _ _ c.self.invariant.agree);
      table = c.set_row.ensures.sound;
    }

pub returns-clause-ok : goal.returns-clause-ok
unfolding sent stream_ended
returns-clause-ok c =
    let row_is = c.row_of-row.ensures in
    let items_is = rw row_is at c.in_ok-queue_close.ensures.items in
    let number_is : c.self.inside.acked + c.len.result + 1 ≡ c.self.inside.acked + length c.self.inside.items.items + 1 = omega (arith, c.len.ensures) in
    let packets_is = rw (number_is, row_is) at c.in_ok-queue_close.ensures.packets in
    let reads = rw (number_is, row_is) at c.in_ok-queue_close.ensures.reads in
    let streams_is = rw (c.in_ok-make_room.ensures.rows, row_is) at c.set_row.ensures.rows in
    let parts_is = rw row_is at c.forget.ensures.parts in
    let unread_is = rw row_is at c.forget.ensures.unread in
    rw (← c.self.view_is)
    (rw (items_is, packets_is, streams_is, parts_is, unread_is) refl, queues_more _ _ _ packets_is (all_say_items _ _ c.self.inside.items.items (_ ∷ []) [] items_is refl (reads, tt)))
