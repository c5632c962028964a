use Rattle.std.proofs.Common.{◌≡◌, ◌+◌, ◌++◌, [], length, refl, sym, ap, ◌∙◌, arith, append-nil}
use Rattle.rtc_assoc_state.specs.Outbox.{last_number}
use Rattle.rtc_assoc_state.specs.Calls.{sent}
use Rattle.rtc_assoc_state.specs.Contents.{Contents}
use Rattle.rtc_assoc_end.proofs.SentLemmas.{numbers_left, agree-written}
use Rattle.rtc_assoc_end.proofs.SaysLemmas.{queues_more, all_say_items}
use Rattle.rtc_assoc_end.proofs.association.PlainAssociation.write.Goals as goal

pub invariant_of-self-2 : goal.invariant_of-self-2
invariant_of-self-2 c =
    let left = numbers_left c.args.self.now c.requires.lives in
    let last : c.self.inside.acked + length c.self.inside.items.items ≡ last_number c.args.self.now.outbox = ap (λ (p : Contents). last_number p.outbox) c.self.view_is in
    record {
      least = c.self.invariant.least;
      most = c.self.invariant.most;
      numbers = omega (arith, left, last, c.in_ok-queue_message.ensures.count, c.in_ok-items.ensures.count, c.requires.short);
      agree = rw (c.in_ok-queue_message.ensures.items, c.in_ok-items.ensures.items)
          (agree-written _ _ _ _ _ _ _ _ _ c.self.invariant.agree refl c.in_ok-queue_message.ensures.amounts);
      table = c.self.invariant.table;
    }

pub returns-clause-ok : goal.returns-clause-ok
unfolding sent
returns-clause-ok c =
    let row_is = c.row_of-generation.ensures in
    let pieces = rw row_is at c.in_ok-items.ensures.items in
    let items_is = c.in_ok-queue_message.ensures.items ∙ ap (λ l. c.self.inside.items.items ++ l) pieces in
    let number_is : c.self.inside.acked + c.len.result + 1 ≡ c.self.inside.acked + length c.self.inside.items.items + 1 = omega (arith, c.len.ensures) in
    let made = rw (number_is, pieces) at c.in_ok-packets.ensures.packets in
    let reads = rw (number_is, pieces) at c.in_ok-packets.ensures.reads in
    let packets_is = c.in_ok-queue_message.ensures.packets ∙ ap (λ l. c.self.inside.packets.items ++ l) made in
    rw (← c.self.view_is) (rw (items_is, packets_is) refl, queues_more _ _ _ packets_is (all_say_items _ _ c.self.inside.items.items _ [] (items_is ∙ ap (λ l. c.self.inside.items.items ++ l) (sym (append-nil _))) refl reads))
