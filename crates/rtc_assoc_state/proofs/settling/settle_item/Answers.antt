use Rattle.std.proofs.Common.{sym, ap, ◌∙◌, length}
use Rattle.rtc_assoc_state.proofs.AmountLemmas.{agree-lent}
use Rattle.rtc_assoc_state.proofs.SettlingLemmas.{item_settled-More, item_settled-Last, settled-piece, settled-close}
use Rattle.rtc_assoc_state.proofs.settling.settle_item.Goals as goal

pub returns-in-Close-clause-told : goal.returns-in-Close-clause-told
returns-in-Close-clause-told c = λ behind agree.
    settled-close c.item-item.result.now _ _ _ _ _ _ c.item-item.ensures.value (ap (λ i. i.part) (sym c.item-item.ensures.value) ∙ c.in-Close.is) c.settle_close.ensures.told

pub returns-in-More-clause-told : goal.returns-in-More-clause-told
returns-in-More-clause-told c = λ behind agree.
    settled-piece c.item-item.result.now c.args.item.now behind c.args.amounts.now c.lower.new.amounts c.args.streams.now.rows.items c.args.events.now.items _ _ _
    c.item-item.ensures.value agree
    (agree-lent c.args.amounts.now c.lower.new.amounts c.item-item.result.now c.args.item.now _ _ c.item-item.ensures.value (ap length c.as_slice.ensures) agree c.lower.ensures)
    c.amount_in-before.ensures
    c.amount_in-after.ensures
    c.settle_piece.ensures.items
    ∙ sym (item_settled-More _ _ _ (ap (λ i. i.part) (sym c.item-item.ensures.value) ∙ c.in-More.is))

pub returns-in-Last-clause-told : goal.returns-in-Last-clause-told
returns-in-Last-clause-told c = λ behind agree.
    settled-piece c.item-item.result.now c.args.item.now behind c.args.amounts.now c.lower.new.amounts c.args.streams.now.rows.items c.args.events.now.items _ _ _
    c.item-item.ensures.value agree
    (agree-lent c.args.amounts.now c.lower.new.amounts c.item-item.result.now c.args.item.now _ _ c.item-item.ensures.value (ap length c.as_slice.ensures) agree c.lower.ensures)
    c.amount_in-before.ensures
    c.amount_in-after.ensures
    c.settle_piece-in-Last.ensures.items
    ∙ sym (item_settled-Last _ _ _ (ap (λ i. i.part) (sym c.item-item.ensures.value) ∙ c.in-Last.is))
