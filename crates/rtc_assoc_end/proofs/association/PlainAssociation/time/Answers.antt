use Rattle.std.proofs.Common.{refl, sym, ap, ◌∙◌}
use Rattle.rtc_assoc_state.specs.Calls.{hello_due, items_due}
use Rattle.rtc_assoc_end.proofs.SendsLemmas.{sends_timed}
use Rattle.rtc_assoc_end.proofs.association.PlainAssociation.time.Goals as goal

pub returns : goal.returns
returns c =
    rw (← c.self.view_is)
    (sends_timed c.args.now _ _ c.is_hello_due-hello.result c.are_items_due-items.result c.in_ok-first.first.items c.in_ok-second.second.items
    (c.is_hello_due-hello.ensures ∙ ap (hello_due c.args.now) (sym c.self.view_is))
    (c.are_items_due-items.ensures ∙ ap (items_due c.args.now) (sym c.self.view_is))
    c.in_ok-first.ensures
    (rw (← c.self.view_is) at c.in_ok-second.ensures.packets)
    (rw (← c.self.view_is) at c.in_ok-second.ensures.reads)
    (rw (c.in_ok-queue_both.ensures.ok, c.either-self-inside.ensures, c.either-self-inside-2.ensures) refl))
