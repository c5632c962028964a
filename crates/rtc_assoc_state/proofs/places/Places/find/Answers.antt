use Rattle.std.proofs.Common.{◌∙◌, ◌/◌, ◌%◌, sym, ap, arith, get_or, List, ℕ}
use Rattle.std.proofs.lemmas.Bool.Decides.{nat_tests}
use Rattle.rtc_assoc_state.specs.Places.{place_in_slot, slot_in}
use Rattle.rtc_assoc_state.proofs.PlaceLemmas.{list_past, list_here}
use Rattle.rtc_assoc_state.proofs.places.Places.find.Goals as goal

pub returns-then-list-len : goal.returns-then-list-len
returns-then-list-len c =
    sym (ap (λ (l : ℕ). place_in_slot (slot_in c.args.self.now.lists.items l (c.args.id % 256))) (sym c.list_of-list.ensures)
    ∙ ap place_in_slot (list_past c.args.self.now.lists.items c.list_of-list.result (c.args.id % 256) (grind (arith, nat_tests, c.if-list-len.true))))

pub returns : goal.returns
returns c =
    c.place_in.ensures
    ∙ (ap (λ (slots : List ℕ). place_in_slot (get_or slots c.slot_of.result 0)) c.as_slice.ensures.value
    ∙ (ap place_in_slot (sym (list_here c.args.self.now.lists.items c.list_of-list.result c.slot_of.result _ (grind (arith, nat_tests, c.if-list-len.false)) c.index.ensures))
    ∙ (ap (λ (l : ℕ). place_in_slot (slot_in c.args.self.now.lists.items l c.slot_of.result)) c.list_of-list.ensures
    ∙ ap (λ (k : ℕ). place_in_slot (slot_in c.args.self.now.lists.items (c.args.id / 256) k)) c.slot_of.ensures)))
