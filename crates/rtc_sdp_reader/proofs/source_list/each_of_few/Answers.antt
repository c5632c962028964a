use Rattle.std.proofs.Common.{◌≡◌, ◌∙◌, sym, ap, refl, get_or, true, false, eqb}
use Rattle.std.proofs.lemmas.Bool.Decides.{eqb_tells}
use Rattle.rtc_wire_text.proofs.OnceLemmas.{among, grown, once_more, is_grown}
use Rattle.rtc_sdp_reader.proofs.source_list.each_of_few.Goals as goal
use Rattle.rtc_sdp_reader.proofs.source_list.each_of_few.Goals.{then-not-contains+in_ok-push, else-not-contains}

pub loop-number-preserved : goal.loop-number-preserved
loop-number-preserved c =
    let i = c.loop-number.number-index in
    let once = c.loop-number.once.items in
    let x = get_or c.args.numbers.now i 0 in
    let grew : c.if-not-contains.once.items ≡ grown (among eqb x once) once x =
    elim c.if-not-contains.branch [
      | then-not-contains+in_ok-push w ↦ is_grown eqb false once c.if-not-contains.once.items x (ap (among eqb x) (sym c.deref.ensures.value) ∙ sym w.if-not-contains.ensures.value) (rw w.once-is w.in_ok-push.ensures.items)
      | else-not-contains w ↦ is_grown eqb true once c.if-not-contains.once.items x (ap (among eqb x) (sym c.deref.ensures.value) ∙ sym w.if-not-contains.ensures.value) (rw w.once-is refl)
    ] in
    grew ∙ once_more eqb eqb_tells c.args.numbers.now i 0 once c.loop-number-test.true c.loop-number.invariant
