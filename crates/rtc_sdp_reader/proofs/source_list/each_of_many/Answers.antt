use Rattle.std.proofs.Common.{◌≡◌, ℕ, eqb, Bool, not, List, sym, ◌∙◌, refl, subst, get_or}
use Rattle.std.proofs.lemmas.Bool.Decides.{eqb_tells}
use Rattle.rtc_wire_text.proofs.OnceLemmas.{among, grown, once_more}
use Rattle.rtc_sdp_reader.proofs.NumberLemmas.{HasNumbers, numbers_grown, grew}
use Rattle.rtc_sdp_reader.proofs.source_list.each_of_many.Goals as goal
use Rattle.rtc_sdp_reader.proofs.source_list.each_of_many.Goals.{then-branch+in_ok-push, else-branch}

pub loop-number-preserved : goal.loop-number-preserved
loop-number-preserved c =
    let i = c.loop-number.number-index in
    let once : List ℕ = c.loop-number.once.items in
    let x : ℕ = get_or c.args.numbers.now i 0 in
    let added : Bool = c.in_ok-insert.field-0 in
    let next : List ℕ = c.if-branch.once.items in
    let step : next ≡ grown (not added) once x =
    elim c.if-branch.branch [
      | then-branch+in_ok-push w ↦ rw (w.if-branch.true, w.once-is) w.in_ok-push.ensures.items
      | else-branch w ↦ rw (w.if-branch.false, w.once-is) refl
    ] in
    let more : next ≡ grown (among eqb x once) once x = grew c.loop-number.seen x once next added c.in_ok-insert.ensures.added c.loop-number.invariant.seen step in
    record {
      once = more ∙ once_more eqb eqb_tells c.args.numbers.now i 0 once c.loop-number-test.true c.loop-number.invariant.once;
      seen =
          let P : List ℕ → Type 0 = λ l. HasNumbers c.insert.new.self l in
          subst P (sym more) (numbers_grown c.loop-number.seen c.insert.new.self x once c.in_ok-insert.ensures.updates.0 c.loop-number.invariant.seen);
    }
