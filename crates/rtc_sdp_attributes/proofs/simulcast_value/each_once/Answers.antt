use Rattle.std.proofs.Common.{◌≡◌, ℕ, Bool, not, List, ap, sym, ◌∙◌, refl, subst}
use Rattle.std.specs.Str.{bytes_eq}
use Rattle.rtc_wire_text.proofs.OnceLemmas.{among, grown, once_more, bytes_tell}
use Rattle.rtc_wire_text.proofs.SeenLemmas.{IsSeen, seen_grown, grew}
use Rattle.rtc_sdp_attributes.proofs.simulcast_value.each_once.Goals as goal
use Rattle.rtc_sdp_attributes.proofs.simulcast_value.each_once.Goals.{then-branch+in_ok-push, else-branch}

pub loop-rid-preserved : goal.loop-rid-preserved
loop-rid-preserved c =
    let i = c.loop-rid.rid-index in
    let once : List (List ℕ) = c.loop-rid.once.items in
    let x : List ℕ = c.rid-item.result in
    let added : Bool = c.in_ok-insert.field-0 in
    let next : List (List ℕ) = c.if-branch.once.items in
    let step : next ≡ grown (not added) once x =
    elim c.if-branch.branch [
      | then-branch+in_ok-push w ↦ rw (w.if-branch.true, w.once-is) w.in_ok-push.ensures.items
      | else-branch w ↦ rw (w.if-branch.false, w.once-is) refl
    ] in
    let more : next ≡ grown (among bytes_eq x once) once x = grew c.loop-rid.seen x once next added c.in_ok-insert.ensures.added c.loop-rid.invariant.seen step in
    record {
      once = more
          ∙ ap (λ (y : List ℕ). grown (among bytes_eq y once) once y) c.rid-item.is
          ∙ once_more bytes_eq bytes_tell c.args.rids.now i x once c.loop-rid-test.true c.loop-rid.invariant.once;
      seen =
          let P : List (List ℕ) → Type 0 = λ l. IsSeen c.insert.new.self l in
          subst P (sym more) (seen_grown c.loop-rid.seen c.insert.new.self x once c.in_ok-insert.ensures.updates.0 c.loop-rid.invariant.seen);
    }
