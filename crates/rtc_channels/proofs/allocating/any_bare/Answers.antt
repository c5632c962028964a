use Rattle.std.proofs.Common.{◌≡◌, ◌∙◌, sym, refl, arith, rules, true, false, not}
use Rattle.std.specs.Prelude.{is_some}
use Rattle.std.proofs.lemmas.Grind.{common_steps}
use Rattle.std.proofs.lemmas.Bool.Decides.{nat_tests}
use Rattle.rtc_channels.proofs.SettledLemmas.{bare_step, any_past}
use Rattle.rtc_channels.proofs.allocating.any_bare.Goals as goal

pub returns-then-is_none : goal.returns-then-is_none
returns-then-is_none c =
    let bare : not (is_some c.index-rows-place.result.1) ≡ true = grind (arith, common_steps, c.is_none.ensures, c.if-is_none.true) in
    sym (sym c.places.invariant ∙ (bare_step c.args.rows.now c.places.place c.index-rows-place.result (grind (arith, nat_tests, c.places-test.true)) (search rules) ∙ rw bare refl))

pub places-preserved : goal.places-preserved
places-preserved c =
    let has : not (is_some c.index-rows-place.result.1) ≡ false = grind (arith, common_steps, c.is_none.ensures, c.if-is_none.false) in
    sym (bare_step c.args.rows.now c.places.place c.index-rows-place.result (grind (arith, nat_tests, c.places-test.true)) (search rules) ∙ rw has refl) ∙ c.places.invariant

pub returns : goal.returns
returns c = sym (sym c.places.invariant ∙ any_past (λ row. not (is_some row.1)) c.args.rows.now c.places.place (grind (arith, nat_tests, c.places-test.false)))
