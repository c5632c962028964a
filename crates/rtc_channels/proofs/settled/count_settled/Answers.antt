use Rattle.std.proofs.Common.{◌≡◌, ◌∙◌, ◌<◌, ◌&&◌, not, sym, arith, rules, true, length}
use Rattle.std.specs.Prelude.{is_some}
use Rattle.std.proofs.lemmas.Bool.Decides.{nat_tests}
use Rattle.rtc_channels.proofs.SettledLemmas.{settled_next}
use Rattle.rtc_channels.proofs.settled.count_settled.Goals as goal

pub bounds-kept-count : goal.bounds-kept-count
bounds-kept-count c = let within : c.places.count < length c.args.rows.now = grind (arith, nat_tests, c.places-test.true) in omega (arith, within, c.requires.same)

pub places-preserved : goal.places-preserved
places-preserved c =
    let within : c.places.count < length c.args.rows.now = grind (arith, nat_tests, c.places-test.true) in
    let own : (is_some c.index-rows-count.result.1 && not (is_some c.index-kept-count.result.config)) ≡ true = sym c.is_settled.ensures ∙ grind (arith, c.if-not-is_settled.false) in
    settled_next c.places.count c.args.rows.now c.args.kept.now c.index-rows-count.result c.index-kept-count.result c.requires.same within (search rules) (search rules) own c.places.invariant
