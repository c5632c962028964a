use Rattle.std.proofs.Common.{◌≡◌, ◌∙◌, ◌<◌, ◌&&◌, sym, refl, arith, rules, true, false, length}
use Rattle.std.specs.Prelude.{is_some}
use Rattle.std.proofs.lemmas.Bool.Decides.{nat_tests}
use Rattle.rtc_channels.specs.Kept.{channels_of}
use Rattle.rtc_channels.specs.Openings.{can_be_opened}
use Rattle.rtc_channels.proofs.GivingLemmas.{length-channels_of}
use Rattle.rtc_channels.proofs.SettledLemmas.{ready_step, any_past}
use Rattle.rtc_channels.proofs.progress.any_ready.Goals as goal

pub bounds-kept-place : goal.bounds-kept-place
bounds-kept-place c = let within : c.places.place < length c.args.rows.now = grind (arith, nat_tests, c.places-test.true) in omega (arith, within, c.requires)

pub returns-then-is_ready : goal.returns-then-is_ready
returns-then-is_ready c =
    let within : c.places.place < length c.args.rows.now = grind (arith, nat_tests, c.places-test.true) in
    let ready : (is_some c.index-rows-place.result.1 && is_some c.index-kept-place.result.config) ≡ true = sym c.is_ready.ensures ∙ c.if-is_ready.true in
    sym (sym c.places.invariant ∙ (ready_step c.args.rows.now c.args.kept.now c.places.place c.index-rows-place.result c.index-kept-place.result c.requires within (search rules) (search rules) ∙ rw ready refl))

pub places-preserved : goal.places-preserved
places-preserved c =
    let within : c.places.place < length c.args.rows.now = grind (arith, nat_tests, c.places-test.true) in
    let unready : (is_some c.index-rows-place.result.1 && is_some c.index-kept-place.result.config) ≡ false = sym c.is_ready.ensures ∙ c.if-is_ready.false in
    sym (ready_step c.args.rows.now c.args.kept.now c.places.place c.index-rows-place.result c.index-kept-place.result c.requires within (search rules) (search rules) ∙ rw unready refl)
    ∙ c.places.invariant

pub returns : goal.returns
returns c =
    let size = length-channels_of c.args.rows.now c.args.kept.now c.requires in
    sym (sym c.places.invariant ∙ any_past can_be_opened (channels_of c.args.rows.now c.args.kept.now) c.places.place (grind (arith, nat_tests, size, c.places-test.false)))
