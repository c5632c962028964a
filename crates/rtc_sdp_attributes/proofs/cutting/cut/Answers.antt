use Rattle.std.proofs.Common.{refl, rules}
use Rattle.std.proofs.lemmas.Str.{IsCharBoundary-after_ascii}
use Rattle.rtc_sdp_attributes.proofs.PlaceLemmas.{below, cut_found, cut_nowhere}
use Rattle.rtc_sdp_attributes.proofs.cutting.cut.Goals as goal

pub range_from-requires : goal.range_from-requires
range_from-requires c _ =
    let found = c.in-Some.ensures in
    IsCharBoundary-after_ascii c.args.text.now c.in-Some.place c.utf8.text found.0.high (below c.args.at _ found.1 c.requires)

pub returns-in-Some : goal.returns-in-Some
returns-in-Some c =
    let found = c.in-Some.ensures in
    rw (cut_found c.args.at c.args.text.now c.in-Some.place found.0 found.1) (search rules)

pub returns-in-None : goal.returns-in-None
returns-in-None c = rw (cut_nowhere c.args.at c.args.text.now c.in-None.ensures) refl
