use Rattle.std.proofs.Common.{sym, arith, rules, None}
use Rattle.rtc_channels.proofs.PlaceLemmas.{bound_found, bound_missed}
use Rattle.rtc_channels.proofs.kept.find_place.Goals as goal

pub returns-then-place-rows-clause-place : goal.returns-then-place-rows-clause-place
returns-then-place-rows-clause-place c =
    sym (bound_missed c.args.id c.args.rows.now c.lower_bound-place.result (c.args.id, None) c.requires c.lower_bound-place.ensures
    (λ within same. grind (arith, within, c.if-place-rows.true)))

pub returns-then-eq-clause-place : goal.returns-then-eq-clause-place
returns-then-eq-clause-place c =
    sym (bound_found c.args.id c.args.rows.now c.lower_bound-place.result c.index-rows-place.result c.lower_bound-place.ensures (grind (arith, c.if-place-rows.false, c.lower_bound-place.ensures.within)) (search rules))

pub returns-clause-place : goal.returns-clause-place
returns-clause-place c =
    sym (bound_missed c.args.id c.args.rows.now c.lower_bound-place.result c.index-rows-place.result c.requires c.lower_bound-place.ensures
    (λ within same. grind (arith, same, c.index-rows-place.is, c.if-eq.false, c.eq.ensures)))
