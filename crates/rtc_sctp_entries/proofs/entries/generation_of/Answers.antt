use Rattle.std.proofs.Common.{sym, arith}
use Rattle.rtc_sctp_entries.proofs.OrderLemmas.{generation_here, generation_none, none_past, none_at}
use Rattle.rtc_sctp_entries.proofs.entries.generation_of.Goals as goal

pub returns-then-entries-place : goal.returns-then-entries-place
returns-then-entries-place c =
    sym (generation_none c.args.id c.args.entries.now (none_past c.args.id _ c.args.entries.now c.place_from-place.ensures.before (omega (arith, c.if-entries-place.true))))

pub returns-then-entries-place-2 : goal.returns-then-entries-place-2
returns-then-entries-place-2 c =
    sym (generation_here c.args.id _ c.args.entries.now c.index-entries-place.result _ c.requires (omega (arith, c.if-entries-place.false)) c.index-entries-place.is
    (grind (arith, c.if-entries-place-2.true)))

pub returns : goal.returns
returns c =
    sym (generation_none c.args.id c.args.entries.now (none_at c.args.id _ c.args.entries.now c.index-entries-place.result c.requires c.place_from-place.ensures.before
    c.place_from-place.ensures.behind (omega (arith, c.if-entries-place.false)) c.index-entries-place.is (λ e. grind (arith, c.if-entries-place-2.false, e))))
