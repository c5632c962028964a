use Rattle.std.proofs.Common.{sym, ◌∙◌, get_or, refl}
use Rattle.rtc_sdp_reader.proofs.NumberLemmas.{pair_known, pair_new}
use Rattle.rtc_sdp_reader.proofs.source_list.first_rtxs.Goals as goal

pub loop-i-preserved-then-contains_key : goal.loop-i-preserved-then-contains_key
loop-i-preserved-then-contains_key c =
    pair_known c.args.pairs.now c.loop-i.i c.loop-i.found (record { 0 = 0 }, record { 0 = 0 }) (get_or c.args.pairs.now c.loop-i.i (record { 0 = 0 }, record { 0 = 0 })) c.loop-i-test.true refl (sym c.contains_key.ensures ∙ c.if-contains_key.true) c.loop-i.invariant

pub loop-i-preserved : goal.loop-i-preserved
loop-i-preserved c =
    pair_new c.args.pairs.now c.loop-i.i c.loop-i.found c.insert.new.self (record { 0 = 0 }, record { 0 = 0 }) (get_or c.args.pairs.now c.loop-i.i (record { 0 = 0 }, record { 0 = 0 })) c.loop-i-test.true refl (sym c.contains_key.ensures ∙ c.if-contains_key.false) c.in_ok-insert.ensures.updates.0 c.loop-i.invariant
