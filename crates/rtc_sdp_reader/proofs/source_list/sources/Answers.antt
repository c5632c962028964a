use Rattle.std.proofs.Common.{ℕ, sym, ◌∙◌, get_or}
use Rattle.rtc_sdp_reader.proofs.NumberLemmas.{source_passed, source_taken}
use Rattle.rtc_sdp_reader.proofs.source_list.sources.Goals as goal

pub loop-number-preserved-then-contains : goal.loop-number-preserved-then-contains
loop-number-preserved-then-contains c =
    let x : ℕ = get_or c.deref-number-items.result.now c.loop-number.number-index 0 in
    source_passed c.args.pairs.now c.deref-number-items.result.now c.loop-number.number-index c.loop-number.rows _ c.loop-number-test.true
    (sym (c.in_ok-others.ensures x) ∙ sym c.contains.ensures ∙ c.if-contains.true) c.loop-number.invariant

pub loop-number-preserved : goal.loop-number-preserved
loop-number-preserved c =
    let x : ℕ = get_or c.deref-number-items.result.now c.loop-number.number-index 0 in
    source_taken c.args.pairs.now c.deref-number-items.result.now c.loop-number.number-index c.loop-number.rows c.push.new.self _ c.copied-rtx.result c.loop-number-test.true
    (sym (c.in_ok-others.ensures x) ∙ sym c.contains.ensures ∙ c.if-contains.false) (c.copied-rtx.ensures ∙ c.get.ensures.value ∙ c.in_ok-rtxs.ensures x) c.in_ok-push.ensures.ok c.loop-number.invariant
