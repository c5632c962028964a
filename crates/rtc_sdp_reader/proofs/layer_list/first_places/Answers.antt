use Rattle.std.proofs.Common.{sym, ◌∙◌}
use Rattle.rtc_sdp_reader.proofs.PlaceLemmas.{passes_over, passes_known, puts_new}
use Rattle.rtc_sdp_reader.proofs.layer_list.first_places.Goals as goal

pub loop-i-preserved-then-not-is_same : goal.loop-i-preserved-then-not-is_same
loop-i-preserved-then-not-is_same c =
    passes_over c.args.lines.now c.args.direction c.loop-i.i c.loop-i.found c.index-lines-i.result c.loop-i-test.true c.index-lines-i.is (sym c.is_same.ensures ∙ c.if-not-is_same.true) c.loop-i.invariant

pub loop-i-preserved-then-contains_key : goal.loop-i-preserved-then-contains_key
loop-i-preserved-then-contains_key c =
    passes_known c.args.lines.now c.args.direction c.loop-i.i c.loop-i.found c.index-lines-i.result c.loop-i-test.true c.index-lines-i.is (sym c.is_same.ensures ∙ c.if-not-is_same.false) (sym c.contains_key.ensures ∙ c.if-contains_key.true) c.loop-i.invariant

pub loop-i-preserved : goal.loop-i-preserved
loop-i-preserved c =
    puts_new c.args.lines.now c.args.direction c.loop-i.i c.loop-i.found c.insert.new.self c.index-lines-i.result c.loop-i-test.true c.index-lines-i.is (sym c.is_same.ensures ∙ c.if-not-is_same.false) (sym c.contains_key.ensures ∙ c.if-contains_key.false) c.in_ok-insert.ensures.updates.0 c.loop-i.invariant
