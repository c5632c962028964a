use Rattle.rtc_sdp_attributes.proofs.PairLemmas.{keeps_more, keeps_none}
use Rattle.rtc_sdp_attributes.proofs.rid_value.kept_pairs.Goals as goal

pub returns-in_default : goal.returns-in_default
returns-in_default c = keeps_none c.args.parts.now c.loop-part.part-index c.loop-part.pairs.items _ c.loop-part-test.true c.in_default.ensures c.loop-part.invariant

pub loop-part-preserved : goal.loop-part-preserved
loop-part-preserved c =
    rw c.in_ok-push_kept.ensures
    (keeps_more c.args.parts.now c.loop-part.part-index c.loop-part.pairs.items _ _ c.loop-part-test.true c.in-Some.ensures c.loop-part.invariant)
