use Rattle.rtc_wire_text.proofs.FieldLemmas.{reads_more, reads_none}
use Rattle.rtc_sdp_attributes.specs.AttributeForms.{layer_name}
use Rattle.rtc_sdp_attributes.proofs.simulcast_value.layer_rids.Goals as goal

pub returns-in_default : goal.returns-in_default
returns-in_default c = reads_none layer_name c.args.parts.now c.loop-part.part-index c.loop-part.rids.items _ c.loop-part-test.true c.in_default.ensures c.loop-part.invariant

pub loop-part-preserved : goal.loop-part-preserved
loop-part-preserved c =
    rw c.in_ok-push.ensures.items
    (reads_more layer_name c.args.parts.now c.loop-part.part-index c.loop-part.rids.items c.in-Some.rid _ c.loop-part-test.true c.in-Some.ensures c.loop-part.invariant)
