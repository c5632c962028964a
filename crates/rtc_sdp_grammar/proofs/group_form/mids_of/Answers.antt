use Rattle.rtc_wire_text.proofs.FieldLemmas.{reads_more, reads_none}
use Rattle.rtc_sdp_attributes.specs.Forms.{short_token}
use Rattle.rtc_sdp_grammar.proofs.group_form.mids_of.Goals as goal

pub returns-in_default : goal.returns-in_default
returns-in_default c = reads_none short_token c.args.words.now c.loop-word.word-index c.loop-word.mids.items _ c.loop-word-test.true c.in_default.ensures c.loop-word.invariant

pub loop-word-preserved : goal.loop-word-preserved
loop-word-preserved c =
    rw c.in_ok-push.ensures.items
    (reads_more short_token c.args.words.now c.loop-word.word-index c.loop-word.mids.items c.in-Some.mid _ c.loop-word-test.true c.in-Some.ensures c.loop-word.invariant)
