use Rattle.rtc_wire_text.specs.Numbers.{number_up_to}
use Rattle.rtc_wire_text.proofs.FieldLemmas.{reads_more, reads_none}
use Rattle.rtc_sdp_grammar.proofs.media_form.payload_types.Goals as goal

pub returns-in_default : goal.returns-in_default
returns-in_default c = reads_none (number_up_to 127) c.args.words.now c.loop-word.word-index c.loop-word.numbers.items _ c.loop-word-test.true c.in_default.ensures c.loop-word.invariant

pub loop-word-preserved : goal.loop-word-preserved
loop-word-preserved c =
    rw c.in_ok-push.ensures.items
    (reads_more (number_up_to 127) c.args.words.now c.loop-word.word-index c.loop-word.numbers.items c.in-Some.number _ c.loop-word-test.true c.in-Some.ensures c.loop-word.invariant)
