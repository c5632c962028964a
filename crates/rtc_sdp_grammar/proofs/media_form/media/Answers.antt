use Rattle.rtc_sdp_grammar.proofs.WordLemmas.{two_words}
use Rattle.rtc_sdp_grammar.proofs.media_form.media.Goals as goal

pub returns-in_default-cut : goal.returns-in_default-cut
returns-in_default-cut c = two_words c.args.value.now c.in-Some.kind.now c.in-Some.rest.now c.in-Some.ensures c.in_default-cut.ensures
