use Rattle.std.proofs.Common.{◌≡◌, ◌∙◌, ap, not, eqb}
use Rattle.std.specs.List.{list_any}
use Rattle.rtc_sdp_attributes.proofs.HashLemmas.{none_is_all_others}
use Rattle.rtc_sdp_attributes.proofs.word_value.is_spaceless.Goals as goal

pub returns : goal.returns
returns c =
    let found : c.contains.result ≡ list_any (λ x. eqb x 32) c.args.text.now = c.contains.ensures.value ∙ ap (list_any (λ x. eqb x 32)) c.as_bytes.ensures.value in
    ap not found ∙ none_is_all_others 32 c.args.text.now
