use Rattle.rtc_wire_text.proofs.TokenLemmas.{short_token_fits}
use Rattle.rtc_wire_text.proofs.short_token.ShortToken.of.Goals as goal

pub invariant_of-result : goal.invariant_of-result
invariant_of-result c = rw (c.copy_from_slice.ensures.after, c.as_bytes.ensures.value) (short_token_fits c.args.text.now c.requires)
