use Rattle.rtc_wire.proofs.ShortTextLemmas.{short_text_fits}
use Rattle.rtc_wire.proofs.short_text.ShortText.of.Goals as goal

pub invariant_of-result : goal.invariant_of-result
invariant_of-result c = rw (c.copy_from_slice.ensures.after, c.as_bytes.ensures.value) (short_text_fits c.args.text.now _ c.requires c.utf8.text)
