use Rattle.rtc_sdp_attributes.proofs.HashLemmas.{ascii_utf8}
use Rattle.rtc_sdp_attributes.proofs.hash_value.put_short.Goals as goal

pub unreachable-requires : goal.unreachable-requires
unreachable-requires c = c.in-Err.ensures.cases.0 (rw c.as_slice.ensures.value (ascii_utf8 _ c.short_text-text.ensures.ascii))
