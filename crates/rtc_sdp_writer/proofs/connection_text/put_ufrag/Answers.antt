use Rattle.std.proofs.Common.{append_assoc}
use Rattle.rtc_sdp_grammar.specs.ConnectionTexts.{ufrag_line}
use Rattle.rtc_sdp_writer.proofs.connection_text.put_ufrag.Goals as goal

pub returns : goal.returns
unfolding ufrag_line
returns c = rw (c.in_ok-push_str-3.ensures.bytes, c.in_ok-push_str-2.ensures.bytes, c.in_ok-push_str.ensures.bytes) (simp append_assoc)
