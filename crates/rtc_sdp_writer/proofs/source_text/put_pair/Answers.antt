use Rattle.std.proofs.Common.{append_assoc}
use Rattle.rtc_sdp_grammar.specs.MediaTexts.{source_pair_line}
use Rattle.rtc_sdp_writer.proofs.source_text.put_pair.Goals as goal

pub returns : goal.returns
unfolding source_pair_line
returns c = rw (c.in_ok-push_str-2.ensures.bytes, c.in_ok-put_ssrc_pair.ensures, c.in_ok-push_str.ensures.bytes) (simp append_assoc)
