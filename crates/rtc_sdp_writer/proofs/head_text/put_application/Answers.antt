use Rattle.std.proofs.Common.{append_assoc}
use Rattle.rtc_sdp_grammar.specs.LineTexts.{media_line}
use Rattle.rtc_sdp_writer.proofs.head_text.put_application.Goals as goal

pub returns : goal.returns
unfolding media_line
returns c = rw (c.in_ok-write.ensures.bytes, c.port_word-port.ensures) (simp append_assoc)
