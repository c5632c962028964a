use Rattle.std.proofs.Common.{append_assoc}
use Rattle.rtc_sdp_grammar.specs.MediaTexts.{layer_list_line}
use Rattle.rtc_sdp_writer.proofs.layer_text.put_layer_list.Goals as goal

pub returns : goal.returns
unfolding layer_list_line
returns c = rw (c.in_ok-push_str-2.ensures.bytes, c.in_ok-put_simulcast.ensures, c.in_ok-push_str.ensures.bytes) (simp append_assoc)
