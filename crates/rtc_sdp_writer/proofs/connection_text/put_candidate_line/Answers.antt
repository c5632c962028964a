use Rattle.std.proofs.Common.{append_assoc}
use Rattle.rtc_sdp_grammar.specs.ConnectionTexts.{candidate_line}
use Rattle.rtc_sdp_writer.proofs.connection_text.put_candidate_line.Goals as goal

pub returns : goal.returns
unfolding candidate_line
returns c = rw (c.in_ok-push_str-2.ensures.bytes, c.in_ok-put_candidate.ensures, c.in_ok-push_str.ensures.bytes) (simp append_assoc)
