use Rattle.std.proofs.Common.{append_assoc}
use Rattle.std.proofs.lemmas.List.{append-nil}
use Rattle.rtc_wire_text.proofs.LineLemmas.{text_of-append}
use Rattle.rtc_sdp_writer.specs.LineRows.{media_groups}
use Rattle.rtc_sdp_writer.proofs.media_text.put_medium.Goals as goal

pub returns : goal.returns
unfolding media_groups
returns c = rw (c.in_ok-put_sources_if_shown.ensures, c.in_ok-put_simulcast_if_any.ensures, c.in_ok-put_payloads.ensures, c.in_ok-push_str.ensures.bytes, c.in_ok-put_stream_if_shown.ensures, c.in_ok-put_direction.ensures, c.in_ok-put_extensions.ensures, c.as_slice-2.ensures, c.as_slice.ensures) (simp (text_of-append, append_assoc, append-nil))
