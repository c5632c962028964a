use Rattle.std.proofs.Common.{append_assoc}
use Rattle.rtc_wire_text.proofs.LineLemmas.{text_of-append}
use Rattle.rtc_sdp_writer.specs.Placeholders.{filled_line_rows}
use Rattle.rtc_sdp_writer.proofs.Orders.{in_order-append}
use Rattle.rtc_sdp_writer.proofs.filled_text.put_filled_line.Goals as goal

pub returns : goal.returns
unfolding filled_line_rows
returns c =
    rw (
      c.in_ok-put_kind.ensures,
      c.in_ok-put_transport.ensures,
      c.in_ok-put_filled_media.ensures,
      c.as_slice.ensures,
    )
    (simp (in_order-append, text_of-append, append_assoc))
