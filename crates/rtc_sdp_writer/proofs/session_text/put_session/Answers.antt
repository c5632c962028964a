use Rattle.std.specs.Prelude.{string_bytes}
use Rattle.rtc_sdp_writer.proofs.Orders.{session_written}
use Rattle.rtc_sdp_writer.proofs.session_text.put_session.Goals as goal

pub returns : goal.returns
returns c =
    rw (
      c.in_ok-put_lite_if_so.ensures,
      c.in_ok-put_semantic.ensures,
      c.in_ok-push_str-3.ensures.bytes,
      c.in_ok-put_group.ensures,
      c.in_ok-push_str-2.ensures.bytes,
      c.in_ok-put_origin.ensures,
      c.in_ok-push_str.ensures.bytes,
      c.as_slice.ensures,
      c.as_slice-2.ensures,
    )
    (session_written (string_bytes c.args.out.now) c.args.sdp.now)
