use Rattle.std.specs.Prelude.{string_bytes, codes}
use Rattle.rtc_sdp_grammar.specs.ConnectionTexts.{message_size_line, sctp_init_line}
use Rattle.rtc_sdp_writer.specs.LineRows.{channel_groups}
use Rattle.rtc_sdp_writer.specs.Rows.{optional}
use Rattle.rtc_sdp_writer.proofs.Orders.{channel_written}
use Rattle.rtc_sdp_writer.proofs.media_text.put_channel.Goals as goal

pub returns : goal.returns
unfolding channel_groups
returns c =
    rw (c.in_ok-put_sctp_init_if_any.ensures, c.in_ok-put_message_size_if_any.ensures, c.in_ok-push_str.ensures.bytes)
    (channel_written (string_bytes c.args.out.now) (codes "a=sctp-port:5000") (optional message_size_line c.args.line.now.max_message_size) (optional sctp_init_line c.args.line.now.sctp_init))
