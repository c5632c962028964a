use Rattle.std.proofs.Common.{sym}
use Rattle.rtc_wire_text.proofs.LineLemmas.{text_of-append}
use Rattle.rtc_sdp_writer.specs.LineRows.{all_line_rows}
use Rattle.rtc_sdp_writer.specs.SessionRows.{session_rows, written_sdp}
use Rattle.rtc_sdp_writer.proofs.session_text.write.Goals as goal

pub returns : goal.returns
unfolding written_sdp
returns c =
    rw (c.in_ok-put_lines.ensures, c.in_ok-put_session.ensures, c.empty_string-out.ensures, c.as_slice.ensures)
    (sym (text_of-append (session_rows c.args.sdp.now) (all_line_rows c.args.sdp.now.lines)))
