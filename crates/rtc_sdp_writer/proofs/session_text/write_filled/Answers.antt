use Rattle.std.proofs.Common.{sym}
use Rattle.rtc_wire_text.proofs.LineLemmas.{text_of-append}
use Rattle.rtc_sdp_writer.specs.Placeholders.{all_filled_line_rows, filled_sdp}
use Rattle.rtc_sdp_writer.specs.SessionRows.{session_rows}
use Rattle.rtc_sdp_writer.proofs.session_text.write_filled.Goals as goal

pub returns : goal.returns
unfolding filled_sdp
returns c =
    rw (c.in_ok-put_filled_lines.ensures, c.in_ok-put_session.ensures, c.empty_string-out.ensures, c.as_slice.ensures)
    (sym (text_of-append (session_rows c.args.sdp.now) (all_filled_line_rows c.args.sdp.now.lines)))
