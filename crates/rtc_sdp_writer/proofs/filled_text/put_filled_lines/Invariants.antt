use Rattle.std.proofs.Common.{◌≡◌, ◌++◌, drop}
use Rattle.std.specs.Prelude.{string_bytes}
use Rattle.rtc_wire_text.specs.Lines.{text_of}
use Rattle.rtc_sdp_writer.specs.Placeholders.{all_filled_line_rows}
use Rattle.rtc_sdp_writer.proofs.filled_text.put_filled_lines.Given as goal

abbrev pub invariant-loop-line : goal.invariant-loop-line
invariant-loop-line l = string_bytes l.out ++ text_of (all_filled_line_rows (drop l.line-index l.lines)) ≡ string_bytes l.fn.out ++ text_of (all_filled_line_rows l.lines)
