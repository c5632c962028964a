use Rattle.std.specs.Prelude.{string_bytes}
use Rattle.rtc_wire_text.specs.Lines.{text_of}
use Rattle.rtc_wire_text.proofs.LineLemmas.{text_of-append}
use Rattle.rtc_sdp_writer.specs.Placeholders.{filled_line_rows, all_filled_line_rows}
use Rattle.rtc_sdp_writer.proofs.Orders.{more_put}
use Rattle.rtc_sdp_writer.proofs.filled_text.put_filled_lines.Goals as goal

pub loop-line-preserved : goal.loop-line-preserved
loop-line-preserved c =
    more_put (λ xs. text_of (all_filled_line_rows xs)) (λ x. text_of (filled_line_rows x)) (λ x xs. text_of-append (filled_line_rows x) (all_filled_line_rows xs)) (string_bytes c.loop-line.out) (string_bytes c.put_filled_line.new.out) _ c.args.lines.now c.loop-line.line-index c.line-item.result c.line-item.result c.loop-line-test.true c.line-item.is c.in_ok-put_filled_line.ensures c.loop-line.invariant
