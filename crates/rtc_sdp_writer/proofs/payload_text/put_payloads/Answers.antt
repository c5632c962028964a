use Rattle.std.specs.Prelude.{string_bytes}
use Rattle.rtc_wire_text.specs.Lines.{text_of}
use Rattle.rtc_wire_text.proofs.LineLemmas.{text_of-append}
use Rattle.rtc_sdp_writer.specs.MediaRows.{payload_lines, all_payload_lines}
use Rattle.rtc_sdp_writer.proofs.Orders.{more_put}
use Rattle.rtc_sdp_writer.proofs.payload_text.put_payloads.Goals as goal

pub loop-row-preserved : goal.loop-row-preserved
loop-row-preserved c =
    more_put (λ xs. text_of (all_payload_lines c.args.kind xs)) (λ x. text_of (payload_lines c.args.kind x)) (λ x xs. text_of-append (payload_lines c.args.kind x) (all_payload_lines c.args.kind xs)) (string_bytes c.loop-row.out) (string_bytes c.put_payload.new.out) _ c.args.payloads.now c.loop-row.row-index c.row-item.result c.row-item.result c.loop-row-test.true c.row-item.is c.in_ok-put_payload.ensures c.loop-row.invariant
