use Rattle.std.proofs.Common.{map}
use Rattle.std.specs.Prelude.{string_bytes}
use Rattle.std.specs.Fmt.{decimal}
use Rattle.rtc_wire_text.specs.Words.{spaced}
use Rattle.rtc_sdp_reader.specs.PlainPayloads.{formats_of, row_formats}
use Rattle.rtc_sdp_writer.proofs.Orders.{numbers_behind}
use Rattle.rtc_sdp_writer.proofs.Orders.{more_put}
use Rattle.rtc_sdp_writer.proofs.head_text.put_numbers.Goals as goal

pub loop-row-preserved : goal.loop-row-preserved
loop-row-preserved c =
    more_put (λ xs. spaced (map decimal (formats_of xs))) (λ x. spaced (map decimal (row_formats x))) numbers_behind (string_bytes c.loop-row.out) (string_bytes c.put_row_numbers.new.out) _ c.args.rows.now c.loop-row.row-index c.row-item.result c.row-item.result c.loop-row-test.true c.row-item.is c.in_ok-put_row_numbers.ensures c.loop-row.invariant
