use Rattle.std.proofs.Common.{refl, get_or}
use Rattle.std.specs.Prelude.{string_bytes}
use Rattle.rtc_wire_text.specs.Lines.{text_of}
use Rattle.rtc_wire_text.proofs.LineLemmas.{text_of-append}
use Rattle.std.proofs.Common.{None}
use Rattle.rtc_sdp_writer.specs.MediaRows.{source_lines, all_source_lines}
use Rattle.rtc_sdp_writer.proofs.Orders.{more_put}
use Rattle.rtc_sdp_writer.proofs.source_text.put_all_sources.Goals as goal

pub loop-source-preserved : goal.loop-source-preserved
loop-source-preserved c =
    more_put (λ xs. text_of (all_source_lines c.args.line.now.cname c.args.line.now.msid xs)) (λ x. text_of (source_lines c.args.line.now.cname c.args.line.now.msid x)) (λ x xs. text_of-append (source_lines c.args.line.now.cname c.args.line.now.msid x) (all_source_lines c.args.line.now.cname c.args.line.now.msid xs)) (string_bytes c.loop-source.out) (string_bytes c.put_source.new.out) _ c.args.sources.now c.loop-source.source-index (record { 0 = 0 }, None) (get_or c.args.sources.now c.loop-source.source-index (record { 0 = 0 }, None)) c.loop-source-test.true refl c.in_ok-put_source.ensures c.loop-source.invariant
