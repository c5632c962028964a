use Rattle.std.proofs.Common.{map, refl, get_or}
use Rattle.std.specs.Prelude.{string_bytes}
use Rattle.rtc_wire_text.specs.Lines.{text_of}
use Rattle.std.proofs.Common.{None}
use Rattle.rtc_sdp_grammar.specs.MediaTexts.{source_pair_line}
use Rattle.rtc_sdp_reader.specs.PlainSources.{source_pair, source_pairs}
use Rattle.rtc_sdp_writer.proofs.Orders.{pairs_behind}
use Rattle.rtc_sdp_writer.proofs.Orders.{more_put}
use Rattle.rtc_sdp_writer.proofs.source_text.put_pairs.Goals as goal

pub loop-source-preserved : goal.loop-source-preserved
loop-source-preserved c =
    more_put (λ xs. text_of (map source_pair_line (source_pairs xs))) (λ x. text_of (map source_pair_line (source_pair x.0 x.1))) pairs_behind (string_bytes c.loop-source.out) (string_bytes c.put_pair_if_any.new.out) _ c.args.sources.now c.loop-source.source-index (record { 0 = 0 }, None) (get_or c.args.sources.now c.loop-source.source-index (record { 0 = 0 }, None)) c.loop-source-test.true refl c.in_ok-put_pair_if_any.ensures c.loop-source.invariant
