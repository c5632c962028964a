use Rattle.std.proofs.Common.{map, refl}
use Rattle.std.specs.Prelude.{string_bytes}
use Rattle.rtc_wire_text.specs.Lines.{text_of, crlf}
use Rattle.rtc_sdp_grammar.specs.MediaTexts.{layer_line}
use Rattle.rtc_sdp_reader.specs.PlainLayers.{rid_line}
use Rattle.rtc_sdp_writer.proofs.Orders.{more_put}
use Rattle.rtc_sdp_writer.proofs.layer_text.put_layers_one_way.Goals as goal

pub loop-layer-preserved : goal.loop-layer-preserved
loop-layer-preserved c =
    more_put (λ xs. text_of (map layer_line (map (rid_line c.args.direction) xs))) (λ x. crlf (layer_line (rid_line c.args.direction x))) (λ x xs. refl) (string_bytes c.loop-layer.out) (string_bytes c.put_layer.new.out) _ c.args.layers.now c.loop-layer.layer-index c.layer-item.result c.layer-item.result c.loop-layer-test.true c.layer-item.is c.in_ok-put_layer.ensures c.loop-layer.invariant
