use Rattle.std.proofs.Common.{◌≡◌, ◌++◌, drop, map}
use Rattle.std.specs.Prelude.{string_bytes}
use Rattle.rtc_wire_text.specs.Lines.{text_of}
use Rattle.rtc_sdp_grammar.specs.MediaTexts.{layer_line}
use Rattle.rtc_sdp_reader.specs.PlainLayers.{rid_line}
use Rattle.rtc_sdp_writer.proofs.layer_text.put_layers_one_way.Given as goal

abbrev pub invariant-loop-layer : goal.invariant-loop-layer
invariant-loop-layer l = string_bytes l.out ++ text_of (map layer_line (map (rid_line l.direction) (drop l.layer-index l.layers))) ≡ string_bytes l.fn.out ++ text_of (map layer_line (map (rid_line l.direction) l.layers))
