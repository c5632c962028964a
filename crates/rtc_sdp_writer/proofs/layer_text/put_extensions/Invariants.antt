use Rattle.std.proofs.Common.{◌≡◌, ◌++◌, drop, map}
use Rattle.std.specs.Prelude.{string_bytes}
use Rattle.rtc_wire_text.specs.Lines.{text_of}
use Rattle.rtc_sdp_grammar.specs.MediaTexts.{extension_line}
use Rattle.rtc_sdp_writer.proofs.layer_text.put_extensions.Given as goal

abbrev pub invariant-loop-row : goal.invariant-loop-row
invariant-loop-row l = string_bytes l.out ++ text_of (map extension_line (drop l.row-index l.exts)) ≡ string_bytes l.fn.out ++ text_of (map extension_line l.exts)
