use Rattle.std.proofs.Common.{◌≡◌, ◌++◌, drop, map}
use Rattle.std.specs.Prelude.{string_bytes}
use Rattle.rtc_wire_text.specs.Lines.{text_of}
use Rattle.rtc_sdp_grammar.specs.MediaTexts.{source_pair_line}
use Rattle.rtc_sdp_reader.specs.PlainSources.{source_pairs}
use Rattle.rtc_sdp_writer.proofs.source_text.put_pairs.Given as goal

abbrev pub invariant-loop-source : goal.invariant-loop-source
invariant-loop-source l = string_bytes l.out ++ text_of (map source_pair_line (source_pairs (drop l.source-index l.sources))) ≡ string_bytes l.fn.out ++ text_of (map source_pair_line (source_pairs l.sources))
