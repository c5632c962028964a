use Rattle.std.proofs.Common.{◌≡◌, ◌++◌, drop}
use Rattle.std.specs.Prelude.{string_bytes}
use Rattle.rtc_wire_text.specs.Lines.{text_of}
use Rattle.rtc_sdp_writer.specs.MediaRows.{all_source_lines}
use Rattle.rtc_sdp_writer.proofs.source_text.put_all_sources.Given as goal

abbrev pub invariant-loop-source : goal.invariant-loop-source
invariant-loop-source l = string_bytes l.out ++ text_of (all_source_lines l.line.cname l.line.msid (drop l.source-index l.sources)) ≡ string_bytes l.fn.out ++ text_of (all_source_lines l.line.cname l.line.msid l.sources)
