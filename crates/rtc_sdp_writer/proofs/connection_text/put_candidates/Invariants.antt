use Rattle.std.proofs.Common.{◌≡◌, ◌++◌, drop, map}
use Rattle.std.specs.Prelude.{string_bytes}
use Rattle.rtc_wire_text.specs.Lines.{text_of}
use Rattle.rtc_sdp_grammar.specs.ConnectionTexts.{candidate_line}
use Rattle.rtc_sdp_writer.proofs.connection_text.put_candidates.Given as goal

abbrev pub invariant-loop-candidate : goal.invariant-loop-candidate
invariant-loop-candidate l = string_bytes l.out ++ text_of (map candidate_line (drop l.candidate-index l.candidates)) ≡ string_bytes l.fn.out ++ text_of (map candidate_line l.candidates)
