use Rattle.std.proofs.Common.{◌≡◌, ◌++◌, take, drop, codes}
use Rattle.std.specs.Prelude.{string_bytes}
use Rattle.rtc_wire_text.specs.Words.{spaced}
use Rattle.rtc_sdp_writer.specs.SessionRows.{names_behind, stream_names}
use Rattle.rtc_sdp_writer.proofs.StreamLemmas.{FoundIn}
use Rattle.rtc_sdp_writer.proofs.semantic_text.put_semantic.Given as goal

abbrev pub invariant-loop-i : goal.invariant-loop-i
invariant-loop-i l = record {
  put : string_bytes l.out ++ spaced (names_behind (take l.i l.lines) (drop l.i l.lines)) ≡ (string_bytes l.fn.out ++ codes "a=msid-semantic: WMS") ++ spaced (stream_names l.lines);
  found : FoundIn l.found (take l.i l.lines);
}
