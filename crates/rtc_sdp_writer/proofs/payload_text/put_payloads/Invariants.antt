use Rattle.std.proofs.Common.{◌≡◌, ◌++◌, drop}
use Rattle.std.specs.Prelude.{string_bytes}
use Rattle.rtc_wire_text.specs.Lines.{text_of}
use Rattle.rtc_sdp_writer.specs.MediaRows.{all_payload_lines}
use Rattle.rtc_sdp_writer.proofs.payload_text.put_payloads.Given as goal

abbrev pub invariant-loop-row : goal.invariant-loop-row
invariant-loop-row l = string_bytes l.out ++ text_of (all_payload_lines l.kind (drop l.row-index l.payloads)) ≡ string_bytes l.fn.out ++ text_of (all_payload_lines l.kind l.payloads)
