use Rattle.std.proofs.Common.{◌≡◌, length}
use Rattle.rtc_wire_text.specs.Hex.{hex_bytes}
use Rattle.rtc_wire_text.proofs.FieldLemmas.{so_far}
use Rattle.rtc_wire_text.proofs.hexadecimal.bytes_between.Given as goal

abbrev pub invariant-loop-rest : goal.invariant-loop-rest
invariant-loop-rest l = so_far l.bytes.items (hex_bytes l.rest) ≡ hex_bytes l.fn.text

abbrev pub decreases-loop-rest : goal.decreases-loop-rest
decreases-loop-rest l = length l.rest
