use Rattle.std.proofs.Common.{◌≡◌, ◌<◌, ◌+◌, ◌*◌, length, vec_len, vec_capacity}
use Rattle.rtc_wire_text.specs.Hex.{hex_bytes}
use Rattle.rtc_wire_text.proofs.FieldLemmas.{so_far}
use Rattle.rtc_sdp_attributes.proofs.hash_value.bytes_between.Given as goal

abbrev pub invariant-loop-rest : goal.invariant-loop-rest
invariant-loop-rest l = record {
  read : so_far l.bytes.items (hex_bytes l.rest) ≡ hex_bytes l.fn.text;
  room : 3 * vec_len l.bytes + length l.rest < 3 * vec_capacity l.bytes;
}

abbrev pub decreases-loop-rest : goal.decreases-loop-rest
decreases-loop-rest l = length l.rest
