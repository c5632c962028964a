use Rattle.std.proofs.Common.{◌≡◌, ◌+◌, ◌*◌, ◌++◌, map, drop}
use Rattle.std.specs.Str.{IsAscii}
use Rattle.arrayvec.specs.ArrayVec.{array_vec_len}
use Rattle.rtc_wire_text.specs.Words.{after_each}
use Rattle.rtc_wire_text.specs.Hex.{hex_text, hex_pair_text}
use Rattle.rtc_sdp_attributes.proofs.hash_value.short_text.Given as goal

abbrev pub invariant-loop-byte : goal.invariant-loop-byte
invariant-loop-byte l = record {
  items : l.text.items ++ after_each 58 (map hex_pair_text (drop l.byte-index l.rest)) ≡ hex_text l.fn.bytes;
  len : array_vec_len l.text ≡ 2 + 3 * l.byte-index;
  ascii : IsAscii l.text.items;
}
