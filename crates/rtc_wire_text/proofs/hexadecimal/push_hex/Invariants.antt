use Rattle.std.proofs.Common.{◌≡◌, ◌++◌, map, drop}
use Rattle.std.specs.Prelude.{string_bytes}
use Rattle.rtc_wire_text.specs.Words.{after_each}
use Rattle.rtc_wire_text.specs.Hex.{hex_text, hex_pair_text}
use Rattle.rtc_wire_text.proofs.hexadecimal.push_hex.Given as goal

abbrev pub invariant-loop-byte : goal.invariant-loop-byte
invariant-loop-byte l = string_bytes l.out ++ after_each 58 (map hex_pair_text (drop l.byte-index l.rest)) ≡ string_bytes l.fn.out ++ hex_text l.fn.bytes
