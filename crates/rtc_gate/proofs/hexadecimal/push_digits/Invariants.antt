use Rattle.std.proofs.Common.{◌≡◌, ◌++◌, drop, string_bytes}
use Rattle.rtc_gate.specs.HexWords.{digits_of}
use Rattle.rtc_gate.proofs.hexadecimal.push_digits.Given as goal

-- the digits so far, and those of the bytes to come, are all digits
abbrev pub invariant-loop-byte : goal.invariant-loop-byte
invariant-loop-byte l = string_bytes l.out ++ digits_of (drop l.byte-index l.bytes) ≡ string_bytes l.fn.out ++ digits_of l.fn.bytes
