use Rattle.std.proofs.Common.{◌≡◌, ◌-◌, drop, length}
use Rattle.rtc_gate.specs.HexWords.{bytes_of_digits}
use Rattle.rtc_gate.proofs.HexLemmas.{with_front}
use Rattle.rtc_gate.proofs.hexadecimal.bytes_of_digits.Given as goal

-- the bytes so far, and those of the digits to come, are all bytes
abbrev pub invariant-loop-at : goal.invariant-loop-at
invariant-loop-at l = with_front l.bytes.items (bytes_of_digits (drop l.at l.digits)) ≡ bytes_of_digits l.digits

abbrev pub decreases-loop-at : goal.decreases-loop-at
decreases-loop-at l = length l.digits - l.at
