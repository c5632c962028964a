use Rattle.std.proofs.Common.{◌≡◌, length}
use denote.Shadow.{shadow}
use denote.Text.{Utf8}
use Rattle.rtc_wire_text.specs.Fronts.{from_first, is_byte}
use Rattle.rtc_wire_text.proofs.front.without_first.Given as goal

abbrev pub invariant-loop-next : goal.invariant-loop-next
invariant-loop-next l = (from_first (is_byte l.byte) l.rest ≡ from_first (is_byte l.byte) l.fn.text) × shadow (Utf8 l.rest)

abbrev pub decreases-loop-next : goal.decreases-loop-next
decreases-loop-next l = length l.rest
