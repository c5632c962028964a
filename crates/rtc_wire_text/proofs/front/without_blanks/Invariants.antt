use Rattle.std.proofs.Common.{◌≡◌, length}
use denote.Shadow.{shadow}
use denote.Text.{Utf8}
use Rattle.rtc_wire_text.specs.Fronts.{from_first, is_blank}
use Rattle.rtc_wire_text.proofs.front.without_blanks.Given as goal

abbrev pub invariant-loop-next : goal.invariant-loop-next
invariant-loop-next l = (from_first is_blank l.rest ≡ from_first is_blank l.fn.text) × shadow (Utf8 l.rest)

abbrev pub decreases-loop-next : goal.decreases-loop-next
decreases-loop-next l = length l.rest
