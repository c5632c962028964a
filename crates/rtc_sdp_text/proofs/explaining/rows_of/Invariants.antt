-- The rows that were put, with those of the lines that are left, are the rows of the text.
use Rattle.std.proofs.Common.{◌≡◌, ◌++◌, length, drop, string_bytes}
use Rattle.rtc_wire_text.specs.Lines.{lines}
use Rattle.rtc_sdp_text.specs.Explanation.{begun, rows_from}
use Rattle.rtc_sdp_text.proofs.explaining.rows_of.Given as goal

abbrev pub invariant-loop-line : goal.invariant-loop-line
invariant-loop-line l =
    (goal.iterator-loop-line).can_next l.line-iterator
    × (goal.iterator-loop-line).is_finite l.line-iterator
    × (string_bytes l.out ++ rows_from l.walk (drop (length l.yielded) (lines l.fn.text)) ≡ rows_from (begun l.fn.refused) (lines l.fn.text))
