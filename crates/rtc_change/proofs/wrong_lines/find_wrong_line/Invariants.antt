use Rattle.std.proofs.Common.{◌≡◌, drop}
use Rattle.rtc_change.specs.WrongLines.{wrong_line}
use Rattle.rtc_change.proofs.wrong_lines.find_wrong_line.Given as goal

abbrev pub invariant-loop-place : goal.invariant-loop-place
invariant-loop-place l = wrong_line l.rows l.added l.place (drop l.place l.lines) ≡ wrong_line l.rows l.added 0 l.lines
