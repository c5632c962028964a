use Rattle.std.proofs.Common.{◌≡◌, ◌++◌, drop, string_bytes}
use Rattle.std.specs.List.{AllByRecursion}
use Rattle.rtc_script_reports.specs.Fits.{FitsRow}
use Rattle.rtc_script_reports.specs.Rows.{row_lines}
use Rattle.rtc_script_reports.proofs.rows.push_rows.Given as goal

-- The lines so far, and those of the rows to come, are all lines. All rows are of their types if those to come are.
abbrev pub invariant-loop-row : goal.invariant-loop-row
invariant-loop-row l =
    (string_bytes l.out ++ row_lines (drop l.row-index l.rows) ≡ string_bytes l.fn.out ++ row_lines l.rows)
    × (AllByRecursion FitsRow (drop l.row-index l.rows) → AllByRecursion FitsRow l.rows)
