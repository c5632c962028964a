use Rattle.std.proofs.Common.{◌≡◌, ◌++◌, drop, string_bytes}
use Rattle.rtc_script_reports.specs.Fits.{AreFit}
use Rattle.rtc_script_reports.specs.Report.{report_from, report}
use Rattle.rtc_script_reports.proofs.reports.write_report.Given as goal

-- The lines so far, and those of the steps to come, are the report. All replies are of their types if those to come are.
abbrev pub invariant-loop-number : goal.invariant-loop-number
invariant-loop-number l =
    (string_bytes l.out ++ report_from l.number (drop l.number l.steps) (drop l.number l.replies) ≡ report l.steps l.replies)
    × (AreFit (drop l.number l.steps) (drop l.number l.replies) → AreFit l.steps l.replies)
