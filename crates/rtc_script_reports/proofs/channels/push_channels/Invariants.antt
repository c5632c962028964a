use Rattle.std.proofs.Common.{◌≡◌, ◌++◌, drop, string_bytes}
use Rattle.std.specs.List.{AllByRecursion}
use Rattle.rtc_script_reports.specs.Fits.{FitsChannel}
use Rattle.rtc_script_reports.specs.Rows.{channel_lines}
use Rattle.rtc_script_reports.proofs.channels.push_channels.Given as goal

-- The lines so far, and those of the channels to come, are all lines. All channels are of their types if those to come are.
abbrev pub invariant-loop-row : goal.invariant-loop-row
invariant-loop-row l =
    (string_bytes l.out ++ channel_lines (drop l.row-index l.rows) ≡ string_bytes l.fn.out ++ channel_lines l.rows)
    × (AllByRecursion FitsChannel (drop l.row-index l.rows) → AllByRecursion FitsChannel l.rows)
