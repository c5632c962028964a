use Rattle.std.proofs.Common.{◌≡◌, ◌++◌, drop, string_bytes}
use Rattle.std.specs.List.{AllByRecursion}
use Rattle.rtc_script_reports.specs.Fits.{FitsShown}
use Rattle.rtc_script_reports.specs.Outputs.{outputs_lines}
use Rattle.rtc_script_reports.proofs.outputs.push_outputs.Given as goal

-- The lines so far, and those of the outputs to come, are all lines. All outputs are of their types if those to come are.
abbrev pub invariant-loop-shown : goal.invariant-loop-shown
invariant-loop-shown l =
    (string_bytes l.out ++ outputs_lines (drop l.shown-index l.outputs) ≡ string_bytes l.fn.out ++ outputs_lines l.outputs)
    × (AllByRecursion FitsShown (drop l.shown-index l.outputs) → AllByRecursion FitsShown l.outputs)
