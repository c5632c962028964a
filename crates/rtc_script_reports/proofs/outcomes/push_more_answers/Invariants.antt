use Rattle.std.proofs.Common.{◌≡◌, ◌++◌, drop, string_bytes}
use Rattle.std.specs.List.{AllByRecursion}
use Rattle.rtc_script_reports.specs.Fits.{FitsAnswer}
use Rattle.rtc_script_reports.specs.Outcomes.{more_answers}
use Rattle.rtc_script_reports.proofs.outcomes.push_more_answers.Given as goal

-- The answers so far, and those to come, are all answers. All answers are of their types if those to come are.
abbrev pub invariant-loop-answer : goal.invariant-loop-answer
invariant-loop-answer l =
    (string_bytes l.out ++ more_answers (drop l.answer-index l.answers) ≡ string_bytes l.fn.out ++ more_answers l.answers)
    × (AllByRecursion FitsAnswer (drop l.answer-index l.answers) → AllByRecursion FitsAnswer l.answers)
