-- The report of steps and their replies.
use Rattle.std.specs.Prelude.{◌+◌, ℕ, List, [], ◌∷◌, ◌++◌, Option, Some, None, codes}
use Rattle.std.specs.Fmt.{decimal}
use Rattle.rtc_plain_media.specs.declared.plain_media_event.PlainMediaEvent.{PlainMediaEvent}
use Rattle.rtc_script_reports.specs.Outcomes.{outcome_text}
use Rattle.rtc_script_reports.specs.Outputs.{polled_lines}
use Rattle.rtc_script_reports.specs.Rows.{row_lines, channel_lines}
use Rattle.rtc_run_history.specs.Sides.{side_of}
use Rattle.rtc_run_history.specs.declared.outcome.Outcome.{Outcome}
use Rattle.rtc_run_history.specs.declared.reply.Reply.{Reply}
use Rattle.rtc_run_history.specs.declared.step.Step.{Step}
use Rattle.rtc_run_history.specs.declared.table.Table.{Table}
use Rattle.rtc_script.specs.Words.{side_text}

-- the lines and then the channels of a table, if there is one
abbrev pub table_lines : Option Table → List ℕ
table_lines None = []
table_lines (Some table) = row_lines table.lines ++ channel_lines table.channels

-- the text of a reply, from the words of its outcome on
abbrev pub reply_text : Reply PlainMediaEvent → List ℕ
reply_text reply = outcome_text reply.outcome ++ codes "\n" ++ polled_lines reply.outcome ++ table_lines reply.table

-- the line of a step: its number, its side and its outcome
unfoldable pub step_line : {E : Type 0} → ℕ → Step → Outcome E → List ℕ
step_line number step outcome =
    codes "step " ++ decimal number ++ codes " " ++ side_text (side_of step) ++ codes " " ++ outcome_text outcome ++ codes "\n"

-- the line of a step, what its polls gave, and the rows after it
abbrev pub step_lines : ℕ → Step → Reply PlainMediaEvent → List ℕ
step_lines number step reply = step_line number step reply.outcome ++ polled_lines reply.outcome ++ table_lines reply.table

-- the lines of steps from a number on
abbrev pub report_from : ℕ → List Step → List (Reply PlainMediaEvent) → List ℕ
report_from number [] replies = []
report_from number (step ∷ steps) [] = []
report_from number (step ∷ steps) (reply ∷ replies) = step_lines number step reply ++ report_from (number + 1) steps replies

-- the report of steps and their replies, numbered from 0
abbrev pub report : List Step → List (Reply PlainMediaEvent) → List ℕ
report steps replies = report_from 0 steps replies
