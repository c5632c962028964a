-- Replies to the same steps with one report agree.
use Rattle.std.specs.Prelude.{codes}
use Rattle.std.specs.Fmt.{decimal}
use Rattle.std.specs.List.{AllZip}
use Rattle.std.proofs.Common.{◌≡◌, ◌==◌, ◌||◌, ◌+◌, ◌++◌, ◌∷◌, ℕ, true, false, List, [], map, refl, sym, ◌∙◌, ap, append_assoc}
use Rattle.std.proofs.lemmas.List.{append_cancel_left}
use Rattle.rtc_plain_media.specs.declared.plain_media_event.PlainMediaEvent.{PlainMediaEvent}
use Rattle.rtc_run_history.specs.Sides.{side_of}
use Rattle.rtc_run_history.specs.declared.outcome.Outcome.{Outcome}
use Rattle.rtc_run_history.specs.declared.reply.Reply.{Reply}
use Rattle.rtc_run_history.specs.declared.step.Step.{Step}
use Rattle.rtc_run_history.specs.Past.{table_rows}
use Rattle.rtc_script.specs.Words.{side_text}
use Rattle.rtc_script_reports.specs.Outcomes.{outcome_text}
use Rattle.rtc_script_reports.specs.Outputs.{output_line, polled_lines}
use Rattle.rtc_script_reports.specs.Report.{report_from, step_line, step_lines, table_lines}
use Rattle.rtc_script_reports.specs.Rows.{channel_report_line, row_report_line}
use Rattle.rtc_script_reports.specs.Alike.{AreAlike, ReportsTell}
use Rattle.rtc_script_reports.specs.Fits.{AnswersStep, AreAnswersTo, AreFit, AreInLine, FitsReply}
use Rattle.rtc_script_reports.proofs.Cuts.{text_of}
use Rattle.rtc_script_reports.proofs.ErrorTexts.{PrintsInLine, prints_in_line}
use Rattle.rtc_script_reports.proofs.LineTexts.{GoesOn, cut_line, cut_text, split_by}
use Rattle.rtc_script_reports.proofs.OutcomeTexts.{outcome_whole, same_outcome}
use Rattle.rtc_script_reports.proofs.ReplyLines.{behind_begins, behind_text, channels_all, ends_all, lines_behind, outcome_ends, outputs_all, outputs_of, rest_begins, rows_all, table_begins, table_channels}
use Rattle.rtc_script_reports.proofs.WholeReplies.{lines_whole, same_table}

-- ---- one reply

-- replies of the same lines agree
same_behind : (step : Step) (reply other : Reply PlainMediaEvent) → FitsReply reply → FitsReply other → AnswersStep step reply.outcome → AnswersStep step other.outcome → PrintsInLine reply.outcome → PrintsInLine other.outcome
    → outcome_text reply.outcome ≡ outcome_text other.outcome → lines_behind reply ≡ lines_behind other → AreAlike reply other
same_behind step reply other fit fit' one another line line' words same =
    let outputs = split_by (λ c. c == 111) (map output_line (outputs_of reply.outcome)) (map output_line (outputs_of other.outcome)) _ _ (outputs_all (λ c. c == 111) true reply.outcome refl)
    (outputs_all (λ c. c == 111) true other.outcome refl) (rest_begins (λ c. c == 111) false reply refl refl refl refl) (rest_begins (λ c. c == 111) false other refl refl refl refl) same in
    let ends = split_by (λ c. (c == 101) || (c == 110)) (outcome_ends reply.outcome) (outcome_ends other.outcome) _ _ (ends_all (λ c. (c == 101) || (c == 110)) true reply.outcome refl refl)
    (ends_all (λ c. (c == 101) || (c == 110)) true other.outcome refl refl) (table_begins (λ c. (c == 101) || (c == 110)) false reply.table refl refl)
    (table_begins (λ c. (c == 101) || (c == 110)) false other.table refl refl) outputs.1 in
    let rows = split_by (λ c. c == 108) (map row_report_line (table_rows reply.table)) (map row_report_line (table_rows other.table)) (map channel_report_line (table_channels reply.table))
    (map channel_report_line (table_channels other.table)) (rows_all (λ c. c == 108) true reply.table refl) (rows_all (λ c. c == 108) true other.table refl)
    (channels_all (λ c. c == 108) false reply.table refl) (channels_all (λ c. c == 108) false other.table refl) ends.1 in
    (same_outcome step reply.outcome other.outcome fit.0 fit'.0 fit.1 fit'.1 one another line line' words outputs.0 ends.0, same_table reply.table other.table fit.2 fit'.2 rows.0 rows.1)

-- ---- one step

-- how the line of a step begins
front : ℕ → Step → List ℕ
front number step = codes "step " ++ decimal number ++ codes " " ++ side_text (side_of step) ++ codes " "

-- the text of a step, and what comes behind
front_first : (number : ℕ) (step : Step) (outcome : Outcome PlainMediaEvent) (more : List ℕ) → step_line number step outcome ++ more ≡ front number step ++ (outcome_text outcome ++ 10 ∷ more)
unfolding step_line front
front_first number step outcome more =
    let words : List ℕ = outcome_text outcome in
    append_assoc (front number step ++ words) (codes "\n") more ∙ append_assoc (front number step) words (codes "\n" ++ more)

-- a step begins with a letter of its own
steps_begin : (number : ℕ) (steps : List Step) (replies : List (Reply PlainMediaEvent)) → GoesOn (λ c. c == 115) (report_from number steps replies)
unfolding step_line
steps_begin number [] replies = tt
steps_begin number (step ∷ steps) [] = tt
steps_begin number (step ∷ steps) (reply ∷ replies) = refl

-- the text of a reply, and what comes behind
reply_text : (number : ℕ) (step : Step) (reply : Reply PlainMediaEvent) (more : List ℕ)
    → step_lines number step reply ++ more ≡ front number step ++ (outcome_text reply.outcome ++ 10 ∷ (text_of (lines_behind reply) ++ more))
reply_text number step reply more =
    let line : List ℕ = step_line number step reply.outcome in
    let polled : List ℕ = polled_lines reply.outcome in
    let table : List ℕ = table_lines reply.table in
    append_assoc (line ++ polled) table more
    ∙ append_assoc line polled (table ++ more)
    ∙ ap (λ (t : List ℕ). line ++ t) (sym (append_assoc polled table more) ∙ ap (λ (t : List ℕ). t ++ more) (sym (behind_text reply)))
    ∙ front_first number step reply.outcome (text_of (lines_behind reply) ++ more)

-- ---- all steps

replies_agree : (number : ℕ) (steps : List Step) (replies others : List (Reply PlainMediaEvent)) → AreFit steps replies → AreAnswersTo steps replies → AreInLine replies → AreFit steps others → AreAnswersTo steps others → AreInLine others
    → report_from number steps replies ≡ report_from number steps others → AllZip AreAlike replies others
replies_agree number [] [] [] fit one line fit' other line' same = tt
replies_agree number [] (reply ∷ replies) others fit one line fit' other line' same = absurd one
replies_agree number [] [] (answer ∷ others) fit one line fit' other line' same = absurd other
replies_agree number (step ∷ steps) [] others fit one line fit' other line' same = absurd one
replies_agree number (step ∷ steps) (reply ∷ replies) [] fit one line fit' other line' same = absurd other
replies_agree number (step ∷ steps) (reply ∷ replies) (answer ∷ others) fit one line fit' other line' same =
    let here = prints_in_line reply.outcome fit.0.0 fit.0.1 line.0 in
    let there = prints_in_line answer.outcome fit'.0.0 fit'.0.1 line'.0 in
    let more : List ℕ = report_from (number + 1) steps replies in
    let rest : List ℕ = report_from (number + 1) steps others in
    let words : outcome_text reply.outcome ++ 10 ∷ (text_of (lines_behind reply) ++ more) ≡ outcome_text answer.outcome ++ 10 ∷ (text_of (lines_behind answer) ++ rest) =
    append_cancel_left (front number step) _ _ (sym (reply_text number step reply more) ∙ same ∙ reply_text number step answer rest) in
    let cut = cut_line (outcome_text reply.outcome) (outcome_text answer.outcome) _ _ (outcome_whole step reply.outcome one.0 here) (outcome_whole step answer.outcome other.0 there) words in
    let lines = cut_text (λ c. c == 115) (lines_behind reply) (lines_behind answer) more rest (lines_whole reply fit.0 here) (lines_whole answer fit'.0 there)
    (behind_begins (λ c. c == 115) false reply refl refl refl refl refl) (behind_begins (λ c. c == 115) false answer refl refl refl refl refl)
    (steps_begin (number + 1) steps replies) (steps_begin (number + 1) steps others) cut.1 in
    (same_behind step reply answer fit.0 fit'.0 one.0 other.0 here there cut.0 lines.0, replies_agree (number + 1) steps replies others fit.1 one.1 line.1 fit'.1 other.1 line'.1 lines.1)

pub reports_tell : ReportsTell
reports_tell = λ steps replies fit one line others fit' other line' same. replies_agree 0 steps replies others fit one line fit' other line' same
