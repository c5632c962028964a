-- The lines behind that of a step: each is one line, and those of rows and channels tell the table.
use Rattle.std.specs.List.{AllByRecursion}
use Rattle.std.proofs.Common.{◌≡◌, ◌++◌, ◌∷◌, ℕ, List, [], map, Option, Some, None, refl, sym, ◌∙◌, ap}
use Rattle.rtc_channels.specs.declared.channel_row.ChannelRow.{ChannelRow}
use Rattle.rtc_sdp_values.specs.declared.line_row.LineRow.{LineRow}
use Rattle.rtc_plain_media.specs.declared.plain_media_event.PlainMediaEvent.{PlainMediaEvent}
use Rattle.rtc_run_history.specs.declared.outcome.Outcome.{Outcome}
use Rattle.rtc_run_history.specs.declared.outcome.Outcome.TheVariants.{Negotiated, Answered, Finished, Done, Wrote, Polled, Refused, NoSuch, Alloc}
use Rattle.rtc_run_history.specs.declared.reply.Reply.{Reply}
use Rattle.rtc_run_history.specs.declared.table.Table.{Table}
use Rattle.rtc_run_history.specs.Past.{table_rows}
use Rattle.rtc_script_reports.specs.Alike.{AreAlikeTables}
use Rattle.rtc_script_reports.specs.Fits.{FitsChannel, FitsPolled, FitsReply, FitsRow, FitsTable}
use Rattle.rtc_script_reports.specs.Outputs.{output_line}
use Rattle.rtc_script_reports.specs.Rows.{channel_report_line, row_report_line}
use Rattle.rtc_script_reports.proofs.ErrorTexts.{PrintsInLine}
use Rattle.rtc_script_reports.proofs.LineTexts.{IsOneLine, same_lines}
use Rattle.rtc_script_reports.proofs.OutputTexts.{end_whole, outputs_whole}
use Rattle.rtc_script_reports.proofs.ReplyLines.{lines_behind, outcome_ends, outputs_of, table_channels}
use Rattle.rtc_script_reports.proofs.TableTexts.{channel_whole, row_whole, same_channel, same_row}

-- ---- each is one line

both_whole : (xs ys : List (List ℕ)) → AllByRecursion IsOneLine xs → AllByRecursion IsOneLine ys → AllByRecursion IsOneLine (xs ++ ys)
both_whole [] ys hx hy = hy
both_whole (x ∷ xs) ys hx hy = (hx.0, both_whole xs ys hx.1 hy)

rows_whole : (rows : List LineRow) → AllByRecursion FitsRow rows → AllByRecursion IsOneLine (map row_report_line rows)
rows_whole [] fit = tt
rows_whole (row ∷ rows) fit = (row_whole row fit.0, rows_whole rows fit.1)

channels_whole : (rows : List ChannelRow) → AllByRecursion IsOneLine (map channel_report_line rows)
channels_whole [] = tt
channels_whole (row ∷ rows) = (channel_whole row, channels_whole rows)

table_whole : (table : Option Table) → FitsTable table → AllByRecursion IsOneLine (map row_report_line (table_rows table) ++ map channel_report_line (table_channels table))
table_whole None fit = tt
table_whole (Some table) fit =
    both_whole (map row_report_line table.lines) (map channel_report_line table.channels) (rows_whole table.lines fit.0) (channels_whole table.channels)

outputs_lines_whole : (outcome : Outcome PlainMediaEvent) → FitsPolled outcome → AllByRecursion IsOneLine (map output_line (outputs_of outcome))
outputs_lines_whole (Polled outputs end) fit = outputs_whole outputs fit.0
outputs_lines_whole (Negotiated answers made) fit = tt
outputs_lines_whole (Answered k) fit = tt
outputs_lines_whole Finished fit = tt
outputs_lines_whole Done fit = tt
outputs_lines_whole (Wrote taken) fit = tt
outputs_lines_whole (Refused error) fit = tt
outputs_lines_whole NoSuch fit = tt
outputs_lines_whole Alloc fit = tt

ends_whole : (outcome : Outcome PlainMediaEvent) → PrintsInLine outcome → AllByRecursion IsOneLine (outcome_ends outcome)
ends_whole (Polled outputs end) one = end_whole end one
ends_whole (Negotiated answers made) one = tt
ends_whole (Answered k) one = tt
ends_whole Finished one = tt
ends_whole Done one = tt
ends_whole (Wrote taken) one = tt
ends_whole (Refused error) one = tt
ends_whole NoSuch one = tt
ends_whole Alloc one = tt

pub lines_whole : (reply : Reply PlainMediaEvent) → FitsReply reply → PrintsInLine reply.outcome → AllByRecursion IsOneLine (lines_behind reply)
lines_whole reply fit line =
    both_whole (map output_line (outputs_of reply.outcome)) (outcome_ends reply.outcome ++ (map row_report_line (table_rows reply.table) ++ map channel_report_line (table_channels reply.table)))
    (outputs_lines_whole reply.outcome fit.1)
    (both_whole (outcome_ends reply.outcome) (map row_report_line (table_rows reply.table) ++ map channel_report_line (table_channels reply.table)) (ends_whole reply.outcome line) (table_whole reply.table fit.2))

-- ---- tables

same_rows : (rows others : List LineRow) → AllByRecursion FitsRow rows → AllByRecursion FitsRow others → map row_report_line rows ≡ map row_report_line others → rows ≡ others
same_rows [] [] fit fit' e = refl
same_rows [] (other ∷ others) fit fit' e = absurd (let f : ◌≡◌ {A = List (List ℕ)} [] (row_report_line other ∷ map row_report_line others) = e in cc)
same_rows (row ∷ rows) [] fit fit' e = absurd (let f : ◌≡◌ {A = List (List ℕ)} (row_report_line row ∷ map row_report_line rows) [] = e in cc)
same_rows (row ∷ rows) (other ∷ others) fit fit' e =
    let both = same_lines (row_report_line row) (row_report_line other) (map row_report_line rows) (map row_report_line others) e in
    ap (λ (first : LineRow). first ∷ rows) (same_row row other fit.0 fit'.0 both.0) ∙ ap (λ (more : List LineRow). other ∷ more) (same_rows rows others fit.1 fit'.1 both.1)

same_channels : (rows others : List ChannelRow) → AllByRecursion FitsChannel rows → AllByRecursion FitsChannel others → map channel_report_line rows ≡ map channel_report_line others → rows ≡ others
same_channels [] [] fit fit' e = refl
same_channels [] (other ∷ others) fit fit' e = absurd (let f : ◌≡◌ {A = List (List ℕ)} [] (channel_report_line other ∷ map channel_report_line others) = e in cc)
same_channels (row ∷ rows) [] fit fit' e = absurd (let f : ◌≡◌ {A = List (List ℕ)} (channel_report_line row ∷ map channel_report_line rows) [] = e in cc)
same_channels (row ∷ rows) (other ∷ others) fit fit' e =
    let both = same_lines (channel_report_line row) (channel_report_line other) (map channel_report_line rows) (map channel_report_line others) e in
    ap (λ (first : ChannelRow). first ∷ rows) (same_channel row other fit.0 fit'.0 both.0) ∙ ap (λ (more : List ChannelRow). other ∷ more) (same_channels rows others fit.1 fit'.1 both.1)

abbrev table_of : List LineRow → List ChannelRow → Table
table_of lines channels = record { lines = lines; channels = channels }

-- equal lines are of equal tables
pub same_table : (table other : Option Table) → FitsTable table → FitsTable other → map row_report_line (table_rows table) ≡ map row_report_line (table_rows other)
    → map channel_report_line (table_channels table) ≡ map channel_report_line (table_channels other) → AreAlikeTables table other
same_table None None fit fit' rows channels = tt
same_table (Some table) (Some other) fit fit' rows channels =
    ap (λ (lines : List LineRow). table_of lines table.channels) (same_rows table.lines other.lines fit.0 fit'.0 rows)
    ∙ ap (λ (held : List ChannelRow). table_of other.lines held) (same_channels table.channels other.channels fit.1 fit'.1 channels)
same_table None (Some other) fit fit' rows channels = (sym (same_rows [] other.lines tt fit'.0 rows), sym (same_channels [] other.channels tt fit'.1 channels))
same_table (Some table) None fit fit' rows channels = (same_rows table.lines [] fit.0 tt rows, same_channels table.channels [] fit.1 tt channels)
