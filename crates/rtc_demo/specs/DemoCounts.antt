-- What a demo reports: five numbers, counted over the replies to its steps.
use Rattle.std.specs.Prelude.{◌+◌, ℕ, Bool, true, false, List, [], ◌∷◌, ◌++◌, length, count_by, codes, Option, Some, None}
use Rattle.std.specs.Fmt.{decimal}
use Rattle.rtc_sdp_values.specs.declared.line_row.LineRow.{LineRow}
use Rattle.rtc_sdp_values.specs.declared.line_row.LineRow.TheVariants.{Media, App}
use Rattle.rtc_run_history.specs.Sides.{same_side, side_of}
use Rattle.rtc_run_history.specs.declared.outcome.Outcome.{Outcome}
use Rattle.rtc_run_history.specs.declared.outcome.Outcome.TheVariants.{Negotiated, Answered, Finished, Done, Wrote, Polled, Refused}
use Rattle.rtc_run_history.specs.declared.outcome.Outcome.TheVariants.{NoSuch, Alloc}
use Rattle.rtc_run_history.specs.declared.reply.Reply.{Reply}
use Rattle.rtc_run_history.specs.declared.side.Side.{Side}
use Rattle.rtc_run_history.specs.declared.side.Side.TheVariants.{Left, Right}
use Rattle.rtc_run_history.specs.declared.step.Step.{Step}
use Rattle.rtc_run_history.specs.declared.table.Table.{Table}
use Rattle.rtc_demo.specs.declared.demo_counts.DemoCounts.{DemoCounts}
use Rattle.rtc_demo.specs.declared.table_counts.TableCounts.{TableCounts}

-- an answer was accepted
abbrev pub tells_finished : {E : Type 0} → Outcome E → Bool
tells_finished (Negotiated answers made) = false
tells_finished (Answered k) = false
tells_finished Finished = true
tells_finished Done = false
tells_finished (Wrote taken) = false
tells_finished (Polled outputs end) = false
tells_finished (Refused error) = false
tells_finished NoSuch = false
tells_finished Alloc = false

-- how many replies report that
abbrev pub count_finished : {E : Type 0} → List (Reply E) → ℕ
count_finished replies = count_by (λ reply. tells_finished reply.outcome) replies

-- a media row that was stopped
abbrev pub is_stopped_row : LineRow → Bool
is_stopped_row (Media place mid kind dir stopped remote_created) = stopped
is_stopped_row (App place mid) = false

-- the rows of a table, those of them that were stopped, and its channels
abbrev pub counts_of : Table → TableCounts
counts_of table = record {
  lines = length table.lines;
  stopped = count_by is_stopped_row table.lines;
  channels = length table.channels;
}

abbrev pub no_rows : TableCounts
no_rows = record { lines = 0; stopped = 0; channels = 0 }

abbrev pub counts_or : Bool → Option Table → TableCounts → TableCounts
counts_or true (Some table) earlier = counts_of table
counts_or true None earlier = earlier
counts_or false table earlier = earlier

-- the counts of the last table that replies of a side show; if there is none, the earlier ones
abbrev pub last_counts : {E : Type 0} → Side → TableCounts → List Step → List (Reply E) → TableCounts
last_counts at earlier [] replies = earlier
last_counts at earlier (step ∷ steps) [] = earlier
last_counts at earlier (step ∷ steps) (reply ∷ replies) =
    last_counts at (counts_or (same_side (side_of step) at) reply.table earlier) steps replies

-- What is counted: the rounds, the answers that were accepted, the rows of the left side and those of them that were stopped, and the
-- channels of both sides.
abbrev pub counts_in : {E : Type 0} → ℕ → List Step → List (Reply E) → DemoCounts
counts_in rounds steps replies = record {
  rounds = rounds;
  finished = count_finished replies;
  lines = (last_counts Left no_rows steps replies).lines;
  stopped = (last_counts Left no_rows steps replies).stopped;
  channels = (last_counts Left no_rows steps replies).channels + (last_counts Right no_rows steps replies).channels;
}

-- a line of a name and a number
abbrev pub count_line : List ℕ → ℕ → List ℕ
count_line name n = name ++ codes " " ++ decimal n ++ codes "\n"

-- five lines of them
unfoldable pub counts_text : DemoCounts → List ℕ
counts_text counts =
    count_line (codes "rounds") counts.rounds
    ++ count_line (codes "finished") counts.finished
    ++ count_line (codes "lines") counts.lines
    ++ count_line (codes "stopped") counts.stopped
    ++ count_line (codes "channels") counts.channels
