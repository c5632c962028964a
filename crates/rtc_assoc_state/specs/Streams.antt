-- The streams of an end: each has a row, also if it is not there, since its generation is kept.
use Rattle.std.specs.Prelude.{ℕ, ◌+◌, ◌==◌, ◌&&◌, ◌||◌, not, nat_lt, if◌then◌else◌, Bool, true, false, List, [], ◌∷◌, None, is_some}
use Rattle.std.specs.List.{list_any}
use Rattle.rtc_assoc_state.specs.declared.close_state.CloseState.{CloseState}
use Rattle.rtc_assoc_state.specs.declared.close_state.CloseState.TheVariants.{Unclosed, Queued, Acknowledged}
use Rattle.rtc_assoc_state.specs.declared.stream_row.StreamRow.{StreamRow}

-- the row of a stream of which nothing was heard
abbrev pub fresh_stream : ℕ → StreamRow
fresh_stream id = record { stream = id; generation = 0; there = false; close = Unclosed; finished = false; threshold = None }

-- the row of a stream
abbrev pub stream_of : ℕ → List StreamRow → StreamRow
stream_of id [] = fresh_stream id
stream_of id (row ∷ rows) = if row.stream == id then row else stream_of id rows

-- with one row in place of that of its stream
abbrev pub put : StreamRow → List StreamRow → List StreamRow
put new [] = new ∷ []
put new (row ∷ rows) = if row.stream == new.stream then new ∷ rows else row ∷ put new rows

abbrev pub is_unclosed : CloseState → Bool
is_unclosed Unclosed = true
is_unclosed Queued = false
is_unclosed Acknowledged = false

-- whether this end closed a stream
abbrev pub is_closed_here : StreamRow → Bool
is_closed_here row = not (is_unclosed row.close)

-- whether messages of a generation are kept: of one that this end did not close
abbrev pub takes_messages : StreamRow → ℕ → Bool
takes_messages row generation = nat_lt row.generation generation || ((row.generation == generation) && not (is_closed_here row))

-- the greatest generation, behind which no reset is completed
abbrev pub LAST_GENERATION : ℕ
LAST_GENERATION = 4294967295

abbrev pub is_at_last_generation : StreamRow → Bool
is_at_last_generation row = row.generation == LAST_GENERATION

abbrev pub any_at_last_generation : List StreamRow → Bool
any_at_last_generation rows = list_any is_at_last_generation rows

-- how many streams the other end closed whose reset is not complete
abbrev pub finished_count : List StreamRow → ℕ
finished_count [] = 0
finished_count (row ∷ rows) = (if row.finished then 1 else 0) + finished_count rows

abbrev pub any_threshold : List StreamRow → Bool
any_threshold rows = list_any (λ row. is_some row.threshold) rows

-- the row of a stream whose reset is complete
abbrev pub reset_row : StreamRow → StreamRow
reset_row row = record row { generation = row.generation + 1; there = false; close = Unclosed; finished = false; threshold = None }
