-- The rows of a side as the steps alone determine them: all but their mids.
use Rattle.std.specs.Prelude.{◌+◌, ◌||◌, ◌&&◌, not, ℕ, zero, suc, Bool, true, false, List, [], ◌∷◌, map, length}
use Rattle.std.specs.Prelude.{if◌then◌else◌, Option, Some, None, is_some, slice_get}
use Rattle.std.specs.List.{list_any}
use Rattle.rtc_wire.specs.declared.channel_config.ChannelConfig.{ChannelConfig}
use Rattle.rtc_wire.specs.ChannelConfig.{fits_open_message}
use Rattle.rtc_sdp_values.specs.declared.line_row.LineRow.{LineRow}
use Rattle.rtc_sdp_values.specs.declared.line_row.LineRow.TheVariants.{Media, App}
use Rattle.rtc_peer_rows.specs.RowChanges.{directed_row, stopped_row, is_changed, changed_at}
use Rattle.rtc_change.specs.TableAfter.{media_after}
use Rattle.rtc_run_history.specs.declared.op.Op.{Op}
use Rattle.rtc_run_history.specs.declared.op.Op.TheVariants.{AddMedia, SetDirection, StopMedia, AddChannel, IceRestart}
use Rattle.rtc_run_history.specs.declared.op_answer.OpAnswer.{OpAnswer}
use Rattle.rtc_run_history.specs.declared.op_answer.OpAnswer.TheVariants.{Mid, NoLine, Channel}
use Rattle.rtc_run_history.specs.Answers.{has_app_row, added}
use Rattle.rtc_run_history.specs.SaidRows.{row_said}

-- a row without its mid
abbrev pub unnamed : LineRow → LineRow
unnamed (Media place mid kind dir stopped remote_created) = Media place [] kind dir stopped remote_created
unnamed (App place mid) = App place []

-- the rows of a side after ops
abbrev pub rows_after_ops : List Op → List LineRow → List LineRow
rows_after_ops [] rows = rows
rows_after_ops (AddMedia kind dir ∷ ops) rows = rows_after_ops ops rows
rows_after_ops (SetDirection place dir ∷ ops) rows = rows_after_ops ops (changed_at (directed_row dir) place rows)
rows_after_ops (StopMedia place ∷ ops) rows = rows_after_ops ops (changed_at stopped_row place rows)
rows_after_ops (AddChannel config ∷ ops) rows = rows_after_ops ops rows
rows_after_ops (IceRestart keep ∷ ops) rows = rows_after_ops ops rows

-- whether ops stage something to offer
abbrev pub must_offer : List Op → List LineRow → Bool
must_offer [] rows = false
must_offer (AddMedia kind dir ∷ ops) rows = true
must_offer (SetDirection place dir ∷ ops) rows =
    is_changed (directed_row dir) (slice_get rows place) || must_offer ops (changed_at (directed_row dir) place rows)
must_offer (StopMedia place ∷ ops) rows =
    is_changed stopped_row (slice_get rows place) || must_offer ops (changed_at stopped_row place rows)
must_offer (AddChannel config ∷ ops) rows = not (has_app_row rows) || must_offer ops rows
must_offer (IceRestart keep ∷ ops) rows = true

-- a result of an operation that adds what it asks for
abbrev pub adding_answer : Op → OpAnswer
adding_answer (AddMedia kind dir) = Mid []
adding_answer (SetDirection place dir) = NoLine
adding_answer (StopMedia place) = NoLine
adding_answer (AddChannel config) = Channel 0
adding_answer (IceRestart keep) = NoLine

-- the rows that ops add to rows, if each op adds what it asks for
abbrev pub rows_added : List LineRow → List Op → List LineRow
rows_added rows ops = added (if has_app_row rows then None else Some []) (length rows) ops (map adding_answer ops)

-- whether an op stops the first line
abbrev pub stops_first : Op → Bool
stops_first (AddMedia kind dir) = false
stops_first (SetDirection place dir) = false
stops_first (StopMedia zero) = true
stops_first (StopMedia (suc place)) = false
stops_first (AddChannel config) = false
stops_first (IceRestart keep) = false

abbrev pub do_stop_first : List Op → Bool
do_stop_first ops = list_any stops_first ops

-- a channel that every peer makes: its open message determines its stream, and has room for its label and protocol
abbrev pub is_in_band : ChannelConfig → Bool
is_in_band config = not (is_some config.negotiated) && fits_open_message config

-- whether an op adds another channel than that
abbrev pub adds_odd_channel : Op → Bool
adds_odd_channel (AddMedia kind dir) = false
adds_odd_channel (SetDirection place dir) = false
adds_odd_channel (StopMedia place) = false
adds_odd_channel (AddChannel config) = not (is_in_band config)
adds_odd_channel (IceRestart keep) = false

abbrev pub do_add_odd_channel : List Op → Bool
do_add_odd_channel ops = list_any adds_odd_channel ops

abbrev pub adds_channel : Op → Bool
adds_channel (AddMedia kind dir) = false
adds_channel (SetDirection place dir) = false
adds_channel (StopMedia place) = false
adds_channel (AddChannel config) = true
adds_channel (IceRestart keep) = false

abbrev pub do_add_channel : List Op → Bool
do_add_channel ops = list_any adds_channel ops

-- the row that a line of an SDP leaves at a place, from the row there before, if any
abbrev pub course_row_after : Bool → ℕ → Option LineRow → LineRow → LineRow
course_row_after offer place before (Media p mid kind dir stopped remote_created) =
    media_after offer place kind (row_said (Media p mid kind dir stopped remote_created)) before
course_row_after offer place before (App p mid) = App place []

-- the rows of a side after an SDP that says these lines, each at the place of its row
abbrev pub course_rows_after : Bool → ℕ → List LineRow → List LineRow → List LineRow
course_rows_after offer place rows [] = rows
course_rows_after offer place [] (line ∷ lines) = course_row_after offer place None line ∷ course_rows_after offer (place + 1) [] lines
course_rows_after offer place (row ∷ rows) (line ∷ lines) =
    course_row_after offer place (Some row) line ∷ course_rows_after offer (place + 1) rows lines
