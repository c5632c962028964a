-- What the results of operations say of what a step stages: whether there is anything, whether it has to be offered, which rows and which
-- channels it adds.
use Rattle.std.specs.Prelude.{◌+◌, ℕ, Bool, true, false, not, List, [], ◌∷◌, ◌++◌, Option, Some, None, is_some}
use Rattle.std.specs.List.{list_any}
use Rattle.rtc_wire.specs.declared.channel_config.ChannelConfig.{ChannelConfig}
use Rattle.rtc_sdp_values.specs.declared.line_row.LineRow.{LineRow}
use Rattle.rtc_sdp_values.specs.declared.line_row.LineRow.TheVariants.{Media, App}
use Rattle.rtc_peer_rows.specs.Table.{app_of}
use Rattle.rtc_channels.specs.Channels.{Channels, unconfirmed}
use Rattle.rtc_channels.specs.declared.channel_row.ChannelRow.{ChannelRow}
use Rattle.rtc_run_history.specs.declared.op.Op.{Op}
use Rattle.rtc_run_history.specs.declared.op.Op.TheVariants.{AddMedia, AddChannel}
use Rattle.rtc_run_history.specs.declared.op_answer.OpAnswer.{OpAnswer}
use Rattle.rtc_run_history.specs.declared.op_answer.OpAnswer.TheVariants.{Mid, Changed, NoLine, Channel, BadChannel, Creds, Alloc}

-- whether an op staged something
abbrev pub stages : OpAnswer → Bool
stages (Mid mid) = true
stages (Changed changed) = changed
stages NoLine = false
stages (Channel id) = true
stages BadChannel = false
stages (Creds creds) = true
stages Alloc = false

abbrev pub do_stage : List OpAnswer → Bool
do_stage answers = list_any stages answers

-- whether a side has an m-line of data channels
abbrev pub has_app_row : List LineRow → Bool
has_app_row rows = is_some (app_of rows)

-- Whether what an operation staged has to be offered, at a side with or without an m-line of data channels: a channel alone need not be if
-- there is one.
abbrev pub needs_offer : Bool → OpAnswer → Bool
needs_offer has_app (Mid mid) = true
needs_offer has_app (Changed changed) = changed
needs_offer has_app NoLine = false
needs_offer has_app (Channel id) = not has_app
needs_offer has_app BadChannel = false
needs_offer has_app (Creds creds) = true
needs_offer has_app Alloc = false

abbrev pub do_need_offer : Bool → List OpAnswer → Bool
do_need_offer has_app answers = list_any (needs_offer has_app) answers

-- The rows that operations add, at places from this one on: one for each operation whose result is a mid; and at the first channel a row of
-- data channels with the mid that is given for one.
abbrev pub added : Option (List ℕ) → ℕ → List Op → List OpAnswer → List LineRow
added app place [] answers = []
added app place (op ∷ ops) [] = []
added app place (AddMedia kind dir ∷ ops) (Mid mid ∷ answers) = Media place mid kind dir false false ∷ added app (place + 1) ops answers
added (Some app) place (AddChannel config ∷ ops) (Channel id ∷ answers) = App place app ∷ added None (place + 1) ops answers
added app place (op ∷ ops) (answer ∷ answers) = added app place ops answers

-- the channels with one more
abbrev pub with_numbered : ℕ → ChannelConfig → Channels → Channels
with_numbered id config held = record held { given = held.given + 1; rows = held.rows ++ unconfirmed id config ∷ [] }

-- the channel numbers in results
abbrev pub numbers_answered : List OpAnswer → List ℕ
numbers_answered [] = []
numbers_answered (Mid mid ∷ answers) = numbers_answered answers
numbers_answered (Changed changed ∷ answers) = numbers_answered answers
numbers_answered (NoLine ∷ answers) = numbers_answered answers
numbers_answered (Channel id ∷ answers) = id ∷ numbers_answered answers
numbers_answered (BadChannel ∷ answers) = numbers_answered answers
numbers_answered (Creds creds ∷ answers) = numbers_answered answers
numbers_answered (Alloc ∷ answers) = numbers_answered answers

-- the row of a channel that waits for a stream
abbrev pub waiting_row : ℕ → ChannelRow
waiting_row id = record { id = id; stream = None; generation = 0; is_open = false }

-- the rows of the channels in results
abbrev pub rows_waiting : List OpAnswer → List ChannelRow
rows_waiting [] = []
rows_waiting (Mid mid ∷ answers) = rows_waiting answers
rows_waiting (Changed changed ∷ answers) = rows_waiting answers
rows_waiting (NoLine ∷ answers) = rows_waiting answers
rows_waiting (Channel id ∷ answers) = waiting_row id ∷ rows_waiting answers
rows_waiting (BadChannel ∷ answers) = rows_waiting answers
rows_waiting (Creds creds ∷ answers) = rows_waiting answers
rows_waiting (Alloc ∷ answers) = rows_waiting answers

-- whether a result reports that no channel was made
abbrev pub is_bad : OpAnswer → Bool
is_bad (Mid mid) = false
is_bad (Changed changed) = false
is_bad NoLine = false
is_bad (Channel id) = false
is_bad BadChannel = true
is_bad (Creds creds) = false
is_bad Alloc = false

-- whether a result has the credentials of a restart
abbrev pub is_restart_answer : OpAnswer → Bool
is_restart_answer (Mid mid) = false
is_restart_answer (Changed changed) = false
is_restart_answer NoLine = false
is_restart_answer (Channel id) = false
is_restart_answer BadChannel = false
is_restart_answer (Creds creds) = true
is_restart_answer Alloc = false

-- whether a step staged a restart of ICE
abbrev pub do_restart : List OpAnswer → Bool
do_restart answers = list_any is_restart_answer answers
