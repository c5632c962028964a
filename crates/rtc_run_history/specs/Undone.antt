-- What a side shows once it rolled an offer back (RFC 8829, section 5.7), read from the past: each row that the step of the offer changed
-- is as it was before that step, and the channels that the step added are gone.
use Rattle.std.specs.Prelude.{◌+◌, not, ℕ, true, List, [], ◌∷◌, ◌++◌, filter, if◌then◌else◌, Option, Some, slice_get}
use Rattle.rtc_sdp_values.specs.declared.line_row.LineRow.{LineRow}
use Rattle.rtc_sdp_values.specs.declared.line_row.LineRow.TheVariants.{Media}
use Rattle.rtc_channels.specs.declared.channel_row.ChannelRow.{ChannelRow}
use Rattle.rtc_peer_core.specs.Sources.{is_number}
use Rattle.rtc_run_history.specs.declared.side.Side.{Side}
use Rattle.rtc_run_history.specs.declared.op.Op.{Op}
use Rattle.rtc_run_history.specs.declared.op.Op.TheVariants.{SetDirection, StopMedia}
use Rattle.rtc_run_history.specs.declared.op_answer.OpAnswer.{OpAnswer}
use Rattle.rtc_run_history.specs.declared.op_answer.OpAnswer.TheVariants.{Changed}
use Rattle.rtc_run_history.specs.declared.outcome.Outcome.{Outcome}
use Rattle.rtc_run_history.specs.declared.outcome.Outcome.TheVariants.{Negotiated}
use Rattle.rtc_run_history.specs.declared.step.Step.{Step}
use Rattle.rtc_run_history.specs.declared.step.Step.TheVariants.{Negotiate}
use Rattle.rtc_run_history.specs.declared.table.Table.{Table}
use Rattle.rtc_run_history.specs.Past.{Entry, before, channels_shown, makes, numbers_in}
use Rattle.rtc_run_history.specs.Rounds.{before_last, makes_offer}

-- the place of the row that an op changed
abbrev pub place_changed : Op → OpAnswer → List ℕ
place_changed (SetDirection place dir) (Changed true) = place ∷ []
place_changed (StopMedia place) (Changed true) = place ∷ []
place_changed op answer = []

abbrev pub places_changed : List Op → List OpAnswer → List ℕ
places_changed [] answers = []
places_changed (op ∷ ops) [] = []
places_changed (op ∷ ops) (answer ∷ answers) = place_changed op answer ++ places_changed ops answers

abbrev pub places_changed_in : {E : Type 0} → Step → Outcome E → List ℕ
places_changed_in (Negotiate at ops apply) (Negotiated answers made) = places_changed ops answers
places_changed_in step outcome = []

-- the places of the rows that the step of an offer changed
abbrev pub places_changed_by : {E : Type 0} → ℕ → List (Entry E) → List ℕ
places_changed_by t [] = []
places_changed_by t (entry ∷ past) =
    if makes t entry.outcome then places_changed_in entry.step entry.outcome else places_changed_by t past

-- the numbers of the channels that the step of an offer added
abbrev pub channels_added_by : {E : Type 0} → ℕ → List (Entry E) → List ℕ
channels_added_by t [] = []
channels_added_by t (entry ∷ past) = if makes t entry.outcome then numbers_in entry.outcome else channels_added_by t past

-- a row with the direction and the mark of being stopped that a row at its place had earlier
abbrev pub row_undone : Option LineRow → LineRow → LineRow
row_undone (Some (Media place mid kind dir stopped remote_created)) (Media place' mid' kind' dir' stopped' remote_created') =
    Media place' mid' kind' dir stopped remote_created'
row_undone earlier row = row

-- the rows, at places from this one on, after each at one of these places is as it was earlier
abbrev pub rows_undone : (places : List ℕ) → ℕ → (earlier rows : List LineRow) → List LineRow
rows_undone places place earlier [] = []
rows_undone places place earlier (row ∷ rows) =
    (if is_number place places then row_undone (slice_get earlier place) row else row) ∷ rows_undone places (place + 1) earlier rows

-- the channels but those of these numbers
abbrev pub channels_but : List ℕ → List ChannelRow → List ChannelRow
channels_but numbers rows = filter (λ row. not (is_number row.id numbers)) rows

-- the table that a side showed last
abbrev pub table_shown : {E : Type 0} → Side → List (Entry E) → Table
table_shown at past = record { lines = before at past; channels = channels_shown at past }

-- the table that it shows once it rolled the offer of a number back
abbrev pub table_undone : {E : Type 0} → Side → ℕ → List (Entry E) → Table
table_undone at t past = record {
  lines = rows_undone (places_changed_by t past) 0 (before at (before_last (makes_offer t) past)) (before at past);
  channels = channels_but (channels_added_by t past) (channels_shown at past);
}
