-- What a list of past steps and replies says: rows, channels, session descriptions (SDPs) and tokens.
use Rattle.std.specs.Prelude.{ℕ, ◌==◌, Bool, true, false, not, ◌&&◌, ◌||◌, List, [], ◌∷◌, ◌++◌, if◌then◌else◌}
use Rattle.std.specs.Prelude.{Option, Some, None, slice_get}
use Rattle.rtc_sdp_values.specs.Sdp.{is_application}
use Rattle.rtc_sdp_values.specs.declared.line_row.LineRow.{LineRow}
use Rattle.rtc_sdp_values.specs.declared.sdp.Sdp.{Sdp}
use Rattle.rtc_peer_rows.specs.declared.parsed_line.ParsedLine.{ParsedLine}
use Rattle.rtc_peer_rows.specs.ParsedLines.{parsed_lines}
use Rattle.rtc_channels.specs.declared.channel_row.ChannelRow.{ChannelRow}
use Rattle.rtc_peer_transport.specs.declared.event.Event.TheVariants.{ChannelOpen}
use Rattle.rtc_run_history.specs.declared.side.Side.{Side}
use Rattle.rtc_run_history.specs.declared.step.Step.{Step}
use Rattle.rtc_run_history.specs.declared.step.Step.TheVariants.{Negotiate, AcceptOffer, AcceptAnswer, Time, Datagram, Poll, Drain}
use Rattle.rtc_run_history.specs.declared.step.Step.TheVariants.{Write, CloseChannel, Close, Rollback, ForeignOffer, ForeignAnswer, Raw}
use Rattle.rtc_run_history.specs.declared.op_answer.OpAnswer.{OpAnswer}
use Rattle.rtc_run_history.specs.declared.made.Made.{Made}
use Rattle.rtc_run_history.specs.declared.made.Made.TheVariants.{NotAsked, Nothing, Offer, Alloc as MadeAlloc}
use Rattle.rtc_run_history.specs.declared.shown.Shown.{Shown}
use Rattle.rtc_run_history.specs.declared.shown.Shown.TheVariants.{Timeout, Packet, Event}
use Rattle.rtc_run_history.specs.declared.outcome.Outcome.{Outcome}
use Rattle.rtc_run_history.specs.declared.outcome.Outcome.TheVariants.{Negotiated, Answered, Finished, Done, Wrote, Polled, Refused}
use Rattle.rtc_run_history.specs.declared.outcome.Outcome.TheVariants.{NoSuch, Alloc}
use Rattle.rtc_run_history.specs.declared.table.Table.{Table}
use Rattle.rtc_run_history.specs.declared.reply.Reply.{Reply}
use Rattle.rtc_run_history.specs.Sides.{same_side, side_of}
use Rattle.rtc_run_history.specs.Signalled.{Signalled, signalled_if}
pub use Rattle.rtc_run_history.specs.Called.{
  is_unread_for,
  is_unread,
  is_glare,
  was_called,
  supersedes,
  was_rolled_back,
}
use Rattle.rtc_run_history.specs.Answers.{do_stage, do_restart, has_app_row, added, numbers_answered}

-- an SDP, with the side that made it and whether it is an offer
pub record MadeSdp : Type 0 where
  pub at : Side
  pub offer : Bool
  pub sdp : Sdp

-- a step with its reply and the SDP that it made, if any. A past is a list of these, newest first.
pub record Entry (E : Type 0) : Type 0 where
  pub step : Step
  pub outcome : Outcome E
  pub table : Option Table
  pub made : List MadeSdp

abbrev pub steps_of : {E : Type 0} → List (Entry E) → List Step
steps_of [] = []
steps_of (entry ∷ past) = steps_of past ++ entry.step ∷ []

abbrev pub reply_of : {E : Type 0} → Entry E → Reply E
reply_of entry = record { outcome = entry.outcome; table = entry.table }

abbrev pub replies_of : {E : Type 0} → List (Entry E) → List (Reply E)
replies_of [] = []
replies_of (entry ∷ past) = replies_of past ++ reply_of entry ∷ []

abbrev pub rows_or : Bool → Option Table → List LineRow → List LineRow
rows_or true (Some table) earlier = table.lines
rows_or true None earlier = earlier
rows_or false table earlier = earlier

-- the rows of a table, if there is one
abbrev pub table_rows : Option Table → List LineRow
table_rows None = []
table_rows (Some table) = table.lines

-- the rows of a side, as its last reply with a table shows them
abbrev pub before : {E : Type 0} → Side → List (Entry E) → List LineRow
before at [] = []
before at (entry ∷ past) = rows_or (same_side (side_of entry.step) at) entry.table (before at past)

-- the SDPs in the order they were made
abbrev pub sdps : {E : Type 0} → List (Entry E) → List MadeSdp
sdps [] = []
sdps (entry ∷ past) = sdps past ++ entry.made

-- the datagrams that outputs of a side show, by their side and length
abbrev pub packets_in : {E : Type 0} → Side → List (Shown E) → List (Side × ℕ)
packets_in at [] = []
packets_in at (Timeout moment reason ∷ outputs) = packets_in at outputs
packets_in at (Packet number len ∷ outputs) = (at, len) ∷ packets_in at outputs
packets_in at (Event event ∷ outputs) = packets_in at outputs

abbrev pub packets_told : {E : Type 0} → Side → Outcome E → List (Side × ℕ)
packets_told at (Negotiated answers made) = []
packets_told at (Answered k) = []
packets_told at Finished = []
packets_told at Done = []
packets_told at (Wrote taken) = []
packets_told at (Polled outputs end) = packets_in at outputs
packets_told at (Refused error) = []
packets_told at NoSuch = []
packets_told at Alloc = []

-- the datagrams that replies show, in order
abbrev pub packets_shown : {E : Type 0} → List (Entry E) → List (Side × ℕ)
packets_shown [] = []
packets_shown (entry ∷ past) = packets_shown past ++ packets_told (side_of entry.step) entry.outcome

-- an SDP, if it is an offer (or an answer) of the other side
abbrev pub sdp_for : Bool → Side → Option MadeSdp → Option Sdp
sdp_for offer at None = None
sdp_for offer at (Some said) = if (if offer then said.offer else not said.offer) && not (same_side said.at at) then Some said.sdp else None

-- the offer (or the answer) of a number as signalling delivers it, if the other side made it
abbrev pub remote_sdp : {E : Type 0} → Bool → Side → ℕ → List (Entry E) → Signalled
remote_sdp offer at k past = signalled_if (sdp_for offer at (slice_get (sdps past) k))

-- a token is consumed by the call that accepts or refuses an answer with it, and by the call that rolls its offer back or refuses to
abbrev pub spends : {E : Type 0} → ℕ → Step → Outcome E → Bool
spends t (Negotiate at ops apply) outcome = false
spends t (AcceptOffer at offer) outcome = false
spends t (AcceptAnswer at token answer) outcome = (token == t) && was_called outcome
spends t (Time at now) outcome = false
spends t (Datagram at packet now) outcome = false
spends t (Poll at) outcome = false
spends t (Drain at) outcome = false
spends t (Write at channel binary bytes) outcome = false
spends t (CloseChannel at channel) outcome = false
spends t (Close at) outcome = false
spends t (Rollback at token) outcome = (token == t) && was_rolled_back outcome
spends t (ForeignOffer at text) outcome = false
spends t (ForeignAnswer at token text) outcome = (token == t) && was_called outcome
spends t (Raw at bytes now) outcome = false

abbrev pub is_spent : {E : Type 0} → ℕ → List (Entry E) → Bool
is_spent t [] = false
is_spent t (entry ∷ past) = spends t entry.step entry.outcome || is_spent t past

abbrev pub is_offer_of : Side → Option MadeSdp → Bool
is_offer_of at None = false
is_offer_of at (Some said) = said.offer && same_side said.at at

-- whether a side holds the unspent token of a number
abbrev pub holds_token : {E : Type 0} → Side → ℕ → List (Entry E) → Bool
holds_token at t past = is_offer_of at (slice_get (sdps past) t) && not (is_spent t past)

-- whether staged changes were applied
abbrev pub is_applied : List OpAnswer → Made → Bool
is_applied answers NotAsked = false
is_applied answers Nothing = do_stage answers
is_applied answers (Offer k) = true
is_applied answers MadeAlloc = false

abbrev pub applies : {E : Type 0} → Outcome E → Bool
applies (Negotiated answers made) = is_applied answers made
applies (Answered k) = false
applies Finished = false
applies Done = false
applies (Wrote taken) = false
applies (Polled outputs end) = false
applies (Refused error) = false
applies NoSuch = false
applies Alloc = false

-- whether a step applied staged changes of a side, or gave it an offer that could be read, which it accepted, or refused for another cause
-- than glare
abbrev pub moves : {E : Type 0} → Side → Step → Outcome E → Bool
moves at (Negotiate side ops apply) outcome = same_side side at && applies outcome
moves at (AcceptOffer side offer) outcome = same_side side at && supersedes outcome
moves at (AcceptAnswer side token answer) outcome = false
moves at (Time side now) outcome = false
moves at (Datagram side packet now) outcome = false
moves at (Poll side) outcome = false
moves at (Drain side) outcome = false
moves at (Write side channel binary bytes) outcome = false
moves at (CloseChannel side channel) outcome = false
moves at (Close side) outcome = false
moves at (Rollback side token) outcome = false
moves at (ForeignOffer side text) outcome = same_side side at && supersedes outcome
moves at (ForeignAnswer side token text) outcome = false
moves at (Raw side bytes now) outcome = false

abbrev pub is_offer_numbered : ℕ → Made → Bool
is_offer_numbered t NotAsked = false
is_offer_numbered t Nothing = false
is_offer_numbered t (Offer k) = k == t
is_offer_numbered t MadeAlloc = false

-- whether a step made the offer of a number
abbrev pub makes : {E : Type 0} → ℕ → Outcome E → Bool
makes t (Negotiated answers made) = is_offer_numbered t made
makes t (Answered k) = false
makes t Finished = false
makes t Done = false
makes t (Wrote taken) = false
makes t (Polled outputs end) = false
makes t (Refused error) = false
makes t NoSuch = false
makes t Alloc = false

-- since the offer of this number, its side applied no staged changes, and was given no offer that could be read and that it did not refuse
-- as glare
abbrev pub is_right : {E : Type 0} → Side → ℕ → List (Entry E) → Bool
is_right at t [] = false
is_right at t (entry ∷ past) = makes t entry.outcome || (not (moves at entry.step entry.outcome) && is_right at t past)

-- the mid of the first application line; empty if there is none
abbrev pub app_line_mid : List ParsedLine → List ℕ
app_line_mid [] = []
app_line_mid (line ∷ lines) = if is_application line.kind then line.mid else app_line_mid lines

abbrev pub app_mid_said : List MadeSdp → Option (List ℕ)
app_mid_said [] = None
app_mid_said (said ∷ more) = Some (app_line_mid (parsed_lines said.sdp))

-- the mid that the m-line of data channels gets if a step adds one: its side has none, and the SDP that the step made carries it
abbrev pub new_app : List LineRow → List MadeSdp → Option (List ℕ)
new_app rows made = if has_app_row rows then None else app_mid_said made

-- the rows that a step adds, at places from this one on
abbrev pub added_in : {E : Type 0} → ℕ → Step → Outcome E → Option Table → List MadeSdp → List LineRow
added_in place (Negotiate at ops apply) (Negotiated answers what) (Some table) made = added (new_app table.lines made) place ops answers
added_in place step outcome table made = []

-- the rows that the offer of a number added, at places from this one on
abbrev pub added_by : {E : Type 0} → ℕ → ℕ → List (Entry E) → List LineRow
added_by place t [] = []
added_by place t (entry ∷ past) =
    if makes t entry.outcome then added_in place entry.step entry.outcome entry.table entry.made else added_by place t past

-- whether a step staged a restart of ICE
abbrev pub restarts_in : {E : Type 0} → Outcome E → Bool
restarts_in (Negotiated answers made) = do_restart answers
restarts_in (Answered k) = false
restarts_in Finished = false
restarts_in Done = false
restarts_in (Wrote taken) = false
restarts_in (Polled outputs end) = false
restarts_in (Refused error) = false
restarts_in NoSuch = false
restarts_in Alloc = false

-- whether the offer of a number restarted ICE
abbrev pub restarts_by : {E : Type 0} → ℕ → List (Entry E) → Bool
restarts_by t [] = false
restarts_by t (entry ∷ past) = if makes t entry.outcome then restarts_in entry.outcome else restarts_by t past

abbrev pub channel_rows_or : Bool → Option Table → List ChannelRow → List ChannelRow
channel_rows_or true (Some table) earlier = table.channels
channel_rows_or true None earlier = earlier
channel_rows_or false table earlier = earlier

-- the rows of the channels of a side, as its last reply with a table shows them
abbrev pub channels_shown : {E : Type 0} → Side → List (Entry E) → List ChannelRow
channels_shown at [] = []
channels_shown at (entry ∷ past) = channel_rows_or (same_side (side_of entry.step) at) entry.table (channels_shown at past)

-- the channel number that an event reports as open, if any
abbrev pub number_opened : {E : Type 0} → Shown E → List ℕ
number_opened (Timeout moment reason) = []
number_opened (Packet number len) = []
number_opened (Event (ChannelOpen id label)) = id ∷ []
number_opened (Event event) = []

abbrev pub numbers_opened : {E : Type 0} → List (Shown E) → List ℕ
numbers_opened [] = []
numbers_opened (shown ∷ outputs) = number_opened shown ++ numbers_opened outputs

-- the channel numbers in an outcome: of channels that were added, and of channels that polls reported as open
abbrev pub numbers_in : {E : Type 0} → Outcome E → List ℕ
numbers_in (Negotiated answers made) = numbers_answered answers
numbers_in (Answered k) = []
numbers_in Finished = []
numbers_in Done = []
numbers_in (Wrote taken) = []
numbers_in (Polled outputs end) = numbers_opened outputs
numbers_in (Refused error) = []
numbers_in NoSuch = []
numbers_in Alloc = []

abbrev pub numbers_or : {E : Type 0} → Bool → Outcome E → List ℕ → List ℕ
numbers_or true outcome earlier = numbers_in outcome ++ earlier
numbers_or false outcome earlier = earlier

-- The channel numbers in the replies of a side, whether or not there still is such a channel.
abbrev pub numbers_told : {E : Type 0} → Side → List (Entry E) → List ℕ
numbers_told at [] = []
numbers_told at (entry ∷ past) = numbers_or (same_side (side_of entry.step) at) entry.outcome (numbers_told at past)
