-- Which replies a step may have, given the steps and replies before it.
use Rattle.std.specs.Prelude.{◌≡◌, ℕ, Bool, true, false, not, ◌&&◌, List, [], ◌∷◌, ◌++◌, map, length, All, ◌<◌}
use Rattle.std.specs.Prelude.{Option, Some, None, is_some, slice_get}
use Rattle.rtc_wire.specs.declared.channel_config.ChannelConfig.{ChannelConfig}
use Rattle.rtc_channels.specs.Channels.{Channels, is_bad_channel}
use Rattle.rtc_sdp_values.specs.LineRow.{row_mid}
use Rattle.rtc_sdp_values.specs.declared.line_row.LineRow.{LineRow}
use Rattle.rtc_sdp_values.specs.declared.sdp_error.SdpError.TheVariants.{Parse}
use Rattle.rtc_sdp_values.specs.Mids.{is_among}
use Rattle.rtc_change.specs.Held.{Held, Asked}
use Rattle.rtc_peer_rows.specs.RowChanges.{RowChange, directed_row, stopped_row, is_changed, changed_at, media_mid}
use Rattle.rtc_peer_rows.specs.ParsedLines.{parsed_lines}
use Rattle.rtc_change.specs.TableAfter.{table_after, with_front}
use Rattle.rtc_change.specs.Plans.{verdict}
use Rattle.rtc_change.specs.declared.refusal.Refusal.TheVariants.{RemoteSdp as RefusedSdp, Sdp as RefusedAsSdp}
use Rattle.rtc_parts.specs.declared.dtls_error.DtlsError.TheVariants.{Fault}
use Rattle.rtc_sctp_values.specs.declared.proto_error.ProtoError.TheVariants.{Fault as AssociationFault}
use Rattle.rtc_sctp_values.specs.declared.sctp_error.SctpError.TheVariants.{Proto}
use Rattle.rtc_peer_core.specs.Glare.{meets_glare}
use Rattle.rtc_peer_core.specs.Stance.{Stance, held_by}
use Rattle.rtc_peer_core.specs.declared.rtc_error.RtcError.TheVariants.{RemoteSdp, Sdp as SdpRefused, Dtls, Sctp}
use Rattle.rtc_peer_core.specs.declared.rtc_error.RtcError.TheVariants.{ChangesOutOfOrder, Alloc as PeerAlloc, Glare}
use Rattle.rtc_run_history.specs.declared.side.Side.{Side}
use Rattle.rtc_run_history.specs.declared.op.Op.{Op}
use Rattle.rtc_run_history.specs.declared.op.Op.TheVariants.{AddMedia, SetDirection, StopMedia, AddChannel, IceRestart}
use Rattle.rtc_run_history.specs.declared.step.Step.{Step}
use Rattle.rtc_run_history.specs.declared.step.Step.TheVariants.{Negotiate, AcceptOffer, AcceptAnswer, Time, Datagram, Poll, Drain}
use Rattle.rtc_run_history.specs.declared.step.Step.TheVariants.{Write, CloseChannel, Close, Rollback, ForeignOffer, ForeignAnswer, Raw}
use Rattle.rtc_run_history.specs.declared.op_answer.OpAnswer.{OpAnswer}
use Rattle.rtc_run_history.specs.declared.op_answer.OpAnswer.TheVariants.{Mid, Changed, NoLine, Channel, BadChannel, Creds}
use Rattle.rtc_run_history.specs.declared.op_answer.OpAnswer.TheVariants.{Alloc as OpAlloc}
use Rattle.rtc_run_history.specs.declared.made.Made.{Made}
use Rattle.rtc_run_history.specs.declared.made.Made.TheVariants.{NotAsked, Nothing, Offer, Alloc as MadeAlloc}
use Rattle.rtc_run_history.specs.declared.outcome.Outcome.{Outcome}
use Rattle.rtc_run_history.specs.declared.outcome.Outcome.TheVariants.{Negotiated, Answered, Finished, Done, Refused}
use Rattle.rtc_run_history.specs.declared.outcome.Outcome.TheVariants.{NoSuch, Alloc}
use Rattle.rtc_run_history.specs.declared.table.Table.{Table}
use Rattle.rtc_run_history.specs.Memory.{answers_lack}
use Rattle.rtc_run_history.specs.Signalled.{Signalled, NotMade, Unreadable, Readable, foreign}
use Rattle.rtc_run_history.specs.Answers.{has_app_row, do_need_offer, with_numbered, rows_waiting}
use Rattle.rtc_run_history.specs.Past.{
  Entry,
  MadeSdp,
  before,
  channels_shown,
  numbers_told,
  sdps,
  remote_sdp,
  holds_token,
  is_right,
  new_app,
  added_by,
  restarts_by,
}
use Rattle.rtc_run_history.specs.Outstanding.{has_outstanding}
pub use Rattle.rtc_run_history.specs.Replies.{is_handled, is_heard, is_polled, is_of_streams, is_written, is_channel_closed}
use Rattle.rtc_run_history.specs.Undone.{table_shown, table_undone}
use Rattle.rtc_run_history.specs.Views.{Stances, init_told_by, view_in}

-- no media row is at a place
abbrev pub HasNoLine : ℕ → List LineRow → Type 0
HasNoLine place rows = media_mid (slice_get rows place) ≡ None

-- a media row is at a place, and this is whether it is changed
abbrev pub TellsChange : RowChange → ℕ → List LineRow → Bool → Type 0
TellsChange change place rows changed =
    (is_some (media_mid (slice_get rows place)) ≡ true) × (changed ≡ is_changed change (slice_get rows place))

-- What a side has midway through the ops of a step.
pub record Midway : Type 0 where
  pub rows : List LineRow
  -- the mids of its rows, and of the lines that the step has staged
  pub held : List (List ℕ)
  -- the mid of the m-line of data channels that is still to be staged, if one is needed and its mid is given
  pub app : Option (List ℕ)
  pub channels : Channels
  -- the channel numbers in its replies
  pub numbers : List ℕ

-- with one more mid held
abbrev pub holding_mid : List ℕ → Midway → Midway
holding_mid mid m = record m { held = mid ∷ m.held }

-- with other rows
abbrev pub having_rows : List LineRow → Midway → Midway
having_rows rows m = record m { rows = rows }

-- with one more channel, and the line that it brings
abbrev pub having_channel : ℕ → ChannelConfig → Midway → Midway
having_channel id config m = record m {
  held = with_front m.app m.held;
  app = None;
  channels = with_numbered id config m.channels;
  numbers = id ∷ m.numbers;
}

-- a mid that may be there is in no row and no staged line
abbrev pub IsUnheld : Option (List ℕ) → List (List ℕ) → Type 0
IsUnheld None held = Unit {0}
IsUnheld (Some mid) held = is_among held mid ≡ false

-- a channel may be made of a config, and has a number above all that the side reported
abbrev pub GivesNumber : Midway → ChannelConfig → ℕ → Type 0
GivesNumber m config id = (is_bad_channel m.channels config ≡ false) × All (λ number. number < id) m.numbers

-- Operations act in order, each on what the one before left, and leave these rows. The mid of a staged line is in no row and no earlier
-- staged line of the step; a channel that brings a line stages it first; the first `Alloc` ends the results.
abbrev pub OpsAnswered : Midway → List Op → List OpAnswer → List LineRow → Type 0
OpsAnswered m [] [] after = after ≡ m.rows
OpsAnswered m (AddMedia kind dir ∷ ops) (Mid mid ∷ answers) after =
    (is_among m.held mid ≡ false) × OpsAnswered (holding_mid mid m) ops answers after
OpsAnswered m (SetDirection place dir ∷ ops) (NoLine ∷ answers) after = HasNoLine place m.rows × OpsAnswered m ops answers after
OpsAnswered m (SetDirection place dir ∷ ops) (Changed changed ∷ answers) after =
    TellsChange (directed_row dir) place m.rows changed
    × OpsAnswered (having_rows (changed_at (directed_row dir) place m.rows) m) ops answers after
OpsAnswered m (StopMedia place ∷ ops) (NoLine ∷ answers) after = HasNoLine place m.rows × OpsAnswered m ops answers after
OpsAnswered m (StopMedia place ∷ ops) (Changed changed ∷ answers) after =
    TellsChange stopped_row place m.rows changed × OpsAnswered (having_rows (changed_at stopped_row place m.rows) m) ops answers after
OpsAnswered m (AddChannel config ∷ ops) (Channel id ∷ answers) after =
    GivesNumber m config id
    × IsUnheld m.app m.held
    × OpsAnswered (having_channel id config m) ops answers after
OpsAnswered m (AddChannel config ∷ ops) (BadChannel ∷ answers) after =
    (is_bad_channel m.channels config ≡ true) × OpsAnswered m ops answers after
OpsAnswered m (IceRestart keep ∷ ops) (Creds creds ∷ answers) after = OpsAnswered m ops answers after
OpsAnswered m (op ∷ ops) (OpAlloc ∷ []) after = after ≡ m.rows
OpsAnswered m ops answers after = ⊥

-- what a side has before the ops of a step, given what it holds and the mid of the line that its channels bring
abbrev pub at_first : {E : Type 0} → Stance → Side → List (Entry E) → Option (List ℕ) → Midway
at_first stance at past app = record {
  rows = before at past;
  held = map row_mid (before at past);
  app = app;
  channels = stance.channels;
  numbers = numbers_told at past;
}

-- An offer is made exactly if the step applies staged changes and some have to be offered, unless memory runs out.
abbrev pub MadeOf : Bool → Bool → Made → ℕ → Type 0
MadeOf false offers NotAsked next = Unit {0}
MadeOf true true (Offer k) next = k ≡ next
MadeOf true false Nothing next = Unit {0}
MadeOf true offers MadeAlloc next = Unit {0}
MadeOf asked offers made next = ⊥

-- The outcome of accepting an offer, given whether it would be glare: its answer and the rows that it leaves, or the first cause that
-- refuses it: the line that cannot be read, glare (RFC 3264, section 4), or what the peer says.
abbrev pub RepliesToOffer : {E : Type 0} → (glare : Bool) → Signalled → Held → ℕ → Outcome E → List LineRow → Type 0
RepliesToOffer glare NotMade view next NoSuch after = after ≡ view.lines
RepliesToOffer glare (Unreadable line) view next (Refused error) after = (error ≡ SdpRefused (Parse line)) × (after ≡ view.lines)
RepliesToOffer false (Readable sdp) view next (Answered k) after =
    (verdict view None sdp ≡ None) × (after ≡ table_after view.lines (parsed_lines sdp) true) × (k ≡ next)
RepliesToOffer false (Readable sdp) view next (Refused (RemoteSdp why)) after =
    (verdict view None sdp ≡ Some (RefusedSdp why)) × (after ≡ view.lines)
RepliesToOffer false (Readable sdp) view next (Refused (SdpRefused error)) after =
    (verdict view None sdp ≡ Some (RefusedAsSdp error)) × (after ≡ view.lines)
RepliesToOffer false (Readable sdp) view next (Refused (Dtls Fault)) after = (verdict view None sdp ≡ None) × (after ≡ view.lines)
RepliesToOffer false (Readable sdp) view next (Refused (Sctp error)) after =
    (error ≡ Proto AssociationFault) × (verdict view None sdp ≡ None) × (after ≡ view.lines)
RepliesToOffer false (Readable sdp) view next (Refused PeerAlloc) after = after ≡ view.lines
RepliesToOffer true (Readable sdp) view next (Refused Glare) after = after ≡ view.lines
RepliesToOffer glare sdp view next outcome after = ⊥

-- The outcome of accepting an answer: the rows that it leaves, if the token is held and right, or the first cause that refuses it.
abbrev pub RepliesToAnswer : {E : Type 0} → Bool → Bool → Asked → Signalled → Held → Outcome E → List LineRow → Type 0
RepliesToAnswer false right asked sdp view NoSuch after = after ≡ view.lines
RepliesToAnswer true right asked NotMade view NoSuch after = after ≡ view.lines
RepliesToAnswer true right asked (Unreadable line) view (Refused error) after =
    (error ≡ SdpRefused (Parse line)) × (after ≡ view.lines)
RepliesToAnswer true false asked (Readable sdp) view (Refused ChangesOutOfOrder) after = after ≡ view.lines
RepliesToAnswer true true asked (Readable sdp) view Finished after =
    (verdict view (Some asked) sdp ≡ None) × (after ≡ table_after view.lines (parsed_lines sdp) false)
RepliesToAnswer true true asked (Readable sdp) view (Refused (RemoteSdp why)) after =
    (verdict view (Some asked) sdp ≡ Some (RefusedSdp why)) × (after ≡ view.lines)
RepliesToAnswer true true asked (Readable sdp) view (Refused (SdpRefused error)) after =
    (verdict view (Some asked) sdp ≡ Some (RefusedAsSdp error)) × (after ≡ view.lines)
RepliesToAnswer true true asked (Readable sdp) view (Refused (Dtls Fault)) after =
    (verdict view (Some asked) sdp ≡ None) × (after ≡ view.lines)
RepliesToAnswer true true asked (Readable sdp) view (Refused (Sctp error)) after =
    (error ≡ Proto AssociationFault) × (verdict view (Some asked) sdp ≡ None) × (after ≡ view.lines)
RepliesToAnswer true true asked (Readable sdp) view (Refused PeerAlloc) after = after ≡ view.lines
RepliesToAnswer held right asked sdp view outcome after = ⊥

-- what the offer of a token asks of its answer: the rows that it added, placed after the rows of its side, whether it restarted ICE, and
-- whether it carried a SNAP INIT chunk
abbrev pub asked_in : {E : Type 0} → Side → ℕ → List (Entry E) → Asked
asked_in at t past = record {
  added = added_by (length (before at past)) t past;
  restarts = restarts_by t past;
  says_init = init_told_by t past;
}

-- The outcome of rolling an offer back, by whether its token is held and right: the table from before, or with all undone that was set,
-- stopped or added for the offer (RFC 8829, section 5.7).
abbrev pub RepliesToRollback : {E : Type 0} → (held right : Bool) → (earlier undone : Table) → Outcome E → Table → Type 0
RepliesToRollback false right earlier undone NoSuch table = table ≡ earlier
RepliesToRollback true false earlier undone (Refused ChangesOutOfOrder) table = table ≡ earlier
RepliesToRollback true true earlier undone Done table = table ≡ undone
RepliesToRollback held right earlier undone outcome table = ⊥

-- whether an offer that a side is given is glare: the side is impolite, and its own offer is pending
abbrev pub is_glare_at : {E : Type 0} → Stances → Side → List (Entry E) → Bool
is_glare_at fresh at past = meets_glare (fresh at).polite (has_outstanding at past)

-- the table that is shown has the lines from before
abbrev pub ShowsOldLines : {E : Type 0} → Side → List (Entry E) → Table → Type 0
ShowsOldLines at past table = table.lines ≡ before at past

-- The outcome and table of a step after this past, given the SDP that it made, the sides of the fresh pair, and the sides between the
-- past and the step. Negotiation shows the channels from before, and one more that waits for each that was added. Inputs, polls, writes and
-- closes change no line, and a roll-back is the only other step that changes one.
abbrev pub IsSound : {E : Type 0} → Stances → List (Entry E) → Stances → Step → Outcome E → Option Table → List MadeSdp → Type 0
IsSound fresh past between (Time at now) outcome (Some table) said = (is_handled outcome ≡ true) × ShowsOldLines at past table
IsSound fresh past between (Datagram at packet now) outcome (Some table) said = (is_heard outcome ≡ true) × ShowsOldLines at past table
IsSound fresh past between (Poll at) outcome (Some table) said = (is_polled outcome ≡ true) × ShowsOldLines at past table
IsSound fresh past between (Drain at) outcome (Some table) said = (is_polled outcome ≡ true) × ShowsOldLines at past table
IsSound fresh past between (Write at channel binary bytes) outcome (Some table) said =
    (is_written outcome ≡ true) × ShowsOldLines at past table
IsSound fresh past between (CloseChannel at channel) outcome (Some table) said =
    (is_channel_closed outcome ≡ true) × ShowsOldLines at past table
IsSound fresh past between (Close at) outcome (Some table) said = (is_handled outcome ≡ true) × ShowsOldLines at past table
IsSound fresh past between (Raw at bytes now) outcome (Some table) said = (is_handled outcome ≡ true) × ShowsOldLines at past table
IsSound fresh past between step Alloc None said = Unit {0}
IsSound fresh past between (Negotiate at ops apply) (Negotiated answers made) (Some table) said =
    OpsAnswered (at_first (between at) at past (new_app table.lines said)) ops answers table.lines
    × MadeOf (apply && not (answers_lack answers)) (do_need_offer (has_app_row (before at past)) answers) made (length (sdps past))
    × (table.channels ≡ channels_shown at past ++ rows_waiting answers)
IsSound fresh past between (AcceptOffer at offer) outcome (Some table) said =
    RepliesToOffer
    (is_glare_at fresh at past) (remote_sdp true at offer past) (view_in fresh at past (held_by (between at)))
    (length (sdps past)) outcome table.lines
    × (table.channels ≡ channels_shown at past)
IsSound fresh past between (AcceptAnswer at token answer) outcome (Some table) said =
    RepliesToAnswer
    (holds_token at token past) (is_right at token past) (asked_in at token past)
    (remote_sdp false at answer past) (view_in fresh at past (held_by (between at))) outcome table.lines
    × (table.channels ≡ channels_shown at past)
IsSound fresh past between (Rollback at token) outcome (Some table) said =
    RepliesToRollback
    (holds_token at token past) (is_right at token past) (table_shown at past) (table_undone at token past) outcome table
IsSound fresh past between (ForeignOffer at text) outcome (Some table) said =
    RepliesToOffer
    (is_glare_at fresh at past) (foreign text) (view_in fresh at past (held_by (between at)))
    (length (sdps past)) outcome table.lines
    × (table.channels ≡ channels_shown at past)
IsSound fresh past between (ForeignAnswer at token text) outcome (Some table) said =
    RepliesToAnswer
    (holds_token at token past) (is_right at token past) (asked_in at token past)
    (foreign text) (view_in fresh at past (held_by (between at))) outcome table.lines
    × (table.channels ≡ channels_shown at past)
IsSound fresh past between step outcome table said = ⊥
