-- Replies as values: numbers of 64 bits, bytes, and names and texts that do not run into what stands behind them.
use Rattle.std.specs.Prelude.{◌≡◌, ◌≢◌, ◌<◌, ◌^◌, ◌==◌, ℕ, Bool, true, false, List, [], ◌∷◌, Option, Some, None, length}
use Rattle.std.specs.List.{AllByRecursion, AllZip, list_all, list_any}
use Rattle.hex.specs.Hex.{IsBytes}
use Rattle.rtc_wire_text.specs.Tokens.{is_short_token, is_token_byte}
use Rattle.rtc_sdp_values.specs.declared.line_row.LineRow.{LineRow}
use Rattle.rtc_sdp_values.specs.declared.line_row.LineRow.TheVariants.{Media, App}
use Rattle.rtc_parts.specs.declared.raw_packet.RawPacket.{RawPacket}
use Rattle.rtc_parts.specs.declared.raw_packet.RawPacket.TheVariants.{RtcpTx, RtcpRx, RtpTx, RtpRx}
use Rattle.rtc_plain_media.specs.declared.plain_media_event.PlainMediaEvent.{PlainMediaEvent}
use Rattle.rtc_plain_media.specs.declared.plain_media_event.PlainMediaEvent.TheVariants.{Added, Changed as DirChanged, Rtp, Rtcp, Raw}
use Rattle.rtc_channels.specs.declared.channel_row.ChannelRow.{ChannelRow}
use Rattle.rtc_parts.specs.declared.media_error.MediaError.{MediaError}
use Rattle.rtc_parts.specs.declared.media_error.MediaError.TheVariants.{UnknownRid}
use Rattle.rtc_peer_rows.specs.declared.new_line.NewLine.{NewLine}
use Rattle.rtc_peer_rows.specs.declared.new_line.NewLine.TheVariants.{Count, NotMedia, NotChannel, NotOffered, OtherKind, OtherPlace}
use Rattle.rtc_peer_rows.specs.declared.why.Why.{Why}
use Rattle.rtc_peer_rows.specs.declared.why.Why.TheVariants.{MovedLine, PlaceTaken, AnswerRecycles, WrongNewLines, UnknownHash}
use Rattle.rtc_peer_core.specs.declared.rtc_error.RtcError.{RtcError}
use Rattle.rtc_peer_core.specs.declared.rtc_error.RtcError.TheVariants.{RemoteSdp, Media as MediaFailed}
use Rattle.rtc_peer_transport.specs.declared.event.Event.{Event}
use Rattle.rtc_peer_transport.specs.declared.event.Event.TheVariants as events
use Rattle.rtc_run_history.specs.declared.made.Made.{Made}
use Rattle.rtc_run_history.specs.declared.made.Made.TheVariants.{NotAsked, Nothing, Offer, Alloc as MadeAlloc}
use Rattle.rtc_run_history.specs.declared.op.Op.{Op}
use Rattle.rtc_run_history.specs.declared.op.Op.TheVariants.{AddMedia, SetDirection, StopMedia, AddChannel, IceRestart}
use Rattle.rtc_run_history.specs.declared.op_answer.OpAnswer.{OpAnswer}
use Rattle.rtc_run_history.specs.declared.op_answer.OpAnswer.TheVariants.{Mid, Changed, NoLine, Channel, Creds}
use Rattle.rtc_run_history.specs.declared.op_answer.OpAnswer.TheVariants.{BadChannel as NoChannel, Alloc as OpAlloc}
use Rattle.rtc_run_history.specs.declared.outcome.Outcome.{Outcome}
use Rattle.rtc_run_history.specs.declared.outcome.Outcome.TheVariants.{Negotiated, Answered, Finished, Done, Wrote, Polled, Refused}
use Rattle.rtc_run_history.specs.declared.outcome.Outcome.TheVariants.{NoSuch, Alloc}
use Rattle.rtc_run_history.specs.declared.poll_end.PollEnd.{PollEnd}
use Rattle.rtc_run_history.specs.declared.poll_end.PollEnd.TheVariants.{Ended, Refused as EndRefused, NoRoom}
use Rattle.rtc_run_history.specs.declared.reply.Reply.{Reply}
use Rattle.rtc_run_history.specs.declared.shown.Shown.{Shown}
use Rattle.rtc_run_history.specs.declared.shown.Shown.TheVariants.{Timeout, Packet, Event as EventOf}
use Rattle.rtc_run_history.specs.declared.step.Step.{Step}
use Rattle.rtc_run_history.specs.declared.step.Step.TheVariants.{Negotiate}
use Rattle.rtc_run_history.specs.declared.table.Table.{Table}
use Rattle.rtc_script_reports.specs.Outcomes.{no_memory}

-- whether a text has a byte
abbrev pub has_byte : ℕ → List ℕ → Bool
has_byte byte text = list_any (λ code. code == byte) text

-- whether an end of line (10) is in a text
abbrev pub breaks : List ℕ → Bool
breaks text = has_byte 10 text

-- a name that a type holds
abbrev pub IsName : List ℕ → Type 0
IsName text = is_short_token text ≡ true

-- ---- rows

abbrev pub FitsRow : LineRow → Type 0
FitsRow (Media place mid kind dir stopped created) = (place < 2 ^ 64) × IsName mid
FitsRow (App place mid) = (place < 2 ^ 64) × IsName mid

abbrev pub FitsStream : Option ℕ → Type 0
FitsStream None = Unit {0}
FitsStream (Some stream) = stream < 2 ^ 64

abbrev pub FitsChannel : ChannelRow → Type 0
FitsChannel row = (row.id < 2 ^ 64) × FitsStream row.stream × (row.generation < 2 ^ 64)

abbrev pub FitsTable : Option Table → Type 0
FitsTable None = Unit {0}
FitsTable (Some table) = AllByRecursion FitsRow table.lines × AllByRecursion FitsChannel table.channels

-- ---- outputs

abbrev pub FitsPacket : RawPacket → Type 0
FitsPacket (RtcpTx bytes) = length bytes < 2 ^ 64
FitsPacket (RtcpRx bytes) = length bytes < 2 ^ 64
FitsPacket (RtpTx bytes) = length bytes < 2 ^ 64
FitsPacket (RtpRx bytes) = length bytes < 2 ^ 64

abbrev pub FitsMediaEvent : PlainMediaEvent → Type 0
FitsMediaEvent (Added mid kind dir) = IsName mid
FitsMediaEvent (DirChanged mid dir) = IsName mid
FitsMediaEvent (Rtp len) = len < 2 ^ 64
FitsMediaEvent (Rtcp len) = len < 2 ^ 64
FitsMediaEvent (Raw packet) = FitsPacket packet

abbrev pub FitsEvent : Event PlainMediaEvent → Type 0
FitsEvent events.Connected = Unit {0}
FitsEvent (events.IceConnectionStateChange state) = Unit {0}
FitsEvent (events.ChannelOpen id label) = (id < 2 ^ 64) × IsBytes label
FitsEvent (events.ChannelData message) = (message.id < 2 ^ 64) × IsBytes message.bytes
FitsEvent (events.ChannelClose id) = id < 2 ^ 64
FitsEvent (events.ChannelBufferedAmountLow id) = id < 2 ^ 64
FitsEvent (events.PeerStats stats) = (stats.peer_bytes_rx < 2 ^ 64) × (stats.peer_bytes_tx < 2 ^ 64)
FitsEvent (events.MediaIngressStats stats) = IsName stats.mid × (stats.bytes < 2 ^ 64)
FitsEvent (events.MediaEgressStats stats) = IsName stats.mid × (stats.bytes < 2 ^ 64)
FitsEvent (events.Media event) = FitsMediaEvent event
FitsEvent events.Closed = Unit {0}

abbrev pub FitsShown : Shown PlainMediaEvent → Type 0
FitsShown (Timeout moment reason) = moment < 2 ^ 64
FitsShown (Packet number len) = (number < 2 ^ 64) × (len < 2 ^ 64)
FitsShown (EventOf event) = FitsEvent event

-- ---- errors

abbrev pub FitsNewLine : NewLine → Type 0
FitsNewLine (Count expected got) = Unit {0}
FitsNewLine (NotMedia mid kind) = IsName mid
FitsNewLine (NotChannel mid kind) = IsName mid
FitsNewLine (NotOffered mid) = IsName mid
FitsNewLine (OtherKind mid) = IsName mid
FitsNewLine (OtherPlace mid) = IsName mid

abbrev pub FitsWhy : Why → Type 0
FitsWhy (MovedLine mid) = IsName mid
FitsWhy (PlaceTaken mid) = IsName mid
FitsWhy (AnswerRecycles mid) = IsName mid
FitsWhy (WrongNewLines wrong) = FitsNewLine wrong
FitsWhy why = Unit {0}

abbrev pub FitsMediaError : MediaError → Type 0
FitsMediaError (UnknownRid rid) = IsName rid
FitsMediaError error = Unit {0}

-- the names in what an error prints
abbrev pub FitsError : RtcError → Type 0
FitsError (RemoteSdp why) = FitsWhy why
FitsError (MediaFailed error) = FitsMediaError error
FitsError error = Unit {0}

abbrev pub FitsEnd : PollEnd → Type 0
FitsEnd Ended = Unit {0}
FitsEnd (EndRefused error) = FitsError error
FitsEnd NoRoom = Unit {0}

-- ---- outcomes

abbrev pub FitsAnswer : OpAnswer → Type 0
FitsAnswer (Mid mid) = IsName mid
FitsAnswer (Changed changed) = Unit {0}
FitsAnswer NoLine = Unit {0}
FitsAnswer (Channel id) = id < 2 ^ 64
FitsAnswer NoChannel = Unit {0}
FitsAnswer (Creds creds) = Unit {0}
FitsAnswer OpAlloc = Unit {0}

abbrev pub FitsMade : Made → Type 0
FitsMade NotAsked = Unit {0}
FitsMade Nothing = Unit {0}
FitsMade (Offer number) = number < 2 ^ 64
FitsMade MadeAlloc = Unit {0}

-- the numbers and names in the words of an outcome
abbrev pub FitsWords : {E : Type 0} → Outcome E → Type 0
FitsWords (Negotiated answers made) = AllByRecursion FitsAnswer answers × FitsMade made
FitsWords (Answered text) = text < 2 ^ 64
FitsWords Finished = Unit {0}
FitsWords Done = Unit {0}
FitsWords (Wrote taken) = Unit {0}
FitsWords (Polled outputs end) = Unit {0}
FitsWords (Refused error) = FitsError error
FitsWords NoSuch = Unit {0}
FitsWords Alloc = Unit {0}

-- the numbers, names and bytes in what polls gave
abbrev pub FitsPolled : Outcome PlainMediaEvent → Type 0
FitsPolled (Negotiated answers made) = Unit {0}
FitsPolled (Answered text) = Unit {0}
FitsPolled Finished = Unit {0}
FitsPolled Done = Unit {0}
FitsPolled (Wrote taken) = Unit {0}
FitsPolled (Polled outputs end) = AllByRecursion FitsShown outputs × FitsEnd end
FitsPolled (Refused error) = Unit {0}
FitsPolled NoSuch = Unit {0}
FitsPolled Alloc = Unit {0}

-- The numbers, names and bytes of a reply are those of its types.
abbrev pub FitsReply : Reply PlainMediaEvent → Type 0
FitsReply reply = FitsWords reply.outcome × FitsPolled reply.outcome × FitsTable reply.table

-- those of the replies that have a step
abbrev pub AreFit : List Step → List (Reply PlainMediaEvent) → Type 0
AreFit [] replies = Unit {0}
AreFit (step ∷ steps) [] = Unit {0}
AreFit (step ∷ steps) (reply ∷ replies) = FitsReply reply × AreFit steps replies

-- ---- names and texts that no type bounds

-- the name that a draw gives: of token bytes, and not the word for running out of memory
abbrev pub IsDrawnName : List ℕ → Type 0
IsDrawnName text = (list_all is_token_byte text ≡ true) × (text ≢ no_memory)

-- an answer is of the kind that an operation gives
abbrev pub AnswersOp : Op → OpAnswer → Type 0
AnswersOp (AddMedia kind dir) (Mid mid) = IsDrawnName mid
AnswersOp (SetDirection place dir) (Changed changed) = Unit {0}
AnswersOp (SetDirection place dir) NoLine = Unit {0}
AnswersOp (StopMedia place) (Changed changed) = Unit {0}
AnswersOp (StopMedia place) NoLine = Unit {0}
AnswersOp (AddChannel config) (Channel id) = Unit {0}
AnswersOp (AddChannel config) NoChannel = Unit {0}
AnswersOp (IceRestart keep) (Creds creds) = IsDrawnName creds.ufrag
AnswersOp op OpAlloc = Unit {0}
AnswersOp op answer = ⊥

-- the answers to operations behind the first; after a want of memory there are fewer
abbrev pub AnswersMore : List Op → List OpAnswer → Type 0
AnswersMore ops [] = Unit {0}
AnswersMore [] (answer ∷ answers) = ⊥
AnswersMore (op ∷ ops) (answer ∷ answers) = AnswersOp op answer × AnswersMore ops answers

-- the answers to operations: one at least, if there is one of them
abbrev pub AnswersOps : List Op → List OpAnswer → Type 0
AnswersOps [] [] = Unit {0}
AnswersOps [] (answer ∷ answers) = ⊥
AnswersOps (op ∷ ops) [] = ⊥
AnswersOps (op ∷ ops) (answer ∷ answers) = AnswersOp op answer × AnswersMore ops answers

-- the operations of a step
abbrev pub ops_of : Step → List Op
ops_of (Negotiate at ops apply) = ops
ops_of step = []

-- each answer in an outcome is of the kind that its operation gives
abbrev pub AnswersStep : {E : Type 0} → Step → Outcome E → Type 0
AnswersStep step (Negotiated answers made) = AnswersOps (ops_of step) answers
AnswersStep step (Answered text) = Unit {0}
AnswersStep step Finished = Unit {0}
AnswersStep step Done = Unit {0}
AnswersStep step (Wrote taken) = Unit {0}
AnswersStep step (Polled outputs end) = Unit {0}
AnswersStep step (Refused error) = Unit {0}
AnswersStep step NoSuch = Unit {0}
AnswersStep step Alloc = Unit {0}

-- the name of a hash function that is refused has no end of line
abbrev pub IsHashInLine : Why → Type 0
IsHashInLine (UnknownHash name) = breaks name ≡ false
IsHashInLine why = Unit {0}

abbrev pub IsErrorInLine : RtcError → Type 0
IsErrorInLine (RemoteSdp why) = IsHashInLine why
IsErrorInLine error = Unit {0}

abbrev pub IsEndInLine : PollEnd → Type 0
IsEndInLine (EndRefused error) = IsErrorInLine error
IsEndInLine end = Unit {0}

abbrev pub IsOutcomeInLine : {E : Type 0} → Outcome E → Type 0
IsOutcomeInLine (Polled outputs end) = IsEndInLine end
IsOutcomeInLine (Refused error) = IsErrorInLine error
IsOutcomeInLine outcome = Unit {0}

-- as many replies as steps, with the answers that the steps ask for
abbrev pub AreAnswersTo : {E : Type 0} → List Step → List (Reply E) → Type 0
AreAnswersTo steps replies = AllZip (λ step reply. AnswersStep step reply.outcome) steps replies

-- so it is in replies
abbrev pub AreInLine : {E : Type 0} → List (Reply E) → Type 0
AreInLine replies = AllByRecursion (λ reply. IsOutcomeInLine reply.outcome) replies
