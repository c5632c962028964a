-- What one report of two lists of replies says of them.
use Rattle.std.specs.Prelude.{◌≡◌, ℕ, List, [], length, Option, Some, None}
use Rattle.std.specs.List.{AllZip}
use Rattle.rtc_parts.specs.declared.raw_packet.RawPacket.{RawPacket}
use Rattle.rtc_parts.specs.declared.raw_packet.RawPacket.TheVariants.{RtcpTx, RtcpRx, RtpTx, RtpRx}
use Rattle.rtc_plain_media.specs.declared.plain_media_event.PlainMediaEvent.{PlainMediaEvent}
use Rattle.rtc_plain_media.specs.declared.plain_media_event.PlainMediaEvent.TheVariants.{Added, Changed as DirChanged, Rtp, Rtcp, Raw}
use Rattle.rtc_peer_core.specs.RtcErrorText.{rtc_error_text}
use Rattle.rtc_peer_core.specs.declared.rtc_error.RtcError.{RtcError}
use Rattle.rtc_peer_core.specs.declared.rtc_error.RtcError.TheVariants.{RemoteSdp, Sdp, Net, Dtls, Sctp, Media}
use Rattle.rtc_peer_core.specs.declared.rtc_error.RtcError.TheVariants.{ChangesOutOfOrder, BadChannel, Alloc as PeerAlloc, Glare}
use Rattle.rtc_peer_transport.specs.declared.event.Event.{Event}
use Rattle.rtc_peer_transport.specs.declared.event.Event.TheVariants as events
use Rattle.rtc_run_history.specs.declared.made.Made.{Made}
use Rattle.rtc_run_history.specs.declared.made.Made.TheVariants.{NotAsked, Nothing, Offer, Alloc as MadeAlloc}
use Rattle.rtc_run_history.specs.declared.op_answer.OpAnswer.{OpAnswer}
use Rattle.rtc_run_history.specs.declared.op_answer.OpAnswer.TheVariants.{Mid, Changed, NoLine, Channel, Creds}
use Rattle.rtc_run_history.specs.declared.op_answer.OpAnswer.TheVariants.{BadChannel as NoChannel, Alloc as OpAlloc}
use Rattle.rtc_run_history.specs.declared.outcome.Outcome.{Outcome}
use Rattle.rtc_run_history.specs.declared.outcome.Outcome.TheVariants.{Negotiated, Answered, Finished, Done, Wrote, Polled, Refused}
use Rattle.rtc_run_history.specs.declared.outcome.Outcome.TheVariants.{NoSuch, Alloc}
use Rattle.rtc_run_history.specs.declared.poll_end.PollEnd.{PollEnd}
use Rattle.rtc_run_history.specs.declared.poll_end.PollEnd.TheVariants.{Ended, Refused as EndRefused, NoRoom}
use Rattle.rtc_run_history.specs.declared.reply.Reply.{Reply}
use Rattle.rtc_run_history.specs.declared.shown.Shown.{Shown}
use Rattle.rtc_run_history.specs.declared.shown.Shown.TheVariants.{Timeout, Packet, Event as EventOf}
use Rattle.rtc_run_history.specs.declared.step.Step.{Step}
use Rattle.rtc_run_history.specs.declared.table.Table.{Table}
use Rattle.rtc_script_reports.specs.Fits.{AreAnswersTo, AreFit, AreInLine}
use Rattle.rtc_script_reports.specs.Report.{report}

-- the number of an error
abbrev pub error_number : RtcError → ℕ
error_number (RemoteSdp why) = 1
error_number (Sdp error) = 2
error_number (Net error) = 3
error_number (Dtls error) = 4
error_number (Sctp error) = 5
error_number (Media error) = 6
error_number ChangesOutOfOrder = 7
error_number BadChannel = 8
error_number PeerAlloc = 9
error_number Glare = 10

-- errors of one number, which print the same
abbrev pub AreAlikeErrors : RtcError → RtcError → Type 0
AreAlikeErrors error other = (error_number error ≡ error_number other) × (rtc_error_text error ≡ rtc_error_text other)

-- ---- outputs

-- packets of one way and one length
abbrev pub AreAlikePackets : RawPacket → RawPacket → Type 0
AreAlikePackets (RtcpTx bytes) (RtcpTx bytes') = length bytes ≡ length bytes'
AreAlikePackets (RtcpRx bytes) (RtcpRx bytes') = length bytes ≡ length bytes'
AreAlikePackets (RtpTx bytes) (RtpTx bytes') = length bytes ≡ length bytes'
AreAlikePackets (RtpRx bytes) (RtpRx bytes') = length bytes ≡ length bytes'
AreAlikePackets packet other = ⊥

abbrev pub AreAlikeMediaEvents : PlainMediaEvent → PlainMediaEvent → Type 0
AreAlikeMediaEvents (Added mid kind dir) (Added mid' kind' dir') = (mid ≡ mid') × (kind ≡ kind') × (dir ≡ dir')
AreAlikeMediaEvents (DirChanged mid dir) (DirChanged mid' dir') = (mid ≡ mid') × (dir ≡ dir')
AreAlikeMediaEvents (Rtp len) (Rtp len') = len ≡ len'
AreAlikeMediaEvents (Rtcp len) (Rtcp len') = len ≡ len'
AreAlikeMediaEvents (Raw packet) (Raw packet') = AreAlikePackets packet packet'
AreAlikeMediaEvents event other = ⊥

-- Events of one kind, with all that is shown of such an event.
abbrev pub AreAlikeEvents : Event PlainMediaEvent → Event PlainMediaEvent → Type 0
AreAlikeEvents events.Connected events.Connected = Unit {0}
AreAlikeEvents (events.IceConnectionStateChange state) (events.IceConnectionStateChange state') = state ≡ state'
AreAlikeEvents (events.ChannelOpen id label) (events.ChannelOpen id' label') = (id ≡ id') × (label ≡ label')
AreAlikeEvents (events.ChannelData message) (events.ChannelData message') = message ≡ message'
AreAlikeEvents (events.ChannelClose id) (events.ChannelClose id') = id ≡ id'
AreAlikeEvents (events.ChannelBufferedAmountLow id) (events.ChannelBufferedAmountLow id') = id ≡ id'
AreAlikeEvents (events.PeerStats stats) (events.PeerStats stats') =
    (stats.peer_bytes_rx ≡ stats'.peer_bytes_rx) × (stats.peer_bytes_tx ≡ stats'.peer_bytes_tx)
AreAlikeEvents (events.MediaIngressStats stats) (events.MediaIngressStats stats') =
    (stats.mid ≡ stats'.mid) × (stats.bytes ≡ stats'.bytes)
AreAlikeEvents (events.MediaEgressStats stats) (events.MediaEgressStats stats') =
    (stats.mid ≡ stats'.mid) × (stats.bytes ≡ stats'.bytes)
AreAlikeEvents (events.Media event) (events.Media event') = AreAlikeMediaEvents event event'
AreAlikeEvents events.Closed events.Closed = Unit {0}
AreAlikeEvents event other = ⊥

abbrev pub AreAlikeShown : Shown PlainMediaEvent → Shown PlainMediaEvent → Type 0
AreAlikeShown (Timeout moment reason) (Timeout moment' reason') = (moment ≡ moment') × (reason ≡ reason')
AreAlikeShown (Packet number len) (Packet number' len') = (number ≡ number') × (len ≡ len')
AreAlikeShown (EventOf event) (EventOf event') = AreAlikeEvents event event'
AreAlikeShown shown other = ⊥

-- Polls were ended by one cause, or each by a want of memory.
abbrev pub AreAlikeEnds : PollEnd → PollEnd → Type 0
AreAlikeEnds Ended Ended = Unit {0}
AreAlikeEnds (EndRefused error) (EndRefused error') = AreAlikeErrors error error'
AreAlikeEnds NoRoom NoRoom = Unit {0}
AreAlikeEnds NoRoom (EndRefused error) = error ≡ PeerAlloc
AreAlikeEnds (EndRefused error) NoRoom = error ≡ PeerAlloc
AreAlikeEnds end other = ⊥

-- ---- outcomes

-- Answers of one kind, with all that is shown of such an answer.
abbrev pub AreAlikeAnswers : OpAnswer → OpAnswer → Type 0
AreAlikeAnswers (Mid mid) (Mid mid') = mid ≡ mid'
AreAlikeAnswers (Changed changed) (Changed changed') = changed ≡ changed'
AreAlikeAnswers NoLine NoLine = Unit {0}
AreAlikeAnswers (Channel id) (Channel id') = id ≡ id'
AreAlikeAnswers NoChannel NoChannel = Unit {0}
AreAlikeAnswers (Creds creds) (Creds creds') = creds.ufrag ≡ creds'.ufrag
AreAlikeAnswers OpAlloc OpAlloc = Unit {0}
AreAlikeAnswers answer other = ⊥

-- One offer was made, or none; it is not shown why none was.
abbrev pub AreAlikeMade : Made → Made → Type 0
AreAlikeMade (Offer number) (Offer number') = number ≡ number'
AreAlikeMade MadeAlloc MadeAlloc = Unit {0}
AreAlikeMade NotAsked NotAsked = Unit {0}
AreAlikeMade Nothing Nothing = Unit {0}
AreAlikeMade NotAsked Nothing = Unit {0}
AreAlikeMade Nothing NotAsked = Unit {0}
AreAlikeMade made other = ⊥

-- Outcomes of one kind, with all that is shown of such an outcome. If memory ran out, it is not shown whether the peer was called.
abbrev pub AreAlikeOutcomes : Outcome PlainMediaEvent → Outcome PlainMediaEvent → Type 0
AreAlikeOutcomes (Negotiated answers made) (Negotiated answers' made') = AllZip AreAlikeAnswers answers answers' × AreAlikeMade made made'
AreAlikeOutcomes (Answered text) (Answered text') = text ≡ text'
AreAlikeOutcomes Finished Finished = Unit {0}
AreAlikeOutcomes Done Done = Unit {0}
AreAlikeOutcomes (Wrote taken) (Wrote taken') = taken ≡ taken'
AreAlikeOutcomes (Polled outputs end) (Polled outputs' end') = AllZip AreAlikeShown outputs outputs' × AreAlikeEnds end end'
AreAlikeOutcomes (Refused error) (Refused error') = AreAlikeErrors error error'
AreAlikeOutcomes NoSuch NoSuch = Unit {0}
AreAlikeOutcomes Alloc Alloc = Unit {0}
AreAlikeOutcomes Alloc (Refused error) = error ≡ PeerAlloc
AreAlikeOutcomes (Refused error) Alloc = error ≡ PeerAlloc
AreAlikeOutcomes outcome other = ⊥

-- One table; it is not shown whether there is none or an empty one.
abbrev pub AreAlikeTables : Option Table → Option Table → Type 0
AreAlikeTables None None = Unit {0}
AreAlikeTables (Some table) (Some table') = table ≡ table'
AreAlikeTables None (Some table) = (table.lines ≡ []) × (table.channels ≡ [])
AreAlikeTables (Some table) None = (table.lines ≡ []) × (table.channels ≡ [])

-- Two replies agree in all that a report shows of them.
abbrev pub AreAlike : Reply PlainMediaEvent → Reply PlainMediaEvent → Type 0
AreAlike reply other = AreAlikeOutcomes reply.outcome other.outcome × AreAlikeTables reply.table other.table

-- Other replies to the same steps that have the report of these agree with them, if the name of a hash function that an error of theirs
-- prints has no end of line.
abbrev pub TellsReplies : List Step → List (Reply PlainMediaEvent) → Type 0
TellsReplies steps replies =
    (others : List (Reply PlainMediaEvent))
    → AreFit steps others → AreAnswersTo steps others → AreInLine others
    → report steps replies ≡ report steps others
    → AllZip AreAlike replies others

-- replies to the same steps with one report agree, if no name of a hash function in either has an end of line
abbrev pub ReportsTell : Type 0
ReportsTell =
    (steps : List Step) (replies : List (Reply PlainMediaEvent))
    → AreFit steps replies → AreAnswersTo steps replies → AreInLine replies → TellsReplies steps replies
