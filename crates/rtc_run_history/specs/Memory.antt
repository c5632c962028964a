-- Which replies report that memory ran out, and which that a part failed.
use Rattle.std.specs.Prelude.{Bool, true, false, ◌&&◌, ◌||◌, List}
use Rattle.std.specs.List.{list_any}
use Rattle.rtc_sctp_values.specs.declared.proto_error.ProtoError.{ProtoError}
use Rattle.rtc_sctp_values.specs.declared.proto_error.ProtoError.TheVariants as proto
use Rattle.rtc_sctp_values.specs.declared.sctp_error.SctpError.{SctpError}
use Rattle.rtc_sctp_values.specs.declared.sctp_error.SctpError.TheVariants as sctp
use Rattle.rtc_peer_core.specs.declared.rtc_error.RtcError.{RtcError}
use Rattle.rtc_peer_core.specs.declared.rtc_error.RtcError.TheVariants.{Net, Media as MediaFailed}
use Rattle.rtc_peer_core.specs.declared.rtc_error.RtcError.TheVariants.{RemoteSdp, Sdp, Dtls, Sctp, ChangesOutOfOrder, BadChannel}
use Rattle.rtc_peer_core.specs.declared.rtc_error.RtcError.TheVariants.{Alloc as PeerAlloc, Glare}
use Rattle.rtc_run_history.specs.declared.op_answer.OpAnswer.{OpAnswer}
use Rattle.rtc_run_history.specs.declared.op_answer.OpAnswer.TheVariants.{Mid, Changed, NoLine, Channel, Creds}
use Rattle.rtc_run_history.specs.declared.op_answer.OpAnswer.TheVariants.{BadChannel as NoChannel, Alloc as OpAlloc}
use Rattle.rtc_run_history.specs.declared.made.Made.{Made}
use Rattle.rtc_run_history.specs.declared.made.Made.TheVariants.{NotAsked, Nothing, Offer, Alloc as MadeAlloc}
use Rattle.rtc_run_history.specs.declared.poll_end.PollEnd.{PollEnd}
use Rattle.rtc_run_history.specs.declared.poll_end.PollEnd.TheVariants.{Ended, Refused as EndRefused, NoRoom}
use Rattle.rtc_run_history.specs.declared.outcome.Outcome.{Outcome}
use Rattle.rtc_run_history.specs.declared.outcome.Outcome.TheVariants.{Negotiated, Answered, Finished, Done, Wrote, Polled, Refused}
use Rattle.rtc_run_history.specs.declared.outcome.Outcome.TheVariants.{NoSuch, Alloc}
use Rattle.rtc_run_history.specs.declared.reply.Reply.{Reply}

abbrev pub answer_lacks : OpAnswer → Bool
answer_lacks (Mid mid) = false
answer_lacks (Changed changed) = false
answer_lacks NoLine = false
answer_lacks (Channel id) = false
answer_lacks NoChannel = false
answer_lacks (Creds creds) = false
answer_lacks OpAlloc = true

abbrev pub answers_lack : List OpAnswer → Bool
answers_lack answers = list_any answer_lacks answers

abbrev pub made_lacks : Made → Bool
made_lacks NotAsked = false
made_lacks Nothing = false
made_lacks (Offer k) = false
made_lacks MadeAlloc = true

abbrev pub error_lacks : RtcError → Bool
error_lacks (RemoteSdp why) = false
error_lacks (Sdp error) = false
error_lacks (Dtls error) = false
error_lacks (Sctp error) = false
error_lacks ChangesOutOfOrder = false
error_lacks (Net cause) = false
error_lacks (MediaFailed cause) = false
error_lacks BadChannel = false
error_lacks PeerAlloc = true
error_lacks Glare = false

-- what ended polls reports that memory ran out: at the peer, or before the next poll
abbrev pub end_lacks : PollEnd → Bool
end_lacks Ended = false
end_lacks (EndRefused error) = error_lacks error
end_lacks NoRoom = true

abbrev pub outcome_lacks : {E : Type 0} → Outcome E → Bool
outcome_lacks (Negotiated answers made) = made_lacks made || answers_lack answers
outcome_lacks (Answered k) = false
outcome_lacks Finished = false
outcome_lacks Done = false
outcome_lacks (Wrote taken) = false
outcome_lacks (Polled outputs end) = end_lacks end
outcome_lacks (Refused error) = error_lacks error
outcome_lacks NoSuch = false
outcome_lacks Alloc = true

abbrev pub lacks_memory : {E : Type 0} → Reply E → Bool
lacks_memory reply = outcome_lacks reply.outcome

-- the parts of a peer whose faults an acceptance can report
pub data CountedPart : Type 0 where
  DtlsPart : CountedPart
  AssociationPart : CountedPart
  MediaPart : CountedPart

abbrev pub is_dtls_part : CountedPart → Bool
is_dtls_part DtlsPart = true
is_dtls_part AssociationPart = false
is_dtls_part MediaPart = false

abbrev pub is_association_part : CountedPart → Bool
is_association_part DtlsPart = false
is_association_part AssociationPart = true
is_association_part MediaPart = false

abbrev pub is_media_part : CountedPart → Bool
is_media_part DtlsPart = false
is_media_part AssociationPart = false
is_media_part MediaPart = true

-- whether the association failed, and did not just refuse what a stream was asked
abbrev pub is_proto_fault : ProtoError → Bool
is_proto_fault proto.Started = false
is_proto_fault proto.SnapHalf = false
is_proto_fault (proto.TooLong len max) = false
is_proto_fault (proto.NoStream id) = false
is_proto_fault proto.Fault = true

abbrev pub is_sctp_fault : SctpError → Bool
is_sctp_fault (sctp.Proto cause) = is_proto_fault cause
is_sctp_fault sctp.WriteBeforeEstablished = false
is_sctp_fault sctp.DcepOpenTooSmall = false
is_sctp_fault sctp.DcepIncorrectMessageType = false
is_sctp_fault sctp.DcepBadUtf8 = false
is_sctp_fault sctp.InvalidSnap = false
is_sctp_fault sctp.Alloc = false

-- whether an error reports that this part failed
abbrev pub is_fault_of : RtcError → CountedPart → Bool
is_fault_of (RemoteSdp why) part = false
is_fault_of (Sdp error) part = false
is_fault_of (Dtls error) part = is_dtls_part part
is_fault_of (Sctp error) part = is_association_part part && is_sctp_fault error
is_fault_of ChangesOutOfOrder part = false
is_fault_of (Net cause) part = false
is_fault_of (MediaFailed cause) part = is_media_part part
is_fault_of BadChannel part = false
is_fault_of PeerAlloc part = false
is_fault_of Glare part = false

-- what ended polls reports that this part failed
abbrev pub is_end_fault_of : PollEnd → CountedPart → Bool
is_end_fault_of Ended part = false
is_end_fault_of (EndRefused error) part = is_fault_of error part
is_end_fault_of NoRoom part = false

abbrev pub is_fault : RtcError → Bool
is_fault error = is_fault_of error DtlsPart || (is_fault_of error AssociationPart || is_fault_of error MediaPart)

-- whether this part failed
abbrev pub tells_fault_of : {E : Type 0} → Outcome E → CountedPart → Bool
tells_fault_of (Negotiated answers made) part = false
tells_fault_of (Answered k) part = false
tells_fault_of Finished part = false
tells_fault_of Done part = false
tells_fault_of (Wrote taken) part = false
tells_fault_of (Polled outputs end) part = is_end_fault_of end part
tells_fault_of (Refused error) part = is_fault_of error part
tells_fault_of NoSuch part = false
tells_fault_of Alloc part = false

-- whether a part failed
abbrev pub tells_fault : {E : Type 0} → Outcome E → Bool
tells_fault outcome =
    tells_fault_of outcome DtlsPart || (tells_fault_of outcome AssociationPart || tells_fault_of outcome MediaPart)

-- whether one of these replies reports that a part failed
abbrev pub tell_fault : {E : Type 0} → List (Reply E) → Bool
tell_fault replies = list_any (λ reply. tells_fault reply.outcome) replies

-- whether memory ran out or a part failed
abbrev pub fails : {E : Type 0} → Outcome E → Bool
fails outcome = outcome_lacks outcome || tells_fault outcome
