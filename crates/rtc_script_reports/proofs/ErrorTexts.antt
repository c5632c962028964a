-- What errors print is one line, if their names are.
use Rattle.std.specs.Prelude.{codes}
use Rattle.std.specs.Fmt.{decimal}
use Rattle.std.proofs.Common.{◌≡◌, ◌++◌, ◌∷◌, ℕ, false, List, refl}
use Rattle.rtc_wire.specs.declared.io_text.IoText.TheVariants.{EmptyDatagram, UnknownDatagram}
use Rattle.rtc_wire.specs.declared.net_error.NetError.{NetError}
use Rattle.rtc_wire.specs.declared.net_error.NetError.TheVariants.{Stun, Io}
use Rattle.rtc_sdp_values.specs.declared.inconsistent.Inconsistent.TheVariants.{NoGroup, ManyGroups, EmptyGroup, UnknownMid, LineNotInGroup, RepeatedMid}
use Rattle.rtc_sdp_values.specs.declared.line_kind.LineKind.{LineKind}
use Rattle.rtc_sdp_values.specs.declared.line_kind.LineKind.TheVariants.{Audio, Video, Application, Unknown}
use Rattle.rtc_sdp_values.specs.declared.sdp_error.SdpError.{SdpError}
use Rattle.rtc_sdp_values.specs.declared.sdp_error.SdpError.TheVariants as sdp
use Rattle.rtc_sdp_values.specs.SdpErrorText.{inconsistent_text, sdp_error_text}
use Rattle.rtc_parts.specs.declared.dtls_error.DtlsError.{DtlsError}
use Rattle.rtc_parts.specs.declared.dtls_error.DtlsError.TheVariants as dtls
use Rattle.rtc_parts.specs.DtlsErrorText.{dtls_error_text}
use Rattle.rtc_parts.specs.declared.media_error.MediaError.{MediaError}
use Rattle.rtc_parts.specs.declared.media_error.MediaError.TheVariants as media
use Rattle.rtc_parts.specs.MediaErrorText.{media_error_text}
use Rattle.rtc_sctp_values.specs.declared.proto_error.ProtoError.{ProtoError}
use Rattle.rtc_sctp_values.specs.declared.proto_error.ProtoError.TheVariants as proto
use Rattle.rtc_sctp_values.specs.declared.sctp_error.SctpError.{SctpError}
use Rattle.rtc_sctp_values.specs.declared.sctp_error.SctpError.TheVariants as sctp
use Rattle.rtc_sctp_values.specs.SctpErrorText.{proto_error_text, sctp_error_text}
use Rattle.rtc_peer_rows.specs.declared.new_line.NewLine.{NewLine}
use Rattle.rtc_peer_rows.specs.declared.new_line.NewLine.TheVariants.{Count, NotMedia, NotChannel, NotOffered, OtherKind, OtherPlace}
use Rattle.rtc_peer_rows.specs.declared.why.Why.{Why}
use Rattle.rtc_peer_rows.specs.declared.why.Why.TheVariants.{NoLines, BothLite, NoCredentials, UnaskedRestart, NoFingerprint, SctpInitChanged, SctpInitMissing, MovedLine, PlaceTaken, AnswerRecycles, WrongNewLines, NoMatch, UnknownHash, NoneAnnounced}
use Rattle.rtc_peer_rows.specs.WhyText.{kind_name, new_line_text, why_text}
use Rattle.rtc_peer_core.specs.RtcErrorText.{net_error_text, rtc_error_text}
use Rattle.rtc_peer_core.specs.declared.rtc_error.RtcError.{RtcError}
use Rattle.rtc_peer_core.specs.declared.rtc_error.RtcError.TheVariants.{RemoteSdp, Sdp, Net, Dtls, Sctp, Media as MediaFailed, ChangesOutOfOrder, BadChannel, Alloc as PeerAlloc, Glare}
use Rattle.rtc_run_history.specs.declared.outcome.Outcome.{Outcome}
use Rattle.rtc_run_history.specs.declared.outcome.Outcome.TheVariants.{Negotiated, Answered, Finished, Done, Wrote, Polled, Refused, NoSuch, Alloc}
use Rattle.rtc_run_history.specs.declared.poll_end.PollEnd.{PollEnd}
use Rattle.rtc_run_history.specs.declared.poll_end.PollEnd.TheVariants.{Ended, Refused as EndRefused, NoRoom}
use Rattle.rtc_plain_media.specs.declared.plain_media_event.PlainMediaEvent.{PlainMediaEvent}
use Rattle.rtc_script_reports.specs.Fits.{FitsEnd, FitsError, FitsMediaError, FitsNewLine, FitsPolled, FitsWhy, FitsWords, IsEndInLine, IsErrorInLine, IsHashInLine, IsName, IsOutcomeInLine, breaks}
use Rattle.rtc_script_reports.proofs.Cuts.{none_append}
use Rattle.rtc_script_reports.proofs.WordTexts.{decimal_gap, name_gap}

-- ---- what is to be shown

-- what an error prints is one line
abbrev pub IsInLine : RtcError → Type 0
IsInLine error = breaks (rtc_error_text error) ≡ false

abbrev pub EndsInLine : PollEnd → Type 0
EndsInLine Ended = Unit {0}
EndsInLine (EndRefused error) = IsInLine error
EndsInLine NoRoom = Unit {0}

-- what an error in an outcome prints is one line
abbrev pub PrintsInLine : Outcome PlainMediaEvent → Type 0
PrintsInLine (Negotiated answers made) = Unit {0}
PrintsInLine (Answered text) = Unit {0}
PrintsInLine Finished = Unit {0}
PrintsInLine Done = Unit {0}
PrintsInLine (Wrote taken) = Unit {0}
PrintsInLine (Polled outputs end) = EndsInLine end
PrintsInLine (Refused error) = IsInLine error
PrintsInLine NoSuch = Unit {0}
PrintsInLine Alloc = Unit {0}

-- ---- refused descriptions

kind_whole : (kind : LineKind) → breaks (kind_name kind) ≡ false
unfolding kind_name
kind_whole Audio = refl
kind_whole Video = refl
kind_whole Application = refl
kind_whole Unknown = refl

named : (front mid : List ℕ) → breaks front ≡ false → IsName mid → breaks (front ++ mid) ≡ false
named front mid whole name = none_append 10 front mid whole (name_gap 1 mid name)

-- a name between two texts
between : (front mid back : List ℕ) → breaks front ≡ false → IsName mid → breaks back ≡ false → breaks (front ++ (mid ++ back)) ≡ false
between front mid back whole name rest = none_append 10 front (mid ++ back) whole (none_append 10 mid back (name_gap 1 mid name) rest)

counts_whole : (front back : List ℕ) (n k : ℕ) → breaks front ≡ false → breaks back ≡ false → breaks (front ++ (decimal n ++ (back ++ decimal k))) ≡ false
counts_whole front back n k whole rest =
    none_append 10 front (decimal n ++ (back ++ decimal k)) whole (none_append 10 (decimal n) (back ++ decimal k) (decimal_gap 1 n) (none_append 10 back (decimal k) rest (decimal_gap 1 k)))

new_line_whole : (wrong : NewLine) → FitsNewLine wrong → breaks (new_line_text wrong) ≡ false
unfolding new_line_text
new_line_whole (Count expected got) fit = counts_whole (codes "Differing m-line count in offer vs answer: ") (codes " != ") expected got refl refl
new_line_whole (NotMedia mid kind) fit =
    between (codes "Answer m-line for mid (") mid (codes ") is not of media type: " ++ kind_name kind) refl fit (none_append 10 (codes ") is not of media type: ") (kind_name kind) refl (kind_whole kind))
new_line_whole (NotChannel mid kind) fit =
    between (codes "Answer m-line for mid (") mid (codes ") is not a data channel: " ++ kind_name kind) refl fit (none_append 10 (codes ") is not a data channel: ") (kind_name kind) refl (kind_whole kind))
new_line_whole (NotOffered mid) fit = named (codes "Mid in answer is not in offer: ") mid refl fit
new_line_whole (OtherKind mid) fit = between (codes "Answer m-line for mid (") mid (codes ") is of another kind") refl fit refl
new_line_whole (OtherPlace mid) fit = named (codes "Changed order for m-line with mid: ") mid refl fit

why_whole : (why : Why) → FitsWhy why → IsHashInLine why → breaks (why_text why) ≡ false
unfolding why_text
why_whole NoLines fit line = refl
why_whole BothLite fit line = refl
why_whole NoCredentials fit line = refl
why_whole (UnaskedRestart kept got) fit line = refl
why_whole NoFingerprint fit line = refl
why_whole (SctpInitChanged kept got) fit line = refl
why_whole (SctpInitMissing kept) fit line = refl
why_whole (MovedLine mid) fit line = named (codes "Changed order for m-line with mid: ") mid refl fit
why_whole (PlaceTaken mid) fit line = named (codes "Changed order for m-line with mid: ") mid refl fit
why_whole (AnswerRecycles mid) fit line = named (codes "Answer recycles stopped m-line (not permitted per RFC 8829 " ++ (0xC2 ∷ 0xA7 ∷ codes "5.2.2): ")) mid refl fit
why_whole (WrongNewLines wrong) fit line = new_line_whole wrong fit
why_whole (NoMatch expected got) fit line = refl
why_whole (UnknownHash name) fit line = none_append 10 (codes "unsupported fingerprint hash function: ") name refl line
why_whole NoneAnnounced fit line = refl

-- ---- faults of parts

sdp_whole : (error : SdpError) → breaks (sdp_error_text error) ≡ false
unfolding sdp_error_text inconsistent_text
sdp_whole (sdp.Parse line) = none_append 10 (codes "SDP parse error at line ") (decimal line) refl (decimal_gap 1 line)
sdp_whole (sdp.Inconsistent NoGroup) = refl
sdp_whole (sdp.Inconsistent ManyGroups) = refl
sdp_whole (sdp.Inconsistent EmptyGroup) = refl
sdp_whole (sdp.Inconsistent UnknownMid) = refl
sdp_whole (sdp.Inconsistent LineNotInGroup) = refl
sdp_whole (sdp.Inconsistent RepeatedMid) = refl
sdp_whole sdp.Alloc = refl

net_whole : (error : NetError) → breaks (net_error_text error) ≡ false
unfolding net_error_text
net_whole (Stun why) = refl
net_whole (Io kind EmptyDatagram) = refl
net_whole (Io kind UnknownDatagram) = refl

dtls_whole : (error : DtlsError) → breaks (dtls_error_text error) ≡ false
unfolding dtls_error_text
dtls_whole dtls.WouldBlock = refl
dtls_whole dtls.Fault = refl
dtls_whole dtls.Alloc = refl

proto_whole : (error : ProtoError) → breaks (proto_error_text error) ≡ false
unfolding proto_error_text
proto_whole proto.Started = refl
proto_whole proto.SnapHalf = refl
proto_whole (proto.TooLong len max) = counts_whole (codes "message of ") (codes " bytes is longer than ") len max refl refl
proto_whole (proto.NoStream id) = none_append 10 (codes "no stream ") (decimal id) refl (decimal_gap 1 id)
proto_whole proto.Fault = refl

sctp_whole : (error : SctpError) → breaks (sctp_error_text error) ≡ false
unfolding sctp_error_text
sctp_whole (sctp.Proto cause) = proto_whole cause
sctp_whole sctp.WriteBeforeEstablished = refl
sctp_whole sctp.DcepOpenTooSmall = refl
sctp_whole sctp.DcepIncorrectMessageType = refl
sctp_whole sctp.DcepBadUtf8 = refl
sctp_whole sctp.InvalidSnap = refl
sctp_whole sctp.Alloc = refl

media_error_whole : (error : MediaError) → FitsMediaError error → breaks (media_error_text error) ≡ false
unfolding media_error_text
media_error_whole (media.UnknownPt pt) fit = none_append 10 (codes "PT is unknown ") (decimal pt.0) refl (decimal_gap 1 pt.0)
media_error_whole (media.UnknownRid rid) fit = named (codes "RID is unknown ") rid refl fit
media_error_whole media.NoSenderSource fit = refl
media_error_whole media.NotReceivingDirection fit = refl
media_error_whole media.Alloc fit = refl
media_error_whole media.Rtp fit = refl
media_error_whole (media.Packet mid pt) fit = refl
media_error_whole media.ResendRequiresRtxPt fit = refl
media_error_whole (media.NotSendingDirection dir) fit = refl
media_error_whole (media.NoReceiverSource rid) fit = refl
media_error_whole media.FeedbackNotEnabled fit = refl
media_error_whole media.WriteWithoutPoll fit = refl

-- ---- all errors

in_line : (error : RtcError) → FitsError error → IsErrorInLine error → IsInLine error
unfolding rtc_error_text
in_line (RemoteSdp why) fit line = none_append 10 (codes "remote sdp: ") (why_text why) refl (why_whole why fit line)
in_line (Sdp error) fit line = sdp_whole error
in_line (Net error) fit line = net_whole error
in_line (Dtls error) fit line = dtls_whole error
in_line (Sctp error) fit line = sctp_whole error
in_line (MediaFailed error) fit line = media_error_whole error fit
in_line ChangesOutOfOrder fit line = refl
in_line BadChannel fit line = refl
in_line PeerAlloc fit line = refl
in_line Glare fit line = refl

ends_in_line : (end : PollEnd) → FitsEnd end → IsEndInLine end → EndsInLine end
ends_in_line Ended fit line = tt
ends_in_line (EndRefused error) fit line = in_line error fit line
ends_in_line NoRoom fit line = tt

pub prints_in_line : (outcome : Outcome PlainMediaEvent) → FitsWords outcome → FitsPolled outcome → IsOutcomeInLine outcome → PrintsInLine outcome
prints_in_line (Negotiated answers made) fit out line = tt
prints_in_line (Answered text) fit out line = tt
prints_in_line Finished fit out line = tt
prints_in_line Done fit out line = tt
prints_in_line (Wrote taken) fit out line = tt
prints_in_line (Polled outputs end) fit out line = ends_in_line end out.1 line
prints_in_line (Refused error) fit out line = in_line error fit line
prints_in_line NoSuch fit out line = tt
prints_in_line Alloc fit out line = tt
