-- Errors of lower calls, as a peer returns them.
use Rattle.rtc_sdp_values.specs.declared.sdp_error.SdpError.{SdpError}
use Rattle.rtc_sdp_values.specs.declared.sdp_error.SdpError.TheVariants.{Alloc as SdpAlloc, Parse, Inconsistent}
use Rattle.rtc_change.specs.declared.refusal.Refusal.{Refusal}
use Rattle.rtc_change.specs.declared.refusal.Refusal.TheVariants.{RemoteSdp as RefusedSdp, Sdp as RefusedText, Alloc as NoMemory}
use Rattle.rtc_channels.specs.declared.channel_error.ChannelError.{ChannelError}
use Rattle.rtc_channels.specs.declared.channel_error.ChannelError.TheVariants.{BadChannel as RefusedChannel, Alloc as ChannelAlloc}
use Rattle.rtc_parts.specs.declared.dtls_error.DtlsError.{DtlsError}
use Rattle.rtc_parts.specs.declared.dtls_error.DtlsError.TheVariants.{WouldBlock, Fault, Alloc as DtlsAlloc}
use Rattle.rtc_parts.specs.declared.media_error.MediaError.{MediaError}
use Rattle.rtc_parts.specs.declared.media_error.MediaError.TheVariants as media
use Rattle.rtc_sctp_values.specs.declared.sctp_error.SctpError.{SctpError}
use Rattle.rtc_sctp_values.specs.declared.sctp_error.SctpError.TheVariants as sctp
use Rattle.rtc_peer_core.specs.declared.rtc_error.RtcError.{RtcError}
use Rattle.rtc_peer_core.specs.declared.rtc_error.RtcError.TheVariants.{RemoteSdp, Sdp, Dtls, Sctp, Media, BadChannel, Alloc}

-- running out of memory below is running out of memory here
abbrev pub error_of_sdp : SdpError → RtcError
error_of_sdp SdpAlloc = Alloc
error_of_sdp (Parse line) = Sdp (Parse line)
error_of_sdp (Inconsistent cause) = Sdp (Inconsistent cause)

abbrev pub error_of_refusal : Refusal → RtcError
error_of_refusal (RefusedSdp why) = RemoteSdp why
error_of_refusal (RefusedText error) = error_of_sdp error
error_of_refusal NoMemory = Alloc

abbrev pub error_of_channel : ChannelError → RtcError
error_of_channel RefusedChannel = BadChannel
error_of_channel ChannelAlloc = Alloc

abbrev pub error_of_dtls : DtlsError → RtcError
error_of_dtls WouldBlock = Dtls WouldBlock
error_of_dtls Fault = Dtls Fault
error_of_dtls DtlsAlloc = Alloc

abbrev pub error_of_sctp : SctpError → RtcError
error_of_sctp (sctp.Proto cause) = Sctp (sctp.Proto cause)
error_of_sctp sctp.WriteBeforeEstablished = Sctp sctp.WriteBeforeEstablished
error_of_sctp sctp.DcepOpenTooSmall = Sctp sctp.DcepOpenTooSmall
error_of_sctp sctp.DcepIncorrectMessageType = Sctp sctp.DcepIncorrectMessageType
error_of_sctp sctp.DcepBadUtf8 = Sctp sctp.DcepBadUtf8
error_of_sctp sctp.InvalidSnap = Sctp sctp.InvalidSnap
error_of_sctp sctp.Alloc = Alloc

abbrev pub error_of_media : MediaError → RtcError
error_of_media media.Alloc = Alloc
error_of_media media.Rtp = Media media.Rtp
error_of_media (media.Packet mid pt) = Media (media.Packet mid pt)
error_of_media (media.UnknownPt pt) = Media (media.UnknownPt pt)
error_of_media (media.UnknownRid rid) = Media (media.UnknownRid rid)
error_of_media media.NoSenderSource = Media media.NoSenderSource
error_of_media media.ResendRequiresRtxPt = Media media.ResendRequiresRtxPt
error_of_media (media.NotSendingDirection dir) = Media (media.NotSendingDirection dir)
error_of_media media.NotReceivingDirection = Media media.NotReceivingDirection
error_of_media (media.NoReceiverSource rid) = Media (media.NoReceiverSource rid)
error_of_media media.FeedbackNotEnabled = Media media.FeedbackNotEnabled
error_of_media media.WriteWithoutPoll = Media media.WriteWithoutPoll
