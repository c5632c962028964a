-- Refusals of messages that open a channel, as refusals of streams.
use Rattle.rtc_wire.specs.declared.dcep_error.DcepError.{DcepError}
use Rattle.rtc_wire.specs.declared.dcep_error.DcepError.TheVariants as dcep
use Rattle.rtc_sctp_values.specs.declared.sctp_error.SctpError.{SctpError}
use Rattle.rtc_sctp_values.specs.declared.sctp_error.SctpError.TheVariants as sctp

abbrev pub sctp_error_of : DcepError → SctpError
sctp_error_of dcep.DcepOpenTooSmall = sctp.DcepOpenTooSmall
sctp_error_of dcep.DcepIncorrectMessageType = sctp.DcepIncorrectMessageType
sctp_error_of dcep.DcepBadUtf8 = sctp.DcepBadUtf8
sctp_error_of dcep.Alloc = sctp.Alloc
