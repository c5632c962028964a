-- What refusals of an association and of its streams print.
use Rattle.std.specs.Prelude.{ℕ, List, ◌++◌, codes}
use Rattle.std.specs.Fmt.{decimal}
use Rattle.rtc_sctp_values.specs.declared.proto_error.ProtoError.{ProtoError}
use Rattle.rtc_sctp_values.specs.declared.proto_error.ProtoError.TheVariants.{Started, SnapHalf, TooLong, NoStream, Fault}
use Rattle.rtc_sctp_values.specs.declared.sctp_error.SctpError.{SctpError}
use Rattle.rtc_sctp_values.specs.declared.sctp_error.SctpError.TheVariants as sctp

-- why an association refuses
unfoldable pub proto_error_text : ProtoError → List ℕ
proto_error_text Started = codes "SCTP already initialized"
proto_error_text SnapHalf = codes "SNAP requires both local and remote SCTP INIT chunks"
proto_error_text (TooLong len max) = codes "message of " ++ (decimal len ++ (codes " bytes is longer than " ++ decimal max))
proto_error_text (NoStream id) = codes "no stream " ++ decimal id
proto_error_text Fault = codes "association error"

-- why a call on streams refuses
unfoldable pub sctp_error_text : SctpError → List ℕ
sctp_error_text (sctp.Proto cause) = proto_error_text cause
sctp_error_text sctp.WriteBeforeEstablished = codes "Write on a stream before it was established"
sctp_error_text sctp.DcepOpenTooSmall = codes "DCEP open message too small"
sctp_error_text sctp.DcepIncorrectMessageType = codes "DCEP incorrect message type"
sctp_error_text sctp.DcepBadUtf8 = codes "DCEP bad UTF-8 string"
sctp_error_text sctp.InvalidSnap = codes "Invalid SNAP token"
sctp_error_text sctp.Alloc = codes "out of memory"
