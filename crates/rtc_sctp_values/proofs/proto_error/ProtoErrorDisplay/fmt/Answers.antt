use Rattle.rtc_sctp_values.specs.SctpErrorText.{proto_error_text}
use Rattle.rtc_sctp_values.proofs.proto_error.ProtoErrorDisplay.fmt.Goals as goal

pub returns-in-TooLong-clause-writes : goal.returns-in-TooLong-clause-writes
unfolding proto_error_text
returns-in-TooLong-clause-writes g c = rw c.in-TooLong.is c.write.ensures.writes
