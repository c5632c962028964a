-- Why the calls of streams are refused.
use Rattle.std.specs.Prelude.{ℕ, ◌≡◌, ◌||◌, not, nat_lt, Bool, true, false, List, length, Option, Some, None, Result, Ok, Err}
use Rattle.rtc_io.specs.Faults.{Rose}
use Rattle.rtc_parts.specs.AssociationMeaning.{AssociationMeaning}
use Rattle.rtc_sctp_values.specs.declared.proto_error.ProtoError.TheVariants as proto
use Rattle.rtc_sctp_values.specs.declared.sctp_error.SctpError.{SctpError}
use Rattle.rtc_sctp_values.specs.declared.sctp_error.SctpError.TheVariants as sctp
use Rattle.rtc_sctp.specs.Streams.{SctpStreams}
use Rattle.rtc_sctp_values.specs.InitHalves.{InitHalves}
use Rattle.rtc_sctp.specs.Calls.{can_write, is_current, are_whole}

-- a refusal, if its cause holds, and else what follows
abbrev pub refusal_if : Bool → SctpError → Option SctpError → Option SctpError
refusal_if true why next = Some why
refusal_if false why next = next

-- a result if a call is to be refused so, and the count of faults of the device went from one number to another: out of memory may be
-- returned at any time, and a fault if the count rose
abbrev pub IsRefusedAs : {T : Type 0} → Option SctpError → (before after : ℕ) → Result T SctpError → Type 0
IsRefusedAs due before after (Ok x) = due ≡ None
IsRefusedAs due before after (Err (sctp.Proto proto.Fault)) = Rose before after
IsRefusedAs due before after (Err sctp.Alloc) = Unit {0}
IsRefusedAs due before after (Err why) = due ≡ Some why

module _ {S : Type 0} (m : AssociationMeaning S) where
  -- how a start is refused: if the association was started; if one of the chunks that are given is missing
  abbrev pub refusal_of_start : Option InitHalves → SctpStreams S → Option SctpError
  refusal_of_start snap p =
      refusal_if (m.started p.association) (sctp.Proto proto.Started)
      (refusal_if (not (are_whole snap)) (sctp.Proto proto.SnapHalf) None)

  -- how a message is refused: if its stream takes none; if the stream has another generation since its channel was opened; if the
  -- association has no such stream, or this end closed it; if it is longer than the other end takes
  abbrev pub refusal_of_message : (id : ℕ) → List ℕ → SctpStreams S → Option SctpError
  refusal_of_message id bytes p =
      refusal_if (not (can_write m id p)) sctp.WriteBeforeEstablished
      (refusal_if (not (is_current m id p)) (sctp.Proto (proto.NoStream id))
      (refusal_if (not (m.has_stream p.association id) || m.closed_here p.association id) (sctp.Proto (proto.NoStream id))
      (refusal_if (nat_lt (m.max_send p.association) (length bytes)) (sctp.Proto (proto.TooLong (length bytes) p.remote_max)) None)))
