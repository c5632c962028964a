-- The message that opens a data channel (RFC 8832, section 5.1): its bytes, and what is read of bytes.
use Rattle.std.specs.Prelude.{ℕ, ◌≡◌, ◌+◌, ◌==◌, Bool, true, false, not, ◌&&◌, List, ◌∷◌, ◌++◌, length, slice_index, slice_range}
use Rattle.std.specs.Prelude.{nat_lt, bit_and, Option, Some, None, if◌then◌else◌}
use Rattle.std.specs.Int.{w16, w32, to_be_bytes, from_be_bytes}
use Rattle.std.specs.Str.{is_utf8}
use Rattle.rtc_wire.specs.declared.reliability_type.ReliabilityType.{ReliabilityType}
use Rattle.rtc_wire.specs.declared.reliability_type.ReliabilityType.TheVariants.{Reliable, Rexmit, Timed}
use Rattle.rtc_wire.specs.declared.dcep_open.DcepOpen.{DcepOpen}
use Rattle.rtc_wire.specs.declared.dcep_error.DcepError.{DcepError}
use Rattle.rtc_wire.specs.declared.dcep_error.DcepError.TheVariants.{DcepOpenTooSmall, DcepIncorrectMessageType, DcepBadUtf8}

-- the byte of a channel type, ordered and unordered
abbrev pub type_byte : ReliabilityType → Bool → ℕ
type_byte Reliable false = 0x00
type_byte Rexmit false = 0x01
type_byte Timed false = 0x02
type_byte Reliable true = 0x80
type_byte Rexmit true = 0x81
type_byte Timed true = 0x82

-- the highest bit of that byte says unordered
abbrev pub is_unordered : ℕ → Bool
is_unordered byte = not (bit_and byte 0x80 == 0)

-- the rest says the type; what the standard does not name is Reliable (our profile's)
abbrev pub type_in : ℕ → ReliabilityType
type_in byte =
    if bit_and byte 0x7f == 0x01 then Rexmit
    else if bit_and byte 0x7f == 0x02 then Timed
    else Reliable

-- the 12 bytes before the texts
unfoldable pub header_bytes : DcepOpen → List ℕ
header_bytes message =
    0x03 ∷ type_byte message.channel_type message.unordered ∷ to_be_bytes w16 message.priority
    ++ to_be_bytes w32 message.reliability_parameter
    ++ to_be_bytes w16 (length message.label) ++ to_be_bytes w16 (length message.protocol)

-- the bytes of a message
abbrev pub open_bytes : DcepOpen → List ℕ
open_bytes message = header_bytes message ++ message.label ++ message.protocol

-- the fields of a message's bytes
abbrev pub label_len : List ℕ → ℕ
label_len bytes = from_be_bytes w16 (slice_range bytes 8 10)

abbrev pub protocol_len : List ℕ → ℕ
protocol_len bytes = from_be_bytes w16 (slice_range bytes 10 12)

abbrev pub label_in : List ℕ → List ℕ
label_in bytes = slice_range bytes 12 (12 + label_len bytes)

abbrev pub protocol_in : List ℕ → List ℕ
protocol_in bytes = slice_range bytes (12 + label_len bytes) (12 + label_len bytes + protocol_len bytes)

abbrev pub message_in : List ℕ → DcepOpen
message_in bytes = record {
  unordered = is_unordered (slice_index bytes 1);
  channel_type = type_in (slice_index bytes 1);
  priority = from_be_bytes w16 (slice_range bytes 2 4);
  reliability_parameter = from_be_bytes w32 (slice_range bytes 4 8);
  label = label_in bytes;
  protocol = protocol_in bytes;
}

-- why bytes are not read as a message: the first cause that there is
abbrev pub refusal_of : List ℕ → Option DcepError
refusal_of bytes =
    if nat_lt (length bytes) 12 then Some DcepOpenTooSmall
    else if not (slice_index bytes 0 == 0x03) then Some DcepIncorrectMessageType
    else if nat_lt (length bytes) (12 + label_len bytes + protocol_len bytes) then Some DcepOpenTooSmall
    else if not (is_utf8 (label_in bytes) && is_utf8 (protocol_in bytes)) then Some DcepBadUtf8
    else None

-- the bytes are read as this message
pub record ReadsAs (bytes : List ℕ) (message : DcepOpen) : Type 0 where
  pub accepted : refusal_of bytes ≡ None
  pub is : message_in bytes ≡ message
