-- Examples of the standards, computed from the definitions.
use Rattle.std.specs.Prelude.{ℕ, ◌≡◌, List, [], ◌∷◌, Ok, Err, Some, None, refl}
use Rattle.std.specs.Str.{is_utf8, chars}
use lib.Utf8.{encode}
use Rattle.rtc_wire.specs.declared.multiplex_kind.MultiplexKind.TheVariants.{Stun, Dtls, Rtp, Rtcp}
use Rattle.rtc_wire.specs.declared.net_error.NetError.TheVariants.{Io}
use Rattle.rtc_wire.specs.declared.io_kind.IoKind.TheVariants.{InvalidData}
use Rattle.rtc_wire.specs.declared.io_text.IoText.TheVariants.{EmptyDatagram, UnknownDatagram}
use Rattle.rtc_wire.specs.declared.dcep_error.DcepError.TheVariants.{DcepOpenTooSmall, DcepIncorrectMessageType, DcepBadUtf8}
use Rattle.rtc_wire.specs.declared.dcep_open.DcepOpen.{DcepOpen}
use Rattle.rtc_wire.specs.declared.constants.TheConstants.{DATAGRAM_MAX_PACKET_SIZE, DATAGRAM_MTU_TARGET, DATAGRAM_MTU_TARGET_MAX, DATAGRAM_MTU_TARGET_MIN, DATAGRAM_MTU_WARN, DEFAULT_MAX_BUFFERED_AMOUNT, DEFAULT_REMOTE_MAX_MESSAGE_SIZE, LOCAL_MAX_MESSAGE_SIZE, MAX_DTLS_OVERHEAD, MAX_RTP_OVERHEAD, SCTP_OVERHEAD}
use Rattle.rtc_wire.specs.MultiplexKind.{datagram_kind}
use Rattle.rtc_wire.specs.ChannelConfig.{fresh, open_of}
use Rattle.rtc_wire.specs.DcepOpen.{header_bytes, open_bytes, message_in, refusal_of}

-- the header of the sample request in RFC 5769, section 2.1
abbrev pub binding_request : List ℕ
binding_request =
    0x00 ∷ 0x01 ∷ 0x00 ∷ 0x58 ∷ 0x21 ∷ 0x12 ∷ 0xa4 ∷ 0x42 ∷ 0xb7 ∷ 0xe7
    ∷ 0xa7 ∷ 0x01 ∷ 0xbc ∷ 0x34 ∷ 0xd6 ∷ 0x86 ∷ 0xfa ∷ 0x87 ∷ 0xdf ∷ 0xae ∷ []

pub request_is_stun : datagram_kind binding_request ≡ Ok Stun
request_is_stun = refl

-- nothing
pub nothing_is_empty : datagram_kind [] ≡ Err (Io InvalidData EmptyDatagram)
nothing_is_empty = refl

-- a handshake record of DTLS has the content type 22 (RFC 6347, section 4.1)
pub handshake_is_dtls : datagram_kind (22 ∷ []) ≡ Ok Dtls
handshake_is_dtls = refl

-- version 2 and payload type 96 (RFC 3550, section 5.1)
pub dynamic_payload_is_rtp : datagram_kind (0x80 ∷ 96 ∷ 0 ∷ []) ≡ Ok Rtp
dynamic_payload_is_rtp = refl

-- a sender report has the packet type 200 (RFC 3550, section 6.4.1)
pub sender_report_is_rtcp : datagram_kind (0x80 ∷ 200 ∷ 0 ∷ []) ≡ Ok Rtcp
sender_report_is_rtcp = refl

-- two bytes are too few for either
pub two_bytes_are_unknown : datagram_kind (0x80 ∷ 96 ∷ []) ≡ Err (Io InvalidData UnknownDatagram)
two_bytes_are_unknown = refl

-- the open message of a fresh config with the label `a` (RFC 8832, section 5.1)
abbrev pub labelled_a : DcepOpen
labelled_a = open_of record fresh { label = 0x61 ∷ [] }

abbrev pub open_a : ℕ → ℕ → List ℕ
open_a first last = first ∷ 0 ∷ 0 ∷ 0 ∷ 0 ∷ 0 ∷ 0 ∷ 0 ∷ 0 ∷ 1 ∷ 0 ∷ 0 ∷ last ∷ []

pub written_a : open_bytes labelled_a ≡ open_a 0x03 0x61
unfolding header_bytes
written_a = refl

pub read_a : message_in (open_a 0x03 0x61) ≡ labelled_a
read_a = refl

pub accepted_a : refusal_of (open_a 0x03 0x61) ≡ None
unfolding is_utf8 chars encode
accepted_a = refl

-- another message, and a label that is not UTF-8
pub acknowledgement_is_another : refusal_of (open_a 0x02 0x61) ≡ Some DcepIncorrectMessageType
acknowledgement_is_another = refl

pub label_is_not_text : refusal_of (open_a 0x03 0xff) ≡ Some DcepBadUtf8
unfolding is_utf8 chars encode
label_is_not_text = refl

-- 12 bytes of the 13
pub cut_is_too_small : refusal_of (0x03 ∷ 0 ∷ 0 ∷ 0 ∷ 0 ∷ 0 ∷ 0 ∷ 0 ∷ 0 ∷ 1 ∷ 0 ∷ 0 ∷ []) ≡ Some DcepOpenTooSmall
cut_is_too_small = refl

-- the sizes of str0m 0.25.0, in bytes
pub sizes_of_datagrams : DATAGRAM_MAX_PACKET_SIZE ∷ DATAGRAM_MTU_TARGET_MIN ∷ DATAGRAM_MTU_TARGET ∷ DATAGRAM_MTU_WARN ∷ DATAGRAM_MTU_TARGET_MAX ∷ [] ≡ 2000 ∷ 576 ∷ 1150 ∷ 1280 ∷ 1400 ∷ []
sizes_of_datagrams = refl

pub sizes_of_overheads : MAX_RTP_OVERHEAD ∷ MAX_DTLS_OVERHEAD ∷ SCTP_OVERHEAD ∷ [] ≡ 80 ∷ 48 ∷ 40 ∷ []
sizes_of_overheads = refl

pub sizes_of_messages : LOCAL_MAX_MESSAGE_SIZE ∷ DEFAULT_REMOTE_MAX_MESSAGE_SIZE ∷ DEFAULT_MAX_BUFFERED_AMOUNT ∷ [] ≡ 262144 ∷ 65536 ∷ 131072 ∷ []
sizes_of_messages = refl
