-- The kinds of datagrams that share a port, by their first bytes (RFC 7983, section 7), and RTCP among RTP (RFC 5761, section 4). Our
-- profile is stricter: it asks for a length, and takes STUN by the first bytes 0 and 1 alone; the RFC has 0 to 3.
use Rattle.std.specs.Prelude.{ℕ, Bool, ◌&&◌, List, [], ◌∷◌, length, slice_index, nat_le, bit_and, Result, Ok, Err, if◌then◌else◌}
use Rattle.std.specs.Int.{is_in_range}
use Rattle.rtc_wire.specs.declared.multiplex_kind.MultiplexKind.{MultiplexKind}
use Rattle.rtc_wire.specs.declared.multiplex_kind.MultiplexKind.TheVariants.{Stun, Dtls, Rtp, Rtcp}
use Rattle.rtc_wire.specs.declared.net_error.NetError.{NetError}
use Rattle.rtc_wire.specs.declared.net_error.NetError.TheVariants.{Io}
use Rattle.rtc_wire.specs.declared.io_kind.IoKind.TheVariants.{InvalidData}
use Rattle.rtc_wire.specs.declared.io_text.IoText.TheVariants.{EmptyDatagram, UnknownDatagram}

-- the second byte, without its highest bit, is 64 to 95: a packet of RTCP and not of RTP
abbrev pub is_control : ℕ → Bool
is_control second = is_in_range 64 95 (bit_and second 0x7f)

-- the kind of a datagram, or why it has none: a STUN header has 20 bytes (RFC 8489, section 5), and RTP and RTCP say more in their
-- second byte
abbrev pub datagram_kind : List ℕ → Result MultiplexKind NetError
datagram_kind [] = Err (Io InvalidData EmptyDatagram)
datagram_kind (first ∷ rest) = let bytes = first ∷ rest in
    if is_in_range 0 1 first && nat_le 20 (length bytes) then Ok Stun
    else if is_in_range 20 63 first then Ok Dtls
    else if is_in_range 128 191 first && nat_le 3 (length bytes) then (if is_control (slice_index bytes 1) then Ok Rtcp else Ok Rtp)
    else Err (Io InvalidData UnknownDatagram)
