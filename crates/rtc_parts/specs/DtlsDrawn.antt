-- What a poll of a DTLS part gave, with its bytes.
use Rattle.std.specs.Prelude.{ℕ, ◌+◌, Bool, true, false, List, [], take, length}
use Rattle.rtc_parts.specs.declared.srtp_profile.SrtpProfile.{SrtpProfile}
use Rattle.rtc_parts.specs.declared.dtls_polled.DtlsPolled.{DtlsPolled}
use Rattle.rtc_parts.specs.declared.dtls_polled.DtlsPolled.TheVariants.{
  Packet,
  Connected,
  KeyingMaterial,
  PeerCert,
  ApplicationData,
  Timeout,
  CloseNotify,
}

pub data DtlsDrawn : Type 0 where
  DrewPacket : (packet : List ℕ) → DtlsDrawn
  DrewConnected : DtlsDrawn
  DrewKeying : (key : List ℕ) (profile : SrtpProfile) → DtlsDrawn
  DrewCert : (cert : List ℕ) → DtlsDrawn
  DrewData : (bytes : List ℕ) → DtlsDrawn
  DrewTimeout : (moment : ℕ) → DtlsDrawn
  DrewClose : DtlsDrawn

-- a result with the front of the buffer
abbrev pub dtls_drawn : DtlsPolled → List ℕ → DtlsDrawn
dtls_drawn (Packet n) buf = DrewPacket (take n buf)
dtls_drawn Connected buf = DrewConnected
dtls_drawn (KeyingMaterial n profile) buf = DrewKeying (take n buf) profile
dtls_drawn (PeerCert n) buf = DrewCert (take n buf)
dtls_drawn (ApplicationData n) buf = DrewData (take n buf)
dtls_drawn (Timeout moment) buf = DrewTimeout moment
dtls_drawn CloseNotify buf = DrewClose

-- how many bytes a result wrote
abbrev pub polled_length : DtlsPolled → ℕ
polled_length (Packet n) = n
polled_length Connected = 0
polled_length (KeyingMaterial n profile) = n
polled_length (PeerCert n) = n
polled_length (ApplicationData n) = n
polled_length (Timeout moment) = 0
polled_length CloseNotify = 0

-- the bytes of what was drawn
abbrev pub drawn_bytes : DtlsDrawn → List ℕ
drawn_bytes (DrewPacket packet) = packet
drawn_bytes DrewConnected = []
drawn_bytes (DrewKeying key profile) = key
drawn_bytes (DrewCert cert) = cert
drawn_bytes (DrewData bytes) = bytes
drawn_bytes (DrewTimeout moment) = []
drawn_bytes DrewClose = []

-- the units of input that were drawn: a packet and a timeout are none, application data counts its length besides
abbrev pub drawn_units : DtlsDrawn → ℕ
drawn_units (DrewPacket packet) = 0
drawn_units DrewConnected = 1
drawn_units (DrewKeying key profile) = 1
drawn_units (DrewCert cert) = 1
drawn_units (DrewData bytes) = 1 + length bytes
drawn_units (DrewTimeout moment) = 0
drawn_units DrewClose = 1

-- the packets that were drawn
abbrev pub drawn_packets : DtlsDrawn → ℕ
drawn_packets (DrewPacket packet) = 1
drawn_packets _ = 0

-- whether something was drawn: a timeout counts as nothing
abbrev pub draws_output : DtlsDrawn → Bool
draws_output (DrewTimeout moment) = false
draws_output _ = true

-- whether it is neither a packet, nor application data, nor nothing
abbrev pub tells : DtlsDrawn → Bool
tells DrewConnected = true
tells (DrewKeying key profile) = true
tells (DrewCert cert) = true
tells DrewClose = true
tells _ = false
