-- What is read of a received datagram.
use Rattle.std.specs.Prelude.{ℕ, Bool, true, false, List, Result, Ok, Err}
use Rattle.rtc_wire.specs.declared.multiplex_kind.MultiplexKind.{MultiplexKind}
use Rattle.rtc_wire.specs.declared.multiplex_kind.MultiplexKind.TheVariants as kinds
use Rattle.rtc_wire.specs.declared.datagram_recv.DatagramRecv.{DatagramRecv}
use Rattle.rtc_wire.specs.declared.datagram_recv.DatagramRecv.TheVariants as datagrams
use Rattle.rtc_wire.specs.declared.net_error.NetError.{NetError}
use Rattle.rtc_wire.specs.declared.net_error.NetError.TheVariants.{Stun}
use Rattle.rtc_wire.specs.declared.stun_error.StunError.TheVariants.{NotStun}
use Rattle.rtc_wire.specs.MultiplexKind.{datagram_kind}

-- the kind that a datagram's variant says
abbrev pub kind_said : DatagramRecv → MultiplexKind
kind_said (datagrams.Stun view) = kinds.Stun
kind_said (datagrams.Dtls bytes) = kinds.Dtls
kind_said (datagrams.Rtp bytes) = kinds.Rtp
kind_said (datagrams.Rtcp bytes) = kinds.Rtcp

-- the bytes that it lends
abbrev pub bytes_lent : DatagramRecv → List ℕ
bytes_lent (datagrams.Stun view) = view.bytes.now
bytes_lent (datagrams.Dtls bytes) = bytes.now
bytes_lent (datagrams.Rtp bytes) = bytes.now
bytes_lent (datagrams.Rtcp bytes) = bytes.now

-- a kind, but that of STUN only if the bytes pass a test
abbrev pub passed : Bool → MultiplexKind → Result MultiplexKind NetError
passed true kind = Ok kind
passed false kinds.Stun = Err (Stun NotStun)
passed false kinds.Dtls = Ok kinds.Dtls
passed false kinds.Rtp = Ok kinds.Rtp
passed false kinds.Rtcp = Ok kinds.Rtcp

abbrev pub passed_with : Bool → Result MultiplexKind NetError → Result MultiplexKind NetError
passed_with stun (Ok kind) = passed stun kind
passed_with stun (Err why) = Err why

-- the kind of a datagram, or why it is not taken, if a reader has this test for STUN
abbrev pub kind_by : (List ℕ → Bool) → List ℕ → Result MultiplexKind NetError
kind_by stun bytes = passed_with (stun bytes) (datagram_kind bytes)
