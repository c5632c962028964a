-- How a peer receives a datagram that was sent to it.
use Rattle.std.specs.Prelude.{◌≡◌, ℕ, Result, Ok, Err}
use Rattle.rtc_wire.specs.DatagramRecv.{kind_said, bytes_lent}
use Rattle.rtc_wire.specs.declared.multiplex_kind.MultiplexKind.{MultiplexKind}
use Rattle.rtc_wire.specs.declared.net_error.NetError.{NetError}
use Rattle.rtc_wire.specs.declared.receive.Receive.{Receive as Datagram}
use Rattle.rtc_wire.specs.declared.transmit.Transmit.{Transmit}
use Rattle.rtc_peer_core.specs.Meanings.{Meanings}
use Rattle.rtc_peer_core.specs.declared.rtc_error.RtcError.{RtcError}
use Rattle.rtc_peer_core.specs.declared.rtc_error.RtcError.TheVariants.{Net}
use Rattle.rtc_peer_transport.specs.declared.input.Input.TheVariants as given
use Rattle.rtc_peer_transport.specs.declared.polled_peer.PolledPeer.{PolledPeer}
use Rattle.rtc_peer_polling.specs.Inputs.{HandlesInput}

-- a datagram of a kind, with the bytes and the addresses with which it was sent
pub record IsReceived (sent : Transmit) (kind : MultiplexKind) (datagram : Datagram) : Type 0 where
  pub kind_is : kind_said datagram.contents ≡ kind
  pub bytes : bytes_lent datagram.contents ≡ sent.contents
  pub proto : datagram.proto ≡ sent.proto
  pub source : datagram.source ≡ sent.source
  pub destination : datagram.destination ≡ sent.destination

module _ {I D S M E X T W N : Type 0} (m : Meanings I D S M E X T W N) where
  -- A datagram that is of no kind, or has not the form of its kind, does not reach the peer; any other one is an input of it.
  abbrev pub ReceivesDatagram : Result MultiplexKind NetError → Transmit → ℕ → PolledPeer I D S M N → Result (Unit {0}) RtcError
      → PolledPeer I D S M N → Type 0
  ReceivesDatagram (Err why) sent now p r q = (r ≡ Err (Net why)) × (q ≡ p)
  ReceivesDatagram (Ok kind) sent now p r q =
      (datagram : Datagram) × IsReceived sent kind datagram × HandlesInput m (given.Receive now datagram) p r q
