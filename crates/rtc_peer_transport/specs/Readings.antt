-- What a peer reports of its connection.
use Rattle.std.specs.Prelude.{◌&&◌, ◌||◌, ◌==◌, Bool, true, false, Option, Some, None}
use Rattle.std.specs.Str.{bytes_eq}
use Rattle.rtc_wire.specs.declared.addr.Addr.{Addr}
use Rattle.rtc_wire.specs.declared.datagram_recv.DatagramRecv.{DatagramRecv}
use Rattle.rtc_wire.specs.declared.datagram_recv.DatagramRecv.TheVariants as datagrams
use Rattle.rtc_parts.specs.IceConnectionState.{state_is_connected}
use Rattle.rtc_peer_core.specs.Meanings.{Meanings}
use Rattle.rtc_peer_transport.specs.declared.handshake.Handshake.{Handshake}
use Rattle.rtc_peer_transport.specs.declared.handshake.Handshake.TheVariants.{Pending, Finished, Told}
use Rattle.rtc_peer_transport.specs.declared.input.Input.{Input}
use Rattle.rtc_peer_transport.specs.declared.input.Input.TheVariants.{Timeout, Receive as Datagram}
use Rattle.rtc_peer_transport.specs.declared.polled_peer.PolledPeer.{PolledPeer}
use Rattle.rtc_peer_transport.specs.declared.send_addr.SendAddr.{SendAddr}

abbrev pub is_handshake_finished : Handshake → Bool
is_handshake_finished Pending = false
is_handshake_finished Finished = true
is_handshake_finished Told = true

-- an address is that to which datagrams go
abbrev pub is_nominated : Option SendAddr → Addr → Bool
is_nominated None addr = false
is_nominated (Some sends) addr = (sends.destination.port == addr.port) && bytes_eq sends.destination.ip addr.ip

module _ {I D S M E X T W N : Type 0} (m : Meanings I D S M E X T W N) where
  -- datagrams, application data and media can go both ways
  abbrev pub is_peer_connected : PolledPeer I D S M N → Bool
  is_peer_connected p =
      state_is_connected (m.ice.state p.core.ice) && is_handshake_finished p.transport.handshake && m.media.connected p.core.media

  -- a datagram from an address that is not nominated: of a STUN message the agent decides by its names, of others by the address
  abbrev pub is_meant_for : PolledPeer I D S M N → Addr → DatagramRecv → Bool
  is_meant_for p source (datagrams.Stun view) = m.ice.accepts p.core.ice view.bytes.now
  is_meant_for p source (datagrams.Dtls bytes) = m.ice.viable p.core.ice source
  is_meant_for p source (datagrams.Rtp bytes) = m.ice.viable p.core.ice source
  is_meant_for p source (datagrams.Rtcp bytes) = m.ice.viable p.core.ice source

  -- an input is for this peer
  abbrev pub is_accepted : PolledPeer I D S M N → Input → Bool
  is_accepted p (Timeout now) = true
  is_accepted p (Datagram now datagram) =
      is_nominated p.transport.send_addr datagram.source || is_meant_for p datagram.source datagram.contents
