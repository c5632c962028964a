-- Which datagrams a poll sends.
use Rattle.std.specs.Prelude.{ℕ, ◌≡◌, ◌+◌, ◌-◌, ◌^◌, min, length, List, Option, Some, None}
use Rattle.rtc_wire.specs.declared.transmit.Transmit.{Transmit}
use Rattle.rtc_parts.specs.DtlsState.{GivesPacket}
use Rattle.rtc_peer_core.specs.Meanings.{Meanings}
use Rattle.rtc_peer_transport.specs.declared.met.Met.TheVariants.{Nothing, Transmit as Sent}
use Rattle.rtc_peer_transport.specs.declared.polled_peer.PolledPeer.{PolledPeer}
use Rattle.rtc_peer_transport.specs.declared.send_addr.SendAddr.{SendAddr}
use Rattle.rtc_peer_transport.specs.Connection.{with_ice, with_dtls, with_media}
use Rattle.rtc_peer_transport.specs.Stages.{Stage, FollowedBy}

-- a count of bytes with those of a datagram, at most 2^64 - 1
abbrev pub bytes_counted : ℕ → List ℕ → ℕ
bytes_counted count bytes = min (count + length bytes) (2 ^ 64 - 1)

-- the peer once a datagram was sent
abbrev pub with_sent : {I D S M N : Type 0} → List ℕ → PolledPeer I D S M N → PolledPeer I D S M N
with_sent bytes p = record p { transport = record p.transport { sent = bytes_counted p.transport.sent bytes } }

-- bytes as they go by a pair of addresses
abbrev pub sent_by : SendAddr → List ℕ → Transmit
sent_by addr bytes = record { proto = addr.proto; source = addr.source; destination = addr.destination; contents = bytes }

module _ {I D S M E X T W N : Type 0} (m : Meanings I D S M E X T W N) where
  -- the next datagram of the ICE agent
  unfoldable pub SendsChecks : Stage (PolledPeer I D S M N) E
  SendsChecks p Nothing q = m.ice.gave p.core.ice None q.core.ice × (q ≡ with_ice q.core.ice p)
  SendsChecks p (Sent transmit) q =
      m.ice.gave p.core.ice (Some transmit) q.core.ice × (q ≡ with_sent transmit.contents (with_ice q.core.ice p))
  SendsChecks p r q = ⊥

  -- the oldest packet of the DTLS connection
  unfoldable pub SendsDtlsPacket : SendAddr → Stage (PolledPeer I D S M N) E
  SendsDtlsPacket addr p Nothing q = GivesPacket m.dtls p.core.dtls p.core.dtls.packets None q.core.dtls × (q ≡ with_dtls q.core.dtls p)
  SendsDtlsPacket addr p (Sent transmit) q =
      (transmit ≡ sent_by addr transmit.contents)
      × GivesPacket m.dtls p.core.dtls p.core.dtls.packets (Some transmit.contents) q.core.dtls
      × (q ≡ with_sent transmit.contents (with_dtls q.core.dtls p))
  SendsDtlsPacket addr p r q = ⊥

  -- the next datagram of the media part
  unfoldable pub SendsMediaDatagram : SendAddr → Stage (PolledPeer I D S M N) E
  SendsMediaDatagram addr p Nothing q = m.media.gave p.core.media p.core.greatest None q.core.media × (q ≡ with_media q.core.media p)
  SendsMediaDatagram addr p (Sent transmit) q =
      (transmit ≡ sent_by addr transmit.contents)
      × m.media.gave p.core.media p.core.greatest (Some transmit.contents) q.core.media
      × (q ≡ with_sent transmit.contents (with_media q.core.media p))
  SendsMediaDatagram addr p r q = ⊥

  -- Once a pair is nominated, packets and then media go by it. Before, feedback that waits is dropped.
  abbrev pub SendsBy : Option SendAddr → Stage (PolledPeer I D S M N) E
  SendsBy (Some addr) p r q = FollowedBy (SendsDtlsPacket addr) (SendsMediaDatagram addr) p r q
  SendsBy None p r q = (r ≡ Nothing) × m.media.cleared p.core.media q.core.media × (q ≡ with_media q.core.media p)

  abbrev pub SendsByPair : Stage (PolledPeer I D S M N) E
  SendsByPair p r q = SendsBy p.transport.send_addr p r q
