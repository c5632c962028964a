-- Two peers over plain parts that exchange datagrams.
use Rattle.std.specs.Prelude.{ℕ, List}
use Rattle.rtc_plain_ice.specs.Contents.{IceContents}
use Rattle.rtc_plain_dtls.specs.Contents.{DtlsContents}
use Rattle.rtc_assoc_state.specs.Contents.{Contents}
use Rattle.rtc_plain_media.specs.MediaContents.{MediaContents}
use Rattle.rtc_peer_transport.specs.declared.polled_peer.PolledPeer.{PolledPeer}
use Rattle.rtc_peer_laws.specs.PeerActs.{PeerActs}
use Rattle.rtc_peer_laws.specs.JoinedPeers.{PartsPast, PeersJoined, packet_parts}
use Rattle.rtc_peer_laws.specs.ShownData.{HasShown}

-- of what was done to all parts, what was done to those that packets of the association go through
abbrev pub parts_past : PeerActs → PartsPast
parts_past acts = record { dtls = acts.dtls; association = acts.association }

-- Since their parts were fresh, these acts were done to them, and these contents of datagrams were shown; the two are joined.
pub record PeersExchange {N : Type 0} (a : PeerActs) (shown_left : List (List ℕ))
    (p : PolledPeer IceContents DtlsContents Contents MediaContents N) (b : PeerActs) (shown_right : List (List ℕ))
    (q : PolledPeer IceContents DtlsContents Contents MediaContents N) : Type 0 where
  pub joined : PeersJoined (parts_past a) (packet_parts p) (parts_past b) (packet_parts q)
  pub left : HasShown a shown_left p
  pub right : HasShown b shown_right q
