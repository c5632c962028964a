-- Peers over the parts in memory.
use Rattle.std.specs.Prelude.{ℕ}
use Rattle.rtc_plain_ice.specs.Contents.{IceContents}
use Rattle.rtc_plain_dtls.specs.Contents.{DtlsContents}
use Rattle.rtc_plain_media.specs.MediaContents.{MediaContents}
use Rattle.rtc_assoc_state.specs.Contents.{Contents}
use Rattle.rtc_peer_core.specs.declared.peer.Peer.{Peer}
use Rattle.rtc_peer_transport.specs.declared.polled_peer.PolledPeer.{PolledPeer}
use Rattle.rtc_peer.specs.CachedPeer.{CachedPeer}

-- a peer over the parts in memory, as negotiation sees it
abbrev pub HeldPeer : Type 0
HeldPeer = Peer IceContents DtlsContents Contents MediaContents ℕ

-- the same with its connection
abbrev pub HeldRtc : Type 0
HeldRtc = PolledPeer IceContents DtlsContents Contents MediaContents ℕ

-- the same with its signals and the timeout that it keeps
abbrev pub HeldCachedRtc : Type 0
HeldCachedRtc = CachedPeer IceContents DtlsContents Contents MediaContents ℕ
