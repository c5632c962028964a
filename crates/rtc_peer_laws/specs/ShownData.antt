-- What a peer over plain parts shows in datagrams.
use Rattle.std.specs.Prelude.{ℕ, ◌++◌, List}
use Rattle.rtc_parts.specs.Among.{Among}
use Rattle.rtc_parts.specs.IceActs.{IceMoved}
use Rattle.rtc_parts.specs.MediaActs.{MediaMoved}
use Rattle.rtc_plain_ice.specs.Contents.{IceContents, fresh_ice}
use Rattle.rtc_plain_ice.specs.PlainMeaning.{plain_ice}
use Rattle.rtc_plain_media.specs.MediaContents.{MediaContents, fresh_media}
use Rattle.rtc_plain_media.specs.PlainMediaMeaning.{plain_media_meaning}
use Rattle.rtc_peer_transport.specs.declared.polled_peer.PolledPeer.{PolledPeer}
use Rattle.rtc_peer_laws.specs.PeerActs.{PeerActs, contents_taken}

-- Since its parts were fresh a peer has shown these contents of datagrams: they, and the packets that wait to be shown, are among what was
-- taken from its parts.
pub record ShownSince (past : PeerActs) (shown : List (List ℕ)) (ice : IceContents) (media : MediaContents) (packets : List (List ℕ))
    : Type 0 where
  pub ice_went : IceMoved plain_ice fresh_ice past.ice ice
  pub media_went : MediaMoved plain_media_meaning fresh_media past.media media
  pub sent : Among (shown ++ packets) (contents_taken past)

abbrev pub HasShown : {D S N : Type 0} → PeerActs → List (List ℕ) → PolledPeer IceContents D S MediaContents N → Type 0
HasShown past shown p = ShownSince past shown p.core.ice p.core.media p.core.dtls.packets
