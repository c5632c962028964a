-- SSRCs that a user draws, and what a user has sent to the media of the other side: the media part does it, and nothing else changes.
use Rattle.std.specs.Prelude.{◌≡◌, ℕ, Bool, List, [], Result}
use Rattle.std.specs.declared.alloc.AllocError.{AllocError}
use Rattle.rtc_sdp_values.specs.declared.ssrc.Ssrc.{Ssrc}
use Rattle.rtc_parts.specs.Draws.{Draws}
use Rattle.rtc_parts.specs.MediaMeaning.{MediaMeaning}
use Rattle.rtc_peer_core.specs.Sources.{has_source, next_source}
use Rattle.rtc_peer_transport.specs.declared.polled_peer.PolledPeer.{PolledPeer}
use Rattle.rtc_peer_transport.specs.Connection.{with_media}

-- the peer with another source of numbers
abbrev pub with_ids : {I D S M N : Type 0} → N → PolledPeer I D S M N → PolledPeer I D S M N
with_ids ids p = record p { core = record p.core { ids = ids } }

module _ {I D S M E X T W N : Type 0} (media : MediaMeaning M E X T W) where
  -- An SSRC is drawn: the first counted on from the number drawn that no stream has.
  abbrev pub DrawsSource : Draws N → PolledPeer I D S M N → Ssrc → PolledPeer I D S M N → Type 0
  DrawsSource draws p ssrc q =
      (ssrc ≡ record { 0 = next_source draws (has_source media p.core.media) [] p.core.ids }) × (q ≡ with_ids (draws.after p.core.ids) p)

  -- redundancy of what a line sends is switched on or off (RFC 2198)
  abbrev pub SetsRed : List ℕ → (on : Bool) → PolledPeer I D S M N → Bool → PolledPeer I D S M N → Type 0
  SetsRed mid on p r q = media.red_set p.core.media mid on r q.core.media × (q ≡ with_media q.core.media p)

  -- feedback on the congestion of the whole transport is switched on
  abbrev pub EnablesTwcc : PolledPeer I D S M N → PolledPeer I D S M N → Type 0
  EnablesTwcc p q = media.twcc_enabled p.core.media q.core.media × (q ≡ with_media q.core.media p)

  -- feedback that the application defines is sent (RFC 4585, section 6.4)
  abbrev pub SendsAppFeedback : (sender source : Ssrc) → (payload : List ℕ) → PolledPeer I D S M N → Result (Unit {0}) AllocError
      → PolledPeer I D S M N → Type 0
  SendsAppFeedback sender source payload p r q =
      media.app_fed p.core.media sender source payload r q.core.media × (q ≡ with_media q.core.media p)

  -- a new picture is asked for (RFC 4585, section 6.3.1)
  abbrev pub SendsPli : (sender source : Ssrc) → PolledPeer I D S M N → Result (Unit {0}) AllocError → PolledPeer I D S M N → Type 0
  SendsPli sender source p r q = media.pli_fed p.core.media sender source r q.core.media × (q ≡ with_media q.core.media p)
