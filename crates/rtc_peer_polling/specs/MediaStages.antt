-- What a poll takes from the media part.
use Rattle.std.specs.Prelude.{◌≡◌, ◌≢◌, Some, None, Ok, Err}
use Rattle.rtc_parts.specs.declared.media_error.MediaError.TheVariants.{Alloc as MediaAlloc}
use Rattle.rtc_peer_core.specs.Meanings.{Meanings}
use Rattle.rtc_peer_transport.specs.declared.event.Event.TheVariants.{Media as MediaTold}
use Rattle.rtc_peer_transport.specs.declared.met.Met.TheVariants.{Nothing, Event, Error}
use Rattle.rtc_peer_core.specs.declared.rtc_error.RtcError.TheVariants.{Media as MediaFailed, Alloc}
use Rattle.rtc_peer_transport.specs.declared.polled_peer.PolledPeer.{PolledPeer}
use Rattle.rtc_peer_transport.specs.Connection.{with_media, closed_peer}
use Rattle.rtc_peer_transport.specs.Stages.{Stage}

module _ {I D S M E X T W N : Type 0} (m : Meanings I D S M E X T W N) where
  -- the next event that cannot fail
  unfoldable pub TellsMedia : Stage (PolledPeer I D S M N) E
  TellsMedia p Nothing q = m.media.told p.core.media None q.core.media × (q ≡ with_media q.core.media p)
  TellsMedia p (Event (MediaTold event)) q = m.media.told p.core.media (Some event) q.core.media × (q ≡ with_media q.core.media p)
  TellsMedia p r q = ⊥

  -- the next event whose making may fail. A failure leaves the peer as it was, and running out of memory closes it
  unfoldable pub TellsFallibleMedia : Stage (PolledPeer I D S M N) E
  TellsFallibleMedia p Nothing q =
      m.media.told_fallible p.core.media p.core.greatest (Ok None) q.core.media × (q ≡ with_media q.core.media p)
  TellsFallibleMedia p (Event (MediaTold event)) q =
      m.media.told_fallible p.core.media p.core.greatest (Ok (Some event)) q.core.media × (q ≡ with_media q.core.media p)
  TellsFallibleMedia p (Error (MediaFailed cause)) q =
      (cause ≢ MediaAlloc)
      × m.media.told_fallible p.core.media p.core.greatest (Err cause) q.core.media
      × (q ≡ with_media q.core.media p)
  TellsFallibleMedia p (Error Alloc) q =
      m.media.told_fallible p.core.media p.core.greatest (Err MediaAlloc) q.core.media
      × (q ≡ closed_peer (with_media q.core.media p))
  TellsFallibleMedia p r q = ⊥
