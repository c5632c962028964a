-- Streams and writers of the media part that a user makes, drops and has lent. Of a loan a relation says what stood behind the reference as
-- it was lent, what was left there, and the peer after it: whatever is written there, nothing but the media part changes.
use Rattle.std.specs.Prelude.{◌≡◌, ◌||◌, ◌&&◌, ℕ, Bool, not, List, Option}
use Rattle.rtc_sdp_values.specs.declared.ssrc.Ssrc.{Ssrc}
use Rattle.rtc_parts.specs.MediaMeaning.{MediaMeaning}
use Rattle.rtc_peer_transport.specs.declared.polled_peer.PolledPeer.{PolledPeer}
use Rattle.rtc_peer_transport.specs.ChannelCalls.{is_phase_open}
use Rattle.rtc_peer_transport.specs.Connection.{with_media}
use Rattle.rtc_peer_direct.specs.DeclaredRows.{has_media_row}

module _ {I D S M E X T W N : Type 0} (media : MediaMeaning M E X T W) where
  -- a media part did this, and nothing else changed
  abbrev pub ByMedia : (M → Type 0) → PolledPeer I D S M N → PolledPeer I D S M N → Type 0
  ByMedia Did p q = Did q.core.media × (q ≡ with_media q.core.media p)

  -- the stream of an SSRC is dropped; the call returns whether it was there
  abbrev pub RemovesRx : Ssrc → PolledPeer I D S M N → Bool → PolledPeer I D S M N → Type 0
  RemovesRx ssrc p r q = ByMedia (media.rx_removed p.core.media ssrc r) p q

  abbrev pub RemovesTx : Ssrc → PolledPeer I D S M N → Bool → PolledPeer I D S M N → Type 0
  RemovesTx ssrc p r q = ByMedia (media.tx_removed p.core.media ssrc r) p q

  -- whether no stream is made: no row of media has the mid, or the part has none for these arguments
  abbrev pub gives_no_rx : Ssrc → Option Ssrc → List ℕ → Option (List ℕ) → PolledPeer I D S M N → Bool
  gives_no_rx ssrc rtx mid rid p = not (has_media_row mid p.core.lines) || media.declines_rx p.core.media ssrc rtx mid rid

  abbrev pub gives_no_tx : Ssrc → Option Ssrc → List ℕ → Option (List ℕ) → PolledPeer I D S M N → Bool
  gives_no_tx ssrc rtx mid rid p = not (has_media_row mid p.core.lines) || media.declines_tx p.core.media ssrc rtx mid rid

  -- whether a writer is lent: samples are sent and not packets, the peer is neither closing nor closed, a row of media has the mid, and the
  -- part has one
  abbrev pub gives_writer : List ℕ → PolledPeer I D S M N → Bool
  gives_writer mid p =
      not p.transport.rtp_mode
      && (is_phase_open p.core.phase && (has_media_row mid p.core.lines && media.has_writer p.core.media mid))

  -- a stream is made, or replaced, and lent
  abbrev pub ExpectsRx : Ssrc → Option Ssrc → List ℕ → Option (List ℕ) → PolledPeer I D S M N → (lent left : X) → PolledPeer I D S M N
      → Type 0
  ExpectsRx ssrc rtx mid rid p lent left q = ByMedia (media.rx_expected p.core.media ssrc rtx mid rid lent left) p q

  abbrev pub DeclaresTx : Ssrc → Option Ssrc → List ℕ → Option (List ℕ) → PolledPeer I D S M N → (lent left : T) → PolledPeer I D S M N
      → Type 0
  DeclaresTx ssrc rtx mid rid p lent left q = ByMedia (media.tx_declared p.core.media ssrc rtx mid rid lent left) p q

  -- a stream that is there is lent, by its SSRC, or by its line and layer
  abbrev pub LendsRx : Ssrc → PolledPeer I D S M N → (lent left : X) → PolledPeer I D S M N → Type 0
  LendsRx ssrc p lent left q = ByMedia (media.rx_lent p.core.media ssrc lent left) p q

  abbrev pub LendsTx : Ssrc → PolledPeer I D S M N → (lent left : T) → PolledPeer I D S M N → Type 0
  LendsTx ssrc p lent left q = ByMedia (media.tx_lent p.core.media ssrc lent left) p q

  abbrev pub LendsNamedRx : List ℕ → Option (List ℕ) → PolledPeer I D S M N → (lent left : X) → PolledPeer I D S M N → Type 0
  LendsNamedRx mid rid p lent left q = ByMedia (media.rx_named_lent p.core.media mid rid lent left) p q

  abbrev pub LendsNamedTx : List ℕ → Option (List ℕ) → PolledPeer I D S M N → (lent left : T) → PolledPeer I D S M N → Type 0
  LendsNamedTx mid rid p lent left q = ByMedia (media.tx_named_lent p.core.media mid rid lent left) p q

  -- a sent stream is given another SSRC, and lent
  abbrev pub ResetsTx : List ℕ → Option (List ℕ) → Ssrc → Option Ssrc → PolledPeer I D S M N → (lent left : T) → PolledPeer I D S M N
      → Type 0
  ResetsTx mid rid ssrc rtx p lent left q = ByMedia (media.tx_reset p.core.media mid rid ssrc rtx lent left) p q

  -- what sends on a line is lent
  abbrev pub LendsWriter : List ℕ → PolledPeer I D S M N → (lent left : W) → PolledPeer I D S M N → Type 0
  LendsWriter mid p lent left q = ByMedia (media.writer_lent p.core.media mid lent left) p q
