-- A channel that was announced and is still open at its peer, and of which all was delivered (RFC 8831, section 6.1).
use Rattle.std.specs.Prelude.{ℕ, ◌≡◌, true, false, Some}
use Rattle.rtc_sctp_laws.specs.StreamUses.{is_spent_stream}
use Rattle.rtc_peer_core.specs.Meanings.{Meanings}
use Rattle.rtc_peer_transport.specs.ChannelCalls.{open_stream_under}
use Rattle.rtc_peer_transport.specs.declared.polled_peer.PolledPeer.{PolledPeer}
use Rattle.rtc_run_laws.specs.ChannelUses.{ChannelUse}

-- The channel has its stream, which is open, in the same generation, and not closed by this end. The association is neither closing nor
-- closed, whichever side closes it.
pub record StaysOpen {I D S M E X T W N : Type 0} (m : Meanings I D S M E X T W N) (x : ChannelUse) (p : PolledPeer I D S M N)
    : Type 0 where
  pub stream : ℕ
  pub of : x.stream ≡ Some stream
  pub there : open_stream_under x.channel p ≡ Some stream
  pub generation : m.association.generation p.core.sctp.association stream ≡ x.generation
  pub free : is_spent_stream m.association stream p.core.sctp.association ≡ false

-- One side announced a channel, and the other one did, in-band over one generation of one stream, and both stay open.
pub record AreJoinedUses {I D S M E X T W N : Type 0} (m : Meanings I D S M E X T W N) (x : ChannelUse) (p : PolledPeer I D S M N)
    (y : ChannelUse) (q : PolledPeer I D S M N) : Type 0 where
  pub reader_in_band : x.in_band ≡ true
  pub writer_in_band : y.in_band ≡ true
  pub reader : StaysOpen m x p
  pub writer : StaysOpen m y q
  pub stream_is : x.stream ≡ y.stream
  pub generation_is : x.generation ≡ y.generation
