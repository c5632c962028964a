-- That a channel handed out all that the other side sent, also if the writer or an association is closing or closed, or if a rollback
-- removed the channel of the writer.
use Rattle.std.specs.Prelude.{ℕ, ◌≡◌, Bool, true, false, List, Some}
use Rattle.rtc_parts.specs.Among.{Member}
use Rattle.rtc_assoc_state.specs.Contents.{closed_here, generation_of}
use Rattle.rtc_assoc_state.specs.Outbox.{has_unacknowledged}
use Rattle.rtc_peer_transport.specs.ChannelCalls.{open_stream_under}
use Rattle.rtc_run_laws.specs.ChannelUses.{ChannelUse}
use Rattle.rtc_run_laws.specs.PlainPairs.{PlainPolled}

-- the stream of a channel that was announced has the same generation still, which this end did not close
pub record KeepsStream {N : Type 0} (x : ChannelUse) (p : PlainPolled N) : Type 0 where
  pub stream : ℕ
  pub of : x.stream ≡ Some stream
  pub generation : generation_of p.core.sctp.association stream ≡ x.generation
  pub unclosed : closed_here p.core.sctp.association stream ≡ false

-- One side announced a channel, and the other one did, in-band over one generation of one stream, which both sides have still and neither
-- closed. The channel of the reader is open.
pub record AreDelivering {N : Type 0} (x : ChannelUse) (p : PlainPolled N) (y : ChannelUse) (q : PlainPolled N) : Type 0 where
  pub reader_in_band : x.in_band ≡ true
  pub writer_in_band : y.in_band ≡ true
  pub reader : KeepsStream x p
  pub there : open_stream_under x.channel p ≡ Some reader.stream
  pub writer : KeepsStream y q
  pub stream_is : x.stream ≡ y.stream
  pub generation_is : x.generation ≡ y.generation

-- that of the writer was not rolled back
pub record AreDeliveringKept {N : Type 0} (x : ChannelUse) (p : PlainPolled N) (y : ChannelUse) (q : PlainPolled N) : Type 0 where
  pub over : AreDelivering x p y q
  pub kept : y.rolled_back ≡ false

-- If, besides, the reader was drained, and the writer has no unacknowledged item of the stream, all was got that was sent over the channel
-- of the writer.
abbrev pub AreAllDelivered : {N : Type 0} → (drained : Type 0) → (readers : List ChannelUse) → PlainPolled N
    → (writers : List ChannelUse) → PlainPolled N → Type 0
AreAllDelivered drained readers p writers q =
    (x y : ChannelUse)
    → Member x readers
    → Member y writers
    → drained
    → (h : AreDeliveringKept x p y q)
    → has_unacknowledged h.over.writer.stream q.core.sctp.association.outbox.items ≡ false
    → x.got ≡ y.sent

-- Whether or not it was rolled back: all was got that the side of the writer ever sent to the generation.
abbrev pub AreAllDeliveredOver : {N : Type 0} → (drained : Type 0) → (readers : List ChannelUse) → PlainPolled N
    → (writers : List ChannelUse) → PlainPolled N → (sent : ℕ → ℕ → List (Bool × List ℕ)) → Type 0
AreAllDeliveredOver drained readers p writers q sent =
    (x y : ChannelUse)
    → Member x readers
    → Member y writers
    → drained
    → (h : AreDelivering x p y q)
    → has_unacknowledged h.writer.stream q.core.sctp.association.outbox.items ≡ false
    → x.got ≡ sent h.reader.stream x.generation

-- The same of what was sent over the channel of the writer, if neither channel was negotiated out-of-band.
abbrev pub AreAllGot : {N : Type 0} → (drained : Type 0) → (readers : List ChannelUse) → PlainPolled N → (writers : List ChannelUse)
    → PlainPolled N → Type 0
AreAllGot drained readers p writers q =
    (x y : ChannelUse)
    → Member x readers
    → Member y writers
    → drained
    → (h : AreDelivering x p y q)
    → x.negotiated ≡ false
    → y.negotiated ≡ false
    → has_unacknowledged h.writer.stream q.core.sctp.association.outbox.items ≡ false
    → x.got ≡ y.sent
