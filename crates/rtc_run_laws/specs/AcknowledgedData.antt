-- That a buffered amount of 0 says that nothing that was sent over a channel is unacknowledged, if its last message is not empty: so a
-- drained reader has all of it.
use Rattle.std.specs.Prelude.{ℕ, ◌≡◌, ◌==◌, ◌&&◌, nat_lt, Bool, true, false, List, [], ◌∷◌, length, Some}
use Rattle.std.specs.List.{list_any}
use Rattle.rtc_parts.specs.declared.ppi.Ppi.{Ppi}
use Rattle.rtc_parts.specs.declared.ppi.Ppi.TheVariants as ppi
use Rattle.rtc_parts.specs.Ppi.{ppi_of}
use Rattle.rtc_parts.specs.Among.{Member}
use Rattle.rtc_parts.specs.Draws.{Draws}
use Rattle.rtc_assoc_state.specs.declared.item.Item.{Item}
use Rattle.rtc_assoc_state.specs.Contents.{generation_of}
use Rattle.rtc_plain_media.specs.declared.plain_media_event.PlainMediaEvent.{PlainMediaEvent}
use Rattle.rtc_peer_transport.specs.ChannelCalls.{bytes_buffered}
use Rattle.rtc_run_history.specs.declared.reply.Reply.{Reply}
use Rattle.rtc_run_history.specs.declared.side.Side.{Side}
use Rattle.rtc_run_history.specs.declared.step.Step.{Step}
use Rattle.rtc_run_history.specs.PairState.{rtc_at}
use Rattle.rtc_run_history.specs.Runs.{Runs}
use Rattle.rtc_run_history.specs.Sides.{other_side}
use Rattle.rtc_run_laws.specs.ChannelUses.{ChannelUse}
use Rattle.rtc_run_laws.specs.Delivered.{AreDelivering, AreDeliveringKept}
use Rattle.rtc_run_laws.specs.PlainPairs.{PlainPair, PlainPolled, plain_over}
use Rattle.rtc_run_laws.specs.SideDrains.{IsSideDrained}
use Rattle.rtc_run_laws.specs.SentMessages.{sent_over}
use Rattle.rtc_run_laws.specs.Unannounced.{HaveNumbersLeft}
use Rattle.rtc_run_laws.specs.UsesOfRuns.{reached_by, uses_in_run}

-- whether a message of an identifier carries data of a user (RFC 8831, section 6.6)
abbrev pub carries_data : Ppi → Bool
carries_data ppi.Dcep = false
carries_data ppi.Text = true
carries_data ppi.Binary = true
carries_data ppi.EmptyText = true
carries_data ppi.EmptyBinary = true
carries_data (ppi.Other number) = false

-- whether an item is a piece of such a message of a generation of a stream
abbrev pub is_data_item : (stream generation : ℕ) → Item → Bool
is_data_item s g item = ((item.stream == s) && (item.generation == g)) && carries_data (ppi_of item.identifier)

-- whether such an item is not acknowledged
abbrev pub has_unacknowledged_data : (stream generation : ℕ) → List Item → Bool
has_unacknowledged_data s g items = list_any (is_data_item s g) items

-- there is a last message, and it has bytes; each message is with whether it is binary
abbrev pub ends_with_bytes : List (Bool × List ℕ) → Bool
ends_with_bytes [] = false
ends_with_bytes (x ∷ []) = nat_lt 0 (length x.1)
ends_with_bytes (x ∷ y ∷ messages) = ends_with_bytes (y ∷ messages)

-- Over a channel that one side announced, whose stream has the generation still in which it was announced: if the last message that the
-- side sent to this generation is not empty, a buffered amount of 0 says that nothing that it sent to it is unacknowledged.
abbrev pub AreAcknowledged : {N : Type 0} → Draws N → List ChannelUse → (sent : ℕ → ℕ → List (Bool × List ℕ)) → PlainPolled N → Type 0
AreAcknowledged draws uses sent p =
    (x : ChannelUse) (s : ℕ)
    → Member x uses
    → x.stream ≡ Some s
    → generation_of p.core.sctp.association s ≡ x.generation
    → ends_with_bytes (sent s x.generation) ≡ true
    → bytes_buffered (plain_over draws) s p ≡ 0
    → has_unacknowledged_data s x.generation p.core.sctp.association.outbox.items ≡ false

-- Let both sides announce a channel over one generation that neither closed. Let the reader's channel be open and drained, and the writer's
-- not be rolled back. If the last message that was sent over it is not empty, a buffered amount of 0 says that the reader got all of them.
abbrev pub AreDeliveredByAmount : {N : Type 0} → Draws N → (drained : Type 0) → (readers : List ChannelUse) → PlainPolled N
    → (writers : List ChannelUse) → PlainPolled N → Type 0
AreDeliveredByAmount draws drained readers p writers q =
    (x y : ChannelUse)
    → Member x readers
    → Member y writers
    → drained
    → (h : AreDeliveringKept x p y q)
    → ends_with_bytes y.sent ≡ true
    → bytes_buffered (plain_over draws) h.over.writer.stream q ≡ 0
    → x.got ≡ y.sent

-- The same of all that the side of the writer ever sent to the generation, whether or not the channel was rolled back.
abbrev pub AreDeliveredOverByAmount : {N : Type 0} → Draws N → (drained : Type 0) → (readers : List ChannelUse) → PlainPolled N
    → (writers : List ChannelUse) → PlainPolled N → (sent : ℕ → ℕ → List (Bool × List ℕ)) → Type 0
AreDeliveredOverByAmount draws drained readers p writers q sent =
    (x y : ChannelUse)
    → Member x readers
    → Member y writers
    → drained
    → (h : AreDelivering x p y q)
    → ends_with_bytes (sent h.reader.stream x.generation) ≡ true
    → bytes_buffered (plain_over draws) h.writer.stream q ≡ 0
    → x.got ≡ sent h.reader.stream x.generation

-- The same of what was sent over the channel of the writer, if neither channel was negotiated out-of-band.
abbrev pub AreAllByAmount : {N : Type 0} → Draws N → (drained : Type 0) → (readers : List ChannelUse) → PlainPolled N
    → (writers : List ChannelUse) → PlainPolled N → Type 0
AreAllByAmount draws drained readers p writers q =
    (x y : ChannelUse)
    → Member x readers
    → Member y writers
    → drained
    → (h : AreDelivering x p y q)
    → x.negotiated ≡ false
    → y.negotiated ≡ false
    → ends_with_bytes y.sent ≡ true
    → bytes_buffered (plain_over draws) h.writer.stream q ≡ 0
    → x.got ≡ y.sent

-- What a buffered amount of 0 says at both sides behind a run by these steps with these replies: that the side's own data is acknowledged,
-- and that the other side got all of it. The last asks that neither channel was negotiated out-of-band, that the pair kept no session
-- description before, and that channel numbers are left.
pub record AcknowledgesData {N : Type 0} (draws : Draws N) (stun : List ℕ → Bool) (start : PlainPair N) (steps : List Step)
    (replies : List (Reply PlainMediaEvent)) (pair : PlainPair N) (run : Runs (plain_over draws) stun start steps replies pair)
    : Type 0 where
  pub acknowledged : (at : Side)
      → AreAcknowledged draws (uses_in_run (plain_over draws) stun start steps replies pair run at)
      (sent_over (plain_over draws) stun start at run.past pair (reached_by (plain_over draws) stun start run.past pair run.went))
      (rtc_at at pair)
  pub delivered : (at : Side)
      → AreDeliveredByAmount draws (IsSideDrained at run.past)
      (uses_in_run (plain_over draws) stun start steps replies pair run at) (rtc_at at pair)
      (uses_in_run (plain_over draws) stun start steps replies pair run (other_side at)) (rtc_at (other_side at) pair)
  pub delivered_over : (at : Side)
      → AreDeliveredOverByAmount draws (IsSideDrained at run.past)
      (uses_in_run (plain_over draws) stun start steps replies pair run at) (rtc_at at pair)
      (uses_in_run (plain_over draws) stun start steps replies pair run (other_side at)) (rtc_at (other_side at) pair)
      (sent_over (plain_over draws) stun start (other_side at) run.past pair
      (reached_by (plain_over draws) stun start run.past pair run.went))
  pub all_got : start.sdps ≡ [] → HaveNumbersLeft pair → (at : Side)
      → AreAllByAmount draws (IsSideDrained at run.past)
      (uses_in_run (plain_over draws) stun start steps replies pair run at) (rtc_at at pair)
      (uses_in_run (plain_over draws) stun start steps replies pair run (other_side at)) (rtc_at (other_side at) pair)
