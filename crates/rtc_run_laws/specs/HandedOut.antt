-- That a channel hands out what the other side sent over it, in order (RFC 8831, section 6.1).
use Rattle.std.specs.Prelude.{◌≡◌, ◌⊎◌, ℕ, Bool, true, false, List, [], Some}
use Rattle.rtc_parts.specs.Among.{Member}
use Rattle.rtc_assoc.specs.Unread.{IsPrefix}
use Rattle.rtc_assoc_state.specs.Contents.{has_unread}
use Rattle.rtc_assoc_state.specs.Outbox.{has_unacknowledged}
use Rattle.rtc_plain_media.specs.declared.plain_media_event.PlainMediaEvent.{PlainMediaEvent}
use Rattle.rtc_parts.specs.Draws.{Draws}
use Rattle.rtc_run_history.specs.declared.reply.Reply.{Reply}
use Rattle.rtc_run_history.specs.declared.side.Side.{Side}
use Rattle.rtc_run_history.specs.declared.step.Step.{Step}
use Rattle.rtc_run_history.specs.PairState.{rtc_at}
use Rattle.rtc_run_history.specs.Runs.{Runs}
use Rattle.rtc_run_history.specs.Sides.{other_side}
use Rattle.rtc_run_laws.specs.PlainPairs.{PlainPair, PlainPolled, plain_over}
use Rattle.rtc_run_laws.specs.AnnouncedOnce.{AreAnnouncedOnce}
use Rattle.rtc_run_laws.specs.ChannelUses.{ChannelUse}
use Rattle.rtc_run_laws.specs.Delivered.{AreAllDelivered, AreAllDeliveredOver, AreAllGot}
use Rattle.rtc_run_laws.specs.InBandSteps.{AreInBandSteps}
use Rattle.rtc_run_laws.specs.OpenUses.{AreJoinedUses}
use Rattle.rtc_run_laws.specs.SideDrains.{IsSideDrained}
use Rattle.rtc_run_laws.specs.SentMessages.{sent_over}
use Rattle.rtc_run_laws.specs.ToldMessages.{MessagesTold, told_over}
use Rattle.rtc_run_laws.specs.Unannounced.{AreGotOfAnnounced, AreToldOfAnnounced, AreToldOfSent, HaveNumbersLeft}
use Rattle.rtc_run_laws.specs.UsesOfRuns.{reached_by, uses_in_run}

-- If two channels were opened in-band over one generation of one stream, what one got is a prefix of what was sent over the other, unless
-- that was rolled back.
abbrev pub IsHandedOut : (reader writer : ChannelUse) → Type 0
IsHandedOut x y =
    x.in_band ≡ true → y.in_band ≡ true → y.rolled_back ≡ false → x.stream ≡ y.stream → x.generation ≡ y.generation → IsPrefix x.got y.sent

-- So it is for each channel that one side announced and each that the other one did.
abbrev pub AreHandedOut : (readers writers : List ChannelUse) → Type 0
AreHandedOut readers writers = (x y : ChannelUse) → Member x readers → Member y writers → IsHandedOut x y

-- If two channels were opened in-band over one generation of one stream, and none was negotiated out-of-band for either, what one got is a
-- prefix of what was sent over the other.
abbrev pub ArePrefixes : (readers writers : List ChannelUse) → Type 0
ArePrefixes readers writers =
    (x y : ChannelUse)
    → Member x readers
    → Member y writers
    → x.in_band ≡ true
    → y.in_band ≡ true
    → x.negotiated ≡ false
    → y.negotiated ≡ false
    → x.stream ≡ y.stream
    → x.generation ≡ y.generation
    → IsPrefix x.got y.sent

-- Whether or not a channel was rolled back: what the one got is a prefix of all that the side of the other ever sent to the generation.
abbrev pub AreHandedOver : (readers writers : List ChannelUse) → (sent : ℕ → ℕ → List (Bool × List ℕ)) → Type 0
AreHandedOver readers writers sent =
    (x y : ChannelUse)
    → Member x readers
    → Member y writers
    → x.in_band ≡ true
    → y.in_band ≡ true
    → (s : ℕ)
    → x.stream ≡ Some s
    → y.stream ≡ Some s
    → x.generation ≡ y.generation
    → IsPrefix x.got (sent s x.generation)

-- What was sent over a channel that was opened in-band, since it was announced, is all that its side ever sent to that generation of its
-- stream, unless the channel was rolled back: nothing was before.
abbrev pub AreSentWhole : List ChannelUse → (sent : ℕ → ℕ → List (Bool × List ℕ)) → Type 0
AreSentWhole uses sent =
    (x : ChannelUse)
    → Member x uses
    → x.in_band ≡ true
    → x.rolled_back ≡ false
    → (s : ℕ)
    → x.stream ≡ Some s
    → sent s x.generation ≡ x.sent

-- Whether or not it was rolled back: what was sent over it is the first that its side ever sent to that generation. More went over another
-- channel, once this one was removed.
abbrev pub AreSentFirst : List ChannelUse → (sent : ℕ → ℕ → List (Bool × List ℕ)) → Type 0
AreSentFirst uses sent =
    (x : ChannelUse)
    → Member x uses
    → x.in_band ≡ true
    → (s : ℕ)
    → x.stream ≡ Some s
    → IsPrefix x.sent (sent s x.generation)

-- If two channels were opened in-band over one generation of one stream, what the one got since it was announced is all that was ever
-- reported to its side of it while it had that stream in that generation: nothing was before.
abbrev pub AreToldWhole : (readers writers : List ChannelUse) → MessagesTold → Type 0
AreToldWhole readers writers told =
    (x y : ChannelUse)
    → Member x readers
    → Member y writers
    → x.in_band ≡ true
    → y.in_band ≡ true
    → (s : ℕ)
    → x.stream ≡ Some s
    → y.stream ≡ Some s
    → x.generation ≡ y.generation
    → told x.channel s x.generation ≡ x.got

-- Whatever was reported of a channel that was announced in-band, before that or since, was reported while it had the stream of its
-- announcement, in the generation of its announcement.
abbrev pub AreToldInOne : List ChannelUse → MessagesTold → Type 0
AreToldInOne uses told =
    (x : ChannelUse)
    → Member x uses
    → x.in_band ≡ true
    → (s g : ℕ)
    → (told x.channel s g ≡ []) ⊎ ((x.stream ≡ Some s) × (x.generation ≡ g))

-- If two such channels stay open at both sides, the reader was drained, and the writer has no unacknowledged item of the stream, all was
-- got that was sent.
abbrev pub AreAllHandedOut : {N : Type 0} → Draws N → (drained : Type 0) → (readers : List ChannelUse) → PlainPolled N
    → (writers : List ChannelUse) → PlainPolled N → Type 0
AreAllHandedOut draws drained readers p writers q =
    (x y : ChannelUse)
    → Member x readers
    → Member y writers
    → drained
    → (h : AreJoinedUses (plain_over draws) x p y q)
    → has_unacknowledged h.writer.stream q.core.sctp.association.outbox.items ≡ false
    → x.got ≡ y.sent

-- The same if the reader, drained or not, has no whole message of the generation unread.
abbrev pub AreWhollyHandedOut : {N : Type 0} → Draws N → (readers : List ChannelUse) → PlainPolled N → (writers : List ChannelUse)
    → PlainPolled N → Type 0
AreWhollyHandedOut draws readers p writers q =
    (x y : ChannelUse)
    → Member x readers
    → Member y writers
    → (h : AreJoinedUses (plain_over draws) x p y q)
    → has_unacknowledged h.writer.stream q.core.sctp.association.outbox.items ≡ false
    → has_unread p.core.sctp.association h.reader.stream x.generation ≡ false
    → x.got ≡ y.sent

-- What in-band channels hand out in a run by these steps with these replies. Each is announced once, and so is a generation (`once`). What
-- one side received is a prefix of what the other side sent to the generation (`over`), and of what it sent over its own channel
-- (`prefixes`), if neither was negotiated out-of-band, the pair kept no session description before, and channel numbers are left; else
-- unless that channel was rolled back (`handed`). It is all of it once delivered (`all_got`, `delivered`, `delivered_over`).
-- While channel numbers are left, a channel received nothing if the other side announced none over its generation (`silent`).
pub record HandsOut {N : Type 0} (draws : Draws N) (stun : List ℕ → Bool) (start : PlainPair N) (steps : List Step)
    (replies : List (Reply PlainMediaEvent)) (pair : PlainPair N) (run : Runs (plain_over draws) stun start steps replies pair)
    : Type 0 where
  pub once : (at : Side) → AreAnnouncedOnce (uses_in_run (plain_over draws) stun start steps replies pair run at)
  pub whole : (at : Side)
      → AreSentWhole (uses_in_run (plain_over draws) stun start steps replies pair run at)
      (sent_over (plain_over draws) stun start at run.past pair (reached_by (plain_over draws) stun start run.past pair run.went))
  pub first : (at : Side)
      → AreSentFirst (uses_in_run (plain_over draws) stun start steps replies pair run at)
      (sent_over (plain_over draws) stun start at run.past pair (reached_by (plain_over draws) stun start run.past pair run.went))
  pub told : (at : Side)
      → AreToldWhole (uses_in_run (plain_over draws) stun start steps replies pair run at)
      (uses_in_run (plain_over draws) stun start steps replies pair run (other_side at))
      (told_over (plain_over draws) stun start at run.past pair (reached_by (plain_over draws) stun start run.past pair run.went))
  pub only : (at : Side)
      → AreToldInOne (uses_in_run (plain_over draws) stun start steps replies pair run at)
      (told_over (plain_over draws) stun start at run.past pair (reached_by (plain_over draws) stun start run.past pair run.went))
  pub handed : (at : Side)
      → AreHandedOut (uses_in_run (plain_over draws) stun start steps replies pair run at)
      (uses_in_run (plain_over draws) stun start steps replies pair run (other_side at))
  pub over : (at : Side)
      → AreHandedOver (uses_in_run (plain_over draws) stun start steps replies pair run at)
      (uses_in_run (plain_over draws) stun start steps replies pair run (other_side at))
      (sent_over (plain_over draws) stun start (other_side at) run.past pair
      (reached_by (plain_over draws) stun start run.past pair run.went))
  pub all : (at : Side)
      → AreWhollyHandedOut draws (uses_in_run (plain_over draws) stun start steps replies pair run at) (rtc_at at pair)
      (uses_in_run (plain_over draws) stun start steps replies pair run (other_side at)) (rtc_at (other_side at) pair)
  pub drained : (at : Side)
      → AreAllHandedOut draws (IsSideDrained at run.past)
      (uses_in_run (plain_over draws) stun start steps replies pair run at) (rtc_at at pair)
      (uses_in_run (plain_over draws) stun start steps replies pair run (other_side at)) (rtc_at (other_side at) pair)
  pub delivered : (at : Side)
      → AreAllDelivered (IsSideDrained at run.past)
      (uses_in_run (plain_over draws) stun start steps replies pair run at) (rtc_at at pair)
      (uses_in_run (plain_over draws) stun start steps replies pair run (other_side at)) (rtc_at (other_side at) pair)
  pub delivered_over : (at : Side)
      → AreAllDeliveredOver (IsSideDrained at run.past)
      (uses_in_run (plain_over draws) stun start steps replies pair run at) (rtc_at at pair)
      (uses_in_run (plain_over draws) stun start steps replies pair run (other_side at)) (rtc_at (other_side at) pair)
      (sent_over (plain_over draws) stun start (other_side at) run.past pair
      (reached_by (plain_over draws) stun start run.past pair run.went))
  pub prefixes : start.sdps ≡ [] → HaveNumbersLeft pair → (at : Side)
      → ArePrefixes (uses_in_run (plain_over draws) stun start steps replies pair run at)
      (uses_in_run (plain_over draws) stun start steps replies pair run (other_side at))
  pub all_got : start.sdps ≡ [] → HaveNumbersLeft pair → (at : Side)
      → AreAllGot (IsSideDrained at run.past)
      (uses_in_run (plain_over draws) stun start steps replies pair run at) (rtc_at at pair)
      (uses_in_run (plain_over draws) stun start steps replies pair run (other_side at)) (rtc_at (other_side at) pair)
  pub unsent : (at : Side)
      → AreToldOfSent
      (sent_over (plain_over draws) stun start (other_side at) run.past pair
      (reached_by (plain_over draws) stun start run.past pair run.went))
      (told_over (plain_over draws) stun start at run.past pair (reached_by (plain_over draws) stun start run.past pair run.went))
  pub unannounced : start.sdps ≡ [] → AreInBandSteps steps
      → HaveNumbersLeft pair → (at : Side)
      → AreToldOfAnnounced (uses_in_run (plain_over draws) stun start steps replies pair run (other_side at))
      (told_over (plain_over draws) stun start at run.past pair (reached_by (plain_over draws) stun start run.past pair run.went))
  pub silent : HaveNumbersLeft pair → (at : Side)
      → AreGotOfAnnounced (uses_in_run (plain_over draws) stun start steps replies pair run (other_side at))
      (uses_in_run (plain_over draws) stun start steps replies pair run at)
