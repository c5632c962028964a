-- Polls of a peer that returned a timeout, without a call between.
use Rattle.std.specs.Prelude.{◌≡◌, ◌⊎◌, ◌&&◌, ◌||◌, ℕ, Bool, true, false, List, [], ◌∷◌, Some, Result, Ok, Err}
use Rattle.rtc_parts.specs.AssociationMeaning.{AssociationMeaning}
use Rattle.rtc_sctp_entries.specs.declared.stream_entry.StreamEntry.{StreamEntry}
use Rattle.rtc_sctp_entries.specs.declared.stream_entry_state.StreamEntryState.TheVariants.{AwaitOpen}
use Rattle.rtc_sctp_entries.specs.Entries.{fits_generation, is_open_awaited, is_retrying}
use Rattle.rtc_sctp_entries.specs.Visits.{is_opening_over}
use Rattle.rtc_sctp.specs.Streams.{SctpStreams, is_established}
use Rattle.rtc_peer_core.specs.declared.rtc_error.RtcError.{RtcError}
use Rattle.rtc_peer_core.specs.declared.rtc_error.RtcError.TheVariants.{Alloc}
use Rattle.rtc_peer_transport.specs.declared.output.Output.{Output}
use Rattle.rtc_peer_transport.specs.declared.output.Output.TheVariants.{Timeout}
use Rattle.rtc_peer_transport.specs.declared.polled_peer.PolledPeer.{PolledPeer}

-- the same timeout is returned, and nothing changes; or memory runs out
abbrev pub AnswersAgain : {I D S M E N : Type 0} → (moment : ℕ) → PolledPeer I D S M N → Result (Output E) RtcError
    → PolledPeer I D S M N → Type 0
AnswersAgain moment p answer q = ((answer ≡ Ok (Timeout moment)) × (q ≡ p)) ⊎ (answer ≡ Err Alloc)

-- whether an opening of a stream is refused for now: the stream is there, or its reset is outstanding
abbrev pub is_opening_refused : {S : Type 0} → AssociationMeaning S → S → (stream : ℕ) → Bool
is_opening_refused m a stream = m.has_stream a stream || m.resetting a stream

-- A stream in use waits to be opened, which is refused for now and tried again; or it was opened, is there, in the generation that its
-- entry keeps, if it keeps one, is not to be closed, and has no whole message of its generation unread.
abbrev pub IsHeard : {S : Type 0} → AssociationMeaning S → S → StreamEntry → Type 0
IsHeard m a entry =
    ((entry.state ≡ AwaitOpen) × (is_retrying entry ≡ true) × (is_opening_refused m a entry.id ≡ true))
    ⊎ ((entry.marked ≡ false)
    × (m.has_stream a entry.id ≡ true)
    × (m.has_unread a entry.id (m.generation a entry.id) ≡ false)
    × (fits_generation entry.generation (m.generation a entry.id) ≡ true)
    × (is_open_awaited entry.state ≡ false))

abbrev pub AreHeard : {S : Type 0} → AssociationMeaning S → S → List StreamEntry → Type 0
AreHeard m a [] = Unit {0}
AreHeard m a (entry ∷ entries) = IsHeard m a entry × AreHeard m a entries

-- A stream waits to be opened, which was refused first at a moment, and is not given up by this one: that was less than ten seconds ago.
abbrev pub IsTriedAgain : (last : ℕ) → StreamEntry → Type 0
IsTriedAgain last entry =
    (entry.state ≡ AwaitOpen) × ((first : ℕ) × ((entry.refused ≡ Some first) × (is_opening_over first last ≡ false)))

-- each that waits to be opened does so
abbrev pub AreTriedAgain : (last : ℕ) → List StreamEntry → Type 0
AreTriedAgain last [] = Unit {0}
AreTriedAgain last (entry ∷ entries) = (entry.state ≡ AwaitOpen → IsTriedAgain last entry) × AreTriedAgain last entries

-- The association, once it was started, holds nothing that a poll still gives; and once it is established, each stream in use was heard.
pub record AllHeard {S : Type 0} (m : AssociationMeaning S) (p : SctpStreams S) : Type 0 where
  pub quiet : m.started p.association ≡ true → m.held p.association ≡ 0
  pub streams : (is_established p.state && m.started p.association) ≡ true → AreHeard m p.association p.entries
  pub tried : (is_established p.state && m.started p.association) ≡ true → AreTriedAgain p.last p.entries
