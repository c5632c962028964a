-- Pairs with nothing in flight any more, and what holds of the channels of such a pair (RFC 8832, section 6).
use Rattle.std.specs.Prelude.{ℕ, ◌≡◌, ◌+◌, ◌<◌, ◌-◌, ◌^◌, ◌⊎◌, Bool, true, false, List, [], ◌∷◌, Some, None}
use Rattle.rtc_parts.specs.Among.{Member}
use Rattle.rtc_parts.specs.DtlsState.{can_send}
use Rattle.rtc_plain_dtls.specs.PlainMeaning.{plain_dtls}
use Rattle.rtc_assoc_state.specs.Contents.{closed_here, generation_of, has_stream, is_ending}
use Rattle.rtc_assoc_state.specs.PlainMeaning.{plain_meaning}
use Rattle.rtc_plain_media.specs.declared.plain_media_event.PlainMediaEvent.{PlainMediaEvent}
use Rattle.rtc_parts.specs.Draws.{Draws}
use Rattle.rtc_sctp_entries.specs.declared.stream_entry_state.StreamEntryState.TheVariants.{AwaitOpen, AwaitDcepAck}
use Rattle.rtc_sctp_entries.specs.declared.stream_entry.StreamEntry.{StreamEntry}
use Rattle.rtc_sctp_entries.specs.Entries.{has_open, is_out_of_band}
use Rattle.rtc_sctp.specs.Streams.{is_established}
use Rattle.rtc_channels.specs.Openings.{channels_wake}
use Rattle.rtc_peer_core.specs.declared.phase.Phase.TheVariants.{Alive}
use Rattle.rtc_peer_transport.specs.ChannelCalls.{open_stream_under, stream_under}
use Rattle.rtc_peer_laws.specs.Drained.{IsTriedAgain}
use Rattle.rtc_run_history.specs.declared.reply.Reply.{Reply}
use Rattle.rtc_run_history.specs.declared.side.Side.{Side}
use Rattle.rtc_run_history.specs.declared.step.Step.{Step}
use Rattle.rtc_run_history.specs.PairState.{rtc_at}
use Rattle.rtc_run_history.specs.Past.{Entry}
use Rattle.rtc_run_history.specs.Runs.{Runs}
use Rattle.rtc_run_history.specs.Sides.{other_side}
use Rattle.rtc_run_laws.specs.PlainPairs.{PlainPair, PlainPolled, plain_over}
use Rattle.rtc_run_laws.specs.ChannelUses.{ChannelUse}
use Rattle.rtc_run_laws.specs.OpenUses.{AreJoinedUses}
use Rattle.rtc_run_laws.specs.ConfirmedChannels.{WasConfirmed}
use Rattle.rtc_run_laws.specs.InBandSteps.{AreInBandSteps}
use Rattle.rtc_run_laws.specs.OwnOpenings.{HasEntryOf, HasOpening, IsInBandChannel, IsOfSide}
use Rattle.rtc_run_laws.specs.RestingPasts.{IsResting, RestsUntil}
use Rattle.rtc_run_laws.specs.StillPairs.{IsStillPair}
use Rattle.rtc_run_laws.specs.UsesOfRuns.{reached_by, uses_in_run}

-- nothing was due by then: the moment is later than each that the peer took
abbrev pub HasNothingDue : {E N : Type 0} → Side → List (Entry E) → PlainPair N → Type 0
HasNothingDue at past pair = RestsUntil (λ moment. (rtc_at at pair).core.greatest < moment) at past

-- nor was anything to be tried again: the moment is later than half a second after the last one that the streams took, too
abbrev pub HasNothingSoon : {E N : Type 0} → Side → List (Entry E) → PlainPair N → Type 0
HasNothingSoon at past pair =
    RestsUntil (λ moment. ((rtc_at at pair).core.greatest < moment) × ((rtc_at at pair).core.sctp.last + 500_000_000 < moment)) at past

-- A peer is alive, application data can go over its DTLS connection, and its association is established, neither closing nor closed. It has
-- no unacknowledged item, and a number is left for a channel.
pub record IsSettledPeer {N : Type 0} (p : PlainPolled N) : Type 0 where
  pub alive : p.core.phase ≡ Alive
  pub sends : can_send plain_dtls p.core.dtls ≡ true
  pub established : is_established p.core.sctp.state ≡ true
  pub lasting : is_ending p.core.sctp.association ≡ false
  pub acknowledged : p.core.sctp.association.outbox.items ≡ []
  pub numbers : p.core.channels.given < 2 ^ 64 - 1

-- behind this past, both peers of a pair are so, and rest
pub record IsSettledPair {E N : Type 0} (past : List (Entry E)) (pair : PlainPair N) : Type 0 where
  pub peers : (at : Side) → IsSettledPeer (rtc_at at pair)
  pub resting : (at : Side) → IsResting at past

-- no entry of the stream was negotiated out-of-band
abbrev pub IsInBandStream : (stream : ℕ) → List StreamEntry → Type 0
IsInBandStream stream [] = Unit {0}
IsInBandStream stream (entry ∷ entries) = (entry.id ≡ stream → is_out_of_band entry ≡ false) × IsInBandStream stream entries

-- neither side has an entry of the stream that was
pub record AreInBandStreams {N : Type 0} (stream : ℕ) (p q : PlainPolled N) : Type 0 where
  pub here : IsInBandStream stream p.core.sctp.entries
  pub there : IsInBandStream stream q.core.sctp.entries

-- no channel that was announced over a stream, in the generation that the stream has, was rolled back
abbrev pub NoneRolledBack : {N : Type 0} → (stream : ℕ) → List ChannelUse → PlainPolled N → Type 0
NoneRolledBack stream uses p =
    (x : ChannelUse)
    → Member x uses
    → x.stream ≡ Some stream
    → x.generation ≡ generation_of p.core.sctp.association stream
    → x.rolled_back ≡ false

-- none was at either side
pub record AreKeptUses {N : Type 0} (stream : ℕ) (uses : List ChannelUse) (p : PlainPolled N) (others : List ChannelUse) (q : PlainPolled N)
    : Type 0 where
  pub here : NoneRolledBack stream uses p
  pub there : NoneRolledBack stream others q

-- both associations have a stream in one generation, and neither end closed it
pub record IsLevelStream {N : Type 0} (stream : ℕ) (p q : PlainPolled N) : Type 0 where
  pub generation_is : generation_of q.core.sctp.association stream ≡ generation_of p.core.sctp.association stream
  pub unclosed_here : closed_here p.core.sctp.association stream ≡ false
  pub unclosed_there : closed_here q.core.sctp.association stream ≡ false

-- A channel of one side was announced, and so was one by the other side, over the same generation of the same stream. Both are open, and
-- each side got over its channel all that the other sent over its own.
pub record IsOpenAtBoth {N : Type 0} (draws : Draws N) (channel : ℕ) (uses : List ChannelUse) (p : PlainPolled N) (others : List ChannelUse)
    (q : PlainPolled N) : Type 0 where
  pub own : ChannelUse
  pub member : Member own uses
  pub channel_is : own.channel ≡ channel
  pub other : ChannelUse
  pub other_member : Member other others
  pub joined : AreJoinedUses (plain_over draws) own p other q
  pub got : own.got ≡ other.sent
  pub sent : other.got ≡ own.sent

-- So it is for each channel that is open at the one side, over a stream that neither side negotiated out-of-band, and over which neither
-- rolled a channel back.
abbrev pub AreOpenAtBoth : {N : Type 0} → Draws N → (uses : List ChannelUse) → PlainPolled N → (others : List ChannelUse) → PlainPolled N
    → Type 0
AreOpenAtBoth draws uses p others q =
    (channel stream : ℕ)
    → open_stream_under channel p ≡ Some stream
    → AreInBandStreams stream p q
    → AreKeptUses stream uses p others q
    → IsOpenAtBoth draws channel uses p others q

-- each channel of one side that is open is open at both
abbrev pub AreAllOpenAtBoth : {N : Type 0} → Draws N → (uses : List ChannelUse) → PlainPolled N → (others : List ChannelUse)
    → PlainPolled N → Type 0
AreAllOpenAtBoth draws uses p others q =
    (channel stream : ℕ) → open_stream_under channel p ≡ Some stream → IsOpenAtBoth draws channel uses p others q

-- the open message for a stream waits for its acknowledgement
abbrev pub WaitsForAnswer : (stream : ℕ) → List StreamEntry → Type 0
WaitsForAnswer stream entries = HasEntryOf (λ entry. entry.state ≡ AwaitDcepAck) stream entries

-- a stream is in use, and not only to be opened from here
abbrev pub IsTakenUp : (stream : ℕ) → List StreamEntry → Type 0
IsTakenUp stream entries = HasEntryOf (λ entry. entry.state ≡ AwaitOpen → ⊥) stream entries

-- the opening of a stream is refused for now, as the stream is there already, and is tried again: it has been so for less than ten seconds
abbrev pub IsOpeningRefused : {N : Type 0} → (stream : ℕ) → PlainPolled N → Type 0
IsOpeningRefused stream p =
    HasEntryOf (IsTriedAgain p.core.sctp.last) stream p.core.sctp.entries
    × (has_stream p.core.sctp.association stream ≡ true)

-- If an opening waits for its acknowledgement over such a stream, the other side has the stream not in use, and its own opening of it is
-- refused for now.
abbrev pub AreAnswered : {N : Type 0} → PlainPolled N → PlainPolled N → Type 0
AreAnswered p q =
    (stream : ℕ)
    → AreInBandStreams stream p q
    → WaitsForAnswer stream p.core.sctp.entries
    → IsOpeningRefused stream q × (IsTakenUp stream q.core.sctp.entries → ⊥)

-- each channel of one side that was confirmed and has such a stream is open at both
abbrev pub AreConfirmedOpen : {N : Type 0} → Draws N → (confirmed : ℕ → Type 0) → (uses : List ChannelUse) → PlainPolled N
    → (others : List ChannelUse) → PlainPolled N → Type 0
AreConfirmedOpen draws confirmed uses p others q =
    (channel stream : ℕ)
    → confirmed channel
    → stream_under channel p.core.channels ≡ Some stream
    → AreInBandStreams stream p q
    → AreKeptUses stream uses p others q
    → IsOpenAtBoth draws channel uses p others q

-- the opening of a stream from here is refused for now, and the stream is not open at the other side either
abbrev pub IsRefusedAlone : {N : Type 0} → (stream : ℕ) → PlainPolled N → PlainPolled N → Type 0
IsRefusedAlone stream p q = IsOpeningRefused stream p × (has_open stream q.core.sctp.entries ≡ false)

-- both sides opened a stream themselves: the opening from here waits for its acknowledgement, and the one from there is refused for now
abbrev pub AreBothOpening : {N : Type 0} → (stream : ℕ) → PlainPolled N → PlainPolled N → Type 0
AreBothOpening stream p q = WaitsForAnswer stream p.core.sctp.entries × IsOpeningRefused stream q

-- Each channel of one side that was confirmed and has such a stream is open at both, or the opening of the stream is refused for now, also
-- if both sides opened it.
abbrev pub AreConfirmedSettled : {N : Type 0} → Draws N → (confirmed : ℕ → Type 0) → (uses : List ChannelUse) → PlainPolled N
    → (others : List ChannelUse) → PlainPolled N → Type 0
AreConfirmedSettled draws confirmed uses p others q =
    (channel stream : ℕ)
    → confirmed channel
    → stream_under channel p.core.channels ≡ Some stream
    → AreInBandStreams stream p q
    → AreKeptUses stream uses p others q
    → IsOpenAtBoth draws channel uses p others q ⊎ (IsRefusedAlone stream p q ⊎ AreBothOpening stream p q)

-- no channel over the stream was negotiated out-of-band, at either side
pub record AreInBandChannels {N : Type 0} (stream : ℕ) (p q : PlainPolled N) : Type 0 where
  pub here : IsInBandChannel stream p.core.channels.rows
  pub there : IsInBandChannel stream q.core.channels.rows

-- an opening from here is over a stream of this side, if no channel was negotiated out-of-band for the stream
abbrev pub AreOwnOpenings : {N : Type 0} → PlainPolled N → Type 0
AreOwnOpenings p =
    (stream : ℕ)
    → IsInBandChannel stream p.core.channels.rows
    → HasOpening stream p.core.sctp.entries
    → IsOfSide p.core.sctp.client stream

-- one started its association as the client, and the other one as the server
abbrev pub AreOnSides : {N : Type 0} → PlainPolled N → PlainPolled N → Type 0
AreOnSides p q = q.core.sctp.client ≡ p.core.sctp.client → ⊥

-- no stream is opened from both sides, unless a channel over it was negotiated out-of-band
abbrev pub OpenNoneBoth : {N : Type 0} → PlainPolled N → PlainPolled N → Type 0
OpenNoneBoth p q =
    (stream : ℕ)
    → AreInBandChannels stream p q
    → HasOpening stream p.core.sctp.entries
    → HasOpening stream q.core.sctp.entries
    → ⊥

-- no opening waits for its acknowledgement, if neither side negotiated its stream or a channel for it out-of-band
abbrev pub WaitsNone : {N : Type 0} → PlainPolled N → PlainPolled N → Type 0
WaitsNone p q =
    (stream : ℕ)
    → AreInBandStreams stream p q
    → AreInBandChannels stream p q
    → WaitsForAnswer stream p.core.sctp.entries
    → ⊥

-- each channel of one side that was confirmed is open at both, if neither side negotiated its stream out-of-band
abbrev pub AreConfirmedInBand : {N : Type 0} → Draws N → (confirmed : ℕ → Type 0) → (uses : List ChannelUse) → PlainPolled N
    → (others : List ChannelUse) → PlainPolled N → Type 0
AreConfirmedInBand draws confirmed uses p others q =
    (channel stream : ℕ)
    → confirmed channel
    → stream_under channel p.core.channels ≡ Some stream
    → AreInBandStreams stream p q
    → AreInBandChannels stream p q
    → AreKeptUses stream uses p others q
    → IsOpenAtBoth draws channel uses p others q

-- each channel of one side that was confirmed is open at both
abbrev pub AreAllConfirmedOpen : {N : Type 0} → Draws N → (confirmed : ℕ → Type 0) → (uses : List ChannelUse) → PlainPolled N
    → (others : List ChannelUse) → PlainPolled N → Type 0
AreAllConfirmedOpen draws confirmed uses p others q =
    (channel stream : ℕ)
    → confirmed channel
    → stream_under channel p.core.channels ≡ Some stream
    → IsOpenAtBoth draws channel uses p others q

-- What holds of both sides if a run by these steps with these replies left the pair settled. A channel that is open at one side is open at
-- both (`opened`). So is a confirmed one, if nothing is due for the channels of its side (`due_none`). These ask that no channel over the
-- stream was negotiated out-of-band or rolled back; `open_in_band` and `all_in_band` ask only that no step added a channel that is
-- negotiated out-of-band, and that the pair kept no session description before. `refused`, `confirmed` and `later` are about streams for
-- which one was.
pub record SettlesOpen {N : Type 0} (draws : Draws N) (stun : List ℕ → Bool) (start : PlainPair N) (steps : List Step)
    (replies : List (Reply PlainMediaEvent)) (pair : PlainPair N) (run : Runs (plain_over draws) stun start steps replies pair)
    : Type 0 where
  pub level : IsSettledPair run.past pair → (at : Side) (stream : ℕ) → IsLevelStream stream (rtc_at at pair) (rtc_at (other_side at) pair)
  pub opened : IsSettledPair run.past pair → (at : Side)
      → AreOpenAtBoth draws (uses_in_run (plain_over draws) stun start steps replies pair run at) (rtc_at at pair)
      (uses_in_run (plain_over draws) stun start steps replies pair run (other_side at)) (rtc_at (other_side at) pair)
  pub answered : IsSettledPair run.past pair → (at : Side) → AreAnswered (rtc_at at pair) (rtc_at (other_side at) pair)
  pub idle : IsSettledPair run.past pair → (at : Side) → HasNothingDue at run.past pair
      → channels_wake plain_meaning (rtc_at at pair).core.channels (rtc_at at pair).core.sctp ≡ None
  pub own : IsSettledPair run.past pair → (at : Side) → AreOwnOpenings (rtc_at at pair)
  pub sides : IsSettledPair run.past pair → (at : Side) → AreOnSides (rtc_at at pair) (rtc_at (other_side at) pair)
  pub parted : IsSettledPair run.past pair → (at : Side) → OpenNoneBoth (rtc_at at pair) (rtc_at (other_side at) pair)
  pub waits_none : IsSettledPair run.past pair → (at : Side) → WaitsNone (rtc_at at pair) (rtc_at (other_side at) pair)
  pub wants_none : IsSettledPair run.past pair → (at : Side)
      → channels_wake plain_meaning (rtc_at at pair).core.channels (rtc_at at pair).core.sctp ≡ None
      → AreConfirmedInBand draws
      (λ channel. WasConfirmed (plain_over draws) stun start at channel run.past pair
      (reached_by (plain_over draws) stun start run.past pair run.went))
      (uses_in_run (plain_over draws) stun start steps replies pair run at) (rtc_at at pair)
      (uses_in_run (plain_over draws) stun start steps replies pair run (other_side at)) (rtc_at (other_side at) pair)
  pub due_none : IsSettledPair run.past pair → (at : Side) → HasNothingDue at run.past pair
      → AreConfirmedInBand draws
      (λ channel. WasConfirmed (plain_over draws) stun start at channel run.past pair
      (reached_by (plain_over draws) stun start run.past pair run.went))
      (uses_in_run (plain_over draws) stun start steps replies pair run at) (rtc_at at pair)
      (uses_in_run (plain_over draws) stun start steps replies pair run (other_side at)) (rtc_at (other_side at) pair)
  pub in_band : start.sdps ≡ [] → AreInBandSteps steps → IsSettledPair run.past pair → (at : Side) (stream : ℕ)
      → AreInBandStreams stream (rtc_at at pair) (rtc_at (other_side at) pair)
      × AreInBandChannels stream (rtc_at at pair) (rtc_at (other_side at) pair)
  pub open_in_band : start.sdps ≡ [] → AreInBandSteps steps → IsSettledPair run.past pair → (at : Side)
      → AreAllOpenAtBoth draws (uses_in_run (plain_over draws) stun start steps replies pair run at) (rtc_at at pair)
      (uses_in_run (plain_over draws) stun start steps replies pair run (other_side at)) (rtc_at (other_side at) pair)
  pub all_in_band : start.sdps ≡ [] → AreInBandSteps steps → IsSettledPair run.past pair → (at : Side) → HasNothingDue at run.past pair
      → AreAllConfirmedOpen draws
      (λ channel. WasConfirmed (plain_over draws) stun start at channel run.past pair
      (reached_by (plain_over draws) stun start run.past pair run.went))
      (uses_in_run (plain_over draws) stun start steps replies pair run at) (rtc_at at pair)
      (uses_in_run (plain_over draws) stun start steps replies pair run (other_side at)) (rtc_at (other_side at) pair)
  pub refused : IsSettledPair run.past pair → (at : Side)
      → channels_wake plain_meaning (rtc_at at pair).core.channels (rtc_at at pair).core.sctp ≡ None
      → AreConfirmedSettled draws
      (λ channel. WasConfirmed (plain_over draws) stun start at channel run.past pair
      (reached_by (plain_over draws) stun start run.past pair run.went))
      (uses_in_run (plain_over draws) stun start steps replies pair run at) (rtc_at at pair)
      (uses_in_run (plain_over draws) stun start steps replies pair run (other_side at)) (rtc_at (other_side at) pair)
  pub confirmed : IsSettledPair run.past pair → IsStillPair pair → (at : Side)
      → AreConfirmedOpen draws
      (λ channel. WasConfirmed (plain_over draws) stun start at channel run.past pair
      (reached_by (plain_over draws) stun start run.past pair run.went))
      (uses_in_run (plain_over draws) stun start steps replies pair run at) (rtc_at at pair)
      (uses_in_run (plain_over draws) stun start steps replies pair run (other_side at)) (rtc_at (other_side at) pair)
  pub later : IsSettledPair run.past pair → ((at : Side) → HasNothingSoon at run.past pair) → (at : Side)
      → AreConfirmedOpen draws
      (λ channel. WasConfirmed (plain_over draws) stun start at channel run.past pair
      (reached_by (plain_over draws) stun start run.past pair run.went))
      (uses_in_run (plain_over draws) stun start steps replies pair run at) (rtc_at at pair)
      (uses_in_run (plain_over draws) stun start steps replies pair run (other_side at)) (rtc_at (other_side at) pair)
