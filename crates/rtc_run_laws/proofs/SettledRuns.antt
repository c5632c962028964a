-- In a settled pair a channel that one side announced is open at both.
use Rattle.std.proofs.Common.{◌<◌, ◌+◌, ◌≡◌, ◌⊎◌, None, ℕ, Bool, true, false, List, Some, inl, inr}
use Rattle.rtc_assoc_state.specs.Contents.{closed_here, generation_of, has_unread}
use Rattle.rtc_assoc_state.specs.PlainMeaning.{plain_meaning}
use Rattle.rtc_sctp_entries.specs.declared.stream_entry_state.StreamEntryState.TheVariants.{AwaitOpen}
use Rattle.rtc_sctp_entries.specs.Entries.{has_open}
use Rattle.rtc_sctp.specs.Streams.{is_established}
use Rattle.rtc_channels.specs.Openings.{channels_wake}
use Rattle.rtc_peer_transport.specs.ChannelCalls.{stream_under}
use Rattle.rtc_peer_laws.specs.ChannelStreams.{AreNumberedChannels}
use Rattle.rtc_peer_laws.specs.Drained.{AreHeard, AreTriedAgain}
use Rattle.rtc_plain_media.specs.declared.plain_media_event.PlainMediaEvent.{PlainMediaEvent}
use Rattle.rtc_parts.specs.Draws.{Draws}
use Rattle.rtc_run_history.specs.declared.side.Side.{Side}
use Rattle.rtc_run_history.specs.declared.side.Side.TheVariants.{Left, Right}
use Rattle.rtc_run_history.specs.Native.{are_native}
use Rattle.rtc_run_history.specs.PairState.{rtc_at}
use Rattle.rtc_run_history.specs.Past.{Entry, steps_of}
use Rattle.rtc_run_history.specs.Performs.{Enters}
use Rattle.rtc_run_history.specs.Runs.{Reached}
use Rattle.rtc_run_history.specs.Sides.{other_side}
use Rattle.rtc_run_laws.proofs.EmptyStreams.{AreUnused, went_unused}
use Rattle.rtc_run_laws.specs.NewPairs.{IsNewPair}
use Rattle.rtc_run_laws.specs.PlainPairs.{PlainPair, plain_over}
use Rattle.rtc_run_laws.proofs.RunsExchange.{side_all, side_reads}
use Rattle.rtc_run_laws.proofs.StepsExchange.{plain_over_laws}
use Rattle.rtc_run_laws.specs.ChannelUses.{ChannelUse}
use Rattle.rtc_run_laws.specs.HandedOut.{AreAllHandedOut}
use Rattle.rtc_run_laws.specs.SentMessages.{sent_over}
use Rattle.rtc_run_laws.specs.SideDrains.{IsSideDrained}
use Rattle.rtc_run_laws.specs.ToldMessages.{told_over}
use Rattle.rtc_run_laws.specs.ConfirmedChannels.{WasConfirmed}
use Rattle.rtc_run_laws.specs.OwnOpenings.{HasEntryOf}
use Rattle.rtc_run_laws.specs.SettledPairs.{AreBothOpening, IsRefusedAlone, AreAnswered, AreConfirmedOpen, AreConfirmedSettled, AreInBandStreams, AreKeptUses, AreOpenAtBoth, HasNothingDue, HasNothingSoon, IsLevelStream, IsOpenAtBoth, IsOpeningRefused, IsSettledPair}
use Rattle.rtc_run_laws.specs.SettledPairs.{IsTakenUp, WaitsForAnswer}
use Rattle.rtc_run_laws.specs.StillPairs.{IsStillPair}
use Rattle.rtc_run_laws.specs.UsesOfRuns.{uses_of}
use Rattle.rtc_run_laws.proofs.AnsweredOpenings.{none_waits}
use Rattle.rtc_run_laws.proofs.ConfirmedRuns.{SideBegun, SideSound, run_begun}
use Rattle.rtc_run_laws.proofs.ConfirmedSides.{IsOpen, Opening, StandsAs, Unanswered, confirmed_stands, new_sound, stands_as}
use Rattle.rtc_run_laws.proofs.OpenSides.{both_true, last_all, last_heard, not_closed, stays_under}
use Rattle.rtc_run_laws.proofs.IdleSides.{none_due, none_retried}
use Rattle.rtc_run_laws.proofs.KeptStreams.{AreKeptStreams, AreLevelStreams, kept_by, pair_level, pair_sound}
use Rattle.rtc_run_laws.proofs.KnownRuns.{SideKnown, new_pair_known, run_known}
use Rattle.rtc_run_laws.proofs.RefusedSides.{shut_there}
use Rattle.rtc_run_laws.proofs.KnownSides.{none_unread, refused_of, refused_opening, tried_in}
use Rattle.rtc_run_laws.proofs.StillSides.{awaits_retried, none_opening, taken_up}
use Rattle.rtc_sctp_laws.proofs.BackedRows.{plain_sound, plain_unread}
use Rattle.rtc_sctp_laws.proofs.KnownStreams.{AreKnown}
use Rattle.rtc_sctp_laws.proofs.PlainGenerations.{plain_generations}
use Rattle.rtc_run_laws.proofs.RestingSides.{PolledLast, resting_drained, resting_last}
use Rattle.rtc_run_laws.proofs.RestedRuns.{run_drained}
use Rattle.rtc_run_laws.proofs.RunsTold.{PairTold, new_pair_told, reached_told}
use Rattle.rtc_run_laws.proofs.SettledOpens.{side_open}
use Rattle.rtc_run_laws.proofs.UnusedPairs.{new_unused}

module _ {N : Type 0} (draws : Draws N) where
  module _ (stun : List ℕ → Bool) (start : PlainPair N) (past : List (Entry PlainMediaEvent)) (pair : PlainPair N)
      (go : are_native (steps_of past) ≡ true) (ran : Reached (plain_over draws) stun start past pair) (new : IsNewPair draws start)
      (settled : IsSettledPair past pair) where
    abbrev pub uses : Side → List ChannelUse
    uses at = uses_of (plain_over draws) stun start at past pair ran

    pub told : PairTold draws pair uses (λ at. sent_over (plain_over draws) stun start at past pair ran) (λ at. told_over (plain_over draws) stun start at past pair ran)
    told = reached_told draws stun start past pair go ran (new_pair_told draws start new)

    empty : AreUnused (plain_over draws) (plain_over_laws draws) pair
    empty =
        went_unused (plain_over draws) (plain_over_laws draws) (λ earlier between one after. Enters (plain_over draws) stun between one after)
        (λ earlier between one after k. (stun, k)) start past pair (new_unused draws start new) ran

    drained : (at : Side) → IsSideDrained at past
    drained at = resting_drained at past (settled.resting at)

    pub heard : (at : Side) → AreHeard plain_meaning (rtc_at at pair).core.sctp.association (rtc_at at pair).core.sctp.entries
    heard at = last_heard draws (rtc_at at pair) (resting_last (plain_over draws) (λ n. Unit {0}) stun start past pair ran at (settled.resting at)) (settled.peers at) (empty at).empty

    level : (at : Side) → AreLevelStreams (rtc_at at pair) (rtc_at (other_side at) pair)
    level at = pair_level told.acts pair told.exchange settled.peers at

    pub kept_streams : (at : Side) (s : ℕ) → AreInBandStreams s (rtc_at at pair) (rtc_at (other_side at) pair)
        → AreKeptStreams s (rtc_at at pair) (rtc_at (other_side at) pair)
    kept_streams at s band = kept_by s (rtc_at at pair) (rtc_at (other_side at) pair) (level at) band

    pub settled_level : (at : Side) (s : ℕ) → IsLevelStream s (rtc_at at pair) (rtc_at (other_side at) pair)
    settled_level at s =
        record { generation_is = (level at s).generation_is; unclosed_here = (level at s).here; unclosed_there = (level at s).there }

    all_drained : (at : Side)
        → AreAllHandedOut draws (Unit {0}) (uses at) (rtc_at at pair) (uses (other_side at)) (rtc_at (other_side at) pair)
    all_drained at = λ x y mine theirs rests joined acknowledged.
        run_drained draws stun start new past pair go ran at x y mine theirs (drained at) joined acknowledged

    pub settled_open : (at : Side) → AreOpenAtBoth draws (uses at) (rtc_at at pair) (uses (other_side at)) (rtc_at (other_side at) pair)
    settled_open Left =
        side_open draws told.acts.left told.acts.right (uses Left) (uses Right) pair.left pair.right told.left.side told.right.side (settled.peers Left)
        (settled.peers Right) (heard Left) (heard Right) (all_drained Left)
        (all_drained Right) (λ s g. side_reads told.acts pair Right s g told.exchange)
        (λ s g. side_all told.acts pair Left s g told.exchange) (level Left)
    settled_open Right =
        side_open draws told.acts.right told.acts.left (uses Right) (uses Left) pair.right pair.left told.right.side told.left.side (settled.peers Right)
        (settled.peers Left) (heard Right) (heard Left) (all_drained Right)
        (all_drained Left) (λ s g. side_reads told.acts pair Left s g told.exchange)
        (λ s g. side_all told.acts pair Right s g told.exchange) (level Right)

    none_taken : (at : Side) (s : ℕ) → AreInBandStreams s (rtc_at at pair) (rtc_at (other_side at) pair)
        → WaitsForAnswer s (rtc_at at pair).core.sctp.entries → IsTakenUp s (rtc_at (other_side at) pair).core.sctp.entries → ⊥
    none_taken Left = λ s band waits taken.
        none_waits draws told.acts.left told.acts.right (uses Left) (uses Right) pair.left pair.right told.left.side told.right.side (settled.peers Left)
        (settled.peers Right) (heard Left) (heard Right) (λ t g. side_all told.acts pair Left t g told.exchange)
        (λ t g. side_all told.acts pair Right t g told.exchange) s (kept_streams Left s band) waits taken
    none_taken Right = λ s band waits taken.
        none_waits draws told.acts.right told.acts.left (uses Right) (uses Left) pair.right pair.left told.right.side told.left.side (settled.peers Right)
        (settled.peers Left) (heard Right) (heard Left) (λ t g. side_all told.acts pair Right t g told.exchange)
        (λ t g. side_all told.acts pair Left t g told.exchange) s (kept_streams Right s band) waits taken

    -- nothing is due for the channels of a side that waits for a later moment
    pub settled_idle : (at : Side) → HasNothingDue at past pair
        → channels_wake plain_meaning (rtc_at at pair).core.channels (rtc_at at pair).core.sctp ≡ None
    settled_idle at later =
        let last : PolledLast (plain_over draws) (λ moment. (rtc_at at pair).core.greatest < moment) (rtc_at at pair) =
        resting_last (plain_over draws) (λ moment. (rtc_at at pair).core.greatest < moment) stun start past pair ran at later in
        none_due draws (λ moment. (rtc_at at pair).core.greatest < moment) (rtc_at at pair) last (settled.peers at).alive last.moment_is

    -- a channel that was confirmed and has a stream
    sound_start : (at : Side) → SideSound (plain_over draws) (plain_over_laws draws) (rtc_at at start)
    sound_start Left = inr (new_sound draws start.left new.left)
    sound_start Right = inr (new_sound draws start.right new.right)

    numbers : (at : Side) → AreNumberedChannels (rtc_at at pair).core.channels
    numbers Left = told.left.side.told.numbers
    numbers Right = told.right.side.told.numbers

    known_at : (at : Side) → SideKnown (plain_over draws) (plain_over_laws draws) plain_sound plain_generations plain_unread (rtc_at at pair)
        → AreKnown plain_meaning plain_sound (rtc_at at pair).core.sctp
    known_at at (inl closed) = absurd (not_closed draws (rtc_at at pair) (settled.peers at).alive closed)
    known_at at (inr known) = known

    known : (at : Side) → AreKnown plain_meaning plain_sound (rtc_at at pair).core.sctp
    known at =
        known_at at
        (run_known (plain_over draws) (plain_over_laws draws) plain_sound plain_generations plain_unread stun start past pair go ran (new_pair_known draws start new) at)

    quiet : (at : Side) (s : ℕ) → closed_here (rtc_at at pair).core.sctp.association s ≡ false
        → IsOpeningRefused s (rtc_at at pair)
        ⊎ (has_unread (rtc_at at pair).core.sctp.association s (generation_of (rtc_at at pair).core.sctp.association s) ≡ false)
    quiet at s unclosed =
        none_unread draws (rtc_at at pair) s (settled.peers at)
        (last_all draws (rtc_at at pair) (resting_last (plain_over draws) (λ n. Unit {0}) stun start past pair ran at (settled.resting at)) (settled.peers at)) (heard at)
        (known at) (pair_sound told.acts pair told.exchange at) unclosed

    tried : (at : Side) → AreTriedAgain (rtc_at at pair).core.sctp.last (rtc_at at pair).core.sctp.entries
    tried at =
        tried_in draws (rtc_at at pair) (settled.peers at)
        (last_all draws (rtc_at at pair) (resting_last (plain_over draws) (λ n. Unit {0}) stun start past pair ran at (settled.resting at)) (settled.peers at))
        (known at)

    taken : (at : Side) (s : ℕ) → AreInBandStreams s (rtc_at at pair) (rtc_at (other_side at) pair)
        → has_unread (rtc_at (other_side at) pair).core.sctp.association s (generation_of (rtc_at (other_side at) pair).core.sctp.association s) ≡ false
        → WaitsForAnswer s (rtc_at at pair).core.sctp.entries → IsTakenUp s (rtc_at (other_side at) pair).core.sctp.entries
    taken Left s band none waits =
        taken_up draws told.acts.left told.acts.right (uses Left) (uses Right) pair.left pair.right told.left.side told.right.side (settled.peers Left)
        (settled.peers Right) (heard Left) (λ t g. side_all told.acts pair Left t g told.exchange) s (kept_streams Left s band) none waits
    taken Right s band none waits =
        taken_up draws told.acts.right told.acts.left (uses Right) (uses Left) pair.right pair.left told.right.side told.left.side (settled.peers Right)
        (settled.peers Left) (heard Right) (λ t g. side_all told.acts pair Right t g told.exchange) s (kept_streams Right s band) none waits

    -- it is open at both sides, or the opening of its stream is refused for now at one
    abbrev EndsAt : (at : Side) (c s : ℕ) → Type 0
    EndsAt at c s =
        IsOpenAtBoth draws c (uses at) (rtc_at at pair) (uses (other_side at)) (rtc_at (other_side at) pair)
        ⊎ (IsRefusedAlone s (rtc_at at pair) (rtc_at (other_side at) pair) ⊎ AreBothOpening s (rtc_at at pair) (rtc_at (other_side at) pair))

    -- an opening waits for its answer where that of the other side is refused for now
    refused_there : (at : Side) (s : ℕ) → AreInBandStreams s (rtc_at at pair) (rtc_at (other_side at) pair)
        → WaitsForAnswer s (rtc_at at pair).core.sctp.entries
        → IsOpeningRefused s (rtc_at (other_side at) pair)
        ⊎ (has_unread (rtc_at (other_side at) pair).core.sctp.association s
        (generation_of (rtc_at (other_side at) pair).core.sctp.association s) ≡ false)
        → IsOpeningRefused s (rtc_at (other_side at) pair)
    refused_there at s band waits (inl refused) = refused
    refused_there at s band waits (inr none) = absurd (none_taken at s band waits (taken at s band none waits))

    pub settled_answered : (at : Side) → AreAnswered (rtc_at at pair) (rtc_at (other_side at) pair)
    settled_answered at = λ s band waits.
        (refused_there at s band waits (quiet (other_side at) s (level at s).there), λ in_use. none_taken at s band waits in_use)

    -- the other side has the stream not open then
    other_shut : (at : Side) (s : ℕ) → AreInBandStreams s (rtc_at at pair) (rtc_at (other_side at) pair)
        → HasEntryOf (λ entry. entry.state ≡ AwaitOpen) s (rtc_at at pair).core.sctp.entries
        → has_open s (rtc_at (other_side at) pair).core.sctp.entries ≡ false
    other_shut Left s band h =
        shut_there draws told.acts.left told.acts.right (uses Left) (uses Right) pair.left pair.right told.left.side told.right.side (settled.peers Left)
        (settled.peers Right) (heard Right) (λ t g. side_reads told.acts pair Left t g told.exchange) s (kept_streams Left s band) h
    other_shut Right s band h =
        shut_there draws told.acts.right told.acts.left (uses Right) (uses Left) pair.right pair.left told.right.side told.left.side (settled.peers Right)
        (settled.peers Left) (heard Left) (λ t g. side_reads told.acts pair Right t g told.exchange) s (kept_streams Right s band) h

    by_entry : (at : Side) (c s : ℕ) → stream_under c (rtc_at at pair).core.channels ≡ Some s
        → AreInBandStreams s (rtc_at at pair) (rtc_at (other_side at) pair)
        → AreKeptUses s (uses at) (rtc_at at pair) (uses (other_side at)) (rtc_at (other_side at) pair)
        → StandsAs s (rtc_at at pair).core.sctp.entries → EndsAt at c s
    by_entry at c s under band stand (Opening h) =
        inr (inl (refused_of draws (rtc_at at pair) s (heard at) (tried at) (level at s).here h, other_shut at s band h))
    by_entry at c s under band stand (Unanswered h) = inr (inr (h, (settled_answered at s band h).0))
    by_entry at c s under band stand (IsOpen h) =
        inl
        (settled_open at c s
        (stays_under draws c s (rtc_at at pair) (settled.peers at).alive under
        (both_true (is_established (rtc_at at pair).core.sctp.state) (has_open s (rtc_at at pair).core.sctp.entries) (settled.peers at).established h))
        band stand)

    by_side : (at : Side) (c s : ℕ) → channels_wake plain_meaning (rtc_at at pair).core.channels (rtc_at at pair).core.sctp ≡ None
        → stream_under c (rtc_at at pair).core.channels ≡ Some s → AreInBandStreams s (rtc_at at pair) (rtc_at (other_side at) pair)
        → AreKeptUses s (uses at) (rtc_at at pair) (uses (other_side at)) (rtc_at (other_side at) pair)
        → SideBegun (plain_over draws) (plain_over_laws draws) c (rtc_at at pair) → EndsAt at c s
    by_side at c s idle under band stand (inl closed) = absurd (not_closed draws (rtc_at at pair) (settled.peers at).alive closed)
    by_side at c s idle under band stand (inr begun) =
        by_entry at c s under band stand
        (stands_as (rtc_at at pair).core.sctp.association s (rtc_at at pair).core.sctp.entries (heard at)
        (confirmed_stands c s (rtc_at at pair).core.channels (rtc_at at pair).core.sctp (numbers at)
        ((known at).begun (settled.peers at).established) idle begun.1 under))

    pub settled_refused : (at : Side) → channels_wake plain_meaning (rtc_at at pair).core.channels (rtc_at at pair).core.sctp ≡ None
        → AreConfirmedSettled draws (λ c. WasConfirmed (plain_over draws) stun start at c past pair ran) (uses at) (rtc_at at pair)
        (uses (other_side at)) (rtc_at (other_side at) pair)
    settled_refused at idle = λ c s confirmed under band stand.
        by_side at c s idle under band stand (run_begun (plain_over draws) (plain_over_laws draws) stun start past pair go ran sound_start at c confirmed)

    -- so it is open at both, where none is tried again
    open_unless : ((at : Side) (s : ℕ) → IsOpeningRefused s (rtc_at at pair) → ⊥) → (at : Side) (c s : ℕ) → EndsAt at c s
        → IsOpenAtBoth draws c (uses at) (rtc_at at pair) (uses (other_side at)) (rtc_at (other_side at) pair)
    open_unless none at c s (inl opened) = opened
    open_unless none at c s (inr (inl here)) = absurd (none at s here.0)
    open_unless none at c s (inr (inr there)) = absurd (none (other_side at) s there.1)

    module _ (still : IsStillPair pair) where
      none_refused : (at : Side) (s : ℕ) → IsOpeningRefused s (rtc_at at pair) → ⊥
      none_refused at s refused =
          none_opening s (rtc_at at pair).core.sctp (heard at) (still at).waits (refused_opening s (rtc_at at pair) refused)

      pub settled_confirmed : (at : Side)
          → AreConfirmedOpen draws (λ c. WasConfirmed (plain_over draws) stun start at c past pair ran) (uses at) (rtc_at at pair)
          (uses (other_side at)) (rtc_at (other_side at) pair)
      settled_confirmed at = λ c s confirmed under band stand.
          open_unless none_refused at c s (settled_refused at (still at).idle c s confirmed under band stand)

    -- that is told by timeouts that are late enough
    module _ (soon : (at : Side) → HasNothingSoon at past pair) where
      abbrev IsLate : Side → ℕ → Type 0
      IsLate at moment = ((rtc_at at pair).core.greatest < moment) × ((rtc_at at pair).core.sctp.last + 500_000_000 < moment)

      late : (at : Side) → PolledLast (plain_over draws) (IsLate at) (rtc_at at pair)
      late at = resting_last (plain_over draws) (IsLate at) stun start past pair ran at (soon at)

      none_again : (at : Side) (s : ℕ) → IsOpeningRefused s (rtc_at at pair) → ⊥
      none_again at s refused =
          none_retried draws (IsLate at) (rtc_at at pair) (late at) (settled.peers at).alive (late at).moment_is.0 (late at).moment_is.1
          (awaits_retried s (rtc_at at pair).core.sctp.association (rtc_at at pair).core.sctp.entries (heard at)
          (refused_opening s (rtc_at at pair) refused))

      pub settled_later : (at : Side)
          → AreConfirmedOpen draws (λ c. WasConfirmed (plain_over draws) stun start at c past pair ran) (uses at) (rtc_at at pair)
          (uses (other_side at)) (rtc_at (other_side at) pair)
      settled_later at = λ c s confirmed under band stand.
          open_unless none_again at c s
          (settled_refused at (none_due draws (IsLate at) (rtc_at at pair) (late at) (settled.peers at).alive (late at).moment_is.0) c s confirmed
          under band stand)
