-- In a settled pair each opening is over a stream of its own side, so that the sides open no stream both.
use Rattle.std.proofs.Common.{◌≡◌, ◌∙◌, ◌⊎◌, inl, inr, ℕ, Bool, true, false, List, [], ◌∷◌, None, refl, sym, arith, Some}
use Rattle.rtc_channels.specs.Ids.{parity_of}
use Rattle.rtc_assoc_state.specs.PlainMeaning.{plain_meaning}
use Rattle.rtc_channels.specs.Openings.{channels_wake}
use Rattle.rtc_parts.specs.Draws.{Draws}
use Rattle.rtc_plain_media.specs.declared.plain_media_event.PlainMediaEvent.{PlainMediaEvent}
use Rattle.rtc_sctp_entries.specs.declared.stream_entry.StreamEntry.{StreamEntry}
use Rattle.rtc_run_history.specs.declared.side.Side.{Side}
use Rattle.rtc_run_history.specs.declared.side.Side.TheVariants.{Left, Right}
use Rattle.rtc_run_history.specs.Native.{are_native}
use Rattle.rtc_run_history.specs.PairState.{rtc_at}
use Rattle.rtc_run_history.specs.Past.{Entry, steps_of}
use Rattle.rtc_run_history.specs.Runs.{Reached}
use Rattle.rtc_run_history.specs.Sides.{other_side}
use Rattle.rtc_run_laws.specs.NewPairs.{IsNewPair}
use Rattle.rtc_peer_transport.specs.ChannelCalls.{stream_under}
use Rattle.rtc_run_laws.specs.ChannelUses.{ChannelUse}
use Rattle.rtc_run_laws.specs.PlainPairs.{PlainPair, PlainPolled, plain_over}
use Rattle.rtc_run_laws.proofs.StepsExchange.{plain_over_laws}
use Rattle.rtc_run_laws.specs.ConfirmedChannels.{WasConfirmed}
use Rattle.rtc_run_laws.specs.OwnOpenings.{HasEntryOf, HasOpening}
use Rattle.rtc_run_laws.specs.SettledPairs.{AreBothOpening, AreInBandChannels, AreInBandStreams, AreKeptUses, AreOnSides, AreOwnOpenings}
use Rattle.rtc_run_laws.specs.SettledPairs.{IsOpenAtBoth, IsOpeningRefused, IsRefusedAlone, IsSettledPair, IsSettledPeer, OpenNoneBoth, WaitsForAnswer, WaitsNone}
use Rattle.rtc_run_laws.specs.UsesOfRuns.{uses_of}
use Rattle.rtc_run_laws.proofs.ConfirmedRuns.{SideSound}
use Rattle.rtc_run_laws.proofs.ConfirmedSides.{new_sound}
use Rattle.rtc_run_laws.proofs.KnownSides.{refused_opening}
use Rattle.rtc_run_laws.proofs.OpenSides.{not_closed}
use Rattle.rtc_run_laws.proofs.OwnedChanges.{IsOwned}
use Rattle.rtc_run_laws.proofs.OwnedRows.{owner_side}
use Rattle.rtc_run_laws.proofs.OwnedRuns.{new_pair_owned, run_owned}
use Rattle.rtc_run_laws.proofs.RoleSides.{settled_sides}
use Rattle.rtc_run_laws.proofs.SettledRuns.{settled_answered, settled_refused}

entry_map : (P Q : StreamEntry → Type 0) (s : ℕ) (es : List StreamEntry) → ((e : StreamEntry) → P e → Q e) → HasEntryOf P s es → HasEntryOf Q s es
entry_map P Q s [] f h = absurd h
entry_map P Q s (e ∷ es) f (inl h) = inl (h.0, f e h.1)
entry_map P Q s (e ∷ es) f (inr h) = inr (entry_map P Q s es f h)

-- an opening that waits for its answer, and one that is refused for now, are from here
pub waits_opening : (s : ℕ) (es : List StreamEntry) → WaitsForAnswer s es → HasOpening s es
waits_opening s es h = entry_map _ _ s es (λ e k. inr k) h

pub refused_here : {N : Type 0} (s : ℕ) (q : PlainPolled N) → IsOpeningRefused s q → HasOpening s q.core.sctp.entries
refused_here s q h = entry_map _ _ s q.core.sctp.entries (λ e k. inl k) (refused_opening s q h)

one_side : (a b : Bool) → parity_of a ≡ parity_of b → a ≡ b
one_side true true h = refl
one_side true false h = absurd (omega (arith, h))
one_side false true h = absurd (omega (arith, h))
one_side false false h = refl

-- both sides open no stream
pub never_both : {N : Type 0} (s : ℕ) (p q : PlainPolled N) → AreOwnOpenings p → AreOwnOpenings q → AreOnSides p q → AreInBandChannels s p q
    → HasOpening s p.core.sctp.entries → HasOpening s q.core.sctp.entries → ⊥
never_both s p q own theirs sides band here there =
    sides (one_side q.core.sctp.client p.core.sctp.client (sym (theirs s band.there there) ∙ own s band.here here))

-- each channel of one side that was confirmed is open at both, or the opening of its stream is refused alone
abbrev pub AreConfirmedAlone : {N : Type 0} → Draws N → (confirmed : ℕ → Type 0) → (uses : List ChannelUse) → PlainPolled N
    → (others : List ChannelUse) → PlainPolled N → Type 0
AreConfirmedAlone draws confirmed uses p others q =
    (channel stream : ℕ)
    → confirmed channel
    → stream_under channel p.core.channels ≡ Some stream
    → AreInBandStreams stream p q
    → AreInBandChannels stream p q
    → AreKeptUses stream uses p others q
    → IsOpenAtBoth draws channel uses p others q ⊎ IsRefusedAlone stream p q

module _ {N : Type 0} (draws : Draws N) (stun : List ℕ → Bool) (start : PlainPair N) (past : List (Entry PlainMediaEvent)) (pair : PlainPair N)
    (go : are_native (steps_of past) ≡ true) (ran : Reached (plain_over draws) stun start past pair) (new : IsNewPair draws start) where
  sound_start : (at : Side) → SideSound (plain_over draws) (plain_over_laws draws) (rtc_at at start)
  sound_start Left = inr (new_sound draws start.left new.left)
  sound_start Right = inr (new_sound draws start.right new.right)

  -- at each side that lives
  pub owned_at : (at : Side) → IsSettledPeer (rtc_at at pair)
      → IsOwned (rtc_at at pair).core.sctp.client (rtc_at at pair).core.channels (rtc_at at pair).core.sctp.entries
  owned_at at settled =
      run_owned (plain_over draws) (plain_over_laws draws) (rtc_at at pair).core.sctp.client stun start past pair go ran sound_start
      (λ x. new_pair_owned draws (rtc_at at pair).core.sctp.client start new x) at
      (record { lives = λ closed. not_closed draws (rtc_at at pair) settled.alive closed; side = λ e. refl })

  pub settled_own : IsSettledPair past pair → (at : Side) → AreOwnOpenings (rtc_at at pair)
  settled_own settled at = λ s band opening.
      owner_side (rtc_at at pair).core.sctp.client s (rtc_at at pair).core.channels.rows band ((owned_at at (settled.peers at)).openings s opening)

  pub settled_parted : IsSettledPair past pair → (at : Side) → OpenNoneBoth (rtc_at at pair) (rtc_at (other_side at) pair)
  settled_parted settled at = λ s band here there.
      never_both s (rtc_at at pair) (rtc_at (other_side at) pair) (settled_own settled at) (settled_own settled (other_side at))
      (settled_sides draws stun start past pair go ran new settled at) band here there

  -- no opening waits for its answer; a channel that was confirmed is open at both sides, or refused alone
  module _ (settled : IsSettledPair past pair) where
    pub settled_waits_none : (at : Side) → WaitsNone (rtc_at at pair) (rtc_at (other_side at) pair)
    settled_waits_none at = λ s band channels waits.
        settled_parted settled at s channels (waits_opening s (rtc_at at pair).core.sctp.entries waits)
        (refused_here s (rtc_at (other_side at) pair) (settled_answered draws stun start past pair go ran new settled at s band waits).0)

    pub settled_alone : (at : Side) → channels_wake plain_meaning (rtc_at at pair).core.channels (rtc_at at pair).core.sctp ≡ None
        → AreConfirmedAlone draws (λ c. WasConfirmed (plain_over draws) stun start at c past pair ran)
        (uses_of (plain_over draws) stun start at past pair ran) (rtc_at at pair)
        (uses_of (plain_over draws) stun start (other_side at) past pair ran) (rtc_at (other_side at) pair)
    settled_alone at idle = λ c s confirmed under band channels stand.
        by c s channels (settled_refused draws stun start past pair go ran new settled at idle c s confirmed under band stand)
      where
        by : (c s : ℕ) → AreInBandChannels s (rtc_at at pair) (rtc_at (other_side at) pair)
            → IsOpenAtBoth draws c (uses_of (plain_over draws) stun start at past pair ran) (rtc_at at pair)
            (uses_of (plain_over draws) stun start (other_side at) past pair ran) (rtc_at (other_side at) pair)
            ⊎ (IsRefusedAlone s (rtc_at at pair) (rtc_at (other_side at) pair) ⊎ AreBothOpening s (rtc_at at pair) (rtc_at (other_side at) pair))
            → IsOpenAtBoth draws c (uses_of (plain_over draws) stun start at past pair ran) (rtc_at at pair)
            (uses_of (plain_over draws) stun start (other_side at) past pair ran) (rtc_at (other_side at) pair)
            ⊎ IsRefusedAlone s (rtc_at at pair) (rtc_at (other_side at) pair)
        by c s channels (inl opened) = inl opened
        by c s channels (inr (inl alone)) = inr alone
        by c s channels (inr (inr both)) =
            absurd
            (settled_parted settled at s channels (waits_opening s (rtc_at at pair).core.sctp.entries both.0)
            (refused_here s (rtc_at (other_side at) pair) both.1))
