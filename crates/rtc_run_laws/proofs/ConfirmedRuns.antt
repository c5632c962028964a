-- A channel that was confirmed in a run is opened, or its row went.
use Rattle.std.proofs.Common.{◌≡◌, ◌⊎◌, inl, inr, ℕ, Bool, true, List, [], ◌∷◌, sym, subst}
use Rattle.rtc_peer_core.specs.declared.phase.Phase.TheVariants.{Closed}
use Rattle.rtc_peer_core.specs.Meanings.{Meanings, PartsLaws}
use Rattle.rtc_peer_transport.specs.declared.polled_peer.PolledPeer.{PolledPeer}
use Rattle.rtc_peer_laws.specs.RowsChanged.{RowsChanged}
use Rattle.rtc_run_history.specs.declared.side.Side.{Side}
use Rattle.rtc_run_history.specs.Native.{are_native}
use Rattle.rtc_run_history.specs.PairState.{addr_at, PairState, rtc_at}
use Rattle.rtc_run_history.specs.Past.{Entry, steps_of}
use Rattle.rtc_run_history.specs.Runs.{Reached}
use Rattle.rtc_run_history.specs.Sides.{side_of, other_side}
use Rattle.rtc_run_laws.specs.ConfirmedChannels.{HasConfig, WasConfirmed}
use Rattle.rtc_run_laws.proofs.BegunRows.{AreSound, Awaits, IsBegun}
use Rattle.rtc_run_laws.proofs.CancelledSides.{begun_cancelled, sound_cancelled}
use Rattle.rtc_run_laws.proofs.OpenedRows.{changed_begun}
use Rattle.rtc_run_laws.proofs.StepRows.{StepChanges, acts_rows, changes_closed, rows_at}
use Rattle.rtc_run_laws.proofs.NativeSteps.{native_entry}

module _ {I D S M E X T W N : Type 0} (m : Meanings I D S M E X T W N) (laws : PartsLaws m) where
  -- unless the peer is closed
  abbrev pub SideSound : PolledPeer I D S M N → Type 0
  SideSound p = (p.core.phase ≡ Closed) ⊎ AreSound p.core.channels p.core.sctp

  abbrev pub SideBegun : (channel : ℕ) → PolledPeer I D S M N → Type 0
  SideBegun c p = (p.core.phase ≡ Closed) ⊎ (AreSound p.core.channels p.core.sctp × IsBegun c p.core.channels p.core.sctp)

  sound_on : (p q : PolledPeer I D S M N) → StepChanges m p q → SideSound p → SideSound q
  sound_on p q h (inl closed) = inl (changes_closed m p q h closed)
  sound_on p q (inr h) (inr sound) =
      inr (sound_cancelled h.channels p.core.channels q.core.channels p.core.sctp q.core.sctp h.cancelled h.sctp sound)
  sound_on p q (inl h) (inr sound) = by h.changed
    where
      by : (q.core.phase ≡ Closed) ⊎ RowsChanged m.association p.core.channels p.core.sctp q.core.channels q.core.sctp → SideSound q
      by (inl closed) = inl closed
      by (inr changed) =
          inr ((changed_begun m.association laws.association 0 p.core.channels p.core.sctp q.core.channels q.core.sctp changed).sound sound)

  begun_on : (c : ℕ) (p q : PolledPeer I D S M N) → StepChanges m p q → SideBegun c p → SideBegun c q
  begun_on c p q h (inl closed) = inl (changes_closed m p q h closed)
  begun_on c p q (inr h) (inr begun) =
      inr (
        sound_cancelled h.channels p.core.channels q.core.channels p.core.sctp q.core.sctp h.cancelled h.sctp begun.0,
        begun_cancelled c h.channels p.core.channels q.core.channels p.core.sctp q.core.sctp h.cancelled h.sctp begun.0.numbers begun.1,
      )
  begun_on c p q (inl h) (inr begun) = by h.changed
    where
      by : (q.core.phase ≡ Closed) ⊎ RowsChanged m.association p.core.channels p.core.sctp q.core.channels q.core.sctp → SideBegun c q
      by (inl closed) = inl closed
      by (inr changed) =
          let on = changed_begun m.association laws.association c p.core.channels p.core.sctp q.core.channels q.core.sctp changed in
          inr (on.sound begun.0, on.begun begun.0 begun.1)

  with_config : (c : ℕ) (p : PolledPeer I D S M N) → HasConfig c p.core.channels.rows → SideSound p → SideBegun c p
  with_config c p h (inl closed) = inl closed
  with_config c p h (inr sound) = inr (sound, Awaits h)

  module _ (stun : List ℕ → Bool) (start : PairState I D S M N) where
    -- the changes of each side by the last step
    pub last_rows : (entry : Entry E) (past : List (Entry E)) (pair : PairState I D S M N) → are_native (steps_of (entry ∷ past)) ≡ true
        → (ran : Reached m stun start (entry ∷ past) pair) (at : Side)
        → StepChanges m (rtc_at at ran.0) (rtc_at at pair)
    last_rows entry past pair go ran at =
        rows_at m (side_of entry.step) at ran.0 pair
        (acts_rows m laws stun (addr_at (other_side (side_of entry.step)) ran.0) (addr_at (side_of entry.step) ran.0) entry.step (rtc_at (side_of entry.step) ran.0) ran.0.sdps ran.0.packets entry.outcome entry.table
        (rtc_at (side_of entry.step) pair) pair.sdps pair.packets (native_entry entry past go).1 ran.2.performs.acts) ran.2.performs.other

    pub run_sound : (past : List (Entry E)) (pair : PairState I D S M N) → are_native (steps_of past) ≡ true → Reached m stun start past pair
        → ((at : Side) → SideSound (rtc_at at start)) → (at : Side) → SideSound (rtc_at at pair)
    run_sound [] pair go ran h at = subst (λ (x : PairState I D S M N). SideSound (rtc_at at x)) (sym ran) (h at)
    run_sound (entry ∷ past) pair go ran h at =
        sound_on (rtc_at at ran.0) (rtc_at at pair) (last_rows entry past pair go ran at) (run_sound past ran.0 (native_entry entry past go).0 ran.1 h at)

    pub run_begun : (past : List (Entry E)) (pair : PairState I D S M N) → are_native (steps_of past) ≡ true → (ran : Reached m stun start past pair)
        → ((at : Side) → SideSound (rtc_at at start)) → (at : Side) (c : ℕ) → WasConfirmed m stun start at c past pair ran
        → SideBegun c (rtc_at at pair)
    run_begun [] pair go ran h at c confirmed = with_config c (rtc_at at pair) confirmed (run_sound [] pair go ran h at)
    run_begun (entry ∷ past) pair go ran h at c (inl confirmed) =
        with_config c (rtc_at at pair) confirmed (run_sound (entry ∷ past) pair go ran h at)
    run_begun (entry ∷ past) pair go ran h at c (inr confirmed) =
        begun_on c (rtc_at at ran.0) (rtc_at at pair) (last_rows entry past pair go ran at) (run_begun past ran.0 (native_entry entry past go).0 ran.1 h at c confirmed)
