-- In a run of new pairs by steps of a side that settle no channel for one stream by other means than messages none of that side is so, nor an entry, unless
-- the peer is closed.
use Rattle.std.proofs.Common.{◌≡◌, ◌⊎◌, inl, inr, ◌∙◌, ◌++◌, ℕ, Bool, true, List, [], ◌∷◌, Option, Some, None, refl, sym, subst}
use Rattle.rtc_parts.specs.Draws.{Draws}
use Rattle.rtc_plain_media.specs.declared.plain_media_event.PlainMediaEvent.{PlainMediaEvent}
use Rattle.rtc_sctp_entries.specs.declared.stream_entry.StreamEntry.{StreamEntry}
use Rattle.rtc_channels.specs.Channels.{Channels, no_channels}
use Rattle.rtc_peer_core.specs.Meanings.{Meanings, PartsLaws}
use Rattle.rtc_peer_transport.specs.declared.polled_peer.PolledPeer.{PolledPeer}
use Rattle.rtc_run_history.specs.declared.op.Op.{Op}
use Rattle.rtc_run_history.specs.declared.op.Op.TheVariants.{AddMedia, SetDirection, StopMedia, AddChannel, IceRestart}
use Rattle.rtc_peer_core.specs.declared.phase.Phase.TheVariants.{Closed}
use Rattle.rtc_run_history.specs.declared.side.Side.{Side}
use Rattle.rtc_run_history.specs.declared.side.Side.TheVariants.{Left, Right}
use Rattle.rtc_run_history.specs.declared.step.Step.{Step}
use Rattle.rtc_run_history.specs.declared.step.Step.TheVariants.{Negotiate, AcceptOffer, AcceptAnswer, Time, Datagram, Poll, Drain}
use Rattle.rtc_run_history.specs.declared.step.Step.TheVariants.{Write, CloseChannel, Close, Rollback, ForeignOffer, ForeignAnswer, Raw}
use Rattle.rtc_run_history.specs.Native.{are_native, is_native}
use Rattle.rtc_run_history.specs.PairState.{addr_at, PairState, rtc_at}
use Rattle.rtc_run_history.specs.Past.{Entry, steps_of}
use Rattle.rtc_run_history.specs.Runs.{Reached}
use Rattle.rtc_run_history.specs.Sides.{other_side, side_of}
use Rattle.rtc_run_laws.specs.NewPairs.{IsNewPair, IsNewPeer}
use Rattle.rtc_run_laws.specs.PlainPairs.{PlainPair, PlainPolled, plain_over}
use Rattle.rtc_run_laws.proofs.StepsExchange.{plain_over_laws}
use Rattle.rtc_run_laws.specs.InBandSteps.{AreInBandOps, AreInBandSteps, AreInBandStepsAt, IsInBandStep}
use Rattle.rtc_run_laws.proofs.StreamSteps.{AreInBandOpsOf, AreInBandStepsOf, IsInBandStepOf}
use Rattle.rtc_run_laws.specs.SettledPairs.{AreInBandChannels, AreInBandStreams, IsInBandStream, IsSettledPair}
use Rattle.rtc_run_laws.proofs.BandedRows.{banded_in_band}
use Rattle.rtc_run_laws.proofs.BandedMoments.{IsBanded}
use Rattle.rtc_run_laws.proofs.BandedInputs.{KeepsBand, SideBanded}
use Rattle.rtc_run_laws.proofs.ClosedUses.{closed_or_open}
use Rattle.rtc_run_laws.proofs.BandedSteps.{acts_band}
use Rattle.rtc_run_laws.proofs.ConfirmedRuns.{SideSound}
use Rattle.rtc_run_laws.proofs.ConfirmedSides.{new_sound}
use Rattle.rtc_run_laws.proofs.OpenSides.{not_closed}
use Rattle.rtc_run_laws.proofs.OwnTokens.{run_tokens}
use Rattle.rtc_run_laws.proofs.StepRows.{acts_rows, changes_closed}
use Rattle.rtc_run_laws.proofs.StandingEntries.{AreBanded}
use Rattle.rtc_run_laws.proofs.NativeSteps.{native_entry}
use Rattle.rtc_run_laws.proofs.NewPeers.{new_channels, new_entries}

-- the last of the steps, and those before
pub first_steps : (steps : List Step) (step : Step) → AreInBandSteps (steps ++ step ∷ []) → AreInBandSteps steps × IsInBandStep step
first_steps [] step h = (tt, h.0)
first_steps (first ∷ steps) step h = let rest = first_steps steps step h.1 in ((h.0, rest.0), rest.1)

pub first_steps_of : (s : ℕ) (steps : List Step) (step : Step) → AreInBandStepsOf s (steps ++ step ∷ [])
    → AreInBandStepsOf s steps × IsInBandStepOf s step
first_steps_of s [] step h = (tt, h.0)
first_steps_of s (first ∷ steps) step h = let rest = first_steps_of s steps step h.1 in ((h.0, rest.0), rest.1)

-- steps of one side that settle no channel for a stream by other means
abbrev pub AreOwnStepsOf : (stream : ℕ) → Side → List Step → Type 0
AreOwnStepsOf s at [] = Unit {0}
AreOwnStepsOf s at (step ∷ steps) = (side_of step ≡ at → IsInBandStepOf s step) × AreOwnStepsOf s at steps

first_own : (s : ℕ) (at : Side) (steps : List Step) (step : Step) → AreOwnStepsOf s at (steps ++ step ∷ [])
    → AreOwnStepsOf s at steps × (side_of step ≡ at → IsInBandStepOf s step)
first_own s at [] step h = (tt, h.0)
first_own s at (first ∷ steps) step h = let rest = first_own s at steps step h.1 in ((h.0, rest.0), rest.1)

none_some : (s : ℕ) (o : Option ℕ) → o ≡ None → o ≡ Some s → ⊥
none_some s o none is = absurd (let clash : None ≡ Some s = sym none ∙ is in cc)

ops_of : (s : ℕ) (ops : List Op) → AreInBandOps ops → AreInBandOpsOf s ops
ops_of s [] h = tt
ops_of s (AddMedia kind dir ∷ ops) h = ops_of s ops h
ops_of s (SetDirection place dir ∷ ops) h = ops_of s ops h
ops_of s (StopMedia place ∷ ops) h = ops_of s ops h
ops_of s (AddChannel config ∷ ops) h = (none_some s config.negotiated h.0, ops_of s ops h.1)
ops_of s (IceRestart keep ∷ ops) h = ops_of s ops h

step_of : (s : ℕ) (step : Step) → IsInBandStep step → IsInBandStepOf s step
step_of s (Negotiate at ops apply) h = ops_of s ops h
step_of s (AcceptOffer at offer) h = tt
step_of s (AcceptAnswer at token answer) h = tt
step_of s (Time at now) h = tt
step_of s (Datagram at packet now) h = tt
step_of s (Poll at) h = tt
step_of s (Drain at) h = tt
step_of s (Write at channel binary bytes) h = tt
step_of s (CloseChannel at channel) h = tt
step_of s (Close at) h = tt
step_of s (Rollback at token) h = tt
step_of s (ForeignOffer at text) h = tt
step_of s (ForeignAnswer at token text) h = tt
step_of s (Raw at bytes now) h = tt

-- steps that settle none are so for each stream
pub steps_of_stream : (s : ℕ) (steps : List Step) → AreInBandSteps steps → AreInBandStepsOf s steps
steps_of_stream s [] h = tt
steps_of_stream s (step ∷ steps) h = (step_of s step h.0, steps_of_stream s steps h.1)

pub own_steps : (s : ℕ) (at : Side) (steps : List Step) → AreInBandStepsOf s steps → AreOwnStepsOf s at steps
own_steps s at [] h = tt
own_steps s at (step ∷ steps) h = ((λ own. h.0), own_steps s at steps h.1)

pub own_steps_at : (s : ℕ) (at : Side) (steps : List Step) → AreInBandStepsAt at steps → AreOwnStepsOf s at steps
own_steps_at s at [] h = tt
own_steps_at s at (step ∷ steps) h = ((λ own. step_of s step (h.0 own)), own_steps_at s at steps h.1)

module _ (s : ℕ) {I D S M E X T W N : Type 0} (m : Meanings I D S M E X T W N) (laws : PartsLaws m) where
  kept_side : (p q : PolledPeer I D S M N) → q ≡ p → SideBanded s m p → SideBanded s m q
  kept_side p q is k = subst (λ (x : PolledPeer I D S M N). SideBanded s m x) (sym is) k

  -- the side that acts, and the other one
  band_at : (own at : Side) (between pair : PairState I D S M N) → rtc_at (other_side own) pair ≡ rtc_at (other_side own) between
      → (own ≡ at → KeepsBand s m (rtc_at own between) (rtc_at own pair)) → SideBanded s m (rtc_at at between) → SideBanded s m (rtc_at at pair)
  band_at Left Left between pair same acts k = acts refl k
  band_at Left Right between pair same acts k = kept_side (rtc_at Right between) (rtc_at Right pair) same k
  band_at Right Left between pair same acts k = kept_side (rtc_at Left between) (rtc_at Left pair) same k
  band_at Right Right between pair same acts k = acts refl k

  pub run_banded : (stun : List ℕ → Bool) (start : PairState I D S M N) → ((at : Side) → SideSound m laws (rtc_at at start)) → start.sdps ≡ [] → (at : Side)
      → SideBanded s m (rtc_at at start) → (past : List (Entry E)) (pair : PairState I D S M N) → are_native (steps_of past) ≡ true
      → Reached m stun start past pair → AreOwnStepsOf s at (steps_of past) → SideBanded s m (rtc_at at pair)
  run_banded stun start sound none at h [] pair go ran steps = subst (λ (x : PairState I D S M N). SideBanded s m (rtc_at at x)) (sym ran) h
  run_banded stun start sound none at h (entry ∷ past) pair go ran steps =
      band_at own at ran.0 pair ran.2.performs.other (λ same. acted (both.1 same) (closed_or_open (rtc_at own ran.0).core.phase))
      (run_banded stun start sound none at h past ran.0 native.0 ran.1 both.0)
    where
      native : (are_native (steps_of past) ≡ true) × (is_native entry.step ≡ true)
      native = native_entry entry past go

      both : AreOwnStepsOf s at (steps_of past) × (side_of entry.step ≡ at → IsInBandStepOf s entry.step)
      both = first_own s at (steps_of past) entry.step steps

      own : Side
      own = side_of entry.step

      client : Bool
      client = (rtc_at own ran.0).core.sctp.client

      acted : IsInBandStepOf s entry.step → ((rtc_at own ran.0).core.phase ≡ Closed) ⊎ ((rtc_at own ran.0).core.phase ≡ Closed → ⊥)
          → KeepsBand s m (rtc_at own ran.0) (rtc_at own pair)
      acted band (inl closed) = λ k.
          inl
          (changes_closed m (rtc_at own ran.0) (rtc_at own pair)
          (acts_rows m laws stun (addr_at (other_side own) ran.0) (addr_at own ran.0) entry.step (rtc_at own ran.0) ran.0.sdps ran.0.packets entry.outcome
          entry.table (rtc_at own pair) pair.sdps pair.packets native.1 ran.2.performs.acts)
          closed)
      acted band (inr lives) =
          acts_band s m laws client stun (addr_at (other_side own) ran.0) (addr_at own ran.0) entry.step (rtc_at own ran.0) ran.0.sdps ran.0.packets
          entry.outcome entry.table (rtc_at own pair) pair.sdps pair.packets native.1 band
          (run_tokens m laws client stun start past ran.0 native.0 ran.1 sound none own (record { lives = lives; side = λ e. refl }))
          ran.2.performs.acts

-- such entries are of no stream that was settled by other means
banded_stream : (s : ℕ) (es : List StreamEntry) → AreBanded s es → IsInBandStream s es
banded_stream s [] h = tt
banded_stream s (e ∷ es) h = (h.0, banded_stream s es h.1)

-- ---- new peers, and settled pairs

module _ {N : Type 0} (draws : Draws N) where
  new_banded : (s : ℕ) (p : PlainPolled N) → IsNewPeer draws p.core → IsBanded s p.core.channels p.core.sctp.entries
  new_banded s p h =
      subst (λ (x : Channels). IsBanded s x p.core.sctp.entries) (sym (new_channels draws p h))
      (subst (λ (l : List StreamEntry). IsBanded s no_channels l) (sym (new_entries draws p h))
      (record { rows = tt; entries = tt; numbers = (tt, tt, tt) }))

  module _ (stun : List ℕ → Bool) (start : PlainPair N) (new : IsNewPair draws start) (none : start.sdps ≡ []) (past : List (Entry PlainMediaEvent))
      (pair : PlainPair N) (go : are_native (steps_of past) ≡ true) (ran : Reached (plain_over draws) stun start past pair) where
    sound_start : (at : Side) → SideSound (plain_over draws) (plain_over_laws draws) (rtc_at at start)
    sound_start Left = inr (new_sound draws start.left new.left)
    sound_start Right = inr (new_sound draws start.right new.right)

    band_start : (s : ℕ) (at : Side) → SideBanded s (plain_over draws) (rtc_at at start)
    band_start s Left = inr (new_banded s start.left new.left)
    band_start s Right = inr (new_banded s start.right new.right)

    pub own_banded : (s : ℕ) (at : Side) → AreOwnStepsOf s at (steps_of past) → SideBanded s (plain_over draws) (rtc_at at pair)
    own_banded s at steps =
        run_banded s (plain_over draws) (plain_over_laws draws) stun start sound_start none at (band_start s at) past pair go ran steps

    pub side_banded : (s : ℕ) (at : Side) → AreInBandStepsOf s (steps_of past) → SideBanded s (plain_over draws) (rtc_at at pair)
    side_banded s at steps = own_banded s at (own_steps s at (steps_of past) steps)

  module _ (stun : List ℕ → Bool) (start : PlainPair N) (past : List (Entry PlainMediaEvent)) (pair : PlainPair N)
      (go : are_native (steps_of past) ≡ true) (ran : Reached (plain_over draws) stun start past pair) (new : IsNewPair draws start) (none : start.sdps ≡ [])
      (steps : AreInBandSteps (steps_of past)) (settled : IsSettledPair past pair) where
    settled_band : (at : Side) (s : ℕ) → IsBanded s (rtc_at at pair).core.channels (rtc_at at pair).core.sctp.entries
    settled_band at s = by (side_banded stun start new none past pair go ran s at (steps_of_stream s (steps_of past) steps))
      where
        by : SideBanded s (plain_over draws) (rtc_at at pair) → IsBanded s (rtc_at at pair).core.channels (rtc_at at pair).core.sctp.entries
        by (inl closed) = absurd (not_closed draws (rtc_at at pair) (settled.peers at).alive closed)
        by (inr band) = band

    pub settled_in_band : (at : Side) (s : ℕ)
        → AreInBandStreams s (rtc_at at pair) (rtc_at (other_side at) pair) × AreInBandChannels s (rtc_at at pair) (rtc_at (other_side at) pair)
    settled_in_band at s = (
      record {
        here = banded_stream s (rtc_at at pair).core.sctp.entries (settled_band at s).entries;
        there = banded_stream s (rtc_at (other_side at) pair).core.sctp.entries (settled_band (other_side at) s).entries;
      },
      record {
        here = banded_in_band s (rtc_at at pair).core.channels.rows (settled_band at s).rows;
        there = banded_in_band s (rtc_at (other_side at) pair).core.channels.rows (settled_band (other_side at) s).rows;
      },
    )
