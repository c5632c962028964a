-- That a drain shows at most as many outputs as its peer weighs before it.
use Rattle.std.specs.Prelude.{ℕ, ◌≡◌, ◌≤◌, Bool, List, [], ◌∷◌, length}
use Rattle.rtc_peer_core.specs.Meanings.{Meanings}
use Rattle.rtc_peer_transport.specs.declared.polled_peer.PolledPeer.{PolledPeer}
use Rattle.rtc_peer_laws.specs.Weight.{HasNoThreshold, IsHandshakeTold, IsMoment, weight}
use Rattle.rtc_run_history.specs.declared.side.Side.{Side}
use Rattle.rtc_run_history.specs.declared.step.Step.{Step}
use Rattle.rtc_run_history.specs.declared.step.Step.TheVariants.{Time, Datagram, Drain}
use Rattle.rtc_run_history.specs.declared.step.Step.TheVariants.{Raw}
use Rattle.rtc_run_history.specs.declared.outcome.Outcome.{Outcome}
use Rattle.rtc_run_history.specs.declared.outcome.Outcome.TheVariants.{Polled}
use Rattle.rtc_run_history.specs.PairState.{PairState, rtc_at}
use Rattle.rtc_run_history.specs.Past.{Entry}
use Rattle.rtc_run_history.specs.Performs.{Enters}
use Rattle.rtc_run_history.specs.Runs.{Went}

-- the moment of a step, if it has one, is a moment
abbrev pub HasMoment : Step → Type 0
HasMoment (Time at now) = IsMoment now
HasMoment (Datagram at packet now) = IsMoment now
HasMoment (Raw at bytes now) = IsMoment now
HasMoment step = Unit {0}

abbrev pub HaveMoments : List Step → Type 0
HaveMoments [] = Unit {0}
HaveMoments (step ∷ steps) = HasMoment step × HaveMoments steps

module _ {I D S M E X T W N : Type 0} (m : Meanings I D S M E X T W N) where
  -- no stream of a peer has a threshold, and the end of its handshake was reported, if it is finished
  abbrev pub IsUndriven : PolledPeer I D S M N → Type 0
  IsUndriven p = HasNoThreshold m p.core × IsHandshakeTold p

  -- so it is of both peers
  abbrev pub AreUndriven : PairState I D S M N → Type 0
  AreUndriven pair = (at : Side) → IsUndriven (rtc_at at pair)

  -- the outputs that a drain shows are at most as many as the weight of its peer before it
  abbrev pub ShowsWithin : PairState I D S M N → Step → Outcome E → Type 0
  ShowsWithin between (Drain at) (Polled outputs end) = length outputs ≤ weight m (rtc_at at between)
  ShowsWithin between step outcome = Unit {0}

  -- a past leads from a pair to another, and each drain of it is within the weight of its peer
  abbrev pub DrainsWithin : (stun : List ℕ → Bool) → PairState I D S M N → List (Entry E) → PairState I D S M N → Type 0
  DrainsWithin stun start past pair =
      Went (λ earlier between entry after. Enters m stun between entry after × ShowsWithin between entry.step entry.outcome)
      (λ fresh. fresh ≡ start) past pair
