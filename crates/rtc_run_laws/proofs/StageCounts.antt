-- What stages of a poll do to the counts of faults, as they are joined.
use Rattle.std.proofs.Common.{◌≡◌, if◌then◌else◌, ◌∙◌, Bool, true, false, refl, ap}
use Rattle.rtc_parts.specs.declared.ice_event.IceEvent.{IceEvent}
use Rattle.rtc_parts.specs.declared.ice_event.IceEvent.TheVariants as events
use Rattle.rtc_peer_core.specs.Meanings.{Meanings}
use Rattle.rtc_peer_transport.specs.declared.met.Met.{Met}
use Rattle.rtc_peer_transport.specs.declared.met.Met.TheVariants.{Nothing, Again, Transmit, Event as MetEvent, Error}
use Rattle.rtc_peer_transport.specs.declared.polled_peer.PolledPeer.{PolledPeer}
use Rattle.rtc_peer_polling.specs.IceStages.{met_of_ice_event}
use Rattle.rtc_peer_transport.specs.Stages.{Stage, FollowedBy, Stopped, WentOn, RepeatsStage}
use Rattle.rtc_peer_transport.proofs.StageLemmas.{over_carries}
use Rattle.rtc_run_history.specs.Memory.{CountedPart, is_fault_of}
use Rattle.rtc_run_laws.proofs.GrowingCounts.{Later, Counts, SameParts, later_self, later_on, later_of, counts_on, still_counts}

-- whether what a stage met tells that this part failed
abbrev pub met_tells : {E : Type 0} → Met E → CountedPart → Bool
met_tells Nothing part = false
met_tells Again part = false
met_tells (Transmit transmit) part = false
met_tells (MetEvent event) part = false
met_tells (Error error) part = is_fault_of error part

pub event_untold : (E : Type 0) (event : IceEvent) (part : CountedPart) → met_tells {E = E} (met_of_ice_event event) part ≡ false
event_untold E events.IceRestart part = refl
event_untold E (events.StateChange state) part = refl
event_untold E (events.DiscoveredRecv proto source) part = refl
event_untold E (events.NominatedSend proto source destination) part = refl

pub over_untold : (E : Type 0) (due : Bool) (part : CountedPart) → met_tells {E = E} (if due then Again else Nothing) part ≡ false
over_untold E true part = refl
over_untold E false part = refl

module _ {I D S M E X T W N : Type 0} (m : Meanings I D S M E X T W N) where
  -- a stage counts what it tells, whatever is met
  abbrev pub CountsStage : Stage (PolledPeer I D S M N) E → Type 0
  CountsStage stage = (p : PolledPeer I D S M N) (r : Met E) (q : PolledPeer I D S M N) → stage p r q → Counts m p (met_tells r) q

  pub else_counts : (first rest : Stage (PolledPeer I D S M N) E) → CountsStage first → CountsStage rest → CountsStage (FollowedBy first rest)
  else_counts first rest one other p r q (Stopped met stage) = one p r q stage
  else_counts first rest one other p r q (WentOn between stage after) =
      counts_on m p between q (met_tells r) (later_of m p (met_tells {E = E} Nothing) between (one p Nothing between stage)) (other between r q after)

  pub repeats_count : (stage : Stage (PolledPeer I D S M N) E) → CountsStage stage → CountsStage (RepeatsStage stage)
  repeats_count stage one p r q h =
      counts_on m p h.last q (met_tells r)
      (over_carries stage (Later m) (later_self m) (later_on m) (λ a b turn. later_of m a (met_tells {E = E} Again) b (one a Again b turn)) h.turns p h.last h.over)
      (one h.last r q h.ends)

  -- what was met tells no fault, and all parts stay
  pub still : (p n : PolledPeer I D S M N) (s r : Met E) (q : PolledPeer I D S M N) → ((part : CountedPart) → met_tells s part ≡ false) → r ≡ s → q ≡ n
      → SameParts m n p → Counts m p (met_tells r) q
  still p n s r q quiet met is same =
      still_counts m p n q (met_tells r) (λ part. ap (λ (x : Met E). met_tells x part) met ∙ quiet part) is same
