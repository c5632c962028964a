-- A side that rests was drained, and its peer is as a poll left it that ended in a timeout.
use Rattle.std.proofs.Common.{◌≡◌, ◌∷◌, ◌&&◌, ℕ, Bool, true, false, List, [], Option, Some, None, Ok, refl, sym, subst}
use Rattle.rtc_wire.specs.declared.addr.Addr.{Addr}
use Rattle.rtc_peer_core.specs.Meanings.{Meanings}
use Rattle.rtc_peer_transport.specs.declared.output.Output.TheVariants.{Timeout}
use Rattle.rtc_peer_transport.specs.declared.polled_peer.PolledPeer.{PolledPeer}
use Rattle.rtc_peer_polling.specs.Walk.{PollsPeer}
use Rattle.rtc_run_history.specs.declared.kept.Kept.{Kept}
use Rattle.rtc_run_history.specs.declared.outcome.Outcome.{Outcome}
use Rattle.rtc_run_history.specs.declared.outcome.Outcome.TheVariants.{Polled}
use Rattle.rtc_run_history.specs.declared.poll_end.PollEnd.{PollEnd}
use Rattle.rtc_run_history.specs.declared.poll_end.PollEnd.TheVariants.{Ended}
use Rattle.rtc_run_history.specs.declared.sent_packet.SentPacket.{SentPacket}
use Rattle.rtc_run_history.specs.declared.shown.Shown.{Shown}
use Rattle.rtc_run_history.specs.declared.shown.Shown.TheVariants.{Timeout as TimeoutShown, Packet, Event as EventShown}
use Rattle.rtc_run_history.specs.declared.side.Side.{Side}
use Rattle.rtc_run_history.specs.declared.side.Side.TheVariants.{Left, Right}
use Rattle.rtc_run_history.specs.declared.step.Step.{Step}
use Rattle.rtc_run_history.specs.declared.step.Step.TheVariants.{Poll, Drain}
use Rattle.rtc_run_history.specs.declared.table.Table.{Table}
use Rattle.rtc_run_history.specs.PairState.{addr_at, PairState, rtc_at}
use Rattle.rtc_run_history.specs.Past.{Entry}
use Rattle.rtc_run_history.specs.Performs.{Acts, DrainsOn, DrainsPeer, PollsOnce, StepPollsPeer}
use Rattle.rtc_run_history.specs.Runs.{Reached}
use Rattle.rtc_run_history.specs.Sides.{other_side, same_side, side_of}
use Rattle.rtc_run_laws.specs.CalledSteps.{calls_peer}
use Rattle.rtc_run_laws.proofs.UncalledSteps.{uncalled_same}
use Rattle.rtc_run_laws.specs.RestingPasts.{EndInTimeout, IsResting, RestsByEntry, RestsByOutcome, RestsByStep, RestsUntil}
use Rattle.rtc_run_laws.specs.SideDrains.{IsSideDrained, SideDrainedByEntry, SideDrainedByOutcome, SideDrainedByOutputs, SideDrainedByStep}

module _ {I D S M E X T W N : Type 0} (m : Meanings I D S M E X T W N) (is_so : ℕ → Type 0) where
  -- a poll that ended in a timeout left the peer so
  pub record PolledLast (q : PolledPeer I D S M N) : Type 0 where
    pub before : PolledPeer I D S M N
    pub moment : ℕ
    pub polled : PollsPeer m before (Ok (Timeout moment)) q
    pub moment_is : is_so moment

  once_last : (at : Side) (p : PolledPeer I D S M N) (packets : List SentPacket) (outputs : List (Shown E)) (end : PollEnd) (q : PolledPeer I D S M N)
      (packets' : List SentPacket) → PollsOnce m at p packets outputs end q packets' → EndInTimeout is_so outputs → PolledLast q
  once_last at p packets (TimeoutShown moment reason ∷ []) Ended q packets' h e = record { before = p; moment = moment; polled = h.0; moment_is = e }
  once_last at p packets (Packet number len ∷ []) Ended q packets' h e = absurd e
  once_last at p packets (EventShown event ∷ []) Ended q packets' h e = absurd e
  once_last at p packets [] end q packets' h e = absurd e
  once_last at p packets outputs end q packets' h e = absurd h

  drains_last : (at : Side) (p : PolledPeer I D S M N) (packets : List SentPacket) (outputs : List (Shown E)) (end : PollEnd) (q : PolledPeer I D S M N)
      (packets' : List SentPacket) → DrainsOn m at p packets outputs end q packets' → EndInTimeout is_so outputs → PolledLast q
  drains_last at p packets [] end q packets' h e = absurd e
  drains_last at p packets (TimeoutShown moment reason ∷ []) Ended q packets' h e = record { before = p; moment = moment; polled = h.0; moment_is = e }
  drains_last at p packets (TimeoutShown moment reason ∷ outputs) end q packets' h e = absurd h
  drains_last at p packets (Packet number len ∷ outputs) end q packets' h e = drains_last at h.0 h.1 outputs end q packets' h.3 e
  drains_last at p packets (EventShown event ∷ outputs) end q packets' h e = drains_last at h.0 h.1 outputs end q packets' h.3 e

  drain_last : (at : Side) (p : PolledPeer I D S M N) (packets : List SentPacket) (outputs : List (Shown E)) (end : PollEnd) (q : PolledPeer I D S M N)
      (packets' : List SentPacket) → DrainsPeer m at p packets outputs end q packets' → EndInTimeout is_so outputs → PolledLast q
  drain_last at p packets [] end q packets' h e = absurd e
  drain_last at p packets (shown ∷ outputs) end q packets' h e = drains_last at p packets (shown ∷ outputs) end q packets' h e

  step_last : (polls : List SentPacket → List (Shown E) → PollEnd → PolledPeer I D S M N → List SentPacket → Type 0) (old : PolledPeer I D S M N)
      (packets : List SentPacket) (outcome : Outcome E) (table : Option Table) (new : PolledPeer I D S M N) (packets' : List SentPacket)
      → ((outputs : List (Shown E)) (end : PollEnd) → polls packets outputs end new packets' → EndInTimeout is_so outputs → PolledLast new)
      → StepPollsPeer m polls old packets outcome table new packets' → RestsByOutcome is_so outcome → PolledLast new
  step_last polls old packets (Polled outputs end) (Some table) new packets' last h e = last outputs end h.0 e
  step_last polls old packets (Polled outputs end) None new packets' last h e = absurd h
  step_last polls old packets outcome table new packets' last h e = absurd e

  acts_last : (stun : List ℕ → Bool) (other own : Addr) (step : Step) (old : PolledPeer I D S M N) (sdps : List Kept) (packets : List SentPacket) (outcome : Outcome E)
      (table : Option Table) (new : PolledPeer I D S M N) (sdps' : List Kept) (packets' : List SentPacket)
      → Acts m stun other own step old sdps packets outcome table new sdps' packets' → RestsByStep is_so step outcome → PolledLast new
  acts_last stun other own (Poll at) old sdps packets outcome table new sdps' packets' h e =
      step_last (PollsOnce m at old) old packets outcome table new packets' (λ outputs end k d. once_last at old packets outputs end new packets' k d) h.0 e
  acts_last stun other own (Drain at) old sdps packets outcome table new sdps' packets' h e =
      step_last (DrainsPeer m at old) old packets outcome table new packets' (λ outputs end k d. drain_last at old packets outputs end new packets' k d) h.0 e
  acts_last stun other own step old sdps packets outcome table new sdps' packets' h e = absurd e

  -- a step of this side called its peer, or left it
  last_here : (called : Bool) (step : Step) (outcome : Outcome E) (earlier : Type 0) (old new : PolledPeer I D S M N) → (RestsByStep is_so step outcome → PolledLast new)
      → (called ≡ false → new ≡ old) → (earlier → PolledLast old) → RestsByEntry is_so called step outcome earlier → PolledLast new
  last_here true step outcome earlier old new acts same before d = acts d
  last_here false step outcome earlier old new acts same before d = subst (λ (p : PolledPeer I D S M N). PolledLast p) (sym (same refl)) (before d)

  last_after : (at x : Side) (between pair : PairState I D S M N) (step : Step) (outcome : Outcome E) (earlier : Type 0)
      → rtc_at (other_side at) pair ≡ rtc_at (other_side at) between → (RestsByStep is_so step outcome → PolledLast (rtc_at at pair))
      → (calls_peer outcome ≡ false → rtc_at at pair ≡ rtc_at at between)
      → (earlier → PolledLast (rtc_at x between)) → RestsByEntry is_so (same_side at x && calls_peer outcome) step outcome earlier → PolledLast (rtc_at x pair)
  last_after Left Left between pair step outcome earlier other acts same before d =
      last_here (calls_peer outcome) step outcome earlier (rtc_at Left between) (rtc_at Left pair) acts same before d
  last_after Left Right between pair step outcome earlier other acts same before d = subst (λ (p : PolledPeer I D S M N). PolledLast p) (sym other) (before d)
  last_after Right Left between pair step outcome earlier other acts same before d = subst (λ (p : PolledPeer I D S M N). PolledLast p) (sym other) (before d)
  last_after Right Right between pair step outcome earlier other acts same before d =
      last_here (calls_peer outcome) step outcome earlier (rtc_at Right between) (rtc_at Right pair) acts same before d

  pub resting_last : (stun : List ℕ → Bool) (start : PairState I D S M N) (past : List (Entry E)) (pair : PairState I D S M N)
      → Reached m stun start past pair → (at : Side) → RestsUntil is_so at past → PolledLast (rtc_at at pair)
  resting_last stun start [] pair ran at d = absurd d
  resting_last stun start (entry ∷ past) pair ran at d =
      last_after (side_of entry.step) at ran.0 pair entry.step entry.outcome (RestsUntil is_so at past) ran.2.performs.other
      (λ e.
      acts_last stun (addr_at (other_side (side_of entry.step)) ran.0) (addr_at (side_of entry.step) ran.0) entry.step (rtc_at (side_of entry.step) ran.0) ran.0.sdps ran.0.packets entry.outcome entry.table
      (rtc_at (side_of entry.step) pair) pair.sdps pair.packets ran.2.performs.acts e)
      (λ none.
      uncalled_same m stun (addr_at (other_side (side_of entry.step)) ran.0) (addr_at (side_of entry.step) ran.0) entry.step (rtc_at (side_of entry.step) ran.0) ran.0.sdps ran.0.packets entry.outcome entry.table
      (rtc_at (side_of entry.step) pair) pair.sdps pair.packets ran.2.performs.acts none)
      (λ e. resting_last stun start past ran.0 ran.1 at e) d

-- ---- such a side was drained

outputs_drained : {E : Type 0} (outputs : List (Shown E)) (earlier : Type 0) → EndInTimeout (λ n. Unit {0}) outputs → SideDrainedByOutputs outputs earlier
outputs_drained [] earlier e = absurd e
outputs_drained (TimeoutShown moment reason ∷ outputs) earlier e = tt
outputs_drained (Packet number len ∷ outputs) earlier e = outputs_drained outputs earlier e
outputs_drained (EventShown event ∷ outputs) earlier e = outputs_drained outputs earlier e

outcome_drained : {E : Type 0} (outcome : Outcome E) (earlier : Type 0) → RestsByOutcome (λ n. Unit {0}) outcome → SideDrainedByOutcome outcome earlier
outcome_drained (Polled outputs end) earlier e = outputs_drained outputs earlier e
outcome_drained outcome earlier e = absurd e

step_drained : {E : Type 0} (step : Step) (outcome : Outcome E) (earlier : Type 0) → RestsByStep (λ n. Unit {0}) step outcome → SideDrainedByStep step outcome earlier
step_drained (Poll at) outcome earlier e = outcome_drained outcome earlier e
step_drained (Drain at) outcome earlier e = outcome_drained outcome earlier e
step_drained step outcome earlier e = absurd e

pub resting_drained : {E : Type 0} (at : Side) (past : List (Entry E)) → IsResting at past → IsSideDrained at past
resting_drained at [] d = absurd d
resting_drained at (entry ∷ past) d = by (same_side (side_of entry.step) at && calls_peer entry.outcome) d (λ e. resting_drained at past e)
  where
    by : (b : Bool) → RestsByEntry (λ n. Unit {0}) b entry.step entry.outcome (IsResting at past) → (IsResting at past → IsSideDrained at past)
        → SideDrainedByEntry b entry.step entry.outcome (IsSideDrained at past)
    by true e rest = step_drained entry.step entry.outcome (IsSideDrained at past) e
    by false e rest = rest e
