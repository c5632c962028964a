-- A side that was drained: since its last input a poll of it ended in a timeout.
use Rattle.std.specs.Prelude.{◌&&◌, Bool, true, false, List, [], ◌∷◌}
use Rattle.rtc_run_history.specs.declared.outcome.Outcome.{Outcome}
use Rattle.rtc_run_history.specs.declared.outcome.Outcome.TheVariants.{Polled}
use Rattle.rtc_run_history.specs.declared.shown.Shown.{Shown}
use Rattle.rtc_run_history.specs.declared.shown.Shown.TheVariants.{Timeout, Packet, Event as EventShown}
use Rattle.rtc_run_history.specs.declared.side.Side.{Side}
use Rattle.rtc_run_history.specs.declared.step.Step.{Step}
use Rattle.rtc_run_history.specs.declared.step.Step.TheVariants.{Time, Datagram, Poll, Drain, Raw}
use Rattle.rtc_run_history.specs.Past.{Entry}
use Rattle.rtc_run_history.specs.Sides.{same_side, side_of}
use Rattle.rtc_run_laws.specs.CalledSteps.{calls_peer}

-- behind the outputs of polls: a timeout is the last of them
abbrev pub SideDrainedByOutputs : {E : Type 0} → List (Shown E) → (earlier : Type 0) → Type 0
SideDrainedByOutputs [] earlier = earlier
SideDrainedByOutputs (Timeout moment reason ∷ outputs) earlier = Unit {0}
SideDrainedByOutputs (Packet number len ∷ outputs) earlier = SideDrainedByOutputs outputs earlier
SideDrainedByOutputs (EventShown event ∷ outputs) earlier = SideDrainedByOutputs outputs earlier

abbrev pub SideDrainedByOutcome : {E : Type 0} → Outcome E → (earlier : Type 0) → Type 0
SideDrainedByOutcome (Polled outputs end) earlier = SideDrainedByOutputs outputs earlier
SideDrainedByOutcome outcome earlier = earlier

-- after a step of the side: what is received is to be drained
abbrev pub SideDrainedByStep : {E : Type 0} → Step → Outcome E → (earlier : Type 0) → Type 0
SideDrainedByStep (Time at now) outcome earlier = ⊥
SideDrainedByStep (Datagram at packet now) outcome earlier = ⊥
SideDrainedByStep (Raw at bytes now) outcome earlier = ⊥
SideDrainedByStep (Poll at) outcome earlier = SideDrainedByOutcome outcome earlier
SideDrainedByStep (Drain at) outcome earlier = SideDrainedByOutcome outcome earlier
SideDrainedByStep step outcome earlier = earlier

abbrev pub SideDrainedByEntry : {E : Type 0} → (called : Bool) → Step → Outcome E → (earlier : Type 0) → Type 0
SideDrainedByEntry true step outcome earlier = SideDrainedByStep step outcome earlier
SideDrainedByEntry false step outcome earlier = earlier

-- A poll of a side ended in a timeout, and it got no input since then. A step that makes no call changes nothing of this.
abbrev pub IsSideDrained : {E : Type 0} → (at : Side) (past : List (Entry E)) → Type 0
IsSideDrained at [] = ⊥
IsSideDrained at (entry ∷ past) =
    SideDrainedByEntry (same_side (side_of entry.step) at && calls_peer entry.outcome) entry.step entry.outcome (IsSideDrained at past)
