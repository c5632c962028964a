-- Sides that rest: they were polled up to a timeout, and received nothing since.
use Rattle.std.specs.Prelude.{◌&&◌, ℕ, Bool, true, false, List, [], ◌∷◌}
use Rattle.rtc_run_history.specs.declared.outcome.Outcome.{Outcome}
use Rattle.rtc_run_history.specs.declared.outcome.Outcome.TheVariants.{Polled}
use Rattle.rtc_run_history.specs.declared.shown.Shown.{Shown}
use Rattle.rtc_run_history.specs.declared.shown.Shown.TheVariants.{Timeout, Packet, Event}
use Rattle.rtc_run_history.specs.declared.side.Side.{Side}
use Rattle.rtc_run_history.specs.declared.step.Step.{Step}
use Rattle.rtc_run_history.specs.declared.step.Step.TheVariants.{Poll, Drain}
use Rattle.rtc_run_history.specs.Past.{Entry}
use Rattle.rtc_run_history.specs.Sides.{same_side, side_of}
use Rattle.rtc_run_laws.specs.CalledSteps.{calls_peer}

-- outputs end in a timeout at a moment that is so
abbrev pub EndInTimeout : {E : Type 0} → (ℕ → Type 0) → List (Shown E) → Type 0
EndInTimeout is_so [] = ⊥
EndInTimeout is_so (Timeout moment reason ∷ outputs) = is_so moment
EndInTimeout is_so (Packet number len ∷ outputs) = EndInTimeout is_so outputs
EndInTimeout is_so (Event event ∷ outputs) = EndInTimeout is_so outputs

abbrev pub RestsByOutcome : {E : Type 0} → (ℕ → Type 0) → Outcome E → Type 0
RestsByOutcome is_so (Polled outputs end) = EndInTimeout is_so outputs
RestsByOutcome is_so outcome = ⊥

-- a step polled a peer up to such a timeout
abbrev pub RestsByStep : {E : Type 0} → (ℕ → Type 0) → Step → Outcome E → Type 0
RestsByStep is_so (Poll at) outcome = RestsByOutcome is_so outcome
RestsByStep is_so (Drain at) outcome = RestsByOutcome is_so outcome
RestsByStep is_so step outcome = ⊥

abbrev pub RestsByEntry : {E : Type 0} → (ℕ → Type 0) → (called : Bool) → Step → Outcome E → (earlier : Type 0) → Type 0
RestsByEntry is_so true step outcome earlier = RestsByStep is_so step outcome
RestsByEntry is_so false step outcome earlier = earlier

-- a side was polled up to a timeout at a moment that is so, and got no input and no call since; a step that makes no call changes nothing
-- of this
abbrev pub RestsUntil : {E : Type 0} → (ℕ → Type 0) → Side → List (Entry E) → Type 0
RestsUntil is_so at [] = ⊥
RestsUntil is_so at (entry ∷ past) =
    RestsByEntry is_so (same_side (side_of entry.step) at && calls_peer entry.outcome) entry.step entry.outcome (RestsUntil is_so at past)

-- whatever the moment
abbrev pub IsResting : {E : Type 0} → Side → List (Entry E) → Type 0
IsResting at past = RestsUntil (λ moment. Unit {0}) at past
