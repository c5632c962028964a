-- In a run of new pairs: a side by whose steps no channel is settled by other means than messages announces each channel as opened in-band.
use Rattle.std.proofs.Common.{◌≡◌, ◌++◌, ◌∷◌, if◌then◌else◌, ℕ, Bool, true, false, true≢false, List, [], refl, sym, subst}
use Rattle.rtc_parts.specs.Draws.{Draws}
use Rattle.rtc_plain_media.specs.declared.plain_media_event.PlainMediaEvent.{PlainMediaEvent}
use Rattle.rtc_run_history.specs.declared.side.Side.{Side}
use Rattle.rtc_run_history.specs.declared.side.Side.TheVariants.{Left, Right}
use Rattle.rtc_run_history.specs.declared.step.Step.{Step}
use Rattle.rtc_run_history.specs.Native.{are_native}
use Rattle.rtc_run_history.specs.PairState.{addr_at, rtc_at}
use Rattle.rtc_run_history.specs.Past.{Entry, steps_of}
use Rattle.rtc_run_history.specs.Runs.{Reached}
use Rattle.rtc_run_history.specs.Sides.{other_side, same_side, side_of}
use Rattle.rtc_run_laws.specs.InBandSteps.{AreInBandStepsAt, IsInBandStep}
use Rattle.rtc_run_laws.specs.NewPairs.{IsNewPair}
use Rattle.rtc_run_laws.specs.PlainPairs.{PlainPair, plain_over}
use Rattle.rtc_run_laws.specs.UsesOfRuns.{uses_acted, uses_of}
use Rattle.rtc_run_laws.proofs.BandedRuns.{own_banded, own_steps_at}
use Rattle.rtc_run_laws.proofs.BandedUses.{IsInBandUse, IsPlainUse, SideInBand, acted_band}
use Rattle.rtc_run_laws.proofs.NativeSteps.{native_entry}
use Rattle.rtc_run_laws.proofs.StepsExchange.{plain_over_laws}
use Rattle.rtc_run_laws.proofs.UseLists.{AllUses, all_kept}

sides_meet : (at x : Side) → same_side at x ≡ true → at ≡ x
sides_meet Left Left e = refl
sides_meet Left Right e = absurd (true≢false (sym e))
sides_meet Right Left e = absurd (true≢false (sym e))
sides_meet Right Right e = refl

-- the last of the steps, and those before
first_own : (at : Side) (steps : List Step) (step : Step) → AreInBandStepsAt at (steps ++ step ∷ [])
    → AreInBandStepsAt at steps × (side_of step ≡ at → IsInBandStep step)
first_own at [] step h = (tt, h.0)
first_own at (first ∷ steps) step h = let rest = first_own at steps step h.1 in ((h.0, rest.0), rest.1)

module _ {N : Type 0} (draws : Draws N) (stun : List ℕ → Bool) (start : PlainPair N) (new : IsNewPair draws start) (none : start.sdps ≡ []) (at : Side) where
  run_own_plain : (past : List (Entry PlainMediaEvent)) (pair : PlainPair N) → are_native (steps_of past) ≡ true
      → (ran : Reached (plain_over draws) stun start past pair) → AreInBandStepsAt at (steps_of past)
      → AllUses IsPlainUse (uses_of (plain_over draws) stun start at past pair ran)
  run_own_plain [] pair go ran steps = tt
  run_own_plain (entry ∷ past) pair go ran steps =
      by (same_side (side_of entry.step) at) refl (run_own_plain past ran.0 (native_entry entry past go).0 ran.1 (first_own at (steps_of past) entry.step steps).0)
    where
      side : SideInBand (plain_over draws) (plain_over_laws draws) (rtc_at at ran.0)
      side s =
          own_banded draws stun start new none past ran.0 (native_entry entry past go).0 ran.1 s at
          (own_steps_at s at (steps_of past) (first_own at (steps_of past) entry.step steps).0)

      by : (b : Bool) → same_side (side_of entry.step) at ≡ b
          → AllUses IsPlainUse (uses_of (plain_over draws) stun start at past ran.0 ran.1)
          → AllUses IsPlainUse
          (if b
          then uses_acted (plain_over draws) stun (addr_at (other_side (side_of entry.step)) ran.0) (addr_at (side_of entry.step) ran.0) entry.step
          (rtc_at (side_of entry.step) ran.0) ran.0.sdps ran.0.packets entry.outcome entry.table
          (rtc_at (side_of entry.step) pair) pair.sdps pair.packets ran.2.performs.acts (uses_of (plain_over draws) stun start at past ran.0 ran.1)
          else uses_of (plain_over draws) stun start at past ran.0 ran.1)
      by true e h =
          acted_band (plain_over draws) (plain_over_laws draws) stun (addr_at (other_side (side_of entry.step)) ran.0)
          (addr_at (side_of entry.step) ran.0) entry.step (rtc_at (side_of entry.step) ran.0) ran.0.sdps ran.0.packets entry.outcome entry.table
          (rtc_at (side_of entry.step) pair) pair.sdps pair.packets ran.2.performs.acts (uses_of (plain_over draws) stun start at past ran.0 ran.1)
          (subst (λ (x : Side). SideInBand (plain_over draws) (plain_over_laws draws) (rtc_at x ran.0)) (sym (sides_meet (side_of entry.step) at e)) side) h
      by false e h = h

  pub run_own_in_band : (past : List (Entry PlainMediaEvent)) (pair : PlainPair N) → are_native (steps_of past) ≡ true
      → (ran : Reached (plain_over draws) stun start past pair) → AreInBandStepsAt at (steps_of past)
      → AllUses IsInBandUse (uses_of (plain_over draws) stun start at past pair ran)
  run_own_in_band past pair go ran steps =
      all_kept IsPlainUse IsInBandUse (uses_of (plain_over draws) stun start at past pair ran) (λ x k. k.0) (run_own_plain past pair go ran steps)
