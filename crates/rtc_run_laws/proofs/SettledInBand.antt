-- In a settled pair of which no step settled a channel by other means than messages each channel that is open, or was confirmed, is open at both sides.
use Rattle.std.proofs.Common.{◌≡◌, ℕ, Bool, true, List, []}
use Rattle.rtc_parts.specs.Draws.{Draws}
use Rattle.rtc_plain_media.specs.declared.plain_media_event.PlainMediaEvent.{PlainMediaEvent}
use Rattle.rtc_run_history.specs.declared.side.Side.{Side}
use Rattle.rtc_run_history.specs.Native.{are_native}
use Rattle.rtc_run_history.specs.PairState.{rtc_at}
use Rattle.rtc_run_history.specs.Past.{Entry, steps_of}
use Rattle.rtc_run_history.specs.Runs.{Reached}
use Rattle.rtc_run_history.specs.Sides.{other_side}
use Rattle.rtc_run_laws.specs.NewPairs.{IsNewPair}
use Rattle.rtc_run_laws.specs.PlainPairs.{PlainPair, plain_over}
use Rattle.rtc_run_laws.specs.ConfirmedChannels.{WasConfirmed}
use Rattle.rtc_run_laws.specs.InBandSteps.{AreInBandSteps}
use Rattle.rtc_run_laws.specs.SettledPairs.{AreAllConfirmedOpen, AreAllOpenAtBoth, AreKeptUses, HasNothingDue, IsSettledPair}
use Rattle.rtc_run_laws.specs.UsesOfRuns.{uses_of}
use Rattle.rtc_run_laws.proofs.BandedRuns.{settled_in_band}
use Rattle.rtc_run_laws.proofs.ConfirmedPairs.{settled_due_none}
use Rattle.rtc_run_laws.proofs.OwnerSettled.{none_rolled}
use Rattle.rtc_run_laws.proofs.SettledRuns.{settled_open}

module _ {N : Type 0} (draws : Draws N) (stun : List ℕ → Bool) (start : PlainPair N) (past : List (Entry PlainMediaEvent)) (pair : PlainPair N)
    (go : are_native (steps_of past) ≡ true) (ran : Reached (plain_over draws) stun start past pair) (new : IsNewPair draws start) (none : start.sdps ≡ [])
    (steps : AreInBandSteps (steps_of past)) (settled : IsSettledPair past pair) where
  none_lost : (at : Side) (s : ℕ)
      → AreKeptUses s (uses_of (plain_over draws) stun start at past pair ran) (rtc_at at pair)
      (uses_of (plain_over draws) stun start (other_side at) past pair ran) (rtc_at (other_side at) pair)
  none_lost at s = record {
    here = none_rolled draws stun start past pair go ran new none steps settled at s;
    there = none_rolled draws stun start past pair go ran new none steps settled (other_side at) s;
  }

  pub settled_all_open : (at : Side)
      → AreAllOpenAtBoth draws (uses_of (plain_over draws) stun start at past pair ran) (rtc_at at pair)
      (uses_of (plain_over draws) stun start (other_side at) past pair ran) (rtc_at (other_side at) pair)
  settled_all_open at = λ c s there.
      settled_open draws stun start past pair go ran new settled at c s there
      (settled_in_band draws stun start past pair go ran new none steps settled at s).0 (none_lost at s)

  pub settled_all : (at : Side) → HasNothingDue at past pair
      → AreAllConfirmedOpen draws (λ c. WasConfirmed (plain_over draws) stun start at c past pair ran)
      (uses_of (plain_over draws) stun start at past pair ran) (rtc_at at pair)
      (uses_of (plain_over draws) stun start (other_side at) past pair ran) (rtc_at (other_side at) pair)
  settled_all at later = λ c s confirmed under.
      let band = settled_in_band draws stun start past pair go ran new none steps settled at s in
      settled_due_none draws stun start past pair go ran new settled at later c s confirmed under band.0 band.1 (none_lost at s)
