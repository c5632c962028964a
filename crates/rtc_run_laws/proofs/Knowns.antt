-- What is known of a pair that a run reached.
use Rattle.std.proofs.Common.{◌≡◌, ◌<◌, ◌^◌, List, [], ◌∷◌, sym, subst, Option}
use Rattle.rtc_run_history.specs.Outstanding.{has_outstanding}
use Rattle.rtc_run_history.specs.Past.{Entry, MadeSdp, sdps}
use Rattle.rtc_run_history.specs.SaidRows.{MakesSdp}
use Rattle.rtc_run_history.specs.Sound.{IsSound}
use Rattle.rtc_run_history.specs.SoundEntry.{AreReadBack, IsSoundEntry}
use Rattle.rtc_run_history.specs.Views.{AreFormed}
use Rattle.rtc_run_history.specs.declared.outcome.Outcome.{Outcome}
use Rattle.rtc_run_history.specs.declared.side.Side.{Side}
use Rattle.rtc_run_history.specs.declared.step.Step.{Step}
use Rattle.rtc_run_history.specs.declared.table.Table.{Table}
use Rattle.rtc_run_laws.proofs.Around.{entry}
use Rattle.rtc_run_laws.proofs.OrderlySounds.{sound_next}
use Rattle.rtc_run_laws.proofs.OutstandingRuns.{ran_outstands}
use Rattle.rtc_run_laws.proofs.Outstands.{Outstands, outstanding_is}
use Rattle.rtc_run_laws.proofs.Reaches.{reached_sees, reached_tells, small_before}
use Rattle.rtc_run_laws.proofs.ReadPasts.{past_read}
use Rattle.rtc_run_laws.proofs.SeenSides.{SideSees}
use Rattle.rtc_run_laws.proofs.SoundPasts.{Sound}
use Rattle.rtc_run_laws.proofs.StanceRuns.{IsFreshStance, StanceRan, StanceReached, ran_reached, ran_sound}
use Rattle.rtc_run_laws.proofs.StanceSteps.{PairStance, StanceEnters, StancePerforms, made_by}
use Rattle.rtc_run_laws.proofs.StartedSides.{IsStartTold, ran_told}
use Rattle.rtc_run_laws.proofs.Tells.{Tells}

-- a pair that soundly ran from a fresh one, whose sides are formed
pub record Known {E : Type 0} (start : PairStance) (past : List (Entry E)) (pair : PairStance) : Type 0 where
  pub fresh : IsFreshStance start
  pub formed : AreFormed start.sides
  pub ran : StanceRan start past pair
  pub small : pair.size < 2 ^ 32

module _ {E : Type 0} (start : PairStance) (past : List (Entry E)) (pair : PairStance) (known : Known start past pair) where
  pub known_tells : Tells past pair
  known_tells = reached_tells start pair past known.fresh (ran_reached start past pair known.ran) known.small

  pub known_sees : (at : Side) → SideSees start.sides past at (pair.sides at)
  known_sees at = reached_sees start pair past known.fresh (ran_reached start past pair known.ran) known.small at

  pub known_starts : (at : Side) → IsStartTold (pair.sides at)
  known_starts at = ran_told start pair past known.fresh known.ran known.small at

  pub known_sound : Sound start.sides past
  known_sound = ran_sound start past pair known.ran

  pub known_read : AreReadBack (sdps past)
  known_read = past_read start.sides past known.formed (ran_sound start past pair known.ran)

  pub known_outstands : (at : Side) → Outstands start.sides past at (pair.sides at) pair.sdps
  known_outstands at = ran_outstands start pair past known.fresh known.ran known.small at

  pub known_outstanding : (at : Side) → (pair.sides at).outstanding ≡ has_outstanding at past
  known_outstanding at =
      outstanding_is start.sides past at pair (reached_tells start pair past known.fresh (ran_reached start past pair known.ran) known.small)
      (ran_outstands start pair past known.fresh known.ran known.small at)

-- ---- steps

-- a step of such a pair
pub record Takes {E : Type 0} (start : PairStance) (past : List (Entry E)) (old new : PairStance) (step : Step) (outcome : Outcome E) (table : Option Table) (made : List MadeSdp) : Type 0 where
  pub known : Known start past old
  pub performs : StancePerforms old step outcome table new
  pub made_is : made ≡ made_by old new
  pub small : new.size < 2 ^ 32
  pub replied : IsSound start.sides past old.sides step outcome table made
  pub says : MakesSdp step outcome table made

-- an entry that is entered is sound
entered_sound : {E : Type 0} → (start old new : PairStance) (past : List (Entry E)) (last : Entry E) → IsFreshStance start → StanceRan start past old → StanceEnters old last new → new.size < 2 ^ 32
    → IsSoundEntry start.sides past old.sides last new.sides
entered_sound {E} start old new past last fresh ran enters small =
    subst (λ (made : List MadeSdp). IsSoundEntry start.sides past old.sides (entry last.step last.outcome last.table made) new.sides) (sym enters.made)
    (sound_next start old new past last.step last.outcome last.table fresh ran enters.performs small)

pub takes_of : {E : Type 0} → (start old new : PairStance) (past : List (Entry E)) (last : Entry E) → Known start past old → StanceEnters old last new → new.size < 2 ^ 32
    → Takes start past old new last.step last.outcome last.table last.made
takes_of start old new past last known enters small =
    let sound = entered_sound start old new past last known.fresh known.ran enters small in
    record { known = known; performs = enters.performs; made_is = enters.made; small = small; replied = sound.replied; says = sound.made }

pub known_next : {E : Type 0} → (start old new : PairStance) (past : List (Entry E)) (last : Entry E) → Known start past old → StanceEnters old last new → new.size < 2 ^ 32 → Known start (last ∷ past) new
known_next start old new past last known enters small = record {
  fresh = known.fresh;
  formed = known.formed;
  ran = (old, known.ran, (enters, entered_sound start old new past last known.fresh known.ran enters small));
  small = small;
}

-- each pair that is reached soundly ran
pub stance_ran : {E : Type 0} → (start pair : PairStance) (past : List (Entry E)) → IsFreshStance start → StanceReached start past pair → pair.size < 2 ^ 32 → StanceRan start past pair
stance_ran start pair [] fresh reached small = reached
stance_ran start pair (last ∷ past) fresh reached small =
    let ran = stance_ran start reached.0 past fresh reached.1 (small_before reached.0 pair last reached.2 small) in
    (reached.0, ran, (reached.2, entered_sound start reached.0 pair past last fresh ran reached.2 small))
