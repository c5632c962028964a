-- A run of a fresh pair goes on by a step that is performed.
use Rattle.std.proofs.Common.{◌≡◌, ◌<◌, ◌^◌, ℕ, Bool, List, ◌∷◌, Option, refl}
use Rattle.rtc_peer_core.specs.Meanings.{Meanings, PartsLaws}
use Rattle.rtc_run_history.specs.declared.step.Step.{Step}
use Rattle.rtc_run_history.specs.declared.outcome.Outcome.{Outcome}
use Rattle.rtc_run_history.specs.declared.table.Table.{Table}
use Rattle.rtc_run_history.specs.Past.{Entry}
use Rattle.rtc_run_history.specs.PairState.{PairState}
use Rattle.rtc_run_history.specs.Performs.{Performs, Enters}
use Rattle.rtc_run_history.specs.Runs.{Went, EntersSoundly}
use Rattle.rtc_run_history.specs.Fresh.{IsFresh}
use Rattle.rtc_run_laws.proofs.StanceSteps.{pair_stance}
use Rattle.rtc_run_laws.proofs.StandingSteps.{performs_stands}
use Rattle.rtc_run_laws.proofs.EmptyStreams.{AreUnused}
use Rattle.rtc_run_laws.proofs.StanceRuns.{StanceRan, fresh_stands, fresh_unused, ran_unused, ran_stands}
use Rattle.rtc_run_laws.proofs.PartsSound.{parts_sound}
use Rattle.rtc_run_laws.proofs.OrderlySounds.{sound_next}
use Rattle.rtc_run_laws.proofs.MoreSteps.{runs_more}
use Rattle.rtc_run.specs.ExtendsRun.{ExtendsRun, entry_between}

module _ {I D S M E X T W N : Type 0} (m : Meanings I D S M E X T W N) (stun : List ℕ → Bool) (laws : PartsLaws m) where
  pub went_more : (start old new : PairState I D S M N) (past : List (Entry E)) (step : Step) (outcome : Outcome E) (table : Option Table) → IsFresh m start
      → Went (EntersSoundly m stun start) (λ fresh. fresh ≡ start) past old → Performs m stun old step outcome table new → new.size < 2 ^ 32
      → Went (EntersSoundly m stun start) (λ fresh. fresh ≡ start) (entry_between old step outcome table new ∷ past) new
  went_more start old new past step outcome table fresh went performs small =
      let last : Entry E = entry_between old step outcome table new in
      let unused : AreUnused m laws start = fresh_unused m laws start fresh in
      let ran : StanceRan (pair_stance m start) past (pair_stance m old) = ran_stands m stun laws start past old unused went in
      let enters : Enters m stun old last new = record { performs = performs; made = refl } in (
        old,
        went,
        (
          enters,
          sound_next (pair_stance m start) (pair_stance m old) (pair_stance m new) past step outcome table (fresh_stands m start fresh) ran
              (performs_stands m laws old step outcome table new (ran_unused m stun laws start past old unused went) performs) small,
          parts_sound m stun laws old last new enters,
        ),
      )

  pub goes_on : (old new : PairState I D S M N) (step : Step) (outcome : Outcome E) (table : Option Table) → Performs m stun old step outcome table new
      → new.size < 2 ^ 32 → ExtendsRun m stun old step outcome table new
  goes_on old new step outcome table performs small = record {
    went = λ start past fresh went. went_more start old new past step outcome table fresh went performs small;
    runs = λ start steps replies fresh run. runs_more m stun laws start old new steps replies step (record { outcome = outcome; table = table }) fresh run performs small;
  }
