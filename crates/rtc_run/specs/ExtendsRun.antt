-- That runs of a pair go on by a step.
use Rattle.std.specs.Prelude.{◌≡◌, ℕ, Bool, List, [], ◌∷◌, ◌++◌, Option}
use Rattle.rtc_peer_core.specs.Meanings.{Meanings}
use Rattle.rtc_run_history.specs.declared.outcome.Outcome.{Outcome}
use Rattle.rtc_run_history.specs.declared.reply.Reply.{Reply}
use Rattle.rtc_run_history.specs.declared.step.Step.{Step}
use Rattle.rtc_run_history.specs.declared.table.Table.{Table}
use Rattle.rtc_run_history.specs.Fresh.{IsFresh}
use Rattle.rtc_run_history.specs.PairState.{PairState}
use Rattle.rtc_run_history.specs.Past.{Entry}
use Rattle.rtc_run_history.specs.Performs.{sdps_behind}
use Rattle.rtc_run_history.specs.Runs.{EntersSoundly, Runs, Went}

-- the entry of a step that led from one pair to another
abbrev pub entry_between : {I D S M N E : Type 0} → PairState I D S M N → Step → Outcome E → Option Table → PairState I D S M N → Entry E
entry_between old step outcome table new =
    record { step = step; outcome = outcome; table = table; made = sdps_behind old.sdps new.sdps }

module _ {I D S M E X T W N : Type 0} (m : Meanings I D S M E X T W N) (stun : List ℕ → Bool) where
  -- If a past of sound entries led from a fresh pair to the one before the step, the step is the next sound entry; and a run by steps with
  -- replies goes on by this step with its reply.
  pub record ExtendsRun (old : PairState I D S M N) (step : Step) (outcome : Outcome E) (table : Option Table) (new : PairState I D S M N)
      : Type 0 where
    pub went : (start : PairState I D S M N) (past : List (Entry E))
        → IsFresh m start
        → Went (EntersSoundly m stun start) (λ fresh. fresh ≡ start) past old
        → Went (EntersSoundly m stun start) (λ fresh. fresh ≡ start) (entry_between old step outcome table new ∷ past) new
    pub runs : (start : PairState I D S M N) (steps : List Step) (replies : List (Reply E))
        → IsFresh m start
        → Runs m stun start steps replies old
        → Runs m stun start (steps ++ step ∷ []) (replies ++ record { outcome = outcome; table = table } ∷ []) new
