-- Whatever run leaves a pair settled, its channels are open as the law tells.
use Rattle.std.proofs.Common.{◌≡◌, ◌∙◌, ℕ, Bool, true, List, sym, ap, subst}
use Rattle.rtc_plain_media.specs.declared.plain_media_event.PlainMediaEvent.{PlainMediaEvent}
use Rattle.rtc_parts.specs.Draws.{Draws}
use Rattle.rtc_run_history.specs.declared.reply.Reply.{Reply}
use Rattle.rtc_run_history.specs.declared.step.Step.{Step}
use Rattle.rtc_run_history.specs.Native.{are_native}
use Rattle.rtc_run_history.specs.Past.{steps_of}
use Rattle.rtc_run_history.specs.Runs.{Reached, Runs}
use Rattle.rtc_run_laws.specs.NewPairs.{IsNewPair}
use Rattle.rtc_run_laws.specs.PlainPairs.{PlainPair, plain_over}
use Rattle.rtc_run_laws.specs.InBandSteps.{AreInBandSteps}
use Rattle.rtc_run_laws.specs.SettledPairs.{SettlesOpen}
use Rattle.rtc_run_laws.specs.UsesOfRuns.{reached_by}
use Rattle.rtc_run_laws.proofs.SettledRuns.{settled_answered, settled_confirmed, settled_idle, settled_later, settled_level, settled_open, settled_refused}
use Rattle.rtc_run_laws.proofs.OwnSides.{settled_own, settled_parted, settled_waits_none}
use Rattle.rtc_run_laws.proofs.RoleSides.{settled_sides}
use Rattle.rtc_run_laws.proofs.ConfirmedPairs.{settled_due_none, settled_wants_none}
use Rattle.rtc_run_laws.proofs.BandedRuns.{settled_in_band}
use Rattle.rtc_run_laws.proofs.SettledInBand.{settled_all, settled_all_open}

module _ {N : Type 0} (draws : Draws N) where
  pub run_settles_open : (stun : List ℕ → Bool) (start pair : PlainPair N) (steps : List Step) (replies : List (Reply PlainMediaEvent))
      → IsNewPair draws start → are_native steps ≡ true → (run : Runs (plain_over draws) stun start steps replies pair)
      → SettlesOpen draws stun start steps replies pair run
  run_settles_open stun start pair steps replies new native run =
      let go : are_native (steps_of run.past) ≡ true = ap are_native run.steps_are ∙ native in
      let ran : Reached (plain_over draws) stun start run.past pair = reached_by (plain_over draws) stun start run.past pair run.went in
      record {
        level = λ settled at s. settled_level draws stun start run.past pair go ran new settled at s;
        opened = λ settled at. settled_open draws stun start run.past pair go ran new settled at;
        answered = λ settled at.
            settled_answered draws stun start run.past pair go ran new settled at;
        idle = λ settled at later.
            settled_idle draws stun start run.past pair go ran new settled at later;
        refused = λ settled at idle.
            settled_refused draws stun start run.past pair go ran new settled at idle;
        confirmed = λ settled still at.
            settled_confirmed draws stun start run.past pair go ran new settled still at;
        later = λ settled soon at.
            settled_later draws stun start run.past pair go ran new settled soon at;
        own = λ settled at. settled_own draws stun start run.past pair go ran new settled at;
        sides = λ settled at. settled_sides draws stun start run.past pair go ran new settled at;
        parted = λ settled at. settled_parted draws stun start run.past pair go ran new settled at;
        waits_none = λ settled at.
            settled_waits_none draws stun start run.past pair go ran new settled at;
        wants_none = λ settled at idle.
            settled_wants_none draws stun start run.past pair go ran new settled at idle;
        due_none = λ settled at later.
            settled_due_none draws stun start run.past pair go ran new settled at later;
        in_band = λ none steps settled at s.
            settled_in_band draws stun start run.past pair go ran new none
            (subst (λ (l : List Step). AreInBandSteps l) (sym run.steps_are) steps) settled at s;
        open_in_band = λ none steps settled at.
            settled_all_open draws stun start run.past pair go ran new none
            (subst (λ (l : List Step). AreInBandSteps l) (sym run.steps_are) steps) settled at;
        all_in_band = λ none steps settled at later.
            settled_all draws stun start run.past pair go ran new none
            (subst (λ (l : List Step). AreInBandSteps l) (sym run.steps_are) steps) settled at later;
      }
