-- What channels hand out in runs by steps with replies.
use Rattle.std.proofs.Common.{◌≡◌, ◌∙◌, ℕ, Bool, true, List, sym, ap, subst}
use Rattle.rtc_parts.specs.Draws.{Draws}
use Rattle.rtc_plain_media.specs.declared.plain_media_event.PlainMediaEvent.{PlainMediaEvent}
use Rattle.rtc_run_history.specs.declared.reply.Reply.{Reply}
use Rattle.rtc_run_history.specs.declared.step.Step.{Step}
use Rattle.rtc_run_history.specs.Native.{are_native}
use Rattle.rtc_run_history.specs.Past.{steps_of}
use Rattle.rtc_run_history.specs.Runs.{Reached, Runs}
use Rattle.rtc_run_laws.specs.HandedOut.{HandsOut}
use Rattle.rtc_run_laws.specs.InBandSteps.{AreInBandSteps}
use Rattle.rtc_run_laws.specs.NewPairs.{IsNewPair}
use Rattle.rtc_run_laws.specs.PlainPairs.{PlainPair, plain_over}
use Rattle.rtc_run_laws.specs.SentMessages.{sent_over}
use Rattle.rtc_run_laws.specs.ToldMessages.{told_over}
use Rattle.rtc_run_laws.specs.UsesOfRuns.{reached_by, uses_in_run}
use Rattle.rtc_run_laws.proofs.KeptInBand.{run_all_got, run_prefixes}
use Rattle.rtc_run_laws.proofs.RestedRuns.{run_delivered, run_delivered_over, run_drained}
use Rattle.rtc_run_laws.proofs.RunsTold.{PairTold, new_pair_told, pair_first, pair_handed, pair_handed_over, pair_once, pair_only, pair_told_whole, pair_whole, pair_wholly, reached_told}
use Rattle.rtc_run_laws.proofs.SilentRuns.{run_got, run_told, run_told_sent}

module _ {N : Type 0} (draws : Draws N) where
  pub run_hands_out : (stun : List ℕ → Bool) (start pair : PlainPair N) (steps : List Step) (replies : List (Reply PlainMediaEvent)) → IsNewPair draws start
      → are_native steps ≡ true → (run : Runs (plain_over draws) stun start steps replies pair) → HandsOut draws stun start steps replies pair run
  run_hands_out stun start pair steps replies new native run =
      let go : are_native (steps_of run.past) ≡ true = ap are_native run.steps_are ∙ native in
      let ran : Reached (plain_over draws) stun start run.past pair = reached_by (plain_over draws) stun start run.past pair run.went in
      let told : PairTold draws pair (uses_in_run (plain_over draws) stun start steps replies pair run) (λ z. sent_over (plain_over draws) stun start z run.past pair ran)
      (λ z. told_over (plain_over draws) stun start z run.past pair ran) =
      reached_told draws stun start run.past pair go ran (new_pair_told draws start new) in
      record {
        once = λ at. pair_once draws pair (uses_in_run (plain_over draws) stun start steps replies pair run) (λ z. sent_over (plain_over draws) stun start z run.past pair ran)
            (λ z. told_over (plain_over draws) stun start z run.past pair ran) at told;
        whole = λ at. pair_whole draws pair (uses_in_run (plain_over draws) stun start steps replies pair run) (λ z. sent_over (plain_over draws) stun start z run.past pair ran)
            (λ z. told_over (plain_over draws) stun start z run.past pair ran) at told;
        first = λ at. pair_first draws pair (uses_in_run (plain_over draws) stun start steps replies pair run) (λ z. sent_over (plain_over draws) stun start z run.past pair ran)
            (λ z. told_over (plain_over draws) stun start z run.past pair ran) at told;
        told = λ at. pair_told_whole draws pair (uses_in_run (plain_over draws) stun start steps replies pair run) (λ z. sent_over (plain_over draws) stun start z run.past pair ran)
            (λ z. told_over (plain_over draws) stun start z run.past pair ran) at told;
        only = λ at. pair_only draws pair (uses_in_run (plain_over draws) stun start steps replies pair run) (λ z. sent_over (plain_over draws) stun start z run.past pair ran)
            (λ z. told_over (plain_over draws) stun start z run.past pair ran) at told;
        handed = λ at. pair_handed draws pair (uses_in_run (plain_over draws) stun start steps replies pair run) (λ z. sent_over (plain_over draws) stun start z run.past pair ran)
            (λ z. told_over (plain_over draws) stun start z run.past pair ran) at told;
        over = λ at. pair_handed_over draws pair (uses_in_run (plain_over draws) stun start steps replies pair run) (λ z. sent_over (plain_over draws) stun start z run.past pair ran)
            (λ z. told_over (plain_over draws) stun start z run.past pair ran) at told;
        all = λ at. pair_wholly draws pair (uses_in_run (plain_over draws) stun start steps replies pair run) (λ z. sent_over (plain_over draws) stun start z run.past pair ran)
            (λ z. told_over (plain_over draws) stun start z run.past pair ran) at told;
        drained = λ at. run_drained draws stun start new run.past pair go ran at;
        delivered = λ at. run_delivered draws stun start new run.past pair go ran at;
        delivered_over = λ at. run_delivered_over draws stun start new run.past pair go ran at;
        prefixes = λ none numbers at. run_prefixes draws stun start new run.past pair go ran none numbers at;
        all_got = λ none numbers at. run_all_got draws stun start new run.past pair go ran none numbers at;
        unsent = λ at. run_told_sent draws stun start new run.past pair go ran at;
        unannounced = λ none banded numbers at.
            run_told draws stun start new run.past pair go ran none (subst (λ (l : List Step). AreInBandSteps l) (sym run.steps_are) banded) numbers at;
        silent = λ numbers at. run_got draws stun start new run.past pair go ran numbers at;
      }
