-- The sizes of the steps so far are within those of all steps.
use Rattle.std.proofs.Common.{◌≡◌, ◌+◌, ◌≤◌, ◌<◌, ◌^◌, ℕ, zero, suc, Bool, List, [], ◌∷◌, ◌++◌, length, take, get_or, sym, ◌∙◌, ap, subst, arith}
use Rattle.std.proofs.lemmas.List.{take_more}
use Rattle.std.proofs.Math.Seq.{take-length}
use Rattle.rtc_run_history.specs.declared.step.Step.{Step}
use Rattle.rtc_run_history.specs.declared.reply.Reply.{Reply}
use Rattle.rtc_run_history.specs.Sizes.{step_size, steps_size}
use Rattle.rtc_run_history.specs.PairState.{PairState}
use Rattle.rtc_run_history.specs.Performs.{Performs}
use Rattle.rtc_run_history.specs.Runs.{Runs}
use Rattle.rtc_run_history.specs.Fresh.{IsFresh}
use Rattle.rtc_run_laws.proofs.StanceSteps.{pair_stance}
use Rattle.rtc_run_laws.proofs.Bounds.{IsWithin}
use Rattle.rtc_run_laws.proofs.MoreSteps.{runs_none, runs_more, runs_size, runs_within}
use Rattle.rtc_peer_core.specs.Meanings.{Meanings, PartsLaws}

sized : (steps : List Step) (i : ℕ) (d : Step) → i < length steps → steps_size (take i steps) + step_size (get_or steps i d) ≤ steps_size steps
sized [] i d h = absurd (omega arith)
sized (step ∷ steps) zero d h = omega arith
sized (step ∷ steps) (suc i) d h = omega (arith, sized steps i d (omega arith))

module _ {I D S M E X T W N : Type 0} (m : Meanings I D S M E X T W N) (stun : List ℕ → Bool) (laws : PartsLaws m) where
  -- a pair in the middle of a run may perform the next step
  pub run_has_room : (start old : PairState I D S M N) (steps : List Step) (i : ℕ) (step : Step) (replies : List (Reply E)) → IsFresh m start → i < length steps → step ≡ get_or steps i step → steps_size steps < 2 ^ 32 → Runs m stun start (take i steps) replies old → (length old.sdps < 2 ^ 32) × (old.size + step_size step < 2 ^ 32)
  run_has_room start old steps i step replies fresh inside is small run =
      let size : old.size ≡ steps_size (take i steps) = runs_size m stun laws start old (take i steps) replies fresh run in
      let fits : steps_size (take i steps) + step_size (get_or steps i step) ≤ steps_size steps = sized steps i step inside in
      let same : step_size step ≡ step_size (get_or steps i step) = ap step_size is in
      let within : IsWithin (pair_stance m old) = runs_within m stun laws start old (take i steps) replies fresh run (omega arith) in
      let few : length old.sdps ≤ old.size = within.sdps in
      (omega arith, omega arith)

  -- a run begins at a fresh pair
  pub run_begins : (start : PairState I D S M N) (steps : List Step) (replies : List (Reply E)) → IsFresh m start → steps ≡ [] → replies ≡ [] → Runs m stun start steps replies start
  run_begins start steps replies fresh none unreplied = rw (none, unreplied) (runs_none m stun start fresh)

  -- a run goes on by the next step
  pub run_goes_on : (start old new : PairState I D S M N) (steps : List Step) (i : ℕ) (step : Step) (replies replies' : List (Reply E)) (reply : Reply E) → IsFresh m start → i < length steps → step ≡ get_or steps i step → steps_size steps < 2 ^ 32 → Runs m stun start (take i steps) replies old → Performs m stun old step reply.outcome reply.table new → replies' ≡ replies ++ reply ∷ [] → Runs m stun start (take (i + 1) steps) replies' new
  run_goes_on start old new steps i step replies replies' reply fresh inside is small run performs pushed =
      let within : (length old.sdps < 2 ^ 32) × (old.size + step_size step < 2 ^ 32) = run_has_room start old steps i step replies fresh inside is small run in
      let grows : new.size ≡ old.size + step_size step = performs.size in
      let few : new.size < 2 ^ 32 = omega (arith, within.1) in
      let more : Runs m stun start (take i steps ++ step ∷ []) (replies ++ reply ∷ []) new = runs_more m stun laws start old new (take i steps) replies step reply fresh run performs few in
      let front : take (i + 1) steps ≡ take i steps ++ step ∷ [] = take_more steps i step inside ∙ ap (λ (s : Step). take i steps ++ s ∷ []) (sym is) in
      let of_steps : Runs m stun start (take (i + 1) steps) (replies ++ reply ∷ []) new = subst (λ (ss : List Step). Runs m stun start ss (replies ++ reply ∷ []) new) (sym front) more in
      subst (λ (rs : List (Reply E)). Runs m stun start (take (i + 1) steps) rs new) (sym pushed) of_steps

  -- a run of all steps
  pub run_ends : (start pair : PairState I D S M N) (steps : List Step) (i : ℕ) (replies replies' : List (Reply E)) → i ≡ length steps → replies' ≡ replies → Runs m stun start (take i steps) replies pair → Runs m stun start steps replies' pair
  run_ends start pair steps i replies replies' past same run =
      let all : take i steps ≡ steps = ap (λ (n : ℕ). take n steps) past ∙ take-length steps in
      let of_steps : Runs m stun start steps replies pair = subst (λ (ss : List Step). Runs m stun start ss replies pair) all run in
      subst (λ (rs : List (Reply E)). Runs m stun start steps rs pair) (sym same) of_steps
