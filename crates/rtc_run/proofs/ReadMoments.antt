-- The moments of all steps are of 64 bits if those of the steps to come are.
use Rattle.std.proofs.Common.{◌≡◌, ◌+◌, ◌≤◌, ◌<◌, ℕ, List, length, drop, get_or, sym, subst}
use Rattle.std.proofs.lemmas.List.{drop_all, drop_more}
use Rattle.rtc_run_history.specs.declared.step.Step.{Step}
use Rattle.rtc_run_laws.specs.Drains.{HasMoment, HaveMoments}

pub moments_more : (steps : List Step) (i : ℕ) (step : Step) → i < length steps → step ≡ get_or steps i step → HasMoment step → (HaveMoments (drop i steps) → HaveMoments steps)
    → HaveMoments (drop (i + 1) steps) → HaveMoments steps
moments_more steps i step inside is has before more =
    before (subst (λ (l : List Step). HaveMoments l) (sym (drop_more steps i step inside)) (subst (λ (s : Step). HasMoment s) is has, more))

pub moments_all : (steps : List Step) (i : ℕ) → length steps ≤ i → (HaveMoments (drop i steps) → HaveMoments steps) → HaveMoments steps
moments_all steps i past before = before (subst (λ (l : List Step). HaveMoments l) (sym (drop_all i steps past)) tt)
