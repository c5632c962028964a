-- Ways through stages.
use Rattle.std.proofs.Common.{◌≢◌, ℕ, zero, suc, refl, sym, subst}
use Rattle.rtc_peer_transport.specs.declared.met.Met.{Met}
use Rattle.rtc_peer_transport.specs.declared.met.Met.TheVariants.{Nothing, Again}
use Rattle.rtc_peer_transport.specs.Stages.{Stage, FollowedBy, Stopped, WentOn, StartsOver, RepeatsStage}

-- a stage that never starts over
abbrev pub NeverAgain : {P E : Type 0} → Stage P E → Type 0
NeverAgain {P} stage = (p q : P) → stage p Again q → ⊥

module _ {P E : Type 0} (stage : Stage P E) where
  -- turns that start over, and one that does not
  pub repeats_end : (p last : P) (r : Met E) (q : P) → (turns : ℕ) × StartsOver stage turns p last → stage last r q → r ≢ Again
      → RepeatsStage stage p r q
  repeats_end p last r q over ends stops = record { turns = over.0; last = last; over = over.1; ends = ends; stops = stops }

  -- one more turn that starts over
  pub over_more : (p last q : P) → (turns : ℕ) × StartsOver stage turns p last → stage last Again q
      → (turns : ℕ) × StartsOver stage turns p q
  over_more p last q over turn = (suc over.0, (last, (over.1, turn)))

  pub repeats_never : NeverAgain (RepeatsStage stage)
  repeats_never p q h = h.stops refl

  -- what each turn does, so many turns do
  pub over_carries : (R : P → P → Type 0) → ((p : P) → R p p) → ((p q r : P) → R p q → R q r → R p r)
      → ((p q : P) → stage p Again q → R p q) → (turns : ℕ) (p q : P) → StartsOver stage turns p q → R p q
  over_carries R none join turn zero p q over = subst (λ (x : P). R p x) (sym over) (none p)
  over_carries R none join turn (suc turns) p q over =
      join p over.0 q (over_carries R none join turn turns p over.0 over.1.0) (turn over.0 q over.1.1)

module _ {P E : Type 0} (first rest : Stage P E) where
  -- both stages met nothing
  pub went_through : (p q : P) → FollowedBy first rest p Nothing q → (between : P) × (first p Nothing between × rest between Nothing q)
  went_through p q (Stopped met stage) = absurd (met refl)
  went_through p q (WentOn between stage after) = (between, (stage, after))

  -- where the first never starts over, the rest does
  pub else_again : NeverAgain first → (p q : P) → FollowedBy first rest p Again q
      → (between : P) × (first p Nothing between × rest between Again q)
  else_again never p q (Stopped met stage) = absurd (never p q stage)
  else_again never p q (WentOn between stage after) = (between, (stage, after))

  pub else_never : NeverAgain first → NeverAgain rest → NeverAgain (FollowedBy first rest)
  else_never never others p q (Stopped met stage) = never p q stage
  else_never never others p q (WentOn between stage after) = others between q after
