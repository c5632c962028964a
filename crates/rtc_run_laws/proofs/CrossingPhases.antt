-- Where the steps of crossed offers lead: the phases of the polite side and of the impolite one.
use Rattle.std.proofs.Common.{◌≡◌, ◌+◌, ℕ, true, List}
use Rattle.rtc_run_history.specs.declared.op.Op.{Op}
use Rattle.rtc_run_history.specs.declared.side.Side.{Side}
use Rattle.rtc_run_history.specs.declared.step.Step.{Step}
use Rattle.rtc_run_history.specs.declared.step.Step.TheVariants.{Negotiate}
use Rattle.rtc_run_history.specs.Sides.{other_side}
use Rattle.rtc_run_laws.specs.Crossed.{CrossedNumbers, answer_step, end_step, refusal_step, rollback_step}

-- the polite side has done nothing yet, has offered, has rolled back, or has answered
pub data Polite : Type 0 where
  Quiet : Polite
  Out : Polite
  Back : Polite
  Done : Polite

-- the impolite side has done nothing yet, has offered, has its answer, or has ended the round
pub data Impolite : Type 0 where
  Still : Impolite
  Asks : Impolite
  Told : Impolite
  Over : Impolite

-- Where a step leads, with the number of session descriptions before and after it.
pub data Leads (s : Side) (ops others : List Op) (n : CrossedNumbers) : ℕ → Polite → Impolite → Step → ℕ → Polite → Impolite → Type 0 where
  OffersFirst : (k : ℕ) → n.polite ≡ k → Leads s ops others n k Quiet Still (Negotiate s ops true) (k + 1) Out Still
  OffersLast : (k : ℕ) → n.polite ≡ k → Leads s ops others n k Quiet Asks (Negotiate s ops true) (k + 1) Out Asks
  AsksFirst : (k : ℕ) → n.impolite ≡ k → Leads s ops others n k Quiet Still (Negotiate (other_side s) others true) (k + 1) Quiet Asks
  AsksLast : (k : ℕ) → n.impolite ≡ k → Leads s ops others n k Out Still (Negotiate (other_side s) others true) (k + 1) Out Asks
  ClashesOut : (k : ℕ) → Leads s ops others n k Out Asks (refusal_step s n) k Out Asks
  ClashesBack : (k : ℕ) → Leads s ops others n k Back Asks (refusal_step s n) k Back Asks
  ClashesDone : (k : ℕ) → Leads s ops others n k Done Told (refusal_step s n) k Done Told
  RollsBack : (k : ℕ) → Leads s ops others n k Out Asks (rollback_step s n) k Back Asks
  Answers : (k : ℕ) → n.answer ≡ k → Leads s ops others n k Back Asks (answer_step s n) (k + 1) Done Told
  Ends : (k : ℕ) → Leads s ops others n k Done Told (end_step s n) k Done Over
