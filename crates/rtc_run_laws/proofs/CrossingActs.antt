-- What each act of crossed offers owes and leaves: common parts.
use Rattle.std.proofs.Common.{◌≡◌, ◌+◌, ◌==◌, ℕ, true, false, List, [], ◌∷◌, ◌++◌, length, Option, Some, refl, ◌∙◌, ap, append-nil, length-append}
use Rattle.rtc_sdp_values.specs.declared.line_row.LineRow.{LineRow}
use Rattle.rtc_run_history.specs.Memory.{fails}
use Rattle.rtc_run_history.specs.Orderly.{can_connect}
use Rattle.rtc_run_history.specs.Past.{Entry, MadeSdp, sdps}
use Rattle.rtc_run_history.specs.Sides.{other_side, same_side}
use Rattle.rtc_run_history.specs.declared.op.Op.{Op}
use Rattle.rtc_run_history.specs.declared.outcome.Outcome.{Outcome}
use Rattle.rtc_run_history.specs.declared.side.Side.{Side}
use Rattle.rtc_run_history.specs.declared.side.Side.TheVariants.{Left, Right}
use Rattle.rtc_run_history.specs.declared.step.Step.{Step}
use Rattle.rtc_run_history.specs.declared.step.Step.TheVariants.{AcceptAnswer, AcceptOffer, Negotiate, Rollback}
use Rattle.rtc_run_history.specs.declared.table.Table.{Table}
use Rattle.rtc_run_laws.specs.Crossed.{CrossedNumbers, KeepsLive, MadeOffer}
use Rattle.rtc_run_laws.proofs.CrossingPhases.{Polite, Impolite}
use Rattle.rtc_run_laws.proofs.CrossingStates.{Impolitely, Politely}
use Rattle.rtc_run_laws.proofs.CrossingMeets.{StanceMeets}
use Rattle.rtc_run_laws.proofs.Knowns.{Known, Takes}
use Rattle.rtc_run_laws.proofs.Around.{entry}
use Rattle.rtc_run_laws.proofs.StanceSteps.{PairStance}

-- the roles of both sides where offers cross, one of which makes checks; and two numbers of offers
pub record Fits (start : PairStance) (s : Side) (n : CrossedNumbers) : Type 0 where
  pub polite : (start.sides s).polite ≡ Some true
  pub impolite : (start.sides (other_side s)).polite ≡ Some false
  pub connect : can_connect start.sides ≡ true
  pub apart : (n.polite == n.impolite) ≡ false

-- what holds of a pair in its phases
pub record Crossing {E : Type 0} (start : PairStance) (s : Side) (n : CrossedNumbers) (stood : List LineRow) (k : ℕ) (pp : Polite) (ip : Impolite) (past : List (Entry E)) (pair : PairStance) : Type 0 where
  pub count : length (sdps past) ≡ k
  pub polite : Politely pp s n.polite stood past
  pub impolite : Impolitely ip s n stood past pair

-- a step that came about, of which is known that it made its offer, kept a live row, and did not fail
pub record Comes {E : Type 0} (start : PairStance) (s : Side) (past : List (Entry E)) (old new : PairStance) (step : Step) (outcome : Outcome E) (table : Option Table) (made : List MadeSdp) : Type 0 where
  pub takes : Takes start past old new step outcome table made
  pub offer : MadeOffer step outcome
  pub live : KeepsLive s step outcome table made
  pub enough : fails outcome ≡ false
  pub after : Known start (entry step outcome table made ∷ past) new

-- what an act owes, and what it leads to
pub record Acted {E : Type 0} (start : PairStance) (s : Side) (n : CrossedNumbers) (stood : List LineRow) (k : ℕ) (pp : Polite) (ip : Impolite) (past : List (Entry E)) (old new : PairStance) (step : Step) (outcome : Outcome E)
    (table : Option Table) (made : List MadeSdp) : Type 0 where
  pub meets : StanceMeets s n stood old (entry step outcome table made) new
  pub next : Crossing start s n stood k pp ip (entry step outcome table made ∷ past) new

pub sides_apart : (s : Side) → other_side s ≡ s → ⊥
sides_apart Left same = absurd (cc)
sides_apart Right same = absurd (cc)

pub same_side-apart : (at : Side) → same_side (other_side at) at ≡ false
same_side-apart Left = refl
same_side-apart Right = refl

-- ---- which steps owe what

pub offer_meets : {E : Type 0} → (s at : Side) (ops : List Op) (n : CrossedNumbers) (stood : List LineRow) (old new : PairStance) (outcome : Outcome E) (table : Option Table) (made : List MadeSdp)
    → StanceMeets s n stood old (entry (Negotiate at ops true) outcome table made) new
offer_meets s at ops n stood old new outcome table made = record {
  refused = λ is. absurd (let e : Negotiate at ops true ≡ AcceptOffer (other_side s) n.polite = is in cc);
  bare = λ is. absurd (let e : Negotiate at ops true ≡ AcceptOffer (other_side s) n.polite = is in cc);
  kept = λ is. absurd (let e : Negotiate at ops true ≡ AcceptOffer (other_side s) n.polite = is in cc);
  rolled_back = λ is. absurd (let e : Negotiate at ops true ≡ Rollback s n.polite = is in cc);
  undone = λ is. absurd (let e : Negotiate at ops true ≡ Rollback s n.polite = is in cc);
  answered = λ is. absurd (let e : Negotiate at ops true ≡ AcceptOffer s n.impolite = is in cc);
  finished = λ is. absurd (let e : Negotiate at ops true ≡ AcceptAnswer (other_side s) n.impolite n.answer = is in cc);
}

pub accepts_apart : (s : Side) (k j : ℕ) → AcceptOffer (other_side s) k ≡ AcceptOffer s j → ⊥
accepts_apart s k j is = sides_apart s (let e : other_side s ≡ s = cc in e)

-- a list of session descriptions to which none is added
pub none_made : (E : Type 0) (past : List (Entry E)) (made : List MadeSdp) → made ≡ [] → sdps past ++ made ≡ sdps past
none_made E past made none = ap (λ (more : List MadeSdp). sdps past ++ more) none ∙ append-nil (sdps past)

-- a list to which one is added
pub one_made : (E : Type 0) (past : List (Entry E)) (made : List MadeSdp) (said : MadeSdp) (k : ℕ) → made ≡ said ∷ [] → length (sdps past) ≡ k → length (sdps past ++ made) ≡ k + 1
one_made E past made said k one count = length-append (sdps past) made ∙ ap (λ (j : ℕ). length (sdps past) + j) (ap length one) ∙ ap (λ (j : ℕ). j + 1) count
