-- Steps that negotiate nothing leave what is outstanding.
use Rattle.std.proofs.Common.{◌≡◌, ◌∙◌, ℕ, true, false, List, [], ◌∷◌, ◌++◌, length, Option, Some, sym, ap, subst, append-nil}
use Rattle.rtc_sdp_values.specs.declared.line_row.LineRow.{LineRow}
use Rattle.rtc_run_history.specs.declared.side.Side.{Side}
use Rattle.rtc_run_history.specs.declared.side.Side.TheVariants.{Left, Right}
use Rattle.rtc_run_history.specs.declared.step.Step.{Step}
use Rattle.rtc_run_history.specs.declared.outcome.Outcome.{Outcome}
use Rattle.rtc_run_history.specs.declared.table.Table.{Table}
use Rattle.rtc_run_history.specs.Orderly.{Course, Phase, Idle, AwaitsAnswer, AwaitsEnd, course_rows}
use Rattle.rtc_run_history.specs.Past.{Entry, MadeSdp, before, makes, moves, spends, sdps}
use Rattle.rtc_run_history.specs.SaidRows.{MakesSdp}
use Rattle.rtc_run_history.specs.Sides.{other_side}
use Rattle.rtc_run_history.specs.Sound.{IsSound}
use Rattle.rtc_run_history.specs.Views.{Stances}
use Rattle.rtc_run_laws.proofs.PastOffers.{stays_there}
use Rattle.rtc_run_laws.proofs.RowNames.{Aligned}
use Rattle.rtc_run_laws.proofs.RowsFollow.{Follows}
use Rattle.rtc_run_laws.proofs.RoundRows.{OfferSaid, AnswerSaid, HasOffered, HasAnswered}
use Rattle.rtc_run_laws.proofs.Courses.{IsSideOf, InPhase, InCourse}
use Rattle.rtc_run_laws.proofs.OrderlySteps.{GoesOn}
use Rattle.rtc_run_laws.proofs.Around.{entry}
use Rattle.rtc_run_laws.proofs.Rests.{IsRest, moves_none, spends_none, rest_unmade, rest_before, rest_says}

-- an entry that leaves the rows and the tokens of both sides, and makes no SDP
pub record IsStill {E : Type 0} (past : List (Entry E)) (last : Entry E) : Type 0 where
  pub rows : (side : Side) → before side (last ∷ past) ≡ before side past
  pub none : last.made ≡ []
  pub still : (side : Side) → moves side last.step last.outcome ≡ false
  pub unmade : (t : ℕ) → makes t last.outcome ≡ false
  pub unspent : (t : ℕ) → spends t last.step last.outcome ≡ false

offered_still : {E : Type 0} → (past : List (Entry E)) (last : Entry E) (offer : OfferSaid) (side : Side) (n : ℕ) → IsStill past last → HasOffered offer side n past → HasOffered offer side n (last ∷ past)
offered_still past last offer side n is has = record {
  right = rw (is.unmade n, is.still side) has.right;
  unspent = rw (is.unspent n) has.unspent;
  there = stays_there (sdps past) last.made n _ has.there;
  adds = rw (is.unmade n) has.adds;
  kept = subst (λ (rows : List LineRow). Aligned offer.front rows) (sym (is.rows side)) has.kept;
}

answered_still : {E : Type 0} → (past : List (Entry E)) (last : Entry E) (offer : OfferSaid) (answer : AnswerSaid) (side : Side) (m : ℕ) → IsStill past last → HasAnswered offer answer side m past
    → HasAnswered offer answer side m (last ∷ past)
answered_still past last offer answer side m is has = record {
  there = stays_there (sdps past) last.made m _ has.there;
  offered = has.offered;
  mine = subst (λ (rows : List LineRow). Follows rows rows answer.rows) (sym (is.rows side)) has.mine;
  theirs = subst (λ (rows : List LineRow). Aligned answer.rows rows) (sym (is.rows (other_side side))) has.theirs;
}

aligned_still : {E : Type 0} → (past : List (Entry E)) (last : Entry E) (one other : Side) → IsStill past last → Aligned (before one past) (before other past)
    → Aligned (before one (last ∷ past)) (before other (last ∷ past))
aligned_still past last one other is same =
    subst (λ (rows : List LineRow). Aligned rows (before other (last ∷ past))) (sym (is.rows one))
    (subst (λ (rows : List LineRow). Aligned (before one past) rows) (sym (is.rows other)) same)

phase_still : {E : Type 0} → (past : List (Entry E)) (last : Entry E) (phase : Phase) → IsStill past last → InPhase phase past → InPhase phase (last ∷ past)
phase_still past last Idle is same = aligned_still past last Left Right is same
phase_still past last (AwaitsAnswer side n said) is out = record {
  offer = out.offer;
  are = out.are;
  has = offered_still past last out.offer side n is out.has;
  same = aligned_still past last side (other_side side) is out.same;
}
phase_still past last (AwaitsEnd side n m said) is out = record {
  offer = out.offer;
  answer = out.answer;
  are = out.are;
  has = offered_still past last out.offer side n is out.has;
  answered = answered_still past last out.offer out.answer side m is out.answered;
}

course_still : {E : Type 0} → (past : List (Entry E)) (last : Entry E) (course : Course) → IsStill past last → InCourse course past → InCourse course (last ∷ past)
course_still past last course is on = record {
  count = ap (λ (more : List MadeSdp). length (sdps past ++ more)) is.none ∙ ap length (append-nil (sdps past)) ∙ on.count;
  sides = λ side. subst (λ (rows : List LineRow). IsSideOf (course_rows side course) rows) (sym (is.rows side)) (on.sides side);
  phase = phase_still past last course.phase is on.phase;
}

-- A step that negotiates nothing leaves the course.
pub rest_goes_on : {E : Type 0} → (fresh between : Stances) (past : List (Entry E)) (step : Step) (outcome : Outcome E) (table : Option Table) (made : List MadeSdp) (course course' : Course) → IsRest step
    → Some course ≡ Some course' → InCourse course past → IsSound fresh past between step outcome table made → MakesSdp step outcome table made
    → GoesOn false outcome course' (entry step outcome table made ∷ past)
rest_goes_on fresh between past step outcome table made course course' rest after on sound says =
    let same : course ≡ course' = cc in
    let is : IsStill past (entry step outcome table made) = record {
      rows = λ side. rest_before fresh between past step outcome table made rest sound side;
      none = rest_says step outcome table made rest says;
      still = λ side. moves_none side step outcome rest;
      unmade = λ t. rest_unmade fresh between past step outcome table made t rest sound;
      unspent = λ t. spends_none t step outcome rest;
    } in
    record {
      ok = λ negotiating. absurd (let e : false ≡ true = negotiating in cc);
      next = λ enough. subst (λ (c : Course). InCourse c (entry step outcome table made ∷ past)) same (course_still past (entry step outcome table made) course is on);
    }
