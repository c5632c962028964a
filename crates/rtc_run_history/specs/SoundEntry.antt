-- What the next entry of a past may be.
use Rattle.std.specs.Prelude.{List, ◌∷◌}
use Rattle.std.specs.List.{AllByRecursion}
use Rattle.rtc_run_history.specs.Past.{Entry, MadeSdp}
use Rattle.rtc_run_history.specs.Signalled.{ReadsBack}
use Rattle.rtc_run_history.specs.Sound.{IsSound}
use Rattle.rtc_run_history.specs.SaidRows.{MakesSdp}
use Rattle.rtc_run_history.specs.Rounds.{FinishesRound}
use Rattle.rtc_run_history.specs.Orderly.{OkWhereOrderly, InStepWhereOrderly}
use Rattle.rtc_run_history.specs.Views.{Stances, AreFormed}

-- each SDP that a step made is read back
abbrev pub AreReadBack : List MadeSdp → Type 0
AreReadBack made = AllByRecursion (λ said. ReadsBack said.sdp) made

-- The reply is a possible one, given the sides of the fresh pair and those before and after the step, and the SDP that was made describes
-- the rows of its side. If both sides of the fresh pair are formed, what they make is read back, and an answer that ends a round leaves
-- both ends agreed. Until memory runs out or a part fails, and while channel numbers are not exhausted, orderly steps then succeed, and
-- leave both sides in step if no round is open.
pub record IsSoundEntry {E : Type 0} (fresh : Stances) (past : List (Entry E)) (between : Stances) (entry : Entry E) (after : Stances)
    : Type 0 where
  pub replied : IsSound fresh past between entry.step entry.outcome entry.table entry.made
  pub made : MakesSdp entry.step entry.outcome entry.table entry.made
  pub read_back : AreFormed fresh → AreReadBack entry.made
  pub finished : AreFormed fresh → FinishesRound past entry.step entry.outcome entry.table
  pub orderly : AreFormed fresh → OkWhereOrderly fresh past entry.step entry.outcome
  pub in_step : AreFormed fresh → InStepWhereOrderly fresh (entry ∷ past) after
