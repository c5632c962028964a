-- Rounds, read from the past: an offer, its own answer, and what accepting this answer leaves.
use Rattle.std.specs.Prelude.{◌≡◌, ◌==◌, ◌&&◌, not, Bool, true, false, ℕ, List, [], ◌∷◌, length, if◌then◌else◌, Option, Some}
use Rattle.std.specs.List.{list_any}
use Rattle.rtc_sdp_values.specs.declared.line_row.LineRow.{LineRow}
use Rattle.rtc_run_history.specs.declared.side.Side.{Side}
use Rattle.rtc_run_history.specs.declared.op.Op.{Op}
use Rattle.rtc_run_history.specs.declared.op.Op.TheVariants.{AddMedia, SetDirection, StopMedia, AddChannel, IceRestart}
use Rattle.rtc_run_history.specs.declared.step.Step.{Step}
use Rattle.rtc_run_history.specs.declared.step.Step.TheVariants.{Negotiate, AcceptOffer, AcceptAnswer, Time, Datagram, Poll, Drain}
use Rattle.rtc_run_history.specs.declared.step.Step.TheVariants.{Write, CloseChannel, Close, Rollback, ForeignOffer, ForeignAnswer, Raw}
use Rattle.rtc_run_history.specs.declared.outcome.Outcome.{Outcome}
use Rattle.rtc_run_history.specs.declared.outcome.Outcome.TheVariants.{Answered, Finished}
use Rattle.rtc_run_history.specs.declared.table.Table.{Table}
use Rattle.rtc_run_history.specs.Sides.{same_side, other_side}
use Rattle.rtc_run_history.specs.Past.{Entry, before, makes, added_by}
use Rattle.rtc_run_history.specs.Finished.{FinishedRound}

-- the past up to the newest entry that passes, with it
abbrev pub through_last : {E : Type 0} → (Entry E → Bool) → List (Entry E) → List (Entry E)
through_last passes [] = []
through_last passes (entry ∷ past) = if passes entry then entry ∷ past else through_last passes past

-- the past before the newest entry that passes
abbrev pub before_last : {E : Type 0} → (Entry E → Bool) → List (Entry E) → List (Entry E)
before_last passes [] = []
before_last passes (entry ∷ past) = if passes entry then past else before_last passes past

-- the entries after the newest one that passes
abbrev pub since_last : {E : Type 0} → (Entry E → Bool) → List (Entry E) → List (Entry E)
since_last passes [] = []
since_last passes (entry ∷ past) = if passes entry then [] else entry ∷ since_last passes past

-- whether an entry made the offer of a number
abbrev pub makes_offer : {E : Type 0} → ℕ → Entry E → Bool
makes_offer t entry = makes t entry.outcome

-- whether a step made the answer of a number to the offer of a number, at the other side than this one
abbrev pub is_answer_to : {E : Type 0} → Side → ℕ → ℕ → Step → Outcome E → Bool
is_answer_to at t a (AcceptOffer side offer) (Answered k) = not (same_side side at) && ((offer == t) && (k == a))
is_answer_to at t a step outcome = false

abbrev pub makes_answer : {E : Type 0} → Side → ℕ → ℕ → Entry E → Bool
makes_answer at t a entry = is_answer_to at t a entry.step entry.outcome

-- whether an answer is its token's own: the other side made it by accepting the token's offer
abbrev pub is_own : {E : Type 0} → Side → ℕ → ℕ → List (Entry E) → Bool
is_own at t a past = list_any (makes_answer at t a) past

-- whether an op sets the direction of a line, or stops one
abbrev pub sets_line : Op → Bool
sets_line (AddMedia kind dir) = false
sets_line (SetDirection place dir) = true
sets_line (StopMedia place) = true
sets_line (AddChannel config) = false
sets_line (IceRestart keep) = false

-- whether a step of a side sets or stops a line, applied or not
abbrev pub sets_lines : Side → Step → Bool
sets_lines at (Negotiate side ops apply) = same_side side at && list_any sets_line ops
sets_lines at (AcceptOffer side offer) = false
sets_lines at (AcceptAnswer side token answer) = false
sets_lines at (Time side now) = false
sets_lines at (Datagram side packet now) = false
sets_lines at (Poll side) = false
sets_lines at (Drain side) = false
sets_lines at (Write side channel binary bytes) = false
sets_lines at (CloseChannel side channel) = false
sets_lines at (Close side) = false
sets_lines at (Rollback side token) = false
sets_lines at (ForeignOffer side text) = false
sets_lines at (ForeignAnswer side token text) = false
sets_lines at (Raw side bytes now) = false

-- whether a side set or stopped a line since it made the offer of a number
abbrev pub has_set : {E : Type 0} → Side → ℕ → List (Entry E) → Bool
has_set at t past = list_any (λ entry. sets_lines at entry.step) (since_last (makes_offer t) past)

-- the rows of a side when it made the offer of a number
abbrev pub rows_at_offer : {E : Type 0} → Side → ℕ → List (Entry E) → List LineRow
rows_at_offer at t past = before at (through_last (makes_offer t) past)

-- Accepting the answer ends the round of its offer at this side, and leaves these rows there.
abbrev pub EndsRound : {E : Type 0} → Side → ℕ → ℕ → List (Entry E) → List LineRow → Type 0
EndsRound at t a past after =
    FinishedRound
    (rows_at_offer at t past)
    (added_by (length (rows_at_offer at t past)) t past)
    (before (other_side at) (before_last (makes_answer at t a) past))
    (before (other_side at) (through_last (makes_answer at t a) past))
    after

-- An accepted answer that is its token's own ends the round, if its side set and stopped no line since the offer.
abbrev pub FinishesRound : {E : Type 0} → List (Entry E) → Step → Outcome E → Option Table → Type 0
FinishesRound past (AcceptAnswer at t a) Finished (Some table) =
    is_own at t a past ≡ true → has_set at t past ≡ false → EndsRound at t a past table.lines
FinishesRound past step outcome table = Unit {0}
