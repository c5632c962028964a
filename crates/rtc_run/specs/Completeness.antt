-- Session descriptions (SDPs) that no cause refuses are accepted, unless memory runs out or a part fails; and no reply reports that a part
-- failed if none did.
use Rattle.std.specs.Prelude.{◌≡◌, ◌||◌, ℕ, Bool, true, false, List, Option, Some, None}
use Rattle.rtc_sdp_values.specs.declared.sdp.Sdp.{Sdp}
use Rattle.rtc_change.specs.Plans.{verdict}
use Rattle.rtc_peer_core.specs.Meanings.{Meanings}
use Rattle.rtc_peer_core.specs.Stance.{held_by}
use Rattle.rtc_run_history.specs.declared.side.Side.{Side}
use Rattle.rtc_run_history.specs.declared.outcome.Outcome.{Outcome}
use Rattle.rtc_run_history.specs.declared.reply.Reply.{Reply}
use Rattle.rtc_run_history.specs.declared.step.Step.{Step}
use Rattle.rtc_run_history.specs.declared.step.Step.TheVariants.{AcceptOffer, AcceptAnswer, ForeignOffer, ForeignAnswer}
use Rattle.rtc_run_history.specs.declared.table.Table.{Table}
use Rattle.rtc_run_history.specs.Memory.{CountedPart, fails, tell_fault}
use Rattle.rtc_run_history.specs.Orderly.{is_ok}
use Rattle.rtc_run_history.specs.PairState.{PairState}
use Rattle.rtc_run_history.specs.Past.{Entry, MadeSdp, remote_sdp, holds_token, is_right}
use Rattle.rtc_run_history.specs.Runs.{Runs}
use Rattle.rtc_run_history.specs.Signalled.{Signalled, Readable, foreign}
use Rattle.rtc_run_history.specs.Sound.{IsSound, asked_in, is_glare_at}
use Rattle.rtc_run_history.specs.SoundParts.{CountsFault}
use Rattle.rtc_run_history.specs.Views.{Stances, view_in}

-- a step succeeded, or reports that memory ran out or that a part failed
abbrev pub SucceedsOrFails : {E : Type 0} → Outcome E → Type 0
SucceedsOrFails outcome = (is_ok outcome || fails outcome) ≡ true

-- an offer that can be read, that collides with none of this side, and for which no cause holds
pub record IsFaultlessOffer {E : Type 0} (fresh : Stances) (past : List (Entry E)) (between : Stances) (at : Side) (said : Signalled)
    : Type 0 where
  pub offer : Sdp
  pub there : said ≡ Readable offer
  pub no_glare : is_glare_at fresh at past ≡ false
  pub passes : verdict (view_in fresh at past (held_by (between at))) None offer ≡ None

-- an answer that can be read, and for which no cause holds, with a token of this side that is held and right
pub record IsFaultlessAnswer {E : Type 0} (fresh : Stances) (past : List (Entry E)) (between : Stances) (at : Side) (t : ℕ)
    (said : Signalled) : Type 0 where
  pub answer : Sdp
  pub there : said ≡ Readable answer
  pub held : holds_token at t past ≡ true
  pub right : is_right at t past ≡ true
  pub passes : verdict (view_in fresh at past (held_by (between at))) (Some (asked_in at t past)) answer ≡ None

-- a step that gives a side such an offer, or such an answer, succeeds or fails
abbrev pub OfferPasses : {E : Type 0} → Stances → List (Entry E) → Stances → Side → Signalled → Step → Type 0
OfferPasses {E} fresh past between at said step =
    (outcome : Outcome E) (table : Option Table) (made : List MadeSdp)
    → IsSound fresh past between step outcome table made → IsFaultlessOffer fresh past between at said → SucceedsOrFails outcome

abbrev pub AnswerPasses : {E : Type 0} → Stances → List (Entry E) → Stances → Side → ℕ → Signalled → Step → Type 0
AnswerPasses {E} fresh past between at t said step =
    (outcome : Outcome E) (table : Option Table) (made : List MadeSdp)
    → IsSound fresh past between step outcome table made → IsFaultlessAnswer fresh past between at t said → SucceedsOrFails outcome

-- those that the other side made
abbrev pub FaultlessOffersPass : Type 0 → Type 0
FaultlessOffersPass E =
    (fresh : Stances) (past : List (Entry E)) (between : Stances) (at : Side) (k : ℕ)
    → OfferPasses fresh past between at (remote_sdp true at k past) (AcceptOffer at k)

abbrev pub FaultlessAnswersPass : Type 0 → Type 0
FaultlessAnswersPass E =
    (fresh : Stances) (past : List (Entry E)) (between : Stances) (at : Side) (t a : ℕ)
    → AnswerPasses fresh past between at t (remote_sdp false at a past) (AcceptAnswer at t a)

-- and those that anybody wrote
abbrev pub ForeignOffersPass : Type 0 → Type 0
ForeignOffersPass E =
    (fresh : Stances) (past : List (Entry E)) (between : Stances) (at : Side) (text : List ℕ)
    → OfferPasses fresh past between at (foreign text) (ForeignOffer at text)

abbrev pub ForeignAnswersPass : Type 0 → Type 0
ForeignAnswersPass E =
    (fresh : Stances) (past : List (Entry E)) (between : Stances) (at : Side) (t : ℕ) (text : List ℕ)
    → AnswerPasses fresh past between at t (foreign text) (ForeignAnswer at t text)

module _ {I D S M E X T W N : Type 0} (m : Meanings I D S M E X T W N) (stun : List ℕ → Bool) where
  -- if no part of a pair that counts its faults failed in a run, no reply of it reports a fault
  abbrev pub FaultsAreCounted : Type 0
  FaultsAreCounted =
      (start : PairState I D S M N) (steps : List Step) (replies : List (Reply E)) (pair : PairState I D S M N)
      → Runs m stun start steps replies pair → ((part : CountedPart) (at : Side) → ¬ CountsFault m part at start pair)
      → tell_fault replies ≡ false
