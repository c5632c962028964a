-- What steps that hand over an offer or an answer tell of its acceptance.
use Rattle.std.proofs.Common.{◌≡◌, ◌&&◌, ◌||◌, ℕ, Bool, true, false, cond, List, ◌∷◌, Option, Some, None, refl, ap}
use Rattle.rtc_peer_core.specs.declared.rtc_error.RtcError.{RtcError}
use Rattle.rtc_run_history.specs.Signalled.{Signalled, foreign, sdp_read}
use Rattle.rtc_run_history.specs.declared.side.Side.{Side}
use Rattle.rtc_run_history.specs.declared.step.Step.{Step}
use Rattle.rtc_run_history.specs.declared.step.Step.TheVariants.{AcceptOffer, AcceptAnswer, ForeignOffer, ForeignAnswer}
use Rattle.rtc_run_history.specs.declared.outcome.Outcome.{Outcome}
use Rattle.rtc_run_history.specs.declared.outcome.Outcome.TheVariants.{Answered, Finished, Refused, NoSuch, Alloc}
use Rattle.rtc_run_history.specs.declared.table.Table.{Table}
use Rattle.rtc_run_history.specs.Memory.{error_lacks, is_fault}
use Rattle.rtc_run_history.specs.Past.{Entry, MadeSdp, before, rows_or, remote_sdp}
use Rattle.rtc_run_history.specs.Sides.{same_side}
use Rattle.rtc_run_history.specs.Views.{accepted_by, breaks_off, init_brought, init_in, init_told_by}
use Rattle.rtc_run_laws.proofs.Tells.{same_side-self}
use Rattle.rtc_run_laws.proofs.Around.{entry}

here_is : {A : Type 0} (at : Side) (found : Option A) → cond (same_side at at) found None ≡ found
here_is at found = rw (same_side-self at) refl

here_breaks : (at : Side) (b : Bool) → b ≡ true → (same_side at at && b) ≡ true
here_breaks at b is = rw (same_side-self at, is) refl

-- What a step that hands an offer over tells of its acceptance: an SDP where it is answered, and that a fault broke it off.
pub record TellsOffer (E : Type 0) (past : List (Entry E)) (at : Side) (offer : Signalled) (step : Step) : Type 0 where
  pub accepted : (n : ℕ) → accepted_by {E = E} at step (Answered n) past ≡ sdp_read offer
  pub refused : (error : RtcError) → accepted_by {E = E} at step (Refused error) past ≡ None
  pub none : accepted_by {E = E} at step NoSuch past ≡ None
  pub lacking : accepted_by {E = E} at step Alloc past ≡ None
  pub breaks : (error : RtcError) → (error_lacks error || is_fault error) ≡ true → breaks_off {E = E} at step (Refused error) ≡ true
  pub shows : (outcome : Outcome E) (table : Table) (made : List MadeSdp) → before at (entry step outcome (Some table) made ∷ past) ≡ table.lines
  pub brings : init_brought at step past ≡ init_in true (sdp_read offer)

pub tells_offer : (E : Type 0) (past : List (Entry E)) (at : Side) (k : ℕ) → TellsOffer E past at (remote_sdp true at k past) (AcceptOffer at k)
tells_offer E past at k = record {
  accepted = λ n. here_is at (sdp_read (remote_sdp true at k past));
  refused = λ error. refl;
  none = refl;
  lacking = refl;
  breaks = λ error is. here_breaks at (error_lacks error || is_fault error) is;
  shows = λ outcome table made. ap (λ (b : Bool). rows_or b (Some table) (before at past)) (same_side-self at);
  brings = refl;
}

pub tells_foreign : (E : Type 0) (past : List (Entry E)) (at : Side) (text : List ℕ) → TellsOffer E past at (foreign text) (ForeignOffer at text)
tells_foreign E past at text = record {
  accepted = λ n. here_is at (sdp_read (foreign text));
  refused = λ error. refl;
  none = refl;
  lacking = refl;
  breaks = λ error is. here_breaks at (error_lacks error || is_fault error) is;
  shows = λ outcome table made. ap (λ (b : Bool). rows_or b (Some table) (before at past)) (same_side-self at);
  brings = refl;
}

-- What a step that hands an answer over tells of its acceptance.
pub record TellsAnswer (E : Type 0) (past : List (Entry E)) (at : Side) (t : ℕ) (sdp : Signalled) (step : Step) : Type 0 where
  pub accepted : accepted_by {E = E} at step Finished past ≡ sdp_read sdp
  pub refused : (error : RtcError) → accepted_by {E = E} at step (Refused error) past ≡ None
  pub none : accepted_by {E = E} at step NoSuch past ≡ None
  pub lacking : accepted_by {E = E} at step Alloc past ≡ None
  pub breaks : (error : RtcError) → (error_lacks error || is_fault error) ≡ true → breaks_off {E = E} at step (Refused error) ≡ true
  pub shows : (outcome : Outcome E) (table : Table) (made : List MadeSdp) → before at (entry step outcome (Some table) made ∷ past) ≡ table.lines
  pub brings : init_brought at step past ≡ init_in (init_told_by t past) (sdp_read sdp)

pub tells_answer : (E : Type 0) (past : List (Entry E)) (at : Side) (t a : ℕ) → TellsAnswer E past at t (remote_sdp false at a past) (AcceptAnswer at t a)
tells_answer E past at t a = record {
  accepted = here_is at (sdp_read (remote_sdp false at a past));
  refused = λ error. refl;
  none = refl;
  lacking = refl;
  breaks = λ error is. here_breaks at (error_lacks error || is_fault error) is;
  shows = λ outcome table made. ap (λ (b : Bool). rows_or b (Some table) (before at past)) (same_side-self at);
  brings = refl;
}

pub foreign_answer : (E : Type 0) (past : List (Entry E)) (at : Side) (t : ℕ) (text : List ℕ) → TellsAnswer E past at t (foreign text) (ForeignAnswer at t text)
foreign_answer E past at t text = record {
  accepted = here_is at (sdp_read (foreign text));
  refused = λ error. refl;
  none = refl;
  lacking = refl;
  breaks = λ error is. here_breaks at (error_lacks error || is_fault error) is;
  shows = λ outcome table made. ap (λ (b : Bool). rows_or b (Some table) (before at past)) (same_side-self at);
  brings = refl;
}
