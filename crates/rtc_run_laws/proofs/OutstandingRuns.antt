-- What runs leave of the offers that await their answers.
use Rattle.std.proofs.Common.{◌≡◌, ◌<◌, ◌^◌, ℕ, true, false, List, [], ◌∷◌, Option, Some, None, refl, sym, subst}
use Rattle.std.proofs.lemmas.Bool.{and_left}
use Rattle.rtc_peer_rows.specs.Table.{IsTable}
use Rattle.rtc_peer_rows.proofs.RowChangeLemmas.{alike_self}
use Rattle.rtc_peer_core.specs.Stance.{Stance}
use Rattle.rtc_run_history.specs.declared.kept.Kept.{Kept}
use Rattle.rtc_run_history.specs.declared.outcome.Outcome.{Outcome}
use Rattle.rtc_run_history.specs.declared.side.Side.{Side}
use Rattle.rtc_run_history.specs.declared.step.Step.{Step}
use Rattle.rtc_run_history.specs.declared.step.Step.TheVariants.{Negotiate, AcceptOffer, AcceptAnswer, Time, Datagram, Poll, Drain, Write, CloseChannel, Close, Rollback, ForeignOffer, ForeignAnswer, Raw}
use Rattle.rtc_run_history.specs.declared.table.Table.{Table}
use Rattle.rtc_run_history.specs.Fresh.{IsJustBuilt}
use Rattle.rtc_run_history.specs.PairState.{held_token, kept_remote_sdp}
use Rattle.rtc_run_history.specs.Past.{Entry, MadeSdp, before, applies, moves, supersedes}
use Rattle.rtc_run_history.specs.Sides.{other_side, same_side, side_of}
use Rattle.rtc_run_history.specs.Signalled.{foreign}
use Rattle.rtc_run_history.specs.Views.{Stances}
use Rattle.rtc_run_history.proofs.BothSides.{both_sides}
use Rattle.rtc_run_laws.proofs.AnswerTells.{hands_answer, hands_foreign as foreign_answer}
use Rattle.rtc_run_laws.proofs.OfferTells.{hands_offer, hands_foreign as foreign_offer}
use Rattle.rtc_run_laws.proofs.Around.{entry}
use Rattle.rtc_run_laws.proofs.KeptTexts.{LeavesOther, leaves_other}
use Rattle.rtc_run_laws.proofs.NegotiationOut.{negotiate_out}
use Rattle.rtc_run_laws.proofs.OutstandingSteps.{StepOut, answer_out, offer_out, rest_out, rollback_out}
use Rattle.rtc_run_laws.proofs.Outstands.{Outstands, stays_out}
use Rattle.rtc_run_laws.proofs.PastTables.{past_table}
use Rattle.rtc_run_laws.proofs.Reaches.{reached_tells, small_before}
use Rattle.rtc_run_laws.proofs.Rests.{handled_rests, heard_rests, polled_rests, told_rests, written_rests, closed_rests}
use Rattle.rtc_run_laws.proofs.StanceRuns.{IsFreshStance, StanceRan, ran_reached, ran_sound}
use Rattle.rtc_run_laws.proofs.StanceSteps.{PairStance, StanceEnters, StancePerforms}
use Rattle.rtc_run_laws.proofs.Tells.{Tells, same_side-other}

-- ---- one step

pub step_out : {E : Type 0} → (fresh : Stances) (past : List (Entry E)) (old new : PairStance) (step : Step) (outcome : Outcome E) (table : Option Table) (made : List MadeSdp) → Tells past old
    → IsTable (before (side_of step) past) → StancePerforms old step outcome table new → old.size < 2 ^ 32 → Outstands fresh past (side_of step) (old.sides (side_of step)) old.sdps
    → StepOut fresh past step outcome table made old new
step_out fresh past old new (Negotiate at ops apply) outcome table made tells rows performs small out =
    negotiate_out fresh past at ops apply old new outcome table made rows performs.acts tells out
step_out {E} fresh past old new (AcceptOffer at k) outcome table made tells rows performs small out =
    offer_out fresh past (AcceptOffer at k) (kept_remote_sdp true old.sdps at k) old new outcome table made (hands_offer E at k) performs.acts out
step_out {E} fresh past old new (AcceptAnswer at t a) outcome table made tells rows performs small out =
    answer_out fresh past (AcceptAnswer at t a) t (held_token old.sdps at t) (kept_remote_sdp false old.sdps at a) old new outcome table made (hands_answer E at t a) refl performs.acts small tells out
step_out fresh past old new (Rollback at t) outcome table made tells rows performs small out =
    rollback_out fresh past at t (held_token old.sdps at t) old new outcome table made refl performs.acts small tells out
step_out {E} fresh past old new (ForeignOffer at text) outcome table made tells rows performs small out =
    offer_out fresh past (ForeignOffer at text) (foreign text) old new outcome table made (foreign_offer E at text) performs.acts out
step_out {E} fresh past old new (ForeignAnswer at t text) outcome table made tells rows performs small out =
    answer_out fresh past (ForeignAnswer at t text) t (held_token old.sdps at t) (foreign text) old new outcome table made (foreign_answer E at t text) refl performs.acts small tells out
step_out fresh past old new (Time at now) outcome table made tells rows performs small out =
    rest_out fresh past (Time at now) outcome table made old new _ tt (told_rests _ (old.sides at) outcome table (new.sides at) handled_rests performs.acts.told) performs.acts out
step_out fresh past old new (Datagram at packet now) outcome table made tells rows performs small out =
    rest_out fresh past (Datagram at packet now) outcome table made old new _ tt (told_rests _ (old.sides at) outcome table (new.sides at) heard_rests performs.acts.told) performs.acts out
step_out fresh past old new (Poll at) outcome table made tells rows performs small out =
    rest_out fresh past (Poll at) outcome table made old new _ tt (told_rests _ (old.sides at) outcome table (new.sides at) polled_rests performs.acts.told) performs.acts out
step_out fresh past old new (Drain at) outcome table made tells rows performs small out =
    rest_out fresh past (Drain at) outcome table made old new _ tt (told_rests _ (old.sides at) outcome table (new.sides at) polled_rests performs.acts.told) performs.acts out
step_out fresh past old new (Write at channel binary bytes) outcome table made tells rows performs small out =
    rest_out fresh past (Write at channel binary bytes) outcome table made old new _ tt (told_rests _ (old.sides at) outcome table (new.sides at) written_rests performs.acts.told) performs.acts out
step_out fresh past old new (CloseChannel at channel) outcome table made tells rows performs small out =
    rest_out fresh past (CloseChannel at channel) outcome table made old new _ tt (told_rests _ (old.sides at) outcome table (new.sides at) closed_rests performs.acts.told) performs.acts out
step_out fresh past old new (Close at) outcome table made tells rows performs small out =
    rest_out fresh past (Close at) outcome table made old new _ tt (told_rests _ (old.sides at) outcome table (new.sides at) handled_rests performs.acts.told) performs.acts out
step_out fresh past old new (Raw at bytes now) outcome table made tells rows performs small out =
    rest_out fresh past (Raw at bytes now) outcome table made old new _ tt (told_rests _ (old.sides at) outcome table (new.sides at) handled_rests performs.acts.told) performs.acts out

-- no step moves the other side
moves_other : {E : Type 0} → (step : Step) (outcome : Outcome E) → moves (other_side (side_of step)) step outcome ≡ false
moves_other (Negotiate at ops apply) outcome = and_left (same_side at (other_side at)) (applies outcome) (same_side-other at)
moves_other (AcceptOffer at k) outcome = and_left (same_side at (other_side at)) (supersedes outcome) (same_side-other at)
moves_other (AcceptAnswer at t a) outcome = refl
moves_other (Rollback at t) outcome = refl
moves_other (ForeignOffer at text) outcome = and_left (same_side at (other_side at)) (supersedes outcome) (same_side-other at)
moves_other (ForeignAnswer at t text) outcome = refl
moves_other (Time at now) outcome = refl
moves_other (Datagram at packet now) outcome = refl
moves_other (Poll at) outcome = refl
moves_other (Drain at) outcome = refl
moves_other (Write at channel binary bytes) outcome = refl
moves_other (CloseChannel at channel) outcome = refl
moves_other (Close at) outcome = refl
moves_other (Raw at bytes now) outcome = refl

-- what is said of the side that did not act stays
stays_there : {E : Type 0} → (fresh : Stances) (past : List (Entry E)) (old new : PairStance) (step : Step) (outcome : Outcome E) (table : Option Table) (made : List MadeSdp) → StepOut fresh past step outcome table made old new
    → new.sides (other_side (side_of step)) ≡ old.sides (other_side (side_of step)) → Outstands fresh past (other_side (side_of step)) (old.sides (other_side (side_of step))) old.sdps
    → Outstands fresh (entry step outcome table made ∷ past) (other_side (side_of step)) (new.sides (other_side (side_of step))) new.sdps
stays_there fresh past old new step outcome table made goes other out =
    let at : Side = side_of step in
    let left : LeavesOther at old.sdps new.sdps = leaves_other at old.sdps new.sdps goes.texts in
    let there : Stance = old.sides (other_side at) in
    subst (λ (p : Stance). Outstands fresh (entry step outcome table made ∷ past) (other_side at) p new.sdps) (sym other)
    (stays_out fresh past (entry step outcome table made) (other_side at) there there old.sdps new.sdps
    (record {
      still = moves_other step outcome;
      beyond = goes.beyond;
      held = left.held;
      right = λ r sdp right found own. left.there r sdp found own;
      polite = refl;
      outstanding = refl;
      alike = alike_self there.lines;
      unconfirmed = λ id free. free;
    }) out)

pub next_out : {E : Type 0} → (fresh : Stances) (past : List (Entry E)) (old new : PairStance) (step : Step) (outcome : Outcome E) (table : Option Table) (made : List MadeSdp) → Tells past old
    → IsTable (before (side_of step) past) → StancePerforms old step outcome table new → old.size < 2 ^ 32 → ((at : Side) → Outstands fresh past at (old.sides at) old.sdps)
    → (at : Side) → Outstands fresh (entry step outcome table made ∷ past) at (new.sides at) new.sdps
next_out fresh past old new step outcome table made tells rows performs small out =
    let goes = step_out fresh past old new step outcome table made tells rows performs small (out (side_of step)) in
    both_sides (λ at. Outstands fresh (entry step outcome table made ∷ past) at (new.sides at) new.sdps) (side_of step) goes.own
    (stays_there fresh past old new step outcome table made goes performs.other (out (other_side (side_of step))))

-- ---- all steps

fresh_out : (E : Type 0) (fresh : Stances) (at : Side) (kept : List Kept) → IsJustBuilt (fresh at) → kept ≡ [] → Outstands {E = E} fresh [] at (fresh at) kept
fresh_out E fresh at kept built none = record {
  polite = refl;
  outstanding = built.outstanding;
  owns = λ t is. absurd (let e : ◌≡◌ {A = Option ℕ} None (Some t) = is in cc);
  links = λ t token there right. absurd (let e : false ≡ true = right in cc);
  undoes = λ t token there right. absurd (let e : false ≡ true = right in cc);
}

pub ran_outstands : {E : Type 0} → (start pair : PairStance) (past : List (Entry E)) → IsFreshStance start → StanceRan start past pair → pair.size < 2 ^ 32 → (at : Side)
    → Outstands start.sides past at (pair.sides at) pair.sdps
ran_outstands {E} start pair [] fresh ran small at =
    let same : pair ≡ start = ran in rw same (fresh_out E start.sides at start.sdps (fresh.built at) fresh.sdps)
ran_outstands {E} start pair (last ∷ past) fresh ran small at =
    let enters : StanceEnters ran.0 last pair = ran.2.0 in
    let fewer : ran.0.size < 2 ^ 32 = small_before ran.0 pair last enters small in
    next_out start.sides past ran.0 pair last.step last.outcome last.table last.made (reached_tells start ran.0 past fresh (ran_reached start past ran.0 ran.1) fewer)
    (past_table start.sides past (side_of last.step) (ran_sound start past ran.0 ran.1)) enters.performs fewer
    (λ side. ran_outstands start ran.0 past fresh ran.1 fewer side) at
