-- Every pair that orderly steps lead to is in its course and in its round, up to the first want of memory or fault, so that each step gives
-- its Ok until then.
use Rattle.std.proofs.Common.{◌≡◌, ℕ, Bool, true, false, not, ◌&&◌, List, Option, Some, None, refl, sym, ◌∙◌, ap, subst, cond}
use Rattle.std.specs.Prelude.{is_some, slice_get, option_map}
use Rattle.rtc_sctp_values.specs.InitHalves.{InitHalves, local_text}
use Rattle.rtc_sctp_values.specs.SnapHalves.{KeptHalves, text_in}
use Rattle.rtc_sdp_values.specs.Sdp.{sdp_sctp_init}
use Rattle.rtc_sdp_values.specs.declared.sdp.Sdp.{Sdp}
use Rattle.rtc_change.specs.PendingOffer.{staged_restart}
use Rattle.rtc_peer_core.specs.Stance.{Stance, held_by}
use Rattle.rtc_run_history.specs.Signalled.{Readable, signalled_if, ReadsBack}
use Rattle.rtc_run_history.specs.declared.side.Side.{Side}
use Rattle.rtc_run_history.specs.declared.side.Side.TheVariants.{Left, Right}
use Rattle.rtc_run_history.specs.declared.kept.Kept.{Kept}
use Rattle.rtc_run_history.specs.declared.step.Step.{Step}
use Rattle.rtc_run_history.specs.declared.step.Step.TheVariants.{Negotiate, AcceptOffer, AcceptAnswer, Time, Datagram, Poll, Drain, Write, CloseChannel, Close, Rollback, ForeignOffer, ForeignAnswer, Raw}
use Rattle.rtc_run_history.specs.Sides.{same_side, other_side}
use Rattle.rtc_run_history.specs.Answers.{has_app_row}
use Rattle.rtc_run_history.specs.Past.{Entry, before, sdps, sdp_for, remote_sdp, restarts_by}
use Rattle.rtc_sdp_writer.specs.AsRead.{as_read}
use Rattle.rtc_run_history.specs.SoundEntry.{AreReadBack}
use Rattle.rtc_run_laws.proofs.ReadPasts.{read_at}
use Rattle.rtc_run_history.specs.Orderly.{Phase, Course, is_offerer, after_step, can_connect, AreJoined}
use Rattle.rtc_run_history.specs.Outstanding.{has_outstanding}
use Rattle.rtc_run_history.specs.Sound.{is_glare_at}
use Rattle.rtc_peer_core.specs.Glare.{is_impolite, meets_glare}
use Rattle.rtc_run_history.specs.PairState.{made_sdp, kept_remote_sdp, held_token, token_for}
use Rattle.rtc_run_history.specs.Views.{Stances}
use Rattle.rtc_run_laws.proofs.StanceSteps.{PairStance}
use Rattle.rtc_run_laws.proofs.Tells.{Tells, same_side-self, same_side-other}
use Rattle.rtc_run_laws.proofs.Entries.{said_at}
use Rattle.rtc_run_laws.proofs.SeenSides.{SideSees, view_is}
use Rattle.rtc_run_laws.proofs.AsReadSdps.{init_as_read}
use Rattle.rtc_run_laws.proofs.Courses.{InCourse, InPhase}
use Rattle.rtc_run_laws.proofs.CourseSteps.{accept_course, end_course}
use Rattle.rtc_run_laws.proofs.OrderlySteps.{SidePasses}
use Rattle.rtc_run_laws.proofs.SideRounds.{side_passes, InRound, HasMade, IsOfferOut, IsAnswerOut, told_as_read}
use Rattle.rtc_run_laws.proofs.SideRoundSteps.{other_twice}
use Rattle.rtc_run_laws.proofs.RoundRows.{IsOffered}
use Rattle.rtc_run_laws.proofs.RowNames.{Aligned, has_app-aligned}
use Rattle.rtc_run_laws.proofs.StartedSides.{IsStartTold}
use Rattle.rtc_run_laws.proofs.StartHalves.{TellsHalf, AnswersHalf, init_passes}
use Rattle.rtc_run_history.specs.Views.{view_in}
use Rattle.rtc_run_laws.proofs.RoundRows.{HeadPasses}

-- ---- what is delivered in a round

-- an SDP that is read is the one that was made, but for its sources
delivered : (offer : Bool) (at : Side) (kept : Kept) (sdp : Sdp) → ReadsBack kept.sdp → signalled_if (sdp_for offer at (Some (made_sdp kept))) ≡ Readable sdp
    → as_read kept.sdp ≡ sdp
delivered offer at kept sdp read is = by (cond offer kept.offer (not kept.offer) && not (same_side kept.at at)) is
  where
    by : (b : Bool) → signalled_if (cond b (Some kept.sdp) None) ≡ Readable sdp → as_read kept.sdp ≡ sdp
    by true is = let both : Readable (as_read kept.sdp) ≡ Readable sdp = sym read ∙ is in cc
    by false is = absurd (cc)

-- each that is kept is read back where each of the past is
pub kept_read : {E : Type 0} → (past : List (Entry E)) (pair : PairStance) (n : ℕ) (kept : Kept) → Tells past pair → AreReadBack (sdps past)
    → slice_get pair.sdps n ≡ Some kept → ReadsBack kept.sdp
kept_read past pair n kept tells read there = read_at past n (made_sdp kept) read (said_at past pair n tells.says ∙ ap (option_map made_sdp) there)

pub delivered_at : (pair : PairStance) (offer : Bool) (at : Side) (n : ℕ) (kept : Kept) (sdp : Sdp) → ReadsBack kept.sdp → slice_get pair.sdps n ≡ Some kept
    → kept_remote_sdp offer pair.sdps at n ≡ Readable sdp → as_read kept.sdp ≡ sdp
delivered_at pair offer at n kept sdp read there is =
    delivered offer at kept sdp read (sym (ap (λ found. signalled_if (sdp_for offer at (option_map made_sdp found))) there) ∙ is)

pub token_held : (at : Side) (n : ℕ) (pair : PairStance) (made : HasMade at n pair) → held_token pair.sdps at n ≡ Some made.token
token_held at n pair made = ap (token_for at) made.there ∙ ap (λ b. cond b made.kept.token None) (ap (λ side. same_side side at) made.mine ∙ same_side-self at) ∙ made.has

-- one of the two sides is not lite
lites_apart : (fresh : Stances) → can_connect fresh ≡ true → (at : Side) → ((fresh (other_side at)).ice.lite && (fresh at).ice.lite) ≡ false
lites_apart fresh connect Left = by (fresh Left).ice.lite (fresh Right).ice.lite connect
  where
    by : (left right : Bool) → not (left && right) ≡ true → (right && left) ≡ false
    by true true is = absurd (cc)
    by true false is = refl
    by false true is = refl
    by false false is = refl
lites_apart fresh connect Right = by (fresh Left).ice.lite (fresh Right).ice.lite connect
  where
    by : (left right : Bool) → not (left && right) ≡ true → (left && right) ≡ false
    by true true is = absurd (cc)
    by true false is = refl
    by false true is = refl
    by false false is = refl

-- ---- starts

told_started : (inited : Bool) (snap : KeptHalves) (told : Option (List ℕ)) → inited ≡ true → TellsHalf inited snap told → told ≡ text_in local_text snap.started
told_started true snap told is tells = tells
told_started false snap told is tells = absurd (cc)

answered_started : (inited : Bool) (snap : KeptHalves) (theirs : Option InitHalves) (says : Bool) (told : Option (List ℕ)) → inited ≡ true → AnswersHalf inited snap theirs says told
    → AreJoined snap.started theirs × (told ≡ text_in local_text theirs)
answered_started true snap theirs says told is half = half
answered_started false snap theirs says told is half = absurd (cc)

-- sides with the same lines are both started or both not
pub inited_alike : {E : Type 0} → (past : List (Entry E)) (pair : PairStance) (at : Side) → Tells past pair → ((side : Side) → IsStartTold (pair.sides side)) → Aligned (before at past) (before (other_side at) past)
    → (pair.sides (other_side at)).inited ≡ (pair.sides at).inited
inited_alike past pair at tells starts same =
    (starts (other_side at)).inited ∙ ap has_app_row (tells.sides (other_side at)).rows ∙ has_app-aligned (before at past) (before (other_side at) past) same
    ∙ ap has_app_row (sym (tells.sides at).rows) ∙ sym (starts at).inited

-- ---- no cause that rests on a side holds

-- no side has an offer that awaits its answer but the one that offered in the round
abbrev pub AreQuiet : Phase → PairStance → Type 0
AreQuiet phase pair = (side : Side) → is_offerer side phase ≡ false → (pair.sides side).outstanding ≡ false

-- what is known before a step of orderly steps
pub record IsOnCourse {E : Type 0} (fresh : Stances) (past : List (Entry E)) (pair : PairStance) (course : Course) : Type 0 where
  pub tells : Tells past pair
  pub read : AreReadBack (sdps past)
  pub sees : (at : Side) → SideSees fresh past at (pair.sides at)
  pub starts : (at : Side) → IsStartTold (pair.sides at)
  pub course_is : InCourse course past
  pub round : InRound course.phase pair
  pub quiet : AreQuiet course.phase pair
  pub outstands : (at : Side) → (pair.sides at).outstanding ≡ has_outstanding at past

-- an offer collides with none where none awaits its answer
no_collision : (polite : Option Bool) (awaits : Bool) → awaits ≡ false → meets_glare polite awaits ≡ false
no_collision polite true none = absurd (let e : true ≡ false = none in cc)
no_collision polite false none = by (is_impolite polite)
  where
    by : (b : Bool) → (b && false) ≡ false
    by true = refl
    by false = refl

-- the head of an offer that is out passes at the other side
pub offer_head : {E : Type 0} → (fresh : Stances) (past : List (Entry E)) (pair : PairStance) (side : Side) (k : ℕ) (sdp : Sdp) → can_connect fresh ≡ true → Tells past pair → AreReadBack (sdps past) → ((at : Side) → SideSees fresh past at (pair.sides at))
    → IsOfferOut side k pair → (pair.sides (other_side side)).inited ≡ (pair.sides side).inited → remote_sdp true (other_side side) k past ≡ Readable sdp
    → HeadPasses (view_in fresh (other_side side) past (held_by (pair.sides (other_side side)))) true sdp
offer_head fresh past pair side k sdp connect tells read sees out alike is =
    let reads : ReadsBack out.offer.kept.sdp = kept_read past pair k out.offer.kept tells read out.offer.there in
    let same : as_read out.offer.kept.sdp ≡ sdp = delivered_at pair true (other_side side) k out.offer.kept sdp reads out.offer.there (sym remote_told) in
    let mine : Stance = pair.sides (other_side side) in
    let apart : (mine.ice.lite && (pair.sides side).ice.lite) ≡ false = rw ((sees (other_side side)).lite, (sees side).lite) (lites_apart fresh connect side) in
    let joined : AreJoined mine.snap.started (pair.sides side).snap.started =
    subst (λ (one : Side). AreJoined mine.snap.started (pair.sides one).snap.started) (other_twice side) (out.joined (other_side side)) in
    rw (view_is fresh past (other_side side) mine (tells.sides (other_side side)).rows (sees (other_side side)))
    (rw (← same) (record {
      side = side_passes (held_by mine) true (as_read out.offer.kept.sdp) _ _ (told_as_read _ _ _ out.offer.tells) apart (λ may. absurd (let e : true ≡ false = may in cc));
      init = init_passes mine.inited mine.snap.started (pair.sides side).snap.started (sdp_sctp_init (as_read out.offer.kept.sdp))
          (λ is. (joined, init_as_read out.offer.kept.sdp ∙ told_started (pair.sides side).inited (pair.sides side).snap (sdp_sctp_init out.offer.kept.sdp) (sym alike ∙ is) out.offer.half));
    }))
  where
    remote_told : Readable sdp ≡ kept_remote_sdp true pair.sdps (other_side side) k
    remote_told = sym is ∙ ap (λ said. signalled_if (sdp_for true (other_side side) said)) (said_at past pair k tells.says)

-- the head of an answer that is out passes at the side that offered
pub answer_head : {E : Type 0} → (fresh : Stances) (past : List (Entry E)) (pair : PairStance) (at : Side) (t a : ℕ) (sdp : Sdp) → can_connect fresh ≡ true → Tells past pair → AreReadBack (sdps past) → ((side : Side) → SideSees fresh past side (pair.sides side))
    → IsAnswerOut at t a pair → remote_sdp false at a past ≡ Readable sdp → HeadPasses (view_in fresh at past (held_by (pair.sides at))) (restarts_by t past) sdp
answer_head fresh past pair at t a sdp connect tells read sees out is =
    let reads : ReadsBack out.answer.sdp = kept_read past pair a out.answer tells read out.there in
    let same : as_read out.answer.sdp ≡ sdp = delivered_at pair false at a out.answer sdp reads out.there (sym remote_told) in
    let mine : Stance = pair.sides at in
    let apart : (mine.ice.lite && (pair.sides (other_side at)).ice.lite) ≡ false =
    rw ((sees at).lite, (sees (other_side at)).lite) (subst (λ (side : Side). ((fresh side).ice.lite && (fresh (other_side at)).ice.lite) ≡ false) (other_twice at) (lites_apart fresh connect (other_side at))) in
    let restarts : is_some (staged_restart out.offer.token.changes) ≡ restarts_by t past = ((tells.sides at).tokens t).restarts out.offer.token (token_held at t pair out.offer) in
    rw (view_is fresh past at mine (tells.sides at).rows (sees at))
    (rw (← same) (record {
      side = side_passes (held_by mine) (restarts_by t past) (as_read out.answer.sdp) _ _ (told_as_read _ _ _ out.tells) apart (λ may. out.known (restarts ∙ may));
      init = init_passes mine.inited mine.snap.started (pair.sides (other_side at)).snap.started (sdp_sctp_init (as_read out.answer.sdp))
          (λ is. let both = answered_started mine.inited mine.snap (pair.sides (other_side at)).snap.started out.offer.token.says_init (sdp_sctp_init out.answer.sdp) is out.half in
          (both.0, init_as_read out.answer.sdp ∙ both.1));
    }))
  where
    remote_told : Readable sdp ≡ kept_remote_sdp false pair.sdps at a
    remote_told = sym is ∙ ap (λ said. signalled_if (sdp_for false at said)) (said_at past pair a tells.says)

offer_side : {E : Type 0} → (fresh : Stances) (past : List (Entry E)) (pair : PairStance) (side : Side) (k : ℕ) → can_connect fresh ≡ true → Tells past pair → AreReadBack (sdps past) → ((at : Side) → SideSees fresh past at (pair.sides at)) → IsOfferOut side k pair
    → (pair.sides (other_side side)).inited ≡ (pair.sides side).inited → is_glare_at fresh (other_side side) past ≡ false → SidePasses fresh pair.sides past (AcceptOffer (other_side side) k)
offer_side fresh past pair side k connect tells read sees out alike none =
    (none, λ sdp is. offer_head fresh past pair side k sdp connect tells read sees out alike is)

answer_side : {E : Type 0} → (fresh : Stances) (past : List (Entry E)) (pair : PairStance) (at : Side) (t a : ℕ) → can_connect fresh ≡ true → Tells past pair → AreReadBack (sdps past) → ((side : Side) → SideSees fresh past side (pair.sides side)) → IsAnswerOut at t a pair
    → SidePasses fresh pair.sides past (AcceptAnswer at t a)
answer_side fresh past pair at t a connect tells read sees out = λ sdp is. answer_head fresh past pair at t a sdp connect tells read sees out is

pub step_side : {E : Type 0} → (fresh : Stances) (past : List (Entry E)) (pair : PairStance) (step : Step) (course course' : Course) → can_connect fresh ≡ true → IsOnCourse fresh past pair course → after_step course step ≡ Some course'
    → SidePasses fresh pair.sides past step
step_side fresh past pair (Negotiate at ops apply) course course' connect on after = tt
step_side fresh past pair (AcceptOffer at k) course course' connect on after =
    let it = accept_course at k course course.phase course' after in
    let out : IsOfferOut it.side k pair = subst (λ (phase : Phase). InRound phase pair) it.phase_is on.round in
    let offered : IsOffered it.side k it.said past = subst (λ (phase : Phase). InPhase phase past) it.phase_is on.course_is.phase in
    let other : Side = other_side it.side in
    let idle : is_offerer other course.phase ≡ false = ap (λ (phase : Phase). is_offerer other phase) it.phase_is ∙ same_side-other it.side in
    let none : is_glare_at fresh other past ≡ false = no_collision (fresh other).polite (has_outstanding other past) (sym (on.outstands other) ∙ on.quiet other idle) in
    subst (λ (one : Side). SidePasses fresh pair.sides past (AcceptOffer one k)) it.at_is
    (offer_side fresh past pair it.side k connect on.tells on.read on.sees out (inited_alike past pair it.side on.tells on.starts offered.same) none)
step_side fresh past pair (AcceptAnswer at t a) course course' connect on after =
    let it = end_course at t a course course.phase course' after in
    answer_side fresh past pair at t a connect on.tells on.read on.sees (subst (λ (phase : Phase). InRound phase pair) it.phase_is on.round)
step_side fresh past pair (Time at now) course course' connect on after = tt
step_side fresh past pair (Datagram at packet now) course course' connect on after = tt
step_side fresh past pair (Poll at) course course' connect on after = tt
step_side fresh past pair (Drain at) course course' connect on after = tt
step_side fresh past pair (Write at channel binary bytes) course course' connect on after = tt
step_side fresh past pair (CloseChannel at channel) course course' connect on after = tt
step_side fresh past pair (Close at) course course' connect on after = tt
step_side fresh past pair (Rollback at t) course course' connect on after = tt
step_side fresh past pair (ForeignOffer at text) course course' connect on after = tt
step_side fresh past pair (ForeignAnswer at t text) course course' connect on after = tt
step_side fresh past pair (Raw at bytes now) course course' connect on after = tt
