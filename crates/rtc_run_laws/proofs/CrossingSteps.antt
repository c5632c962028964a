-- Each step of crossed offers owes what it owes, and leads on.
use Rattle.std.proofs.Common.{◌≡◌, ◌+◌, ℕ, true, false, List, ◌∷◌, ◌++◌, length, Option, Some, None, refl, sym, ◌∙◌, ap, subst}
use Rattle.rtc_sdp_values.specs.declared.line_row.LineRow.{LineRow}
use Rattle.rtc_run_history.specs.Memory.{fails}
use Rattle.rtc_run_history.specs.Orderly.{can_connect}
use Rattle.rtc_run_history.specs.Past.{Entry, MadeSdp, before, sdps}
use Rattle.rtc_run_history.specs.SaidRows.{are_live}
use Rattle.rtc_run_history.specs.Sides.{other_side}
use Rattle.rtc_run_history.specs.declared.op.Op.{Op}
use Rattle.rtc_run_history.specs.declared.outcome.Outcome.{Outcome}
use Rattle.rtc_run_history.specs.declared.outcome.Outcome.TheVariants.{Alloc, Answered, Finished}
use Rattle.rtc_run_history.specs.declared.side.Side.{Side}
use Rattle.rtc_run_history.specs.declared.side.Side.TheVariants.{Left, Right}
use Rattle.rtc_run_history.specs.declared.step.Step.{Step}
use Rattle.rtc_run_history.specs.declared.step.Step.TheVariants.{AcceptAnswer, AcceptOffer, Rollback}
use Rattle.rtc_run_history.specs.declared.table.Table.{Table}
use Rattle.rtc_run_laws.specs.Crossed.{AreRolesParted, CrossedNumbers, KeepsLive}
use Rattle.rtc_run_laws.proofs.CrossedRounds.{CrossAnswer, CrossOffer, HasCrossed, Replies}
use Rattle.rtc_run_laws.proofs.CrossingActs.{Acted, Comes, Crossing, Fits, accepts_apart, none_made}
use Rattle.rtc_run_laws.proofs.CrossingClashes.{clashes_asks, clashes_told, rolls_back}
use Rattle.rtc_run_laws.proofs.CrossingOffers.{asks, offers_first, offers_last}
use Rattle.rtc_run_laws.proofs.CrossingPhases.{Polite, Quiet, Out, Back, Done, Impolite, Asks, Told, Over, Leads, Answers, AsksFirst, AsksLast, ClashesBack, ClashesDone, ClashesOut, Ends, OffersFirst, OffersLast, RollsBack}
use Rattle.rtc_run_laws.proofs.CrossingReplies.{Finishes, Replied, finishes, replies_to}
use Rattle.rtc_run_laws.proofs.CrossingRoles.{HasRole}
use Rattle.rtc_run_laws.proofs.CrossingStates.{bare_stays}
use Rattle.rtc_run_laws.proofs.Knowns.{Known, Takes}
use Rattle.rtc_run_laws.proofs.Around.{entry}
use Rattle.rtc_run_laws.proofs.PastOffers.{stays_there}
use Rattle.rtc_run_laws.proofs.RowNames.{Aligned, aligned_sym, aligned_trans}
use Rattle.rtc_run_laws.proofs.SideRoundSteps.{other_twice}
use Rattle.rtc_run_laws.proofs.SideRounds.{IsAnswerOut, IsOfferOut}
use Rattle.rtc_run_laws.proofs.StanceSteps.{PairStance}

-- ---- the answer

-- what the polite side leaves that answers
record RepliedAs {E : Type 0} (offer : CrossOffer) (s : Side) (n m : ℕ) (past : List (Entry E)) (old new : PairStance) (outcome : Outcome E) (table : Table) (made : List MadeSdp) : Type 0 where
  outcome_is : outcome ≡ Answered m
  answer : CrossAnswer
  replies : Replies offer answer (other_side s) n m (entry (AcceptOffer s n) outcome (Some table) made ∷ past)
  out : IsAnswerOut (other_side s) n m new
  role : HasRole s m new
  count : length (sdps past ++ made) ≡ m + 1

answers_as : {E : Type 0} → (start : PairStance) (offer : CrossOffer) (s : Side) (n m : ℕ) (past : List (Entry E)) (old new : PairStance) (outcome : Outcome E) (table : Table) (made : List MadeSdp) → can_connect start.sides ≡ true
    → (start.sides s).polite ≡ Some true → Takes start past old new (AcceptOffer s n) outcome (Some table) made → Known start (entry (AcceptOffer s n) outcome (Some table) made ∷ past) new
    → fails outcome ≡ false → ((j : ℕ) → outcome ≡ Answered j → are_live table.lines ≡ true) → HasCrossed offer (other_side s) n past → IsOfferOut (other_side s) n old → Aligned (before (other_side s) past) (before s past)
    → AreRolesParted (old.sides Left).role (old.sides Right).role → length (sdps past) ≡ m
    → RepliedAs offer s n m past old new outcome table made
answers_as start offer Left n m past old new outcome table made connect polite takes after enough live has out alike parted count =
    let it : Replied offer Right n m past old new outcome table made = replies_to start offer Right n m past old new outcome table made connect polite takes after enough live has out alike parted count in
    record { outcome_is = it.outcome_is; answer = it.answer; replies = it.replies; out = it.out; role = it.role; count = it.count }
answers_as start offer Right n m past old new outcome table made connect polite takes after enough live has out alike parted count =
    let it : Replied offer Left n m past old new outcome table made = replies_to start offer Left n m past old new outcome table made connect polite takes after enough live has out alike parted count in
    record { outcome_is = it.outcome_is; answer = it.answer; replies = it.replies; out = it.out; role = it.role; count = it.count }

answers_acts : {E : Type 0} → (start : PairStance) (s : Side) (n : CrossedNumbers) (k : ℕ) (stood : List LineRow) (past : List (Entry E)) (old new : PairStance) (outcome : Outcome E) (table : Option Table) (made : List MadeSdp)
    → Fits start s n → n.answer ≡ k → Crossing start s n stood k Back Asks past old → Comes start s past old new (AcceptOffer s n.impolite) outcome table made
    → Acted start s n stood (k + 1) Done Told past old new (AcceptOffer s n.impolite) outcome table made
answers_acts start s n k stood past old new Alloc None made fits is was comes = absurd (let e : true ≡ false = comes.enough in cc)
answers_acts {E} start s n k stood past old new outcome (Some table) made fits is was comes =
    let i : Side = other_side s in
    let offer : CrossOffer = was.impolite.offer in
    let alike : Aligned (before i past) (before s past) =
    aligned_trans (before i past) offer.front (before s past) (aligned_sym offer.front (before i past) was.impolite.has.kept)
    (subst (λ (rows : List LineRow). Aligned offer.front rows) (sym was.polite.0) (aligned_sym stood offer.front was.impolite.same)) in
    let it : RepliedAs offer s n.impolite n.answer past old new outcome table made =
    answers_as start offer s n.impolite n.answer past old new outcome table made fits.connect fits.polite comes.takes comes.after comes.enough
    (λ j answered. subst (λ (o : Outcome E). KeepsLive s (AcceptOffer s n.impolite) o (Some table) made) answered comes.live) was.impolite.has was.impolite.out alike was.impolite.parted (was.count ∙ sym is) in
    record {
      meets = record {
        refused = λ same. absurd (accepts_apart s n.polite n.impolite (sym same));
        bare = λ same. absurd (accepts_apart s n.polite n.impolite (sym same));
        kept = λ same. absurd (accepts_apart s n.polite n.impolite (sym same));
        rolled_back = λ same. absurd (let e : AcceptOffer s n.impolite ≡ Rollback s n.polite = same in cc);
        undone = λ same. absurd (let e : AcceptOffer s n.impolite ≡ Rollback s n.polite = same in cc);
        answered = λ same. it.outcome_is;
        finished = λ same. absurd (let e : AcceptOffer s n.impolite ≡ AcceptAnswer i n.impolite n.answer = same in cc);
      };
      next = record {
        count = it.count ∙ ap (λ (j : ℕ). j + 1) is;
        polite = (was.polite.1.0, stays_there (sdps past) made n.polite _ was.polite.1.1);
        impolite = record {
          offer = offer;
          answer = it.answer;
          replies = it.replies;
          same = was.impolite.same;
          out = it.out;
          bare = bare_stays (old.sides i) (new.sides i) comes.takes.performs.other was.impolite.bare;
          role = it.role;
        };
      };
    }
answers_acts start s n k stood past old new outcome None made fits is was comes = absurd comes.takes.replied

-- ---- the end

ends_acts : {E : Type 0} → (start : PairStance) (s : Side) (n : CrossedNumbers) (k : ℕ) (stood : List LineRow) (past : List (Entry E)) (old new : PairStance) (outcome : Outcome E) (table : Option Table) (made : List MadeSdp)
    → Fits start s n → Crossing start s n stood k Done Told past old → Comes start s past old new (AcceptAnswer (other_side s) n.impolite n.answer) outcome table made
    → Acted start s n stood k Done Over past old new (AcceptAnswer (other_side s) n.impolite n.answer) outcome table made
ends_acts start s n k stood past old new Alloc None made fits was comes = absurd (let e : true ≡ false = comes.enough in cc)
ends_acts {E} start s n k stood past old new outcome (Some table) made fits was comes =
    let it : Finishes offer i n.impolite n.answer past old new outcome table made =
    finishes start offer was.impolite.answer i n.impolite n.answer past old new outcome table made fits.connect comes.takes comes.enough was.impolite.replies was.impolite.out
    (subst (λ (side : Side). HasRole side n.answer old) (sym (other_twice s)) was.impolite.role) in
    subst (λ (o : Outcome E). Finishes offer i n.impolite n.answer past old new o table made → Acted start s n stood k Done Over past old new (AcceptAnswer i n.impolite n.answer) o (Some table) made) (sym it.outcome_is) (λ it. by it) it
  where
    i : Side
    i = other_side s

    offer : CrossOffer
    offer = was.impolite.offer

    by : Finishes offer i n.impolite n.answer past old new Finished table made → Acted start s n stood k Done Over past old new (AcceptAnswer i n.impolite n.answer) Finished (Some table) made
    by it = record {
      meets = record {
        refused = λ same. absurd (let e : AcceptAnswer i n.impolite n.answer ≡ AcceptOffer i n.polite = same in cc);
        bare = λ same. absurd (let e : AcceptAnswer i n.impolite n.answer ≡ AcceptOffer i n.polite = same in cc);
        kept = λ same. absurd (let e : AcceptAnswer i n.impolite n.answer ≡ AcceptOffer i n.polite = same in cc);
        rolled_back = λ same. absurd (let e : AcceptAnswer i n.impolite n.answer ≡ Rollback s n.polite = same in cc);
        undone = λ same. absurd (let e : AcceptAnswer i n.impolite n.answer ≡ Rollback s n.polite = same in cc);
        answered = λ same. absurd (let e : AcceptAnswer i n.impolite n.answer ≡ AcceptOffer s n.impolite = same in cc);
        finished = λ same. refl;
      };
      next = record {
        count = ap length (none_made E past made it.none) ∙ was.count;
        polite = (was.polite.0, stays_there (sdps past) made n.polite _ was.polite.1);
        impolite = record {
          offer = offer;
          adds = was.impolite.replies.has.adds;
          same = was.impolite.same;
          meets = it.meets;
          parted = it.parted;
        };
      };
    }
ends_acts start s n k stood past old new outcome None made fits was comes = absurd comes.takes.replied

-- ---- each step

pub act : {E : Type 0} → (start : PairStance) (s : Side) (ops others : List Op) (n : CrossedNumbers) (stood : List LineRow) (past : List (Entry E)) (old new : PairStance) (k k' : ℕ) (pp pp' : Polite) (ip ip' : Impolite) (step : Step) (outcome : Outcome E) (table : Option Table) (made : List MadeSdp)
    → Fits start s n → Leads s ops others n k pp ip step k' pp' ip' → Crossing start s n stood k pp ip past old → Comes start s past old new step outcome table made
    → Acted start s n stood k' pp' ip' past old new step outcome table made
act start s ops others n stood past old new k k' pp pp' ip ip' step outcome table made fits (OffersFirst j is) was comes = offers_first start s n ops j stood past old new outcome table made is was comes
act start s ops others n stood past old new k k' pp pp' ip ip' step outcome table made fits (OffersLast j is) was comes = offers_last start s n ops j stood past old new outcome table made is was comes
act start s ops others n stood past old new k k' pp pp' ip ip' step outcome table made fits (AsksFirst j is) was comes = asks start s n others j Quiet stood past old new outcome table made is was comes
act start s ops others n stood past old new k k' pp pp' ip ip' step outcome table made fits (AsksLast j is) was comes = asks start s n others j Out stood past old new outcome table made is was comes
act start s ops others n stood past old new k k' pp pp' ip ip' step outcome table made fits (ClashesOut j) was comes = clashes_asks start s n j Out stood past old new outcome table made fits was.polite.said was comes
act start s ops others n stood past old new k k' pp pp' ip ip' step outcome table made fits (ClashesBack j) was comes = clashes_asks start s n j Back stood past old new outcome table made fits was.polite.1 was comes
act start s ops others n stood past old new k k' pp pp' ip ip' step outcome table made fits (ClashesDone j) was comes = clashes_told start s n j stood past old new outcome table made fits was comes
act start s ops others n stood past old new k k' pp pp' ip ip' step outcome table made fits (RollsBack j) was comes = rolls_back start s n j stood past old new outcome table made fits was comes
act start s ops others n stood past old new k k' pp pp' ip ip' step outcome table made fits (Answers j is) was comes = answers_acts start s n j stood past old new outcome table made fits is was comes
act start s ops others n stood past old new k k' pp pp' ip ip' step outcome table made fits (Ends j) was comes = ends_acts start s n j stood past old new outcome table made fits was comes
