-- The offer of the impolite side is answered, and the answer ends the round.
use Rattle.std.proofs.Common.{◌≡◌, ◌≢◌, ◌+◌, ◌&&◌, ℕ, Bool, true, false, List, [], ◌∷◌, ◌++◌, length, Option, Some, None, refl, sym, ◌∙◌, ap, subst}
use Rattle.std.specs.Prelude.{slice_get}
use Rattle.rtc_sdp_values.specs.declared.sdp.Sdp.{Sdp}
use Rattle.rtc_change.specs.Plans.{verdict}
use Rattle.rtc_peer_core.proofs.StanceTaken.{StandsAnswer, StandsOffer}
use Rattle.rtc_peer_core.specs.Glare.{meets_glare}
use Rattle.rtc_peer_core.specs.Stance.{held_by}
use Rattle.rtc_run_history.specs.Memory.{fails}
use Rattle.rtc_run_history.specs.Orderly.{can_connect}
use Rattle.rtc_run_history.specs.Outstanding.{has_outstanding}
use Rattle.rtc_run_history.specs.PairState.{held_token, kept_remote_sdp}
use Rattle.rtc_run_history.specs.Past.{Entry, MadeSdp, before, holds_token, is_right, remote_sdp, restarts_by, sdps}
use Rattle.rtc_run_history.specs.Performs.{kept_answer}
use Rattle.rtc_run_history.specs.SaidRows.{are_live}
use Rattle.rtc_run_history.specs.Sides.{other_side}
use Rattle.rtc_run_history.specs.Signalled.{Readable, ReadsBack}
use Rattle.rtc_run_history.specs.Sound.{asked_in, is_glare_at}
use Rattle.rtc_run_history.specs.SoundEntry.{AreReadBack}
use Rattle.rtc_run_history.specs.Views.{view_in}
use Rattle.rtc_run_history.specs.declared.outcome.Outcome.{Outcome}
use Rattle.rtc_run_history.specs.declared.outcome.Outcome.TheVariants.{Answered, Finished}
use Rattle.rtc_run_history.specs.declared.side.Side.{Side}
use Rattle.rtc_run_history.specs.declared.side.Side.TheVariants.{Left, Right}
use Rattle.rtc_run_history.specs.declared.step.Step.TheVariants.{AcceptAnswer, AcceptOffer}
use Rattle.rtc_run_history.specs.declared.table.Table.{Table}
use Rattle.rtc_sdp_writer.specs.AsRead.{as_read}
use Rattle.rtc_run_laws.specs.Crossed.{AreRolesParted, is_passive}
use Rattle.rtc_run_laws.proofs.CrossedEnds.{MayFinish, Meets, finish_passes, may_finish, met_next}
use Rattle.rtc_run_laws.proofs.CrossedRounds.{CrossAnswer, CrossOffer, Crosses, HasCrossed, MayReply, Replies, may_reply, replied_next, reply_passes}
use Rattle.rtc_run_laws.proofs.CrossingActs.{one_made}
use Rattle.rtc_run_laws.proofs.CrossingOffers.{some_live}
use Rattle.rtc_run_laws.proofs.CrossingRoles.{HasRole, role_answered, roles_ended}
use Rattle.rtc_run_laws.proofs.Knowns.{Known, Takes, known_read, known_sees, known_sound, known_starts, known_tells}
use Rattle.rtc_run_laws.proofs.Around.{entry, length-told}
use Rattle.rtc_run_laws.proofs.OpsNext.{same_made}
use Rattle.rtc_run_laws.proofs.OrderlyNext.{answered_by, ends_by}
use Rattle.rtc_run_laws.proofs.OrderlyRuns.{answer_head, delivered_at, inited_alike, kept_read, offer_head}
use Rattle.rtc_run_laws.proofs.OrderlySteps.{answer_finishes, offer_answers}
use Rattle.rtc_run_laws.proofs.PastAnswers.{answered}
use Rattle.rtc_run_laws.proofs.PastOffers.{next_there}
use Rattle.rtc_run_laws.proofs.RowNames.{Aligned}
use Rattle.rtc_run_laws.proofs.SideRoundSteps.{accepted_round, other_twice}
use Rattle.rtc_run_laws.proofs.SideRounds.{IsAnswerOut, IsOfferOut}
use Rattle.rtc_run_laws.proofs.SoundPasts.{Sound}
use Rattle.rtc_run_laws.proofs.StanceSteps.{PairStance, lent}
use Rattle.rtc_run_laws.proofs.Takings.{answer_taking, offer_taking}
use Rattle.rtc_run_laws.proofs.Tells.{Tells}

-- ---- the polite side answers

-- what a side that answers leaves
pub record Replied {E : Type 0} (offer : CrossOffer) (at : Side) (n m : ℕ) (past : List (Entry E)) (old new : PairStance) (outcome : Outcome E) (table : Table) (made : List MadeSdp) : Type 0 where
  pub outcome_is : outcome ≡ Answered m
  pub answer : CrossAnswer
  pub replies : Replies offer answer at n m (entry (AcceptOffer (other_side at) n) outcome (Some table) made ∷ past)
  pub out : IsAnswerOut at n m new
  pub role : HasRole (other_side at) m new
  pub count : length (sdps past ++ made) ≡ m + 1

pub replies_to : {E : Type 0} → (start : PairStance) (offer : CrossOffer) (at : Side) (n m : ℕ) (past : List (Entry E)) (old new : PairStance) (outcome : Outcome E) (table : Table) (made : List MadeSdp) → can_connect start.sides ≡ true
    → (start.sides (other_side at)).polite ≡ Some true → Takes start past old new (AcceptOffer (other_side at) n) outcome (Some table) made → Known start (entry (AcceptOffer (other_side at) n) outcome (Some table) made ∷ past) new
    → fails outcome ≡ false → (((j : ℕ) → outcome ≡ Answered j → are_live table.lines ≡ true)) → HasCrossed offer at n past → IsOfferOut at n old → Aligned (before at past) (before (other_side at) past)
    → AreRolesParted (old.sides Left).role (old.sides Right).role → length (sdps past) ≡ m
    → Replied offer at n m past old new outcome table made
replies_to {E} start offer at n m past old new outcome table made connect polite takes after enough live has out alike parted count =
    let comes : (j : ℕ) × (outcome ≡ Answered j) =
    offer_answers (is_glare_at start.sides theirs past) (remote_sdp true theirs n past) (as_read offer.sdp) (view_in start.sides theirs past (held_by (old.sides theirs))) (length (sdps past)) outcome table.lines none may.remote_is passes
    (offer_taking start.sides old.sides past theirs n outcome table made takes.replied) enough in
    subst (λ (o : Outcome E). Takes start past old new (AcceptOffer theirs n) o (Some table) made → Known start (entry (AcceptOffer theirs n) o (Some table) made ∷ past) new → Replied offer at n m past old new o table made) (sym comes.1)
    (λ takes after. by comes.0 (live comes.0 comes.1) takes after) takes after
  where
    theirs : Side
    theirs = other_side at

    crosses : Crosses at n past
    crosses = record { offer = offer; has = has }

    tells : Tells past old
    tells = known_tells start past old takes.known

    read : AreReadBack (sdps past)
    read = known_read start past old takes.known

    sound : Sound start.sides past
    sound = known_sound start past old takes.known

    may : MayReply offer at n past
    may = may_reply at n past read crosses alike

    starts_alike : (old.sides theirs).inited ≡ (old.sides at).inited
    starts_alike = inited_alike past old at tells (known_starts start past old takes.known) alike

    none : is_glare_at start.sides theirs past ≡ false
    none = ap (λ (role : Option Bool). meets_glare role (has_outstanding theirs past)) polite

    passes : verdict (view_in start.sides theirs past (held_by (old.sides theirs))) None (as_read offer.sdp) ≡ None
    passes = reply_passes start.sides at n past (view_in start.sides theirs past (held_by (old.sides theirs))) sound crosses alike refl
        (offer_head start.sides past old at n (as_read offer.sdp) connect tells read (known_sees start past old takes.known) out starts_alike may.remote_is)

    by : (j : ℕ) → are_live table.lines ≡ true → Takes start past old new (AcceptOffer theirs n) (Answered j) (Some table) made → Known start (entry (AcceptOffer theirs n) (Answered j) (Some table) made ∷ past) new
        → Replied offer at n m past old new (Answered j) table made
    by j live takes after =
        let next : length old.sdps ≡ m = sym (length-told past old tells) ∙ count in
        let it = answered_by {E = E} theirs (kept_remote_sdp true old.sdps theirs n) (old.sides theirs) (new.sides theirs) old.sdps new.sdps (Answered j) (Some table) takes.performs.acts refl in
        let reply = replied_next start.sides old.sides at n m past j table made read sound crosses alike (sym count) live takes.replied takes.says in
        let taken = answered E (is_glare_at start.sides theirs past) (remote_sdp true theirs n past) (view_in start.sides theirs past (held_by (old.sides theirs))) (length (sdps past)) j table.lines takes.replied.0 in
        let reads : ReadsBack out.offer.kept.sdp = kept_read past old n out.offer.kept tells read out.offer.there in
        let same : as_read out.offer.kept.sdp ≡ it.sdp = delivered_at old true theirs n out.offer.kept it.sdp reads out.offer.there it.is in
        let there : slice_get new.sdps m ≡ Some (kept_answer theirs it.answer) = ap (λ list. slice_get list m) it.pushed ∙ next_there old.sdps (kept_answer theirs it.answer) m (sym next) in
        let text : reply.0.sdp ≡ it.answer = same_made (entry (AcceptOffer theirs n) (Answered j) (Some table) made ∷ past) new m (kept_answer theirs it.answer) _ (known_tells start _ new after) there reply.1.replied.there in
        let lines : length it.answer.lines ≢ 0 = subst (λ (sdp : Sdp). length sdp.lines ≢ 0) text (some_live reply.0.sdp reply.0.rows reply.0.says reply.0.live) in
        let stands : StandsOffer (lent (old.sides theirs)) (as_read out.offer.kept.sdp) it.answer (new.sides theirs) =
        subst (λ (sdp : Sdp). StandsOffer (lent (old.sides theirs)) sdp it.answer (new.sides theirs)) (sym same) it.stands in
        let other : new.sides at ≡ old.sides at = subst (λ (side : Side). new.sides side ≡ old.sides side) (other_twice at) takes.performs.other in
        record {
          outcome_is = ap (λ (k : ℕ). Answered k) (taken.count ∙ count);
          answer = reply.0;
          replies = reply.1;
          out = accepted_round old new at n m it.answer out stands other it.pushed (sym next) lines (known_starts start past old takes.known theirs) (known_starts start _ new after theirs) starts_alike;
          role = subst (λ (k : ℕ). HasRole theirs k new) next (role_answered theirs (as_read out.offer.kept.sdp) it.answer old new parted stands takes.performs.other it.pushed lines);
          count = one_made E past made _ m takes.says.one count;
        }

-- ---- the answer ends the round

pub record Finishes {E : Type 0} (offer : CrossOffer) (at : Side) (n m : ℕ) (past : List (Entry E)) (old new : PairStance) (outcome : Outcome E) (table : Table) (made : List MadeSdp) : Type 0 where
  pub outcome_is : outcome ≡ Finished
  pub meets : Meets offer at (entry (AcceptAnswer at n m) outcome (Some table) made ∷ past)
  pub parted : (is_passive (new.sides Left).role && is_passive (new.sides Right).role) ≡ false
  pub none : made ≡ []

pub finishes : {E : Type 0} → (start : PairStance) (offer : CrossOffer) (answer : CrossAnswer) (at : Side) (n m : ℕ) (past : List (Entry E)) (old new : PairStance) (outcome : Outcome E) (table : Table) (made : List MadeSdp) → can_connect start.sides ≡ true
    → Takes start past old new (AcceptAnswer at n m) outcome (Some table) made → fails outcome ≡ false → Replies offer answer at n m past → IsAnswerOut at n m old → HasRole (other_side at) m old
    → Finishes offer at n m past old new outcome table made
finishes {E} start offer answer at n m past old new outcome table made connect takes enough replies out role =
    let comes : outcome ≡ Finished =
    answer_finishes (holds_token at n past) (is_right at n past) (asked_in at n past) (remote_sdp false at m past) (as_read answer.sdp) (view_in start.sides at past (held_by (old.sides at))) outcome table.lines may.held may.right may.remote_is passes
    (answer_taking start.sides old.sides past at n m outcome table made takes.replied) enough in
    subst (λ (o : Outcome E). Takes start past old new (AcceptAnswer at n m) o (Some table) made → Finishes offer at n m past old new o table made) (sym comes) (λ takes. by takes) takes
  where
    tells : Tells past old
    tells = known_tells start past old takes.known

    read : AreReadBack (sdps past)
    read = known_read start past old takes.known

    sound : Sound start.sides past
    sound = known_sound start past old takes.known

    may : MayFinish answer at n m past
    may = may_finish offer answer at n m past read replies

    passes : verdict (view_in start.sides at past (held_by (old.sides at))) (Some (asked_in at n past)) (as_read answer.sdp) ≡ None
    passes = finish_passes start.sides offer answer at n m past (view_in start.sides at past (held_by (old.sides at))) sound replies refl (restarts_by n past) refl
        (answer_head start.sides past old at n m (as_read answer.sdp) connect tells read (known_sees start past old takes.known) out may.remote_is)

    by : Takes start past old new (AcceptAnswer at n m) Finished (Some table) made → Finishes offer at n m past old new Finished table made
    by takes =
        let it = ends_by {E = E} n (held_token old.sdps at n) (kept_remote_sdp false old.sdps at m) (old.sides at) (new.sides at) old.sdps new.sdps Finished (Some table) takes.performs.acts refl in
        record {
          outcome_is = refl;
          meets = met_next start.sides old.sides offer answer at n m past table made read sound replies takes.replied;
          parted = roles_ended past (other_side at) m it.its it.sdp old new tells read role (subst (λ (side : Side). kept_remote_sdp false old.sdps side m ≡ Readable it.sdp) (sym (other_twice at)) it.is)
              (subst (λ (side : Side). StandsAnswer (lent (old.sides side)) it.its it.sdp (new.sides side)) (sym (other_twice at)) it.stands) takes.performs.other;
          none = takes.says;
        }
