-- Offers that cross are made.
use Rattle.std.proofs.Common.{◌≡◌, ◌≢◌, ◌+◌, ◌==◌, ◌&&◌, not, ℕ, suc, Bool, true, false, List, [], ◌∷◌, ◌++◌, map, length, Option, Some, None, refl, sym, ◌∙◌, ap, subst, arith}
use Rattle.std.specs.Prelude.{Ok, slice_get}
use Rattle.std.proofs.lemmas.Bool.{eq-eqb, ne_eqb}
use Rattle.std.proofs.lemmas.List.{length-map}
use Rattle.rtc_sdp_values.specs.declared.line_row.LineRow.{LineRow}
use Rattle.rtc_sdp_values.specs.declared.sdp.Sdp.{Sdp}
use Rattle.rtc_change.specs.PendingOffer.{PendingOffer}
use Rattle.rtc_peer_core.proofs.StanceCalls.{StanceApplies}
use Rattle.rtc_peer_core.specs.Stance.{Stance}
use Rattle.rtc_peer_rows.specs.ParsedLines.{parsed_line, parsed_lines}
use Rattle.rtc_run_history.proofs.BothSides.{both_sides}
use Rattle.rtc_run_history.specs.Memory.{answers_lack}
use Rattle.rtc_run_history.specs.Past.{Entry, MadeSdp, before, new_app, sdps}
use Rattle.rtc_run_history.specs.Performs.{kept_offer}
use Rattle.rtc_run_history.specs.SaidRows.{are_live, row_said}
use Rattle.rtc_run_history.specs.Sides.{other_side}
use Rattle.rtc_run_history.specs.Sound.{MadeOf, at_first}
use Rattle.rtc_run_history.specs.declared.kept.Kept.{Kept}
use Rattle.rtc_run_history.specs.declared.made.Made.TheVariants.{Alloc as MadeAlloc, NotAsked, Nothing, Offer}
use Rattle.rtc_run_history.specs.declared.op.Op.{Op}
use Rattle.rtc_run_history.specs.declared.op.Op.TheVariants.{AddChannel, AddMedia, IceRestart, SetDirection, StopMedia}
use Rattle.rtc_run_history.specs.declared.op_answer.OpAnswer.{OpAnswer}
use Rattle.rtc_run_history.specs.declared.op_answer.OpAnswer.TheVariants.{Alloc as OpAlloc, BadChannel as NoChannel, Changed, Channel, Creds, Mid, NoLine}
use Rattle.rtc_run_history.specs.declared.outcome.Outcome.{Outcome}
use Rattle.rtc_run_history.specs.declared.outcome.Outcome.TheVariants.{Alloc, Negotiated}
use Rattle.rtc_run_history.specs.declared.side.Side.{Side}
use Rattle.rtc_run_history.specs.declared.side.Side.TheVariants.{Left, Right}
use Rattle.rtc_run_history.specs.declared.step.Step.TheVariants.{Negotiate}
use Rattle.rtc_run_history.specs.declared.table.Table.{Table}
use Rattle.rtc_run_laws.specs.Crossed.{AreRolesParted, CrossedNumbers}
use Rattle.rtc_run_laws.proofs.CrossedRounds.{Crosses, cross_offered}
use Rattle.rtc_run_laws.proofs.CrossingActs.{Acted, Comes, Crossing, offer_meets, one_made, same_side-apart}
use Rattle.rtc_run_laws.proofs.CrossingPhases.{Polite, Quiet, Out, Still, Asks}
use Rattle.rtc_run_laws.proofs.CrossingStates.{IsBeside, PoliteOut, SameStarts, agreed_stays, bare_stays, crossed_stays, offer_out_stays, politely_stays}
use Rattle.rtc_run_laws.proofs.Knowns.{Known, known_sound, known_starts, known_tells}
use Rattle.rtc_run_laws.proofs.UndoneOps.{undone_ops}
use Rattle.rtc_run_laws.proofs.Around.{entry, length-told}
use Rattle.rtc_run_laws.proofs.CourseOps.{ops_aligned}
use Rattle.rtc_run_laws.proofs.OpsNext.{same_made}
use Rattle.rtc_run_laws.proofs.PastOffers.{next_there, stays_there, text_next}
use Rattle.rtc_run_laws.proofs.RowNames.{Aligned, aligned_trans}
use Rattle.rtc_run_laws.proofs.SeenSides.{KeepsSide}
use Rattle.rtc_run_laws.proofs.SeenSteps.{negotiates_keep_side}
use Rattle.rtc_run_laws.proofs.SideRoundSteps.{SameIce, offered_round}
use Rattle.rtc_run_laws.proofs.SoundPasts.{Sound}
use Rattle.rtc_run_laws.proofs.StanceSteps.{PairStance, StanceMakesOf, StanceNegotiates, StancePerformsOps, lent}
use Rattle.rtc_run_laws.proofs.StartedSides.{IsStartTold, ops_told}
use Rattle.rtc_run_laws.proofs.Tells.{same_side-other, same_side-self}
use Rattle.rtc_run_laws.proofs.UnspentTokens.{unspent_later}

-- ---- what a step that makes an offer does

ops_role : (p q : Stance) (ops : List Op) (answers : List OpAnswer) → StancePerformsOps p ops answers q → q.role ≡ p.role
ops_role p q [] [] h = ap (λ (s : Stance). s.role) h
ops_role p q (AddMedia kind dir ∷ ops) (Mid mid ∷ answers) h = ops_role h.0 q ops answers h.2 ∙ ap (λ (s : Stance). s.role) h.1.rest
ops_role p q (AddMedia kind dir ∷ ops) (OpAlloc ∷ []) h = ap (λ (s : Stance). s.role) h
ops_role p q (SetDirection place dir ∷ ops) (NoLine ∷ answers) h = ops_role p q ops answers h.1
ops_role p q (SetDirection place dir ∷ ops) (Changed true ∷ answers) h = ops_role h.0 q ops answers h.2 ∙ ap (λ (s : Stance). s.role) h.1.called.1
ops_role p q (SetDirection place dir ∷ ops) (Changed false ∷ answers) h = ops_role h.0 q ops answers h.2 ∙ ap (λ (s : Stance). s.role) h.1.called.1
ops_role p q (SetDirection place dir ∷ ops) (OpAlloc ∷ []) h = ap (λ (s : Stance). s.role) h.called
ops_role p q (StopMedia place ∷ ops) (NoLine ∷ answers) h = ops_role p q ops answers h.1
ops_role p q (StopMedia place ∷ ops) (Changed true ∷ answers) h = ops_role h.0 q ops answers h.2 ∙ ap (λ (s : Stance). s.role) h.1.called.1
ops_role p q (StopMedia place ∷ ops) (Changed false ∷ answers) h = ops_role h.0 q ops answers h.2 ∙ ap (λ (s : Stance). s.role) h.1.called.1
ops_role p q (StopMedia place ∷ ops) (OpAlloc ∷ []) h = ap (λ (s : Stance). s.role) h.called
ops_role p q (AddChannel config ∷ ops) (Channel id ∷ answers) h = ops_role h.0 q ops answers h.2 ∙ ap (λ (s : Stance). s.role) h.1.rest
ops_role p q (AddChannel config ∷ ops) (NoChannel ∷ answers) h = ops_role h.0 q ops answers h.2 ∙ ap (λ (s : Stance). s.role) h.1.1
ops_role p q (AddChannel config ∷ ops) (OpAlloc ∷ []) h = ap (λ (s : Stance). s.role) h
ops_role p q (IceRestart keep ∷ ops) (Creds creds ∷ answers) h = ops_role h.0 q ops answers h.2 ∙ ap (λ (s : Stance). s.role) h.1.1
ops_role p q (IceRestart keep ∷ ops) (OpAlloc ∷ []) h = ap (λ (s : Stance). s.role) h
ops_role p q ops answers h = absurd h

-- what makes an offer
makes_applies : (asked : Bool) (at : Side) (p : Stance) (kept : List Kept) (j : ℕ) (q : Stance) (kept' : List Kept) → StanceMakesOf asked at p kept (Offer j) q kept'
    → (made : Sdp × PendingOffer) × StanceApplies p (Ok (Some made)) q × (kept' ≡ kept ++ kept_offer at made ∷ []) × (j ≡ length kept)
makes_applies true at p kept j q kept' h = h
makes_applies false at p kept j q kept' h = absurd h

offer_number : (asked offers : Bool) (j next : ℕ) → MadeOf asked offers (Offer j) next → j ≡ next
offer_number true true j next h = h
offer_number true false j next h = absurd h
offer_number false offers j next h = absurd h

-- an offer is made, with what its side leaves
pub record OfferMade (at : Side) (old new : PairStance) : Type 0 where
  pub applied : Stance
  pub told : IsStartTold applied
  pub made : Sdp × PendingOffer
  pub applies : StanceApplies applied (Ok (Some made)) (new.sides at)
  pub pushed : new.sdps ≡ old.sdps ++ kept_offer at made ∷ []
  pub ice : SameIce old new
  pub starts : SameStarts old new
  pub role : (side : Side) → (new.sides side).role ≡ (old.sides side).role

offer_made_of : (E : Type 0) → (at : Side) (ops : List Op) (answers : List OpAnswer) (j : ℕ) (table : Table) (old new : PairStance) → StanceNegotiates {E = E} at ops true (old.sides at) old.sdps (Negotiated answers (Offer j)) (Some table) (new.sides at) new.sdps
    → new.sides (other_side at) ≡ old.sides (other_side at) → IsStartTold (old.sides at) → OfferMade at old new
offer_made_of E at ops answers j table old new h other start =
    let keeps : KeepsSide (old.sides at) (new.sides at) = negotiates_keep_side {E = E} at ops true (old.sides at) (new.sides at) old.sdps new.sdps (Negotiated answers (Offer j)) (Some table) h in
    let it = makes_applies (true && not (answers_lack answers)) at h.0 old.sdps j (new.sides at) new.sdps h.2 in
    record {
      applied = h.0;
      told = ops_told (old.sides at) h.0 ops answers h.1 start;
      made = it.0;
      applies = it.1;
      pushed = it.2;
      ice = both_sides (λ side. (new.sides side).ice ≡ (old.sides side).ice) at keeps.ice (ap (λ (s : Stance). s.ice) other);
      starts = both_sides (λ side. (new.sides side).snap.started ≡ (old.sides side).snap.started) at keeps.started (ap (λ (s : Stance). s.snap.started) other);
      role = both_sides (λ side. (new.sides side).role ≡ (old.sides side).role) at (ap (λ (s : Stance). s.role) it.1.rest ∙ ops_role (lent (old.sides at)) h.0 ops answers h.1) (ap (λ (s : Stance). s.role) other);
    }

-- Where a step made an offer, it is enough to know what holds of the outcome with an offer.
by_offer : {E : Type 0} → (start : PairStance) (s at : Side) (ops : List Op) (past : List (Entry E)) (old new : PairStance) (made : List MadeSdp) (P : Outcome E → Option Table → Type 0)
    → ((answers : List OpAnswer) (j : ℕ) (table : Table) → Comes start s past old new (Negotiate at ops true) (Negotiated answers (Offer j)) (Some table) made → P (Negotiated answers (Offer j)) (Some table))
    → (outcome : Outcome E) (table : Option Table) → Comes start s past old new (Negotiate at ops true) outcome table made → P outcome table
by_offer start s at ops past old new made P holds Alloc None comes = absurd (let e : false ≡ true = comes.offer in cc)
by_offer start s at ops past old new made P holds (Negotiated answers (Offer j)) (Some table) comes = holds answers j table comes
by_offer start s at ops past old new made P holds (Negotiated answers NotAsked) (Some table) comes = absurd (let e : false ≡ true = comes.offer in cc)
by_offer start s at ops past old new made P holds (Negotiated answers Nothing) (Some table) comes = absurd (let e : false ≡ true = comes.offer in cc)
by_offer start s at ops past old new made P holds (Negotiated answers MadeAlloc) (Some table) comes = absurd (let e : false ≡ true = comes.offer in cc)
by_offer start s at ops past old new made P holds outcome table comes = absurd comes.takes.replied

parted_stays : (one one' other other' : Option Bool) → one' ≡ one → other' ≡ other → AreRolesParted one other → AreRolesParted one' other'
parted_stays one one' other other' same same' parted = rw (same, same') parted

-- ---- the polite side

polite_out : {E : Type 0} → (start : PairStance) (s : Side) (ops : List Op) (k : ℕ) (stood : List LineRow) (past : List (Entry E)) (old new : PairStance) (answers : List OpAnswer) (j : ℕ) (table : Table) (made : List MadeSdp)
    → length (sdps past) ≡ k → before s past ≡ stood → Comes start s past old new (Negotiate s ops true) (Negotiated answers (Offer j)) (Some table) made
    → PoliteOut s k stood (entry (Negotiate s ops true) (Negotiated answers (Offer j)) (Some table) made ∷ past)
polite_out {E} start s ops k stood past old new answers j table made count quiet comes =
    let sound : Sound start.sides past = known_sound start past old comes.takes.known in
    let number : j ≡ length (sdps past) = offer_number _ _ j (length (sdps past)) comes.takes.replied.1 in
    let numbered : (j == k) ≡ true = eq-eqb j k (number ∙ count) in
    let undone = undone_ops (at_first (old.sides s) s past (new_app table.lines made)) ops answers table.lines comes.takes.replied.0 in
    record {
      said = (comes.takes.says.sdp, text_next past (entry (Negotiate s ops true) (Negotiated answers (Offer j)) (Some table) made) _ k comes.takes.says.one (sym count));
      right = rw numbered refl;
      unspent = unspent_later start.sides past k sound (omega (arith, count));
      undone = (rw (numbered, same_side-self s) undone) ∙ quiet;
    }

-- the impolite side stays
beside_polite : {E : Type 0} → (s : Side) (ops : List Op) (past : List (Entry E)) (answers : List OpAnswer) (j : ℕ) (table : Table) (made : List MadeSdp) (i : ℕ) → j ≡ length (sdps past)
    → IsBeside {E = E} (other_side s) i past (entry (Negotiate s ops true) (Negotiated answers (Offer j)) (Some table) made)
beside_polite s ops past answers j table made i number = record {
  rows = rw (same_side-other s) refl;
  still = rw (same_side-other s) refl;
  unspent = refl;
  unmade = λ less. ne_eqb j i (λ e. omega (arith, less, number, e));
}

pub offers_first : {E : Type 0} → (start : PairStance) (s : Side) (n : CrossedNumbers) (ops : List Op) (k : ℕ) (stood : List LineRow) (past : List (Entry E)) (old new : PairStance) (outcome : Outcome E) (table : Option Table) (made : List MadeSdp)
    → n.polite ≡ k → Crossing start s n stood k Quiet Still past old → Comes start s past old new (Negotiate s ops true) outcome table made
    → Acted start s n stood (k + 1) Out Still past old new (Negotiate s ops true) outcome table made
offers_first {E} start s n ops k stood past old new outcome table made is was comes =
    by_offer start s s ops past old new made (λ outcome table. Acted start s n stood (k + 1) Out Still past old new (Negotiate s ops true) outcome table made)
    (λ answers j table comes.
    let it = offer_made_of E s ops answers j table old new comes.takes.performs.acts comes.takes.performs.other (known_starts start past old comes.takes.known _) in
    record {
      meets = offer_meets s s ops n stood old new (Negotiated answers (Offer j)) (Some table) made;
      next = record {
        count = one_made E past made _ k comes.takes.says.one was.count;
        polite = subst (λ (t : ℕ). PoliteOut s t stood (entry (Negotiate s ops true) (Negotiated answers (Offer j)) (Some table) made ∷ past)) (sym is) (polite_out start s ops k stood past old new answers j table made was.count was.polite comes);
        impolite = record {
          agreed = agreed_stays old new it.ice it.starts was.impolite.agreed;
          parted = parted_stays _ _ _ _ (it.role Left) (it.role Right) was.impolite.parted;
          alike = rw (same_side-other s) was.impolite.alike;
        };
      };
    })
    outcome table comes

pub offers_last : {E : Type 0} → (start : PairStance) (s : Side) (n : CrossedNumbers) (ops : List Op) (k : ℕ) (stood : List LineRow) (past : List (Entry E)) (old new : PairStance) (outcome : Outcome E) (table : Option Table) (made : List MadeSdp)
    → n.polite ≡ k → Crossing start s n stood k Quiet Asks past old → Comes start s past old new (Negotiate s ops true) outcome table made
    → Acted start s n stood (k + 1) Out Asks past old new (Negotiate s ops true) outcome table made
offers_last {E} start s n ops k stood past old new outcome table made is was comes =
    by_offer start s s ops past old new made (λ outcome table. Acted start s n stood (k + 1) Out Asks past old new (Negotiate s ops true) outcome table made)
    (λ answers j table comes.
    let it = offer_made_of E s ops answers j table old new comes.takes.performs.acts comes.takes.performs.other (known_starts start past old comes.takes.known _) in
    let number : j ≡ length (sdps past) = offer_number _ _ j (length (sdps past)) comes.takes.replied.1 in
    let other : new.sides (other_side s) ≡ old.sides (other_side s) = comes.takes.performs.other in
    record {
      meets = offer_meets s s ops n stood old new (Negotiated answers (Offer j)) (Some table) made;
      next = record {
        count = one_made E past made _ k comes.takes.says.one was.count;
        polite = subst (λ (t : ℕ). PoliteOut s t stood (entry (Negotiate s ops true) (Negotiated answers (Offer j)) (Some table) made ∷ past)) (sym is) (polite_out start s ops k stood past old new answers j table made was.count was.polite comes);
        impolite = record {
          offer = was.impolite.offer;
          has = crossed_stays was.impolite.offer (other_side s) n.impolite past _ (beside_polite s ops past answers j table made n.impolite number) was.impolite.has;
          same = was.impolite.same;
          out = offer_out_stays (other_side s) n.impolite old new it.ice it.starts other (λ kept there. ap (λ (l : List Kept). slice_get l n.impolite) it.pushed ∙ stays_there old.sdps (kept_offer s it.made ∷ []) n.impolite kept there) was.impolite.out;
          bare = bare_stays (old.sides (other_side s)) (new.sides (other_side s)) other was.impolite.bare;
          parted = parted_stays _ _ _ _ (it.role Left) (it.role Right) was.impolite.parted;
        };
      };
    })
    outcome table comes

-- ---- the impolite side

-- a session description that says rows of which one is live has a line
pub some_live : (sdp : Sdp) (rows : List LineRow) → parsed_lines sdp ≡ map row_said rows → are_live rows ≡ true → length sdp.lines ≢ 0
some_live sdp [] says live = absurd (let e : false ≡ true = live in cc)
some_live sdp (row ∷ rows) says live = λ none.
    let both : length (parsed_lines sdp) ≡ length sdp.lines = length-map sdp.lines (parsed_line sdp.groups) in
    let count : length (parsed_lines sdp) ≡ suc (length (map row_said rows)) = ap length says in
    absurd (omega (arith, both, count, none))

-- the polite side stays
beside_impolite : {E : Type 0} → (s : Side) (ops : List Op) (past : List (Entry E)) (answers : List OpAnswer) (j : ℕ) (table : Table) (made : List MadeSdp) (i : ℕ) → j ≡ length (sdps past)
    → IsBeside {E = E} s i past (entry (Negotiate (other_side s) ops true) (Negotiated answers (Offer j)) (Some table) made)
beside_impolite s ops past answers j table made i number = record {
  rows = rw (same_side-apart s) refl;
  still = rw (same_side-apart s) refl;
  unspent = refl;
  unmade = λ less. ne_eqb j i (λ e. omega (arith, less, number, e));
}

pub asks : {E : Type 0} → (start : PairStance) (s : Side) (n : CrossedNumbers) (ops : List Op) (k : ℕ) (pp : Polite) (stood : List LineRow) (past : List (Entry E)) (old new : PairStance) (outcome : Outcome E) (table : Option Table) (made : List MadeSdp)
    → n.impolite ≡ k → Crossing start s n stood k pp Still past old → Comes start s past old new (Negotiate (other_side s) ops true) outcome table made
    → Acted start s n stood (k + 1) pp Asks past old new (Negotiate (other_side s) ops true) outcome table made
asks {E} start s n ops k pp stood past old new outcome table made is was comes =
    by_offer start s (other_side s) ops past old new made (λ outcome table. Acted start s n stood (k + 1) pp Asks past old new (Negotiate (other_side s) ops true) outcome table made)
    (λ answers j table comes. by answers j table comes) outcome table comes
  where
    by : (answers : List OpAnswer) (j : ℕ) (table : Table) → Comes start s past old new (Negotiate (other_side s) ops true) (Negotiated answers (Offer j)) (Some table) made
        → Acted start s n stood (k + 1) pp Asks past old new (Negotiate (other_side s) ops true) (Negotiated answers (Offer j)) (Some table) made
    by answers j table comes =
        let at : Side = other_side s in
        let known : Known start past old = comes.takes.known in
        let it = offer_made_of E at ops answers j table old new comes.takes.performs.acts comes.takes.performs.other (known_starts start past old comes.takes.known _) in
        let number : j ≡ length (sdps past) = offer_number _ _ j (length (sdps past)) comes.takes.replied.1 in
        let count : n.impolite ≡ length (sdps past) = is ∙ sym was.count in
        let crossed =
        cross_offered start.sides past at ops answers j n.impolite table made (old.sides at) (known_sound start past old known) comes.takes.replied.0 number count comes.takes.says (comes.live (same_side-apart s)) in
        let crosses : Crosses at n.impolite (entry (Negotiate at ops true) (Negotiated answers (Offer j)) (Some table) made ∷ past) = crossed.0 in
        let turned : Aligned (before at past) table.lines = ops_aligned (at_first (old.sides at) at past (new_app table.lines made)) ops answers table.lines comes.takes.replied.0 in
        let tells' = known_tells start (entry (Negotiate at ops true) (Negotiated answers (Offer j)) (Some table) made ∷ past) new comes.after in
        let total : n.impolite ≡ length old.sdps = count ∙ length-told past old (known_tells start past old known) in
        let there : slice_get new.sdps n.impolite ≡ Some (kept_offer at it.made) = ap (λ (l : List Kept). slice_get l n.impolite) it.pushed ∙ next_there old.sdps (kept_offer at it.made) n.impolite total in
        let text : crosses.offer.sdp ≡ it.made.0 = same_made (entry (Negotiate at ops true) (Negotiated answers (Offer j)) (Some table) made ∷ past) new n.impolite (kept_offer at it.made) _ tells' there crosses.has.there in
        let some : length it.made.0.lines ≢ 0 = subst (λ (sdp : Sdp). length sdp.lines ≢ 0) text (some_live crosses.offer.sdp (crosses.offer.front ++ crosses.offer.more) crosses.offer.says crosses.offer.live) in
        record {
          meets = offer_meets s at ops n stood old new (Negotiated answers (Offer j)) (Some table) made;
          next = record {
            count = one_made E past made _ k comes.takes.says.one was.count;
            polite = politely_stays pp s n.polite stood past _ (beside_impolite s ops past answers j table made n.polite number) was.polite;
            impolite = record {
              offer = crosses.offer;
              has = crosses.has;
              same = subst (λ (rows : List LineRow). Aligned stood rows) (sym crossed.1) (aligned_trans stood (before at past) table.lines was.impolite.alike turned);
              out = offered_round old new at n.impolite it.applied it.made it.ice it.starts it.applies it.pushed total some it.told was.impolite.agreed;
              bare = record {
                staged = ap (λ (q : Stance). q.staged) it.applies.rest;
                undo = ap (λ (q : Stance). q.undo) it.applies.rest;
                outstanding = ap (λ (q : Stance). q.outstanding) it.applies.rest;
              };
              parted = parted_stays _ _ _ _ (it.role Left) (it.role Right) was.impolite.parted;
            };
          };
        }
