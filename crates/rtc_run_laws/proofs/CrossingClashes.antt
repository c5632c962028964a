-- The polite offer is refused as glare, and rolled back.
use Rattle.std.proofs.Common.{◌≡◌, ◌==◌, ◌&&◌, ℕ, Bool, true, false, List, [], ◌∷◌, ◌++◌, length, Option, Some, None, refl, sym, ◌∙◌, ap, subst, inl, inr, true≢false}
use Rattle.std.specs.Prelude.{slice_get}
use Rattle.std.proofs.lemmas.Bool.{eq-eqb}
use Rattle.rtc_sdp_values.specs.declared.line_row.LineRow.{LineRow}
use Rattle.rtc_sdp_values.specs.declared.sdp.Sdp.{Sdp}
use Rattle.rtc_change.specs.Held.{Held}
use Rattle.rtc_change.specs.PendingOffer.{PendingOffer}
use Rattle.rtc_peer_core.proofs.StanceRollbacks.{rolled_back}
use Rattle.rtc_peer_core.specs.Glare.{meets_glare}
use Rattle.rtc_peer_core.specs.Stance.{Stance, held_by}
use Rattle.rtc_peer_core.specs.declared.rtc_error.RtcError.TheVariants.{Glare}
use Rattle.rtc_run_history.proofs.BothSides.{both_sides}
use Rattle.rtc_run_history.specs.Orderly.{AwaitsAnswer, AwaitsEnd}
use Rattle.rtc_run_history.specs.Outstanding.{has_outstanding}
use Rattle.rtc_run_history.specs.PairState.{held_token, kept_remote_sdp, spent}
use Rattle.rtc_run_history.specs.Past.{Entry, MadeSdp, before, holds_token, is_right, remote_sdp, sdp_for, sdps}
use Rattle.rtc_run_history.specs.Sides.{other_side, same_side}
use Rattle.rtc_run_history.specs.Signalled.{NotMade, Readable, Signalled, Unreadable, signalled_if}
use Rattle.rtc_run_history.specs.Sound.{RepliesToOffer, RepliesToRollback, is_glare_at}
use Rattle.rtc_run_history.specs.Undone.{table_shown, table_undone}
use Rattle.rtc_run_history.specs.Views.{view_in}
use Rattle.rtc_run_history.specs.declared.kept.Kept.{Kept}
use Rattle.rtc_run_history.specs.declared.outcome.Outcome.{Outcome}
use Rattle.rtc_run_history.specs.declared.outcome.Outcome.TheVariants.{Alloc, Done as Rolled, Refused}
use Rattle.rtc_run_history.specs.declared.side.Side.{Side}
use Rattle.rtc_run_history.specs.declared.side.Side.TheVariants.{Left, Right}
use Rattle.rtc_run_history.specs.declared.step.Step.TheVariants.{AcceptAnswer, AcceptOffer, Rollback}
use Rattle.rtc_run_history.specs.declared.table.Table.{Table}
use Rattle.rtc_sdp_writer.specs.AsRead.{as_read}
use Rattle.rtc_run_laws.specs.Crossed.{CrossedNumbers}
use Rattle.rtc_run_laws.proofs.CrossingActs.{Acted, Comes, Crossing, Fits, accepts_apart, none_made}
use Rattle.rtc_run_laws.proofs.CrossingMeets.{StanceMeets}
use Rattle.rtc_run_laws.proofs.CrossingRoles.{role_kept}
use Rattle.rtc_run_laws.proofs.CrossingPhases.{Polite, Out, Back, Done, Asks, Told}
use Rattle.rtc_run_laws.proofs.CrossingStates.{IsBare, IsBeside, IsSaid, SameStarts, bare_stays, crossed_stays, lent_bare, offer_out_stays, politely_stays, replies_stay}
use Rattle.rtc_run_laws.proofs.Knowns.{Known, known_outstanding, known_read, known_tells}
use Rattle.rtc_run_laws.proofs.Around.{entry}
use Rattle.rtc_run_laws.proofs.KeptTexts.{spent_places}
use Rattle.rtc_run_laws.proofs.PastOffers.{stays_there}
use Rattle.rtc_run_laws.proofs.ReadPasts.{read_at}
use Rattle.rtc_run_laws.proofs.SideRoundSteps.{SameIce}
use Rattle.rtc_run_laws.proofs.SideRounds.{SameSides, round_parts, round_stays}
use Rattle.rtc_run_laws.proofs.StanceSteps.{PairStance, StanceStepAcceptsOffer, StanceStepRollsBack, lent}
use Rattle.rtc_run_laws.proofs.Takings.{offer_taking, rollback_taking}
use Rattle.rtc_run_laws.proofs.Tells.{same_side-other, same_side-self}

-- ---- refused as glare

glare_refuses : {E : Type 0} → (glare : Bool) (sdp : Signalled) (said : Sdp) (view : Held) (next : ℕ) (outcome : Outcome E) (after : List LineRow) → glare ≡ true → sdp ≡ Readable said → RepliesToOffer glare sdp view next outcome after
    → (outcome ≡ Refused Glare) × (after ≡ view.lines)
glare_refuses false sdp said view next outcome after is reads takes = absurd (let e : false ≡ true = is in cc)
glare_refuses true NotMade said view next outcome after is reads takes = absurd (cc)
glare_refuses true (Unreadable line) said view next outcome after is reads takes = absurd (cc)
glare_refuses true (Readable sdp) said view next (Refused Glare) after is reads takes = (refl, takes)
glare_refuses true (Readable sdp) said view next outcome after is reads takes = absurd takes

glare_keeps : (E : Type 0) (at : Side) (offer : Signalled) (s : Stance) (kept : List Kept) (table : Table) (t : Stance) (kept' : List Kept) → StanceStepAcceptsOffer {E = E} at offer s kept (Refused Glare) (Some table) t kept' → (t ≡ lent s) × (kept' ≡ kept)
glare_keeps E at NotMade s kept table t kept' h = absurd h
glare_keeps E at (Unreadable line) s kept table t kept' h = absurd (let e = h.0 in cc)
glare_keeps E at (Readable sdp) s kept table t kept' h = (h.0.1, h.1)

remote_said : (s : Side) (sdp : Sdp) → sdp_for true (other_side s) (Some (record { at = s; offer = true; sdp = sdp })) ≡ Some sdp
remote_said Left sdp = refl
remote_said Right sdp = refl

-- The impolite side, whose own offer awaits its answer, refuses the polite one, and nothing changes.
pub record Clashed {E : Type 0} (s : Side) (n : CrossedNumbers) (past : List (Entry E)) (old new : PairStance) (table : Table) (made : List MadeSdp) : Type 0 where
  pub sides : (side : Side) → new.sides side ≡ old.sides side
  pub kept : new.sdps ≡ old.sdps
  pub none : made ≡ []
  pub lines : table.lines ≡ before (other_side s) past

by_clash : {E : Type 0} → (start : PairStance) (s : Side) (n : CrossedNumbers) (past : List (Entry E)) (old new : PairStance) (made : List MadeSdp) (P : Outcome E → Option Table → Type 0) → Fits start s n → IsSaid s n.polite past → IsBare (old.sides (other_side s))
    → ((table : Table) → Clashed s n past old new table made → P (Refused Glare) (Some table))
    → (outcome : Outcome E) (table : Option Table) → Comes start s past old new (AcceptOffer (other_side s) n.polite) outcome table made → P outcome table
by_clash start s n past old new made P fits said bare holds Alloc None comes = absurd (let e : true ≡ false = comes.enough in cc)
by_clash {E} start s n past old new made P fits said bare holds outcome (Some table) comes =
    let at : Side = other_side s in
    let known : Known start past old = comes.takes.known in
    let awaits : has_outstanding at past ≡ true = sym (known_outstanding start past old known at) ∙ bare.outstanding in
    let glare : is_glare_at start.sides at past ≡ true = ap (λ (polite : Option Bool). meets_glare polite (has_outstanding at past)) fits.impolite ∙ awaits in
    let reads : remote_sdp true at n.polite past ≡ Readable (as_read said.0) =
    ap (λ text. signalled_if (sdp_for true at text)) said.1 ∙ ap signalled_if (remote_said s said.0) ∙ read_at past n.polite _ (known_read start past old known) said.1 in
    let it = glare_refuses (is_glare_at start.sides at past) (remote_sdp true at n.polite past) (as_read said.0) (view_in start.sides at past (held_by (old.sides at))) (length (sdps past)) outcome table.lines glare reads
    (offer_taking start.sides old.sides past at n.polite outcome table made comes.takes.replied) in
    subst (λ (o : Outcome E). Comes start s past old new (AcceptOffer at n.polite) o (Some table) made → P o (Some table)) (sym it.0)
    (λ comes.
    let keeps = glare_keeps E at (kept_remote_sdp true old.sdps at n.polite) (old.sides at) old.sdps table (new.sides at) new.sdps comes.takes.performs.acts in
    holds table (record {
      sides = both_sides (λ side. new.sides side ≡ old.sides side) at (keeps.0 ∙ lent_bare (old.sides at) bare.staged bare.undo) comes.takes.performs.other;
      kept = keeps.1;
      none = comes.takes.says;
      lines = it.1;
    }))
    comes
by_clash start s n past old new made P fits said bare holds outcome None comes = absurd comes.takes.replied

clash_meets : {E : Type 0} → (s : Side) (n : CrossedNumbers) (stood : List LineRow) (past : List (Entry E)) (old new : PairStance) (table : Table) (made : List MadeSdp) → IsBare (old.sides (other_side s)) → Clashed s n past old new table made
    → StanceMeets s n stood old (entry {E = E} (AcceptOffer (other_side s) n.polite) (Refused Glare) (Some table) made) new
clash_meets s n stood past old new table made bare clashed = record {
  refused = λ is. refl;
  bare = λ is. (bare.staged, bare.undo);
  kept = λ is. clashed.kept;
  rolled_back = λ is. absurd (let e : AcceptOffer (other_side s) n.polite ≡ Rollback s n.polite = is in cc);
  undone = λ is. absurd (let e : AcceptOffer (other_side s) n.polite ≡ Rollback s n.polite = is in cc);
  answered = λ is. absurd (accepts_apart s n.polite n.impolite is);
  finished = λ is. absurd (let e : AcceptOffer (other_side s) n.polite ≡ AcceptAnswer (other_side s) n.impolite n.answer = is in cc);
}

-- a refusal leaves what each side offered
beside_clash : {E : Type 0} → (s at : Side) (n : CrossedNumbers) (k : ℕ) (past : List (Entry E)) (old new : PairStance) (table : Table) (made : List MadeSdp) → Clashed s n past old new table made
    → IsBeside at k past (entry {E = E} (AcceptOffer (other_side s) n.polite) (Refused Glare) (Some table) made)
beside_clash {E} s at n k past old new table made clashed = record {
  rows = rows_at s at clashed.lines;
  still = still_at (same_side (other_side s) at);
  unspent = refl;
  unmade = λ less. refl;
}
  where
    rows_at : (s at : Side) → table.lines ≡ before (other_side s) past → before at (entry {E = E} (AcceptOffer (other_side s) n.polite) (Refused Glare) (Some table) made ∷ past) ≡ before at past
    rows_at Left Left same = refl
    rows_at Left Right same = same
    rows_at Right Left same = same
    rows_at Right Right same = refl

    still_at : (b : Bool) → (b && false) ≡ false
    still_at true = refl
    still_at false = refl

clash_count : {E : Type 0} → (s : Side) (n : CrossedNumbers) (k : ℕ) (past : List (Entry E)) (old new : PairStance) (table : Table) (made : List MadeSdp) → Clashed s n past old new table made → length (sdps past) ≡ k → length (sdps past ++ made) ≡ k
clash_count {E} s n k past old new table made clashed count = ap length (none_made E past made clashed.none) ∙ count

still_sides : {E : Type 0} → (s : Side) (n : CrossedNumbers) (past : List (Entry E)) (old new : PairStance) (table : Table) (made : List MadeSdp) → Clashed s n past old new table made → SameSides old new
still_sides s n past old new table made clashed side = ap round_parts (clashed.sides side)

pub clashes_asks : {E : Type 0} → (start : PairStance) (s : Side) (n : CrossedNumbers) (k : ℕ) (pp : Polite) (stood : List LineRow) (past : List (Entry E)) (old new : PairStance) (outcome : Outcome E) (table : Option Table) (made : List MadeSdp)
    → Fits start s n → IsSaid s n.polite past → Crossing start s n stood k pp Asks past old → Comes start s past old new (AcceptOffer (other_side s) n.polite) outcome table made
    → Acted start s n stood k pp Asks past old new (AcceptOffer (other_side s) n.polite) outcome table made
clashes_asks {E} start s n k pp stood past old new outcome table made fits said was comes =
    by_clash start s n past old new made (λ outcome table. Acted start s n stood k pp Asks past old new (AcceptOffer (other_side s) n.polite) outcome table made) fits said was.impolite.bare
    (λ table clashed. record {
      meets = clash_meets s n stood past old new table made was.impolite.bare clashed;
      next = record {
        count = clash_count s n k past old new table made clashed was.count;
        polite = politely_stays pp s n.polite stood past _ (beside_clash s s n n.polite past old new table made clashed) was.polite;
        impolite = record {
          offer = was.impolite.offer;
          has = crossed_stays was.impolite.offer (other_side s) n.impolite past _ (beside_clash s (other_side s) n n.impolite past old new table made clashed) was.impolite.has;
          same = was.impolite.same;
          out = round_stays (AwaitsAnswer (other_side s) n.impolite []) old new (still_sides s n past old new table made clashed) clashed.kept was.impolite.out;
          bare = bare_stays (old.sides (other_side s)) (new.sides (other_side s)) (clashed.sides (other_side s)) was.impolite.bare;
          parted = let left = clashed.sides Left in let right = clashed.sides Right in rw (left, right) was.impolite.parted;
        };
      };
    })
    outcome table comes

pub clashes_told : {E : Type 0} → (start : PairStance) (s : Side) (n : CrossedNumbers) (k : ℕ) (stood : List LineRow) (past : List (Entry E)) (old new : PairStance) (outcome : Outcome E) (table : Option Table) (made : List MadeSdp)
    → Fits start s n → Crossing start s n stood k Done Told past old → Comes start s past old new (AcceptOffer (other_side s) n.polite) outcome table made
    → Acted start s n stood k Done Told past old new (AcceptOffer (other_side s) n.polite) outcome table made
clashes_told {E} start s n k stood past old new outcome table made fits was comes =
    by_clash start s n past old new made (λ outcome table. Acted start s n stood k Done Told past old new (AcceptOffer (other_side s) n.polite) outcome table made) fits was.polite was.impolite.bare
    (λ table clashed. record {
      meets = clash_meets s n stood past old new table made was.impolite.bare clashed;
      next = record {
        count = clash_count s n k past old new table made clashed was.count;
        polite = politely_stays Done s n.polite stood past _ (beside_clash s s n n.polite past old new table made clashed) was.polite;
        impolite = record {
          offer = was.impolite.offer;
          answer = was.impolite.answer;
          replies = replies_stay was.impolite.offer was.impolite.answer (other_side s) n.impolite n.answer past _ (beside_clash s (other_side s) n n.impolite past old new table made clashed)
              (IsBeside.rows (beside_clash s (other_side (other_side s)) n n.impolite past old new table made clashed)) was.impolite.replies;
          same = was.impolite.same;
          out = round_stays (AwaitsEnd (other_side s) n.impolite n.answer []) old new (still_sides s n past old new table made clashed) clashed.kept was.impolite.out;
          bare = bare_stays (old.sides (other_side s)) (new.sides (other_side s)) (clashed.sides (other_side s)) was.impolite.bare;
          role = role_kept s n.answer old new (λ side. ap (λ (q : Stance). q.role) (clashed.sides side)) clashed.kept was.impolite.role;
        };
      };
    })
    outcome table comes

-- ---- rolled back

rolls_done : {E : Type 0} → (held right : Bool) (earlier undone : Table) (outcome : Outcome E) (table : Table) → held ≡ true → right ≡ true → RepliesToRollback held right earlier undone outcome table → (outcome ≡ Rolled) × (table ≡ undone)
rolls_done false right earlier undone outcome table held_is right_is h = absurd (let e : false ≡ true = held_is in cc)
rolls_done true false earlier undone outcome table held_is right_is h = absurd (let e : false ≡ true = right_is in cc)
rolls_done true true earlier undone Rolled table held_is right_is h = (refl, h)
rolls_done true true earlier undone outcome table held_is right_is h = absurd h

-- what a rollback leaves
record RolledBy (t : ℕ) (token : Option PendingOffer) (s q : Stance) (kept kept' : List Kept) : Type 0 where
  its : PendingOffer
  token_is : token ≡ Some its
  is : q ≡ rolled_back (lent s) its
  spent_is : kept' ≡ spent t kept

rolled_by : (E : Type 0) (t : ℕ) (token : Option PendingOffer) (s : Stance) (kept : List Kept) (table : Table) (q : Stance) (kept' : List Kept) → StanceStepRollsBack {E = E} t token s kept Rolled (Some table) q kept' → RolledBy t token s q kept kept'
rolled_by E t None s kept table q kept' h = absurd h
rolled_by E t (Some token) s kept table q kept' h = record { its = token; token_is = refl; is = h.0.1; spent_is = h.2 }

pub rolls_back : {E : Type 0} → (start : PairStance) (s : Side) (n : CrossedNumbers) (k : ℕ) (stood : List LineRow) (past : List (Entry E)) (old new : PairStance) (outcome : Outcome E) (table : Option Table) (made : List MadeSdp)
    → Fits start s n → Crossing start s n stood k Out Asks past old → Comes start s past old new (Rollback s n.polite) outcome table made
    → Acted start s n stood k Back Asks past old new (Rollback s n.polite) outcome table made
rolls_back start s n k stood past old new Alloc None made fits was comes = absurd (let e : true ≡ false = comes.enough in cc)
rolls_back {E} start s n k stood past old new outcome (Some table) made fits was comes =
    subst (λ (o : Outcome E). Comes start s past old new (Rollback s n.polite) o (Some table) made → Acted start s n stood k Back Asks past old new (Rollback s n.polite) o (Some table) made) (sym it.0) (λ comes. by comes) comes
  where
    held : holds_token s n.polite past ≡ true
    held = let there = was.polite.said.1 in let unspent = was.polite.unspent in rw (there, unspent, same_side-self s) refl

    it : (outcome ≡ Rolled) × (table ≡ table_undone s n.polite past)
    it = rolls_done (holds_token s n.polite past) (is_right s n.polite past) (table_shown s past) (table_undone s n.polite past) outcome table held was.polite.right
        (rollback_taking start.sides old.sides past s n.polite outcome table made comes.takes.replied)

    by : Comes start s past old new (Rollback s n.polite) Rolled (Some table) made → Acted start s n stood k Back Asks past old new (Rollback s n.polite) Rolled (Some table) made
    by comes =
        let e : Entry E = entry (Rollback s n.polite) Rolled (Some table) made in
        let rolled = rolled_by E n.polite (held_token old.sdps s n.polite) (old.sides s) old.sdps table (new.sides s) new.sdps comes.takes.performs.acts in
        let other : new.sides (other_side s) ≡ old.sides (other_side s) = comes.takes.performs.other in
        let none : made ≡ [] = comes.takes.says in
        let ice : SameIce old new = both_sides (λ side. (new.sides side).ice ≡ (old.sides side).ice) s (ap (λ (q : Stance). q.ice) rolled.is) (ap (λ (q : Stance). q.ice) other) in
        let starts : SameStarts old new = both_sides (λ side. (new.sides side).snap.started ≡ (old.sides side).snap.started) s (ap (λ (q : Stance). q.snap.started) rolled.is) (ap (λ (q : Stance). q.snap.started) other) in
        let roles : (side : Side) → (new.sides side).role ≡ (old.sides side).role = both_sides (λ side. (new.sides side).role ≡ (old.sides side).role) s (ap (λ (q : Stance). q.role) rolled.is) (ap (λ (q : Stance). q.role) other) in
        let back : table.lines ≡ stood = ap (λ (t : Table). t.lines) it.1 ∙ was.polite.undone in
        let rows : before s (e ∷ past) ≡ stood = rw (same_side-self s) back in
        let there : (kept : Kept) → slice_get old.sdps n.impolite ≡ Some kept → slice_get new.sdps n.impolite ≡ Some kept =
        λ kept there. elim (spent_places s old.sdps new.sdps n.polite rolled.its rolled.token_is rolled.spent_is n.impolite) [
          | inl h ↦ h.1 ∙ there
          | inr h ↦ absurd (true≢false (sym (eq_numbers n.polite n.impolite (sym h.0)) ∙ fits.apart))
        ] in
        let beside : IsBeside (other_side s) n.impolite past e = record { rows = rw (same_side-other s) refl; still = refl; unspent = let apart = fits.apart in rw apart refl; unmade = λ less. refl } in
        record {
          meets = record {
            refused = λ is. absurd (let f : Rollback s n.polite ≡ AcceptOffer (other_side s) n.polite = is in cc);
            bare = λ is. absurd (let f : Rollback s n.polite ≡ AcceptOffer (other_side s) n.polite = is in cc);
            kept = λ is. absurd (let f : Rollback s n.polite ≡ AcceptOffer (other_side s) n.polite = is in cc);
            rolled_back = λ is. refl;
            undone = λ is. ((known_tells start (e ∷ past) new comes.after).sides s).rows ∙ rows;
            answered = λ is. absurd (let f : Rollback s n.polite ≡ AcceptOffer s n.impolite = is in cc);
            finished = λ is. absurd (let f : Rollback s n.polite ≡ AcceptAnswer (other_side s) n.impolite n.answer = is in cc);
          };
          next = record {
            count = ap length (none_made E past made none) ∙ was.count;
            polite = (rows, (was.polite.said.0, stays_there (sdps past) made n.polite _ was.polite.said.1));
            impolite = record {
              offer = was.impolite.offer;
              has = crossed_stays was.impolite.offer (other_side s) n.impolite past e beside was.impolite.has;
              same = was.impolite.same;
              out = offer_out_stays (other_side s) n.impolite old new ice starts other there was.impolite.out;
              bare = bare_stays (old.sides (other_side s)) (new.sides (other_side s)) other was.impolite.bare;
              parted = let left = roles Left in let right = roles Right in rw (left, right) was.impolite.parted;
            };
          };
        }
      where
        eq_numbers : (a b : ℕ) → a ≡ b → (a == b) ≡ true
        eq_numbers a b same = eq-eqb a b same
rolls_back start s n k stood past old new outcome None made fits was comes = absurd comes.takes.replied
