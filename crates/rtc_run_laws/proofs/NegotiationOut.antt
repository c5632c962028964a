-- What a step that negotiates leaves of the offer of its side that awaits its answer.
use Rattle.std.specs.List.{AllByRecursion}
use Rattle.std.specs.Prelude.{is_some, slice_get}
use Rattle.std.proofs.Common.{not, ◌≡◌, ◌==◌, ◌&&◌, ℕ, Bool, true, false, true≢false, cond, List, [], ◌∷◌, ◌++◌, length, Option, Some, None, refl, sym, ◌∙◌, ap, subst, arith, inl, inr}
use Rattle.std.proofs.lemmas.Bool.{and_right, eq-eqb, ne_eqb}
use Rattle.rtc_wire.specs.declared.channel_config.ChannelConfig.{ChannelConfig}
use Rattle.rtc_sdp_values.specs.declared.line_row.LineRow.{LineRow}
use Rattle.rtc_channels.specs.Channels.{Channel}
use Rattle.rtc_change.specs.declared.change.Change.{Change}
use Rattle.rtc_change.specs.PendingOffer.{PendingOffer, new_channels}
use Rattle.rtc_peer_rows.specs.RowChanges.{all_restored}
use Rattle.rtc_peer_rows.specs.Table.{IsTable}
use Rattle.rtc_peer_rows.proofs.RowChangeLemmas.{AreAlike}
use Rattle.rtc_peer_core.specs.Stance.{Stance}
use Rattle.rtc_peer_core.proofs.StanceCalls.{stance_alone}
use Rattle.rtc_peer_polling.specs.Numbers.{AreUnconfirmed}
use Rattle.rtc_run_history.specs.declared.kept.Kept.{Kept}
use Rattle.rtc_run_history.specs.declared.made.Made.{Made}
use Rattle.rtc_run_history.specs.declared.made.Made.TheVariants.{NotAsked, Nothing, Offer, Alloc as MadeAlloc}
use Rattle.rtc_run_history.specs.declared.op.Op.{Op}
use Rattle.rtc_run_history.specs.declared.op.Op.TheVariants.{AddMedia, SetDirection, StopMedia, AddChannel, IceRestart}
use Rattle.rtc_run_history.specs.declared.op_answer.OpAnswer.{OpAnswer}
use Rattle.rtc_run_history.specs.declared.op_answer.OpAnswer.TheVariants.{Mid, Changed, NoLine, Channel as Numbered, BadChannel as NoChannel, Creds, Alloc as OpAlloc}
use Rattle.rtc_run_history.specs.declared.outcome.Outcome.{Outcome}
use Rattle.rtc_run_history.specs.declared.outcome.Outcome.TheVariants.{Negotiated, Alloc}
use Rattle.rtc_run_history.specs.declared.side.Side.{Side}
use Rattle.rtc_run_history.specs.declared.step.Step.TheVariants.{Negotiate}
use Rattle.rtc_run_history.specs.declared.table.Table.{Table}
use Rattle.rtc_run_history.specs.Answers.{do_stage, numbers_answered}
use Rattle.rtc_run_history.specs.Memory.{answers_lack}
use Rattle.rtc_run_history.specs.PairState.{held_token, token_for}
use Rattle.rtc_run_history.specs.Past.{Entry, MadeSdp, before, is_applied, makes}
use Rattle.rtc_run_history.specs.Performs.{kept_offer}
use Rattle.rtc_run_history.specs.Sides.{same_side}
use Rattle.rtc_run_history.specs.Undone.{places_changed, rows_undone}
use Rattle.rtc_run_history.specs.Views.{Stances}
use Rattle.rtc_run_laws.proofs.Around.{entry}
use Rattle.rtc_run_laws.proofs.CancelledRows.{AreCancellable, numbers_of}
use Rattle.rtc_run_laws.proofs.KeptTexts.{Same, Pushed}
use Rattle.rtc_run_laws.proofs.NotedOps.{IsNoting, notes_none, ops_note}
use Rattle.rtc_run_laws.proofs.OutstandingSteps.{StepOut, role_parts, still_step, untouched_step}
use Rattle.rtc_run_laws.proofs.Outstands.{Outstands, TokenUndoes, moved_out, offered_out}
use Rattle.rtc_run_laws.proofs.PushedLists.{push_places}
use Rattle.rtc_run_laws.proofs.StagedChanges.{are_some}
use Rattle.rtc_run_laws.proofs.StagedNumbers.{KeepsUnconfirmed, ops_number, staged_numbers}
use Rattle.rtc_run_laws.proofs.Staging.{ops_stage}
use Rattle.rtc_run_laws.proofs.StanceSteps.{PairStance, StanceMakesOf, StanceNegotiates, StancePerformsOps, lent}
use Rattle.rtc_run_laws.proofs.Tells.{Tells, same_side-self}
use Rattle.rtc_run_laws.proofs.UndoneRows.{alike_on}

-- ops change no role, and no offer
pub ops_roles : (p q : Stance) (ops : List Op) (answers : List OpAnswer) → StancePerformsOps p ops answers q → role_parts q ≡ role_parts p
ops_roles p q [] [] h = ap role_parts h
ops_roles p q (AddMedia kind dir ∷ ops) (Mid mid ∷ answers) h = ops_roles h.0 q ops answers h.2 ∙ ap role_parts h.1.rest
ops_roles p q (AddMedia kind dir ∷ ops) (OpAlloc ∷ []) h = ap role_parts h
ops_roles p q (SetDirection place dir ∷ ops) (NoLine ∷ answers) h = ops_roles p q ops answers h.1
ops_roles p q (SetDirection place dir ∷ ops) (Changed true ∷ answers) h = ops_roles h.0 q ops answers h.2 ∙ ap role_parts h.1.called.1
ops_roles p q (SetDirection place dir ∷ ops) (Changed false ∷ answers) h = ops_roles h.0 q ops answers h.2 ∙ ap role_parts h.1.called.1
ops_roles p q (SetDirection place dir ∷ ops) (OpAlloc ∷ []) h = ap role_parts h.called
ops_roles p q (StopMedia place ∷ ops) (NoLine ∷ answers) h = ops_roles p q ops answers h.1
ops_roles p q (StopMedia place ∷ ops) (Changed true ∷ answers) h = ops_roles h.0 q ops answers h.2 ∙ ap role_parts h.1.called.1
ops_roles p q (StopMedia place ∷ ops) (Changed false ∷ answers) h = ops_roles h.0 q ops answers h.2 ∙ ap role_parts h.1.called.1
ops_roles p q (StopMedia place ∷ ops) (OpAlloc ∷ []) h = ap role_parts h.called
ops_roles p q (AddChannel config ∷ ops) (Numbered id ∷ answers) h = ops_roles h.0 q ops answers h.2 ∙ ap role_parts h.1.rest
ops_roles p q (AddChannel config ∷ ops) (NoChannel ∷ answers) h = ops_roles h.0 q ops answers h.2 ∙ ap role_parts h.1.1
ops_roles p q (AddChannel config ∷ ops) (OpAlloc ∷ []) h = ap role_parts h
ops_roles p q (IceRestart keep ∷ ops) (Creds creds ∷ answers) h = ops_roles h.0 q ops answers h.2 ∙ ap role_parts h.1.1
ops_roles p q (IceRestart keep ∷ ops) (OpAlloc ∷ []) h = ap role_parts h
ops_roles p q ops answers h = absurd h

-- What ops leave of a side that is lent for a step.
record OpsLeave (s : Stance) (ops : List Op) (answers : List OpAnswer) (p : Stance) : Type 0 where
  roles : role_parts p ≡ role_parts s
  noting : IsNoting s.lines (places_changed ops answers) p
  numbered : KeepsUnconfirmed (lent s) answers p
  some : are_some p.staged ≡ do_stage answers

ops_leave : (s p : Stance) (ops : List Op) (answers : List OpAnswer) → IsTable s.lines → StancePerformsOps (lent s) ops answers p → OpsLeave s ops answers p
ops_leave s p ops answers table h = record {
  roles = ops_roles (lent s) p ops answers h;
  noting = ops_note s.lines [] (lent s) p ops answers table h (notes_none (lent s) refl);
  numbered = ops_number (lent s) p ops answers h;
  some = (ops_stage (lent s) p ops answers h).some;
}

-- the channels of these numbers were never confirmed
all_numbered : (channels : List (ℕ × ChannelConfig)) (rows : List Channel) → AllByRecursion (λ id. AreUnconfirmed id rows) (numbers_of channels) → AreCancellable channels rows
all_numbered [] rows all = tt
all_numbered (channel ∷ rest) rows all = (all.0, all_numbered rest rows all.1)

-- ---- the token of an offer that is made

token_there : (at : Side) (made : Kept) (token : PendingOffer) → made.at ≡ at → made.token ≡ Some token → token_for at (Some made) ≡ Some token
token_there at made token own is = ap (λ (b : Bool). cond b made.token None) (ap (λ (side : Side). same_side side at) own ∙ same_side-self at) ∙ is

last_there : (kept kept' : List Kept) (last : Kept) (k : ℕ) → k ≡ length kept → kept' ≡ kept ++ last ∷ [] → slice_get kept' k ≡ Some last
last_there kept kept' last k is pushed = elim (push_places kept last k) [
  | inl h ↦ absurd (true≢false (sym (eq-eqb (length kept) k (sym is)) ∙ h.0))
  | inr h ↦ ap (λ (l : List Kept). slice_get l k) pushed ∙ h.2
]

some_token : (one other : PendingOffer) → Some one ≡ Some other → one ≡ other
some_token one other e = cc

offer_undoes : {E : Type 0} → (past : List (Entry E)) (at : Side) (ops : List Op) (apply : Bool) (answers : List OpAnswer) (k : ℕ) (table : Option Table) (made : List MadeSdp) (s p q : Stance) (token : PendingOffer)
    → OpsLeave s ops answers p → s.lines ≡ before at past → AllByRecursion (λ id. AreUnconfirmed id p.channels.rows) (numbers_answered answers)
    → token.changes ≡ p.staged → token.undo ≡ p.undo → q.lines ≡ p.lines → q.channels ≡ p.channels
    → TokenUndoes (entry (Negotiate at ops apply) (Negotiated answers (Offer k)) table made ∷ past) at k token q
offer_undoes past at ops apply answers k table made s p q token leaves rows fresh changes undo lines channels =
    let here : (k == k) ≡ true = eq-eqb k k refl in
    let numbers : numbers_of (new_channels token.changes) ≡ numbers_answered answers = ap staged_numbers changes ∙ leaves.numbered.numbers in
    record {
      numbers = numbers ∙ (rw here refl);
      rows = λ now like.
          ap (λ undoes. all_restored undoes now) undo
          ∙ leaves.noting.undone now (alike_on s.lines q.lines now (subst (λ (l : List LineRow). AreAlike s.lines l) (sym lines) leaves.noting.alike) like)
          ∙ ap (λ (earlier : List LineRow). rows_undone (places_changed ops answers) 0 earlier now) rows
          ∙ (rw here refl);
      unconfirmed = subst (λ held. AreCancellable (new_channels token.changes) held.rows) (sym channels)
          (all_numbered (new_channels token.changes) p.channels.rows
          (subst (λ (numbers : List ℕ). AllByRecursion (λ id. AreUnconfirmed id p.channels.rows) numbers) (sym numbers) fresh));
    }

-- ---- the step

-- ops whose changes are not applied
unapplied : {E : Type 0} → (fresh : Stances) (past : List (Entry E)) (at : Side) (ops : List Op) (apply : Bool) (answers : List OpAnswer) (what : Made) (table : Option Table) (made : List MadeSdp) (p : Stance) (old new : PairStance)
    → is_applied answers what ≡ false → ((k : ℕ) → makes {E = E} k (Negotiated answers what) ≡ false) → OpsLeave (old.sides at) ops answers p → new.sides at ≡ p → new.sdps ≡ old.sdps
    → Outstands fresh past at (old.sides at) old.sdps → StepOut fresh past (Negotiate at ops apply) (Negotiated answers what) table made old new
unapplied fresh past at ops apply answers what table made p old new none unmade leaves same kept out =
    still_step fresh past (Negotiate at ops apply) (Negotiated answers what) table made old new (and_right (same_side at at) (is_applied answers what) none) (λ k within. unmade k) kept
    (ap role_parts same ∙ leaves.roles)
    (subst (λ (q : Stance). AreAlike (old.sides at).lines q.lines) (sym same) leaves.noting.alike)
    (λ id free. subst (λ (q : Stance). AreUnconfirmed id q.channels.rows) (sym same) (leaves.numbered.stay id free)) out

-- what is applied is channels alone, or nothing
alone_out : {E : Type 0} → (fresh : Stances) (past : List (Entry E)) (at : Side) (ops : List Op) (apply : Bool) (answers : List OpAnswer) (table : Option Table) (made : List MadeSdp) (p : Stance) (staged : List Change) (old new : PairStance)
    → are_some staged ≡ do_stage answers → OpsLeave (old.sides at) ops answers p → new.sides at ≡ stance_alone staged p → new.sdps ≡ old.sdps
    → Outstands fresh past at (old.sides at) old.sdps → StepOut fresh past (Negotiate at ops apply) (Negotiated answers Nothing) table made old new
alone_out fresh past at ops apply answers table made p [] old new some leaves same kept out =
    unapplied fresh past at ops apply answers Nothing table made p old new (sym some) (λ k. refl) leaves same kept out
alone_out fresh past at ops apply answers table made p (change ∷ changes) old new some leaves same kept out = record {
  beyond = λ k within. refl;
  texts = Same kept;
  own = moved_out fresh past (entry (Negotiate at ops apply) (Negotiated answers Nothing) table made) at (old.sides at) (new.sides at) old.sdps new.sdps
      (ap (λ (b : Bool). b && do_stage answers) (same_side-self at) ∙ sym some) refl (λ u. refl)
      (ap (λ (q : Stance). q.polite) same ∙ ap (λ (parts : Option Bool × Bool). parts.0) leaves.roles) (ap (λ (q : Stance). q.outstanding) same) out;
}

applied_out : {E : Type 0} → (fresh : Stances) (past : List (Entry E)) (at : Side) (ops : List Op) (apply asked : Bool) (answers : List OpAnswer) (what : Made) (table : Option Table) (made : List MadeSdp) (p : Stance) (old new : PairStance)
    → Tells past old → OpsLeave (old.sides at) ops answers p → StanceMakesOf asked at p old.sdps what (new.sides at) new.sdps
    → Outstands fresh past at (old.sides at) old.sdps → StepOut fresh past (Negotiate at ops apply) (Negotiated answers what) table made old new
applied_out fresh past at ops apply false answers NotAsked table made p old new tells leaves h out =
    unapplied fresh past at ops apply answers NotAsked table made p old new refl (λ k. refl) leaves h.0 h.1 out
applied_out fresh past at ops apply true answers MadeAlloc table made p old new tells leaves h out =
    unapplied fresh past at ops apply answers MadeAlloc table made p old new refl (λ k. refl) leaves h.0 h.1 out
applied_out fresh past at ops apply true answers Nothing table made p old new tells leaves h out =
    alone_out fresh past at ops apply answers table made p p.staged old new leaves.some leaves h.0.1 h.1 out
applied_out fresh past at ops apply true answers (Offer k) table made p old new tells leaves h out =
    let last : Kept = kept_offer at h.0 in
    let there : slice_get new.sdps k ≡ Some last = last_there old.sdps new.sdps last k h.3 h.2 in
    let held : held_token new.sdps at k ≡ Some h.0.1 = ap (token_for at) there ∙ token_there at last h.0.1 refl refl in
    let undoes : TokenUndoes (entry (Negotiate at ops apply) (Negotiated answers (Offer k)) table made ∷ past) at k h.0.1 (new.sides at) =
    offer_undoes past at ops apply answers k table made (old.sides at) p (new.sides at) h.0.1 leaves (tells.sides at).rows (leaves.numbered.fresh (tells.sides at).channels.below)
    (ap (λ (token : PendingOffer). token.changes) h.1.token) (ap (λ (token : PendingOffer). token.undo) h.1.token) (ap (λ (q : Stance). q.lines) h.1.rest) (ap (λ (q : Stance). q.channels) h.1.rest) in
    record {
      beyond = λ n within. ne_eqb k n (λ e. omega (arith, e, h.3, within));
      texts = Pushed last refl h.2;
      own = offered_out fresh past (entry (Negotiate at ops apply) (Negotiated answers (Offer k)) table made) at (old.sides at) (new.sides at) old.sdps new.sdps k
          (ap (λ (b : Bool). b && true) (same_side-self at)) refl (λ u. refl)
          (ap (λ (q : Stance). q.polite) h.1.rest ∙ ap (λ (parts : Option Bool × Bool). parts.0) leaves.roles) (ap (λ (q : Stance). q.outstanding) h.1.rest)
          (record { sdp = last; there = there; offer = refl; own = refl }) (ap is_some held)
          (λ token is. subst (λ (one : PendingOffer). TokenUndoes (entry (Negotiate at ops apply) (Negotiated answers (Offer k)) table made ∷ past) at k one (new.sides at)) (some_token h.0.1 token (sym held ∙ is)) undoes) out;
    }
applied_out fresh past at ops apply asked answers what table made p old new tells leaves h out = absurd h

pub negotiate_out : {E : Type 0} → (fresh : Stances) (past : List (Entry E)) (at : Side) (ops : List Op) (apply : Bool) (old new : PairStance) (outcome : Outcome E) (table : Option Table) (made : List MadeSdp)
    → IsTable (before at past) → StanceNegotiates at ops apply (old.sides at) old.sdps outcome table (new.sides at) new.sdps → Tells past old
    → Outstands fresh past at (old.sides at) old.sdps → StepOut fresh past (Negotiate at ops apply) outcome table made old new
negotiate_out fresh past at ops apply old new Alloc None made rows h tells out =
    untouched_step fresh past (Negotiate at ops apply) Alloc None made old new (and_right (same_side at at) false refl) (λ k. refl) h.sdps_kept (inl h.peer) out
negotiate_out fresh past at ops apply old new (Negotiated answers what) (Some table) made rows h tells out =
    applied_out fresh past at ops apply (apply && not (answers_lack answers)) answers what (Some table) made h.0 old new tells
    (ops_leave (old.sides at) h.0 ops answers (subst IsTable (sym (tells.sides at).rows) rows) h.1) h.2 out
negotiate_out fresh past at ops apply old new outcome table made rows h tells out = absurd h
