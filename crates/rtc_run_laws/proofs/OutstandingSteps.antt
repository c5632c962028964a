-- What steps leave of the offer of a side that awaits its answer: steps that negotiate nothing, and steps that hand over an offer or an answer, or
-- roll an offer back.
use Rattle.std.proofs.Common.{not, ◌≡◌, ◌≢◌, ◌<◌, ◌^◌, ◌&&◌, ◌||◌, ℕ, Bool, true, false, true≢false, List, ◌∷◌, length, Option, Some, None, refl, sym, ◌∙◌, ap, subst, inl, inr, ◌⊎◌}
use Rattle.std.specs.Prelude.{slice_get}
use Rattle.std.proofs.lemmas.Bool.{and_right, eq-eqb, or_from}
use Rattle.rtc_parts.specs.declared.dtls_error.DtlsError.TheVariants.{Fault, WouldBlock, Alloc as DtlsAlloc}
use Rattle.rtc_sdp_values.specs.declared.line_row.LineRow.{LineRow}
use Rattle.rtc_change.specs.PendingOffer.{PendingOffer}
use Rattle.rtc_peer_rows.proofs.RowChangeLemmas.{AreAlike, alike_self}
use Rattle.rtc_peer_core.specs.Calls.{raised}
use Rattle.rtc_peer_core.specs.Stance.{Stance, held_by}
use Rattle.rtc_peer_core.specs.declared.rtc_error.RtcError.{RtcError}
use Rattle.rtc_peer_core.specs.declared.rtc_error.RtcError.TheVariants.{RemoteSdp, Sdp as SdpRefused, Dtls, Sctp, Net, Media as MediaFailed, ChangesOutOfOrder, BadChannel, Alloc as PeerAlloc, Glare}
use Rattle.rtc_peer_polling.specs.Numbers.{AreUnconfirmed}
use Rattle.rtc_run_history.specs.Signalled.{Signalled, NotMade, Unreadable, Readable}
use Rattle.rtc_run_history.specs.declared.kept.Kept.{Kept}
use Rattle.rtc_run_history.specs.declared.outcome.Outcome.{Outcome}
use Rattle.rtc_run_history.specs.declared.outcome.Outcome.TheVariants.{Answered, Finished, Done, Refused, NoSuch, Alloc}
use Rattle.rtc_run_history.specs.declared.side.Side.{Side}
use Rattle.rtc_run_history.specs.declared.step.Step.{Step}
use Rattle.rtc_run_history.specs.declared.step.Step.TheVariants.{Rollback}
use Rattle.rtc_run_history.specs.declared.table.Table.{Table}
use Rattle.rtc_run_history.specs.Sides.{same_side, side_of}
use Rattle.rtc_run_history.specs.PairState.{held_token, spent, token_for}
use Rattle.rtc_run_history.specs.Past.{Entry, MadeSdp, is_right, is_glare, is_unread, makes, moves, supersedes}
use Rattle.rtc_run_history.specs.Outstanding.{offer_made, right_offer}
use Rattle.rtc_run_history.specs.Performs.{kept_answer}
use Rattle.rtc_run_history.specs.Views.{Stances}
use Rattle.rtc_run_laws.proofs.AnswerSteps.{now_right, not_right}
use Rattle.rtc_run_laws.proofs.AnswerTells.{HandsAnswer}
use Rattle.rtc_run_laws.proofs.Around.{entry}
use Rattle.rtc_run_laws.proofs.KeptTexts.{TextsChange, Same, Pushed, Spent, lost, same_before, spent_before, spent_places}
use Rattle.rtc_run_laws.proofs.OfferTells.{HandsOffer}
use Rattle.rtc_run_laws.proofs.Outstands.{IsOwnOffer, Outstands, ended_out, moved_out, right_is_right, stays_out}
use Rattle.rtc_run_laws.proofs.Rests.{IsRest, makes_none, moves_none, rests}
use Rattle.rtc_run_laws.proofs.StanceSteps.{PairStance, StanceRests, StanceStepAcceptsAnswer, StanceStepAcceptsOffer, StanceStepRollsBack, lent}
use Rattle.rtc_run_laws.proofs.Tells.{Tells, same_side-self}
use Rattle.rtc_run_laws.proofs.TokenEntries.{bare}
use Rattle.rtc_run_laws.proofs.UnreadSdps.{peer_reads, uncalled_offer}

-- What the entry of a step leaves: of its side, of the SDPs, and of the numbers of offers.
pub record StepOut {E : Type 0} (fresh : Stances) (past : List (Entry E)) (step : Step) (outcome : Outcome E) (table : Option Table) (made : List MadeSdp) (old new : PairStance) : Type 0 where
  pub beyond : (k : ℕ) → k < length old.sdps → makes k outcome ≡ false
  pub texts : TextsChange (side_of step) old.sdps new.sdps
  pub own : Outstands fresh (entry step outcome table made ∷ past) (side_of step) (new.sides (side_of step)) new.sdps

-- what is read of a side of roles and of offers that await their answers
abbrev pub role_parts : Stance → Option Bool × Bool
role_parts s = (s.polite, s.outstanding)

-- a step that moves no offer, and leaves the SDPs
pub still_step : {E : Type 0} → (fresh : Stances) (past : List (Entry E)) (step : Step) (outcome : Outcome E) (table : Option Table) (made : List MadeSdp) (old new : PairStance)
    → moves (side_of step) step outcome ≡ false → ((k : ℕ) → k < length old.sdps → makes k outcome ≡ false) → new.sdps ≡ old.sdps
    → role_parts (new.sides (side_of step)) ≡ role_parts (old.sides (side_of step)) → AreAlike (old.sides (side_of step)).lines (new.sides (side_of step)).lines
    → ((id : ℕ) → AreUnconfirmed id (old.sides (side_of step)).channels.rows → AreUnconfirmed id (new.sides (side_of step)).channels.rows)
    → Outstands fresh past (side_of step) (old.sides (side_of step)) old.sdps → StepOut fresh past step outcome table made old new
still_step fresh past step outcome table made old new still beyond kept roles alike stay out = record {
  beyond = beyond;
  texts = Same kept;
  own = stays_out fresh past (entry step outcome table made) (side_of step) (old.sides (side_of step)) (new.sides (side_of step)) old.sdps new.sdps
      (record {
        still = still;
        beyond = beyond;
        held = same_before (side_of step) old.sdps new.sdps kept;
        right = λ r sdp right there mine. ap (λ (l : List Kept). slice_get l r) kept;
        polite = ap (λ (parts : Option Bool × Bool). parts.0) roles;
        outstanding = ap (λ (parts : Option Bool × Bool). parts.1) roles;
        alike = alike;
        unconfirmed = stay;
      }) out;
}

same_alike : (s t : Stance) → t.lines ≡ s.lines → AreAlike s.lines t.lines
same_alike s t same = subst (λ (rows : List LineRow). AreAlike s.lines rows) (sym same) (alike_self s.lines)

-- a step that leaves its side as it was
pub untouched_step : {E : Type 0} → (fresh : Stances) (past : List (Entry E)) (step : Step) (outcome : Outcome E) (table : Option Table) (made : List MadeSdp) (old new : PairStance)
    → moves (side_of step) step outcome ≡ false → ((k : ℕ) → makes k outcome ≡ false) → new.sdps ≡ old.sdps
    → (new.sides (side_of step) ≡ old.sides (side_of step)) ⊎ (new.sides (side_of step) ≡ lent (old.sides (side_of step)))
    → Outstands fresh past (side_of step) (old.sides (side_of step)) old.sdps → StepOut fresh past step outcome table made old new
untouched_step fresh past step outcome table made old new still unmade kept (inl same) out =
    let s : Stance = old.sides (side_of step) in
    still_step fresh past step outcome table made old new still (λ k within. unmade k) kept (ap role_parts same) (same_alike s (new.sides (side_of step)) (ap (λ (p : Stance). p.lines) same))
    (λ id none. subst (λ (p : Stance). AreUnconfirmed id p.channels.rows) (sym same) none) out
untouched_step fresh past step outcome table made old new still unmade kept (inr same) out =
    let s : Stance = old.sides (side_of step) in
    still_step fresh past step outcome table made old new still (λ k within. unmade k) kept (ap role_parts same) (same_alike s (new.sides (side_of step)) (ap (λ (p : Stance). p.lines) same))
    (λ id none. subst (λ (p : Stance). AreUnconfirmed id p.channels.rows) (sym same) none) out

-- a step that negotiates nothing
pub rest_out : {E : Type 0} → (fresh : Stances) (past : List (Entry E)) (step : Step) (outcome : Outcome E) (table : Option Table) (made : List MadeSdp) (old new : PairStance) (may : Outcome E → Bool) → IsRest step
    → rests outcome ≡ true → StanceRests may (old.sides (side_of step)) old.sdps outcome table (new.sides (side_of step)) new.sdps
    → Outstands fresh past (side_of step) (old.sides (side_of step)) old.sdps → StepOut fresh past step outcome table made old new
rest_out fresh past step outcome table made old new may rest quiet does out =
    still_step fresh past step outcome table made old new (moves_none (side_of step) step outcome rest) (λ k within. makes_none k outcome quiet) does.sdps_kept
    (ap role_parts does.peer) (same_alike (old.sides (side_of step)) (new.sides (side_of step)) (ap (λ (p : Stance). p.lines) does.peer)) does.unconfirmed out

-- ---- an offer that is handed over

-- the offer supersedes
superseded : {E : Type 0} → (fresh : Stances) (past : List (Entry E)) (step : Step) (outcome : Outcome E) (table : Option Table) (made : List MadeSdp) (old new : PairStance) → HandsOffer E step
    → supersedes outcome ≡ true → offer_made outcome ≡ None → ((k : ℕ) → makes k outcome ≡ false) → TextsChange (side_of step) old.sdps new.sdps
    → role_parts (new.sides (side_of step)) ≡ ((old.sides (side_of step)).polite, false) → Outstands fresh past (side_of step) (old.sides (side_of step)) old.sdps
    → StepOut fresh past step outcome table made old new
superseded fresh past step outcome table made old new hands now none unmade texts roles out = record {
  beyond = λ k within. unmade k;
  texts = texts;
  own = moved_out fresh past (entry step outcome table made) (side_of step) (old.sides (side_of step)) (new.sides (side_of step)) old.sdps new.sdps
      (hands.moves_are (side_of step) outcome ∙ ap (λ (b : Bool). same_side (side_of step) (side_of step) && b) now ∙ ap (λ (b : Bool). b && true) (same_side-self (side_of step)))
      none unmade (ap (λ (parts : Option Bool × Bool). parts.0) roles) (ap (λ (parts : Option Bool × Bool). parts.1) roles) out;
}

refused_offer : {E : Type 0} → (fresh : Stances) (past : List (Entry E)) (step : Step) (error : RtcError) (table : Option Table) (made : List MadeSdp) (old new : PairStance) → HandsOffer E step
    → (is_unread error || is_glare error) ≡ false → new.sdps ≡ old.sdps → role_parts (new.sides (side_of step)) ≡ ((old.sides (side_of step)).polite, false)
    → Outstands fresh past (side_of step) (old.sides (side_of step)) old.sdps → StepOut fresh past step (Refused error) table made old new
refused_offer fresh past step error table made old new hands reached kept roles out =
    superseded fresh past step (Refused error) table made old new hands (ap not reached) refl (λ k. refl) (Same kept) roles out

hands_still : {E : Type 0} → (step : Step) (outcome : Outcome E) → HandsOffer E step → supersedes outcome ≡ false → moves (side_of step) step outcome ≡ false
hands_still step outcome hands never = hands.moves_are (side_of step) outcome ∙ and_right (same_side (side_of step) (side_of step)) (supersedes outcome) never

pub offer_out : {E : Type 0} → (fresh : Stances) (past : List (Entry E)) (step : Step) (offer : Signalled) (old new : PairStance) (outcome : Outcome E) (table : Option Table) (made : List MadeSdp) → HandsOffer E step
    → StanceStepAcceptsOffer (side_of step) offer (old.sides (side_of step)) old.sdps outcome table (new.sides (side_of step)) new.sdps
    → Outstands fresh past (side_of step) (old.sides (side_of step)) old.sdps → StepOut fresh past step outcome table made old new
offer_out fresh past step NotMade old new Alloc None made hands h out = untouched_step fresh past step Alloc None made old new (hands_still step Alloc hands refl) (λ k. refl) h.sdps_kept (inl h.peer) out
offer_out fresh past step (Unreadable line) old new Alloc None made hands h out = untouched_step fresh past step Alloc None made old new (hands_still step Alloc hands refl) (λ k. refl) h.sdps_kept (inl h.peer) out
offer_out fresh past step (Readable sdp) old new Alloc None made hands h out = untouched_step fresh past step Alloc None made old new (hands_still step Alloc hands refl) (λ k. refl) h.sdps_kept (inl h.peer) out
offer_out fresh past step NotMade old new NoSuch (Some table) made hands h out =
    untouched_step fresh past step NoSuch (Some table) made old new (hands_still step NoSuch hands refl) (λ k. refl) h.0.sdps_kept (inl h.0.peer) out
offer_out fresh past step (Unreadable line) old new (Refused error) (Some table) made hands h out =
    untouched_step fresh past step (Refused error) (Some table) made old new (hands_still step (Refused error) hands (uncalled_offer line error h.0)) (λ k. refl) h.1.sdps_kept (inl h.1.peer) out
offer_out fresh past step (Readable sdp) old new (Refused (RemoteSdp why)) (Some table) made hands h out =
    refused_offer fresh past step (RemoteSdp why) (Some table) made old new hands refl h.1 (ap role_parts h.0.1.1) out
offer_out fresh past step (Readable sdp) old new (Refused (SdpRefused error)) (Some table) made hands h out =
    refused_offer fresh past step (SdpRefused error) (Some table) made old new hands
    (or_from (is_unread (SdpRefused error)) false (peer_reads (held_by (lent (old.sides (side_of step)))) None sdp error h.0.1.0) refl) h.1 (ap role_parts h.0.1.1) out
offer_out fresh past step (Readable sdp) old new (Refused (Dtls Fault)) (Some table) made hands h out =
    refused_offer fresh past step (Dtls Fault) (Some table) made old new hands refl h.1 (ap role_parts h.0.1.breaks.rest) out
offer_out fresh past step (Readable sdp) old new (Refused (Dtls WouldBlock)) (Some table) made hands h out = absurd h.0
offer_out fresh past step (Readable sdp) old new (Refused (Dtls DtlsAlloc)) (Some table) made hands h out = absurd h.0
offer_out fresh past step (Readable sdp) old new (Refused (Sctp error)) (Some table) made hands h out =
    refused_offer fresh past step (Sctp error) (Some table) made old new hands refl h.1 (ap role_parts h.0.2.breaks.rest) out
offer_out fresh past step (Readable sdp) old new (Refused PeerAlloc) (Some table) made hands h out =
    refused_offer fresh past step PeerAlloc (Some table) made old new hands refl h.1 (ap role_parts h.0.breaks.rest) out
offer_out fresh past step (Readable sdp) old new (Refused ChangesOutOfOrder) (Some table) made hands h out = absurd h.0
offer_out fresh past step (Readable sdp) old new (Refused (Net cause)) (Some table) made hands h out = absurd h.0
offer_out fresh past step (Readable sdp) old new (Refused (MediaFailed cause)) (Some table) made hands h out = absurd h.0
offer_out fresh past step (Readable sdp) old new (Refused BadChannel) (Some table) made hands h out = absurd h.0
offer_out fresh past step (Readable sdp) old new (Refused Glare) (Some table) made hands h out =
    untouched_step fresh past step (Refused Glare) (Some table) made old new (hands_still step (Refused Glare) hands refl) (λ k. refl) h.1 (inr h.0.1) out
offer_out fresh past step (Readable sdp) old new (Answered n) (Some table) made hands h out =
    superseded fresh past step (Answered n) (Some table) made old new hands refl refl (λ k. refl) (Pushed (kept_answer (side_of step) h.0) refl h.2) (ap role_parts h.1.rest) out
offer_out fresh past step offer old new outcome table made hands h out = absurd h

-- ---- a token that is spent

-- the offer of a token that is held is of this side
found_own : (at : Side) (kept kept' : List Kept) (t : ℕ) (token : PendingOffer) → held_token kept at t ≡ Some token → kept' ≡ spent t kept → IsOwnOffer kept at t → IsOwnOffer kept' at t
found_own at kept kept' t token is changed own = elim (spent_places at kept kept' t token is changed t) [
  | inl h ↦ record { sdp = own.sdp; there = h.1 ∙ own.there; offer = own.offer; own = own.own }
  | inr h ↦ (
      let e : Some h.1.0 ≡ Some own.sdp = sym h.1.1 ∙ own.there in
      let same : h.1.0 ≡ own.sdp = cc in
      record { sdp = bare h.1.0; there = h.1.2; offer = ap (λ (one : Kept). one.offer) same ∙ own.offer; own = ap (λ (one : Kept). one.at) same ∙ own.own }
      )
]

gone_now : (at : Side) (kept kept' : List Kept) (t : ℕ) (token : PendingOffer) → held_token kept at t ≡ Some token → kept' ≡ spent t kept → held_token kept' at t ≡ None
gone_now at kept kept' t token is changed = elim (spent_places at kept kept' t token is changed t) [
  | inl h ↦ absurd (true≢false (sym (eq-eqb t t refl) ∙ h.0))
  | inr h ↦ ap (token_for at) h.1.2 ∙ lost at h.1.0
]

-- with the token that is right
pub ended_step : {E : Type 0} → (fresh : Stances) (past : List (Entry E)) (step : Step) (t : ℕ) (token : PendingOffer) (outcome : Outcome E) (table : Option Table) (made : List MadeSdp) (old new : PairStance)
    → moves (side_of step) step outcome ≡ false → ((k : ℕ) → makes k outcome ≡ false) → held_token old.sdps (side_of step) t ≡ Some token → new.sdps ≡ spent t old.sdps
    → (old.sides (side_of step)).counter ≡ raised token.id → old.size < 2 ^ 32 → Tells past old → role_parts (new.sides (side_of step)) ≡ ((old.sides (side_of step)).polite, false)
    → Outstands fresh past (side_of step) (old.sides (side_of step)) old.sdps → StepOut fresh past step outcome table made old new
ended_step fresh past step t token outcome table made old new still unmade is changed right small tells roles out =
    let at : Side = side_of step in
    let told = (tells.sides at).tokens t in
    let now : is_right at t past ≡ true =
    now_right (old.sides at).counter old.size token.id (is_right at t past) right (told.right token is) (told.older token is) (tells.sides at).counts small in
    let link : right_offer at past ≡ Some t = out.links t token is now in
    record {
      beyond = λ k within. unmade k;
      texts = Spent t token is changed;
      own = ended_out fresh past (entry step outcome table made) at (old.sides at) (new.sides at) old.sdps new.sdps t still unmade
          (spent_before at at old.sdps new.sdps t token is changed) link (gone_now at old.sdps new.sdps t token is changed)
          (found_own at old.sdps new.sdps t token is changed (out.owns t link)) (ap (λ (parts : Option Bool × Bool). parts.0) roles) (ap (λ (parts : Option Bool × Bool). parts.1) roles) out;
    }

-- with another one
pub wrong_step : {E : Type 0} → (fresh : Stances) (past : List (Entry E)) (step : Step) (t : ℕ) (token : PendingOffer) (outcome : Outcome E) (table : Option Table) (made : List MadeSdp) (old new : PairStance)
    → moves (side_of step) step outcome ≡ false → ((k : ℕ) → makes k outcome ≡ false) → held_token old.sdps (side_of step) t ≡ Some token → new.sdps ≡ spent t old.sdps
    → (old.sides (side_of step)).counter ≢ raised token.id → old.size < 2 ^ 32 → Tells past old → new.sides (side_of step) ≡ lent (old.sides (side_of step))
    → Outstands fresh past (side_of step) (old.sides (side_of step)) old.sdps → StepOut fresh past step outcome table made old new
wrong_step fresh past step t token outcome table made old new still unmade is changed wrong small tells same out =
    let at : Side = side_of step in
    let told = (tells.sides at).tokens t in
    let never : is_right at t past ≡ false =
    not_right (old.sides at).counter old.size token.id (is_right at t past) wrong (told.right token is) (told.older token is) (tells.sides at).counts small in
    record {
      beyond = λ k within. unmade k;
      texts = Spent t token is changed;
      own = stays_out fresh past (entry step outcome table made) at (old.sides at) (new.sides at) old.sdps new.sdps
          (record {
            still = still;
            beyond = λ k within. unmade k;
            held = spent_before at at old.sdps new.sdps t token is changed;
            right = λ r sdp right there mine. elim (spent_places at old.sdps new.sdps t token is changed r) [
              | inl h ↦ h.1
              | inr h ↦ absurd (true≢false (sym (right_is_right at past r right) ∙ ap (λ (n : ℕ). is_right at n past) h.0 ∙ never))
            ];
            polite = ap (λ (p : Stance). p.polite) same;
            outstanding = ap (λ (p : Stance). p.outstanding) same;
            alike = same_alike (old.sides at) (new.sides at) (ap (λ (p : Stance). p.lines) same);
            unconfirmed = λ id none. subst (λ (p : Stance). AreUnconfirmed id p.channels.rows) (sym same) none;
          }) out;
    }

-- ---- an answer that is handed over

pub answer_out : {E : Type 0} → (fresh : Stances) (past : List (Entry E)) (step : Step) (t : ℕ) (token : Option PendingOffer) (sdp : Signalled) (old new : PairStance) (outcome : Outcome E) (table : Option Table) (made : List MadeSdp)
    → HandsAnswer E t step → held_token old.sdps (side_of step) t ≡ token
    → StanceStepAcceptsAnswer t token sdp (old.sides (side_of step)) old.sdps outcome table (new.sides (side_of step)) new.sdps → old.size < 2 ^ 32 → Tells past old
    → Outstands fresh past (side_of step) (old.sides (side_of step)) old.sdps → StepOut fresh past step outcome table made old new
answer_out fresh past step t None NotMade old new Alloc None made hands is h small tells out = untouched_step fresh past step Alloc None made old new (hands.moves_none (side_of step) Alloc) (λ k. refl) h.sdps_kept (inl h.peer) out
answer_out fresh past step t None (Unreadable line) old new Alloc None made hands is h small tells out = untouched_step fresh past step Alloc None made old new (hands.moves_none (side_of step) Alloc) (λ k. refl) h.sdps_kept (inl h.peer) out
answer_out fresh past step t None (Readable sdp) old new Alloc None made hands is h small tells out = untouched_step fresh past step Alloc None made old new (hands.moves_none (side_of step) Alloc) (λ k. refl) h.sdps_kept (inl h.peer) out
answer_out fresh past step t (Some token) NotMade old new Alloc None made hands is h small tells out = untouched_step fresh past step Alloc None made old new (hands.moves_none (side_of step) Alloc) (λ k. refl) h.sdps_kept (inl h.peer) out
answer_out fresh past step t (Some token) (Unreadable line) old new Alloc None made hands is h small tells out = untouched_step fresh past step Alloc None made old new (hands.moves_none (side_of step) Alloc) (λ k. refl) h.sdps_kept (inl h.peer) out
answer_out fresh past step t (Some token) (Readable sdp) old new Alloc None made hands is h small tells out = untouched_step fresh past step Alloc None made old new (hands.moves_none (side_of step) Alloc) (λ k. refl) h.sdps_kept (inl h.peer) out
answer_out fresh past step t None NotMade old new NoSuch (Some table) made hands is h small tells out = untouched_step fresh past step NoSuch (Some table) made old new (hands.moves_none (side_of step) NoSuch) (λ k. refl) h.0.sdps_kept (inl h.0.peer) out
answer_out fresh past step t None (Unreadable line) old new NoSuch (Some table) made hands is h small tells out = untouched_step fresh past step NoSuch (Some table) made old new (hands.moves_none (side_of step) NoSuch) (λ k. refl) h.0.sdps_kept (inl h.0.peer) out
answer_out fresh past step t None (Readable sdp) old new NoSuch (Some table) made hands is h small tells out = untouched_step fresh past step NoSuch (Some table) made old new (hands.moves_none (side_of step) NoSuch) (λ k. refl) h.0.sdps_kept (inl h.0.peer) out
answer_out fresh past step t (Some token) NotMade old new NoSuch (Some table) made hands is h small tells out = untouched_step fresh past step NoSuch (Some table) made old new (hands.moves_none (side_of step) NoSuch) (λ k. refl) h.0.sdps_kept (inl h.0.peer) out
answer_out fresh past step t (Some token) (Unreadable line) old new (Refused error) (Some table) made hands is h small tells out = untouched_step fresh past step (Refused error) (Some table) made old new (hands.moves_none (side_of step) (Refused error)) (λ k. refl) h.1.sdps_kept (inl h.1.peer) out
answer_out fresh past step t (Some token) (Readable sdp) old new Finished (Some table) made hands is h small tells out = ended_step fresh past step t token Finished (Some table) made old new (hands.moves_none (side_of step) Finished) (λ k. refl) is h.1 h.0.right small tells (ap role_parts h.0.rest) out
answer_out fresh past step t (Some token) (Readable sdp) old new (Refused (RemoteSdp why)) (Some table) made hands is h small tells out = ended_step fresh past step t token (Refused (RemoteSdp why)) (Some table) made old new (hands.moves_none (side_of step) (Refused (RemoteSdp why))) (λ k. refl) is h.1 h.0.0 small tells (ap role_parts h.0.1.1) out
answer_out fresh past step t (Some token) (Readable sdp) old new (Refused (SdpRefused error)) (Some table) made hands is h small tells out = ended_step fresh past step t token (Refused (SdpRefused error)) (Some table) made old new (hands.moves_none (side_of step) (Refused (SdpRefused error))) (λ k. refl) is h.1 h.0.0 small tells (ap role_parts h.0.1.1) out
answer_out fresh past step t (Some token) (Readable sdp) old new (Refused (Dtls Fault)) (Some table) made hands is h small tells out = ended_step fresh past step t token (Refused (Dtls Fault)) (Some table) made old new (hands.moves_none (side_of step) (Refused (Dtls Fault))) (λ k. refl) is h.1 h.0.0 small tells (ap role_parts h.0.2.rest) out
answer_out fresh past step t (Some token) (Readable sdp) old new (Refused (Sctp error)) (Some table) made hands is h small tells out = ended_step fresh past step t token (Refused (Sctp error)) (Some table) made old new (hands.moves_none (side_of step) (Refused (Sctp error))) (λ k. refl) is h.1 h.0.0 small tells (ap role_parts h.0.3.rest) out
answer_out fresh past step t (Some token) (Readable sdp) old new (Refused PeerAlloc) (Some table) made hands is h small tells out = ended_step fresh past step t token (Refused PeerAlloc) (Some table) made old new (hands.moves_none (side_of step) (Refused PeerAlloc)) (λ k. refl) is h.1 h.0.0 small tells (ap role_parts h.0.1.rest) out
answer_out fresh past step t (Some token) (Readable sdp) old new (Refused ChangesOutOfOrder) (Some table) made hands is h small tells out = wrong_step fresh past step t token (Refused ChangesOutOfOrder) (Some table) made old new (hands.moves_none (side_of step) (Refused ChangesOutOfOrder)) (λ k. refl) is h.1 h.0.0 small tells h.0.1 out
answer_out fresh past step t (Some token) (Readable sdp) old new (Refused (Dtls WouldBlock)) (Some table) made hands is h small tells out = absurd h.0
answer_out fresh past step t (Some token) (Readable sdp) old new (Refused (Dtls DtlsAlloc)) (Some table) made hands is h small tells out = absurd h.0
answer_out fresh past step t (Some token) (Readable sdp) old new (Refused (Net cause)) (Some table) made hands is h small tells out = absurd h.0
answer_out fresh past step t (Some token) (Readable sdp) old new (Refused (MediaFailed cause)) (Some table) made hands is h small tells out = absurd h.0
answer_out fresh past step t (Some token) (Readable sdp) old new (Refused BadChannel) (Some table) made hands is h small tells out = absurd h.0
answer_out fresh past step t (Some token) (Readable sdp) old new (Refused Glare) (Some table) made hands is h small tells out = absurd h.0
answer_out fresh past step t token sdp old new outcome table made hands is h small tells out = absurd h

-- ---- an offer that is rolled back

pub rollback_out : {E : Type 0} → (fresh : Stances) (past : List (Entry E)) (at : Side) (t : ℕ) (token : Option PendingOffer) (old new : PairStance) (outcome : Outcome E) (table : Option Table) (made : List MadeSdp)
    → held_token old.sdps at t ≡ token → StanceStepRollsBack t token (old.sides at) old.sdps outcome table (new.sides at) new.sdps → old.size < 2 ^ 32 → Tells past old
    → Outstands fresh past at (old.sides at) old.sdps → StepOut fresh past (Rollback at t) outcome table made old new
rollback_out fresh past at t None old new Alloc None made is h small tells out = untouched_step fresh past (Rollback at t) Alloc None made old new refl (λ k. refl) h.sdps_kept (inl h.peer) out
rollback_out fresh past at t (Some token) old new Alloc None made is h small tells out = untouched_step fresh past (Rollback at t) Alloc None made old new refl (λ k. refl) h.sdps_kept (inl h.peer) out
rollback_out fresh past at t None old new NoSuch (Some table) made is h small tells out = untouched_step fresh past (Rollback at t) NoSuch (Some table) made old new refl (λ k. refl) h.0.sdps_kept (inl h.0.peer) out
rollback_out fresh past at t (Some token) old new Done (Some table) made is h small tells out = ended_step fresh past (Rollback at t) t token Done (Some table) made old new refl (λ k. refl) is h.2 h.0.0 small tells (ap role_parts h.0.1) out
rollback_out fresh past at t (Some token) old new (Refused ChangesOutOfOrder) (Some table) made is h small tells out = wrong_step fresh past (Rollback at t) t token (Refused ChangesOutOfOrder) (Some table) made old new refl (λ k. refl) is h.1 h.0.0 small tells h.0.1 out
rollback_out fresh past at t (Some token) old new (Refused (RemoteSdp why)) (Some table) made is h small tells out = absurd h.0
rollback_out fresh past at t (Some token) old new (Refused (SdpRefused error)) (Some table) made is h small tells out = absurd h.0
rollback_out fresh past at t (Some token) old new (Refused (Dtls error)) (Some table) made is h small tells out = absurd h.0
rollback_out fresh past at t (Some token) old new (Refused (Sctp error)) (Some table) made is h small tells out = absurd h.0
rollback_out fresh past at t (Some token) old new (Refused (Net cause)) (Some table) made is h small tells out = absurd h.0
rollback_out fresh past at t (Some token) old new (Refused (MediaFailed cause)) (Some table) made is h small tells out = absurd h.0
rollback_out fresh past at t (Some token) old new (Refused BadChannel) (Some table) made is h small tells out = absurd h.0
rollback_out fresh past at t (Some token) old new (Refused PeerAlloc) (Some table) made is h small tells out = absurd h.0
rollback_out fresh past at t (Some token) old new (Refused Glare) (Some table) made is h small tells out = absurd h.0
rollback_out fresh past at t token old new outcome table made is h small tells out = absurd h
