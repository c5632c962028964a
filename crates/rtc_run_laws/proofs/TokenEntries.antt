-- What a past says of a pair after an entry that spends a token, or makes an offer.
use Rattle.std.proofs.Common.{◌≡◌, ◌≤◌, ◌<◌, ◌+◌, ◌==◌, ℕ, List, [], ◌∷◌, ◌++◌, map, length, true, false, Some, None, refl, sym, ◌∙◌, ap, arith, cond, append-nil, length-set, ◌⊎◌, inl, inr}
use Rattle.std.specs.Prelude.{slice_get, slice_set, option_map, is_some}
use Rattle.std.proofs.lemmas.Bool.{eq-eqb, and_right}
use Rattle.std.proofs.lemmas.List.{length-map, drop_all}
use Rattle.std.proofs.lemmas.Option.{slice_get_within}
use Rattle.rtc_sdp_values.specs.Sdp.{sdp_sctp_init}
use Rattle.rtc_change.specs.PendingOffer.{PendingOffer, added_rows, staged_restart}
use Rattle.rtc_peer_core.specs.Stance.{Stance}
use Rattle.rtc_run_history.specs.declared.side.Side.{Side}
use Rattle.rtc_run_history.specs.Sides.{same_side, other_side, side_of}
use Rattle.rtc_run_history.specs.Past.{Entry, sdps, spends, is_spent, is_offer_of, holds_token, makes, added_in, restarts_in}
use Rattle.rtc_run_history.specs.declared.kept.Kept.{Kept}
use Rattle.rtc_run_history.specs.PairState.{made_sdp, token_for, held_token}
use Rattle.rtc_run_laws.proofs.PushedLists.{push_places, set_places, map-slice_set}
use Rattle.rtc_run_laws.proofs.Tells.{TokenTells, SideTells, Tells, IsUntold, HeldBefore, same_side-self, same_side-other, token_next, no_token, held_before, side_next}
use Rattle.rtc_run_laws.proofs.Entries.{Goes, rows_told, tells_next, said_at, same_offer, says_pushed, texts_pushed, no_choice, unheld}
use Rattle.rtc_run_laws.proofs.StanceSteps.{PairStance}

-- ---- an entry that spends a token

-- an SDP without its token
abbrev pub bare : Kept → Kept
bare kept = record kept { token = None }

pub spent_tells : {E : Type 0} → (past : List (Entry E)) (e : Entry E) (old new : PairStance) (k : ℕ) (kept : Kept) → Goes false past e old new
    → slice_get old.sdps k ≡ Some kept → new.sdps ≡ slice_set old.sdps k (bare kept)
    → ((t : ℕ) → spends t e.step e.outcome ≡ (k == t)) → ((t : ℕ) → makes t e.outcome ≡ false) → Tells past old → Tells (e ∷ past) new
spent_tells past e old new k kept goes there changed spends_k unmade tells =
    let at = side_of e.step in
    let count : length new.sdps ≡ length old.sdps = ap length changed ∙ length-set old.sdps k (bare kept) in
    let none : e.made ≡ [] = goes.made ∙ ap (map made_sdp) (drop_all (length old.sdps) new.sdps (omega arith)) in
    let same_said : sdps (e ∷ past) ≡ sdps past = ap (λ made. sdps past ++ made) none ∙ append-nil (sdps past) in
    let place : (t : ℕ) → (((k == t) ≡ false) × (slice_get new.sdps t ≡ slice_get old.sdps t)) ⊎ ((t ≡ k) × ((k == t) ≡ true) × (slice_get new.sdps t ≡ Some (bare kept))) =
    λ t. rw changed (set_places old.sdps k (bare kept) kept t there) in
    let lost : (side : Side) → token_for side (Some (bare kept)) ≡ None = λ side. no_choice (same_side kept.at side) in
    let was : (side : Side) → HeldBefore side old.sdps new.sdps = λ side. held_before side old.sdps new.sdps
    (λ t. elim (place t) [ inl h ↦ inl h.1 | inr h ↦ inr (ap (token_for side) h.2 ∙ lost side) ]) in
    let untold : (side : Side) (t : ℕ) → (k == t) ≡ false → IsUntold past e side t = λ side t other. record { same = ap (λ said. is_offer_of side (slice_get said t)) same_said; unspent = spends_k t ∙ other; unmade = unmade t } in
    let gone : (side : Side) (counter t : ℕ) → (k == t) ≡ true → TokenTells (e ∷ past) side counter t (Some (bare kept)) = λ side counter t here.
    no_token (e ∷ past) side counter t (Some (bare kept)) (lost side) (unheld_spent side t (spends_k t ∙ here)) in
    tells_next false past e old new goes
    (record {
      says = ap (map made_sdp) changed ∙ map-slice_set made_sdp old.sdps k (bare kept) kept there refl ∙ tells.says ∙ sym same_said;
      later = λ t most. let past_most : length (sdps past) ≤ t = rw same_said at most in elim (place t) [
        | inl h ↦ rw (spends_k t, h.0) (tells.later t past_most)
        | inr h ↦ absurd (
            let k_within : k < length old.sdps = slice_get_within old.sdps k kept there in
            let said_count : length (sdps past) ≡ length old.sdps = ap length (sym tells.says) ∙ length-map old.sdps made_sdp in
            omega (arith, h.0))
      ];
      count = omega arith;
    })
    (side_next false past e at (old.sides at) (new.sides at) old.sdps new.sdps old.size new.size (rows_told false past e old new goes) goes.counter goes.grows (was at)
    (λ t. elim (place t) [
      | inl h ↦ rw h.1 (token_next false past e at _ t _ (untold at t h.0) goes.mine ((tells.sides at).tokens t))
      | inr h ↦ rw h.2 (gone at _ t h.1)
    ])
    goes.channels (tells.sides at))
    (was (other_side at))
    (λ t. elim (place t) [
      | inl h ↦ rw h.1 (token_next false past e (other_side at) _ t _ (untold (other_side at) t h.0) goes.theirs ((tells.sides (other_side at)).tokens t))
      | inr h ↦ rw h.2 (gone (other_side at) _ t h.1)
    ])
    tells
  where
    unheld_spent : (side : Side) (t : ℕ) → spends t e.step e.outcome ≡ true → holds_token side t (e ∷ past) ≡ false
    unheld_spent side t spends_it = rw spends_it (and_right (is_offer_of side (slice_get (sdps (e ∷ past)) t)) false refl)

-- ---- an entry that makes an offer

-- The token of a new offer, at the side that made it.
offer_token : {E : Type 0} → (past : List (Entry E)) (e : Entry E) (at : Side) (counter t : ℕ) (kept : Kept) (token : PendingOffer) → same_side kept.at at ≡ true → kept.offer ≡ true
    → token_for at (Some kept) ≡ Some token → token.id ≡ counter → ((place : ℕ) → added_in place e.step e.outcome e.table e.made ≡ added_rows place token.changes)
    → restarts_in e.outcome ≡ is_some (staged_restart token.changes) → token.says_init ≡ is_some (sdp_sctp_init kept.sdp) → slice_get (sdps (e ∷ past)) t ≡ Some (made_sdp kept) → spends t e.step e.outcome ≡ false → is_spent t past ≡ false → makes t e.outcome ≡ true
    → TokenTells (e ∷ past) at (counter + 1) t (Some kept)
offer_token past e at counter t kept token mine offer found id adds restarts inits said unspent never_spent makes_it =
    let it : (other : PendingOffer) → token_for at (Some kept) ≡ Some other → token ≡ other = λ other is. let same : Some token ≡ Some other = sym found ∙ is in cc in
    record {
      held = rw (found, said, offer, mine, unspent, never_spent) refl;
      right = λ other is. let n : other.id ≡ counter = ap (λ k. k.id) (sym (it other is)) ∙ id in rw makes_it (eq-eqb (counter + 1) (other.id + 1) (omega (arith, n)));
      older = λ other is. let n : other.id ≡ counter = ap (λ k. k.id) (sym (it other is)) ∙ id in omega (arith, n);
      changes = λ other is place. rw makes_it (ap (λ k. added_rows place k.changes) (sym (it other is)) ∙ sym (adds place));
      restarts = λ other is. rw makes_it (ap (λ k. is_some (staged_restart k.changes)) (sym (it other is)) ∙ sym restarts);
      inits = λ other is. ap (λ k. k.says_init) (sym (it other is)) ∙ inits;
    }

-- a token from before, or that of the new offer
abbrev Origin : Side → List Kept → PendingOffer → ℕ → PendingOffer → Type 0
Origin at kept token t other = (held_token kept at t ≡ Some other) ⊎ ((t ≡ length kept) × (token ≡ other))

one_each_offered : {E : Type 0} → (past : List (Entry E)) (at : Side) (old : Stance) (kept : List Kept) (size : ℕ) (token : PendingOffer) → token.id ≡ old.counter → SideTells past at old kept size
    → (t u : ℕ) (one other : PendingOffer) → Origin at kept token t one → Origin at kept token u other → one.id ≡ other.id → t ≡ u
one_each_offered past at old kept size token id told t u one other (inl is) (inl is') same = told.one_each t u one other is is' same
one_each_offered past at old kept size token id told t u one other (inl is) (inr new) same =
    let older : one.id + 1 ≤ old.counter = (told.tokens t).older one is in
    absurd (omega (arith, same, id, ap (λ k. k.id) new.1))
one_each_offered past at old kept size token id told t u one other (inr new) (inl is) same =
    let older : other.id + 1 ≤ old.counter = (told.tokens u).older other is in
    absurd (omega (arith, same, id, ap (λ k. k.id) new.1))
one_each_offered past at old kept size token id told t u one other (inr new) (inr new') same = new.0 ∙ sym new'.0

pub offered_tells : {E : Type 0} → (past : List (Entry E)) (e : Entry E) (old new : PairStance) (kept : Kept) (token : PendingOffer) → Goes true past e old new
    → kept.at ≡ side_of e.step → kept.offer ≡ true → kept.token ≡ Some token → token.id ≡ (old.sides (side_of e.step)).counter
    → ((place : ℕ) → added_in place e.step e.outcome e.table e.made ≡ added_rows place token.changes)
    → restarts_in e.outcome ≡ is_some (staged_restart token.changes)
    → token.says_init ≡ is_some (sdp_sctp_init kept.sdp)
    → new.sdps ≡ old.sdps ++ kept ∷ []
    → ((t : ℕ) → spends t e.step e.outcome ≡ false) → ((t : ℕ) → makes t e.outcome ≡ (length old.sdps == t)) → Tells past old → Tells (e ∷ past) new
offered_tells past e old new kept token goes by offer has id adds restarts inits pushed unspent makes_it tells =
    let at = side_of e.step in
    let says : map made_sdp new.sdps ≡ sdps (e ∷ past) = says_pushed past e old new kept goes.made pushed tells.says in
    let said_count : length (sdps past) ≡ length old.sdps = ap length (sym tells.says) ∙ length-map old.sdps made_sdp in
    let mine : same_side kept.at at ≡ true = ap (λ side. same_side side at) by ∙ same_side-self at in
    let theirs : same_side kept.at (other_side at) ≡ false = ap (λ side. same_side side (other_side at)) by ∙ same_side-other at in
    let found : token_for at (Some kept) ≡ Some token = ap (λ b. cond b kept.token None) mine ∙ has in
    let none : token_for (other_side at) (Some kept) ≡ None = ap (λ b. cond b kept.token None) theirs in
    let place : (t : ℕ) → (((length old.sdps == t) ≡ false) × (slice_get new.sdps t ≡ slice_get old.sdps t)) ⊎ ((t ≡ length old.sdps) × ((length old.sdps == t) ≡ true) × (slice_get new.sdps t ≡ Some kept)) =
    λ t. rw pushed (push_places old.sdps kept t) in
    let untold : (side : Side) (t : ℕ) → (length old.sdps == t) ≡ false → slice_get new.sdps t ≡ slice_get old.sdps t → IsUntold past e side t =
    λ side t other there. record { same = same_offer past e old new side t tells.says says (ap (option_map made_sdp) there); unspent = unspent t; unmade = makes_it t ∙ other } in
    let last : (t : ℕ) → slice_get new.sdps t ≡ Some kept → slice_get (sdps (e ∷ past)) t ≡ Some (made_sdp kept) = λ t there. said_at (e ∷ past) new t says ∙ ap (option_map made_sdp) there in
    let origin : (t : ℕ) (other : PendingOffer) → held_token new.sdps at t ≡ Some other → Origin at old.sdps token t other = λ t other is. elim (place t) [
      | inl h ↦ inl (ap (token_for at) (sym h.1) ∙ is)
      | inr h ↦ inr (h.0, let same : Some token ≡ Some other = sym found ∙ sym (ap (token_for at) h.2) ∙ is in cc)
    ] in
    tells_next true past e old new goes (texts_pushed past e old new kept goes.made pushed unspent tells)
    (record {
      rows = rows_told true past e old new goes;
      tokens = λ t. rw goes.counter (elim (place t) [
        | inl h ↦ rw h.1 (token_next true past e at _ t _ (untold at t h.0 h.1) goes.mine ((tells.sides at).tokens t))
        | inr h ↦ rw h.2 (offer_token past e at _ t kept token mine offer found id adds restarts inits (last t h.2) (unspent t) (tells.later t (omega (arith, said_count, h.0))) (makes_it t ∙ h.1))
      ]);
      counts = let c : (old.sides at).counter ≤ old.size = (tells.sides at).counts in omega (arith, goes.counter, goes.grows);
      one_each = λ t u one other is is'. one_each_offered past at (old.sides at) old.sdps old.size token id (tells.sides at) t u one other (origin t one is) (origin u other is');
      channels = goes.channels;
    })
    (held_before (other_side at) old.sdps new.sdps (λ t. elim (place t) [ inl h ↦ inl h.1 | inr h ↦ inr (ap (token_for (other_side at)) h.2 ∙ none) ]))
    (λ t. elim (place t) [
      | inl h ↦ rw h.1 (token_next false past e (other_side at) _ t _ (untold (other_side at) t h.0 h.1) goes.theirs ((tells.sides (other_side at)).tokens t))
      | inr h ↦ rw h.2 (no_token (e ∷ past) (other_side at) _ t (Some kept) none (unheld (e ∷ past) (other_side at) t (Some (made_sdp kept)) (last t h.2) (and_right kept.offer (same_side kept.at (other_side at)) theirs)))
    ])
    tells
