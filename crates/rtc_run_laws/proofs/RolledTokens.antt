-- What a past says of a pair after an entry that rolls an offer back: its token is spent, and no token that is left is right.
use Rattle.std.proofs.Common.{◌≡◌, ◌≤◌, ◌<◌, ◌+◌, ◌==◌, ℕ, List, [], ◌∷◌, ◌++◌, map, length, true, false, Option, Some, None, refl, sym, ◌∙◌, ap, arith, append-nil, length-set, inl, inr, ◌⊎◌}
use Rattle.std.specs.Prelude.{slice_get, slice_set}
use Rattle.std.proofs.lemmas.Bool.{and_right, ne_eqb, both_ways}
use Rattle.std.proofs.lemmas.List.{length-map, drop_all}
use Rattle.std.proofs.lemmas.Option.{slice_get_within}
use Rattle.rtc_change.specs.PendingOffer.{PendingOffer}
use Rattle.rtc_run_history.specs.declared.side.Side.{Side}
use Rattle.rtc_run_history.specs.Sides.{same_side, other_side, side_of}
use Rattle.rtc_run_history.specs.Past.{Entry, before, rows_or, sdps, spends, is_offer_of, holds_token, moves, makes}
use Rattle.rtc_run_history.specs.declared.kept.Kept.{Kept}
use Rattle.rtc_run_history.specs.PairState.{made_sdp, token_for, held_token}
use Rattle.rtc_run_laws.proofs.PushedLists.{set_places, map-slice_set}
use Rattle.rtc_run_laws.proofs.Tells.{TokenTells, ChannelsTell, Tells, IsUntold, HeldBefore, same_side-self, not_next, token_next, no_token, held_before, side_next}
use Rattle.rtc_run_laws.proofs.Entries.{sides_next, no_choice}
use Rattle.rtc_run_laws.proofs.TokenEntries.{bare}
use Rattle.rtc_run_laws.proofs.StanceSteps.{PairStance, made_by}

-- What such an entry leaves.
pub record GoesBack {E : Type 0} (past : List (Entry E)) (e : Entry E) (old new : PairStance) : Type 0 where
  pub rows : (new.sides (side_of e.step)).lines ≡ rows_or true e.table (before (side_of e.step) past)
  pub channels : ChannelsTell (e ∷ past) (side_of e.step) (new.sides (side_of e.step))
  pub counter : (new.sides (side_of e.step)).counter ≡ (old.sides (side_of e.step)).counter + 1
  pub other : new.sides (other_side (side_of e.step)) ≡ old.sides (other_side (side_of e.step))
  pub still : (side : Side) → moves side e.step e.outcome ≡ false
  pub grows : old.size + 1 ≤ new.size
  pub made : e.made ≡ made_by old new

-- a token that is left is not right
token_rolled : {E : Type 0} → (past : List (Entry E)) (e : Entry E) (at : Side) (counter t : ℕ) (kept : Option Kept) → IsUntold past e at t → moves at e.step e.outcome ≡ false
    → ((token : PendingOffer) → token_for at kept ≡ Some token → (counter == token.id + 1) ≡ false) → TokenTells past at counter t kept → TokenTells (e ∷ past) at (counter + 1) t kept
token_rolled past e at counter t kept untold still apart told =
    let same = untold.same in
    let unspent = untold.unspent in
    let unmade = untold.unmade in
    record {
      held = told.held ∙ (rw (same, unspent) refl);
      right = λ token is. not_next counter token.id (told.older token is) ∙ sym (apart token is) ∙ told.right token is ∙ (rw (unmade, still) refl);
      older = λ token is. let o : token.id + 1 ≤ counter = told.older token is in omega arith;
      changes = λ token is place. told.changes token is place ∙ (rw unmade refl);
      restarts = λ token is. told.restarts token is ∙ (rw unmade refl);
      inits = told.inits;
    }

pub rolled_tells : {E : Type 0} → (past : List (Entry E)) (e : Entry E) (old new : PairStance) (k : ℕ) (kept : Kept) (token : PendingOffer) → GoesBack past e old new
    → slice_get old.sdps k ≡ Some kept → token_for (side_of e.step) (Some kept) ≡ Some token → (old.sides (side_of e.step)).counter ≡ token.id + 1
    → new.sdps ≡ slice_set old.sdps k (bare kept) → ((t : ℕ) → spends t e.step e.outcome ≡ (k == t)) → ((t : ℕ) → makes t e.outcome ≡ false) → Tells past old → Tells (e ∷ past) new
rolled_tells past e old new k kept token goes there found right changed spends_k unmade tells =
    let at = side_of e.step in
    let count : length new.sdps ≡ length old.sdps = ap length changed ∙ length-set old.sdps k (bare kept) in
    let none : e.made ≡ [] = goes.made ∙ ap (map made_sdp) (drop_all (length old.sdps) new.sdps (omega arith)) in
    let same_said : sdps (e ∷ past) ≡ sdps past = ap (λ made. sdps past ++ made) none ∙ append-nil (sdps past) in
    let place : (t : ℕ) → (((k == t) ≡ false) × (slice_get new.sdps t ≡ slice_get old.sdps t)) ⊎ ((t ≡ k) × ((k == t) ≡ true) × (slice_get new.sdps t ≡ Some (bare kept))) =
    λ t. rw changed (set_places old.sdps k (bare kept) kept t there) in
    let lost : (side : Side) → token_for side (Some (bare kept)) ≡ None = λ side. no_choice (same_side kept.at side) in
    let was : (side : Side) → HeldBefore side old.sdps new.sdps = λ side. held_before side old.sdps new.sdps
    (λ t. elim (place t) [ inl h ↦ inl h.1 | inr h ↦ inr (ap (token_for side) h.2 ∙ lost side) ]) in
    let untold : (side : Side) (t : ℕ) → (k == t) ≡ false → IsUntold past e side t = λ side t other. record { same = ap (λ said. is_offer_of side (slice_get said t)) same_said; unspent = spends_k t ∙ other; unmade = unmade t } in
    let gone : (side : Side) (counter t : ℕ) → (k == t) ≡ true → TokenTells (e ∷ past) side counter t (Some (bare kept)) = λ side counter t here.
    no_token (e ∷ past) side counter t (Some (bare kept)) (lost side) (unheld_spent side t (spends_k t ∙ here)) in
    sides_next past e old new goes.other goes.grows
    (record {
      says = ap (map made_sdp) changed ∙ map-slice_set made_sdp old.sdps k (bare kept) kept there refl ∙ tells.says ∙ sym same_said;
      later = λ t most. let past_most : length (sdps past) ≤ t = rw same_said at most in elim (place t) [
        | inl h ↦ rw (spends_k t, h.0) (tells.later t past_most)
        | inr h ↦ absurd (
            let k_within : k < length old.sdps = slice_get_within old.sdps k kept there in
            let said_count : length (sdps past) ≡ length old.sdps = ap length (sym tells.says) ∙ length-map old.sdps made_sdp in
            omega (arith, h.0))
      ];
      count = omega arith;
    })
    (side_next true past e at (old.sides at) (new.sides at) old.sdps new.sdps old.size new.size
    (goes.rows ∙ sym (ap (λ b. rows_or b e.table (before at past)) (same_side-self at))) goes.counter goes.grows (was at)
    (λ t. elim (place t) [
      | inl h ↦ rw h.1 (token_rolled past e at _ t _ (untold at t h.0) (goes.still at) (λ one is. apart t one h.0 is) ((tells.sides at).tokens t))
      | inr h ↦ rw h.2 (gone at _ t h.1)
    ])
    goes.channels (tells.sides at))
    (was (other_side at))
    (λ t. elim (place t) [
      | inl h ↦ rw h.1 (token_next false past e (other_side at) _ t _ (untold (other_side at) t h.0) (goes.still (other_side at)) ((tells.sides (other_side at)).tokens t))
      | inr h ↦ rw h.2 (gone (other_side at) _ t h.1)
    ])
    tells
  where
    unheld_spent : (side : Side) (t : ℕ) → spends t e.step e.outcome ≡ true → holds_token side t (e ∷ past) ≡ false
    unheld_spent side t spends_it = rw spends_it (and_right (is_offer_of side (slice_get (sdps (e ∷ past)) t)) false refl)

    -- no other token of the side has this counter
    apart : (t : ℕ) (one : PendingOffer) → (k == t) ≡ false → held_token old.sdps (side_of e.step) t ≡ Some one → ((old.sides (side_of e.step)).counter == one.id + 1) ≡ false
    apart t one other is =
        ne_eqb (old.sides (side_of e.step)).counter (one.id + 1)
        (λ same.
        let mine : held_token old.sdps (side_of e.step) k ≡ Some token = ap (token_for (side_of e.step)) there ∙ found in
        let one_token : k ≡ t = (tells.sides (side_of e.step)).one_each k t token one mine is (omega (arith, same, right)) in
        both_ways (k == t) other (let e : k ≡ t = one_token in rw (← e) (grind arith)))
