-- How a step of a side changes the SDPs that a pair keeps, and what that leaves of tokens.
use Rattle.std.proofs.Common.{◌≡◌, ◌<◌, ◌==◌, ℕ, Bool, true, false, true≢false, cond, List, [], ◌∷◌, ◌++◌, length, Option, Some, None, refl, sym, ◌∙◌, ap, ◌⊎◌, inl, inr, arith}
use Rattle.std.specs.Prelude.{slice_get, slice_set}
use Rattle.std.proofs.lemmas.Option.{slice_get_within}
use Rattle.rtc_change.specs.PendingOffer.{PendingOffer}
use Rattle.rtc_run_history.specs.declared.kept.Kept.{Kept}
use Rattle.rtc_run_history.specs.declared.side.Side.{Side}
use Rattle.rtc_run_history.specs.Sides.{same_side, other_side}
use Rattle.rtc_run_history.specs.PairState.{held_token, spent, token_for}
use Rattle.rtc_run_laws.proofs.AnswerTells.{text_found, spent-is}
use Rattle.rtc_run_laws.proofs.Entries.{no_choice}
use Rattle.rtc_run_laws.proofs.PushedLists.{push_places, set_places}
use Rattle.rtc_run_laws.proofs.Tells.{HeldBefore, held_before, same_side-other, same_side-self, same_side-true}
use Rattle.rtc_run_laws.proofs.TokenEntries.{bare}

-- The SDPs are as they were, there is one more of this side, or a token that this side held is spent.
pub data TextsChange (at : Side) (kept kept' : List Kept) : Type 0 where
  Same : kept' ≡ kept → TextsChange at kept kept'
  Pushed : (sdp : Kept) → sdp.at ≡ at → kept' ≡ kept ++ sdp ∷ [] → TextsChange at kept kept'
  Spent : (t : ℕ) (token : PendingOffer) → held_token kept at t ≡ Some token → kept' ≡ spent t kept → TextsChange at kept kept'

-- a spent token is at no side
pub lost : (side : Side) (sdp : Kept) → token_for side (Some (bare sdp)) ≡ None
lost side sdp = no_choice (same_side sdp.at side)

-- an SDP with a token that a side holds is of this side
pub own_text : (at : Side) (sdp : Kept) (token : PendingOffer) → token_for at (Some sdp) ≡ Some token → sdp.at ≡ at
own_text at sdp token is = by (same_side sdp.at at) refl is
  where
    by : (here : Bool) → same_side sdp.at at ≡ here → cond here sdp.token None ≡ Some token → sdp.at ≡ at
    by true same is = same_side-true sdp.at at same
    by false same is = absurd (let e : ◌≡◌ {A = Option PendingOffer} None (Some token) = is in cc)

-- where a token is spent, each place is another one or that of the token
pub spent_places : (at : Side) (kept kept' : List Kept) (t : ℕ) (token : PendingOffer) → held_token kept at t ≡ Some token → kept' ≡ spent t kept → (u : ℕ)
    → (((t == u) ≡ false) × (slice_get kept' u ≡ slice_get kept u)) ⊎ ((u ≡ t) × ((sdp : Kept) × (slice_get kept t ≡ Some sdp) × (slice_get kept' u ≡ Some (bare sdp))))
spent_places at kept kept' t token is changed u =
    let found : (sdp : Kept) × (slice_get kept t ≡ Some sdp) = text_found at (slice_get kept t) token is in
    let now : kept' ≡ slice_set kept t (bare found.0) = changed ∙ spent-is t kept found.0 found.1 in
    elim (set_places kept t (bare found.0) found.0 u found.1) [
      | inl h ↦ inl (h.0, ap (λ (l : List Kept). slice_get l u) now ∙ h.1)
      | inr h ↦ inr (h.0, (found.0, found.1, ap (λ (l : List Kept). slice_get l u) now ∙ h.2))
    ]

-- the tokens of each side are among those from before, where none is added
pub spent_before : (at side : Side) (kept kept' : List Kept) (t : ℕ) (token : PendingOffer) → held_token kept at t ≡ Some token → kept' ≡ spent t kept → HeldBefore side kept kept'
spent_before at side kept kept' t token is changed = held_before side kept kept' (λ u. elim (spent_places at kept kept' t token is changed u) [
  | inl h ↦ inl h.1
  | inr h ↦ inr (ap (token_for side) h.1.2 ∙ lost side h.1.0)
])

pub same_before : (side : Side) (kept kept' : List Kept) → kept' ≡ kept → HeldBefore side kept kept'
same_before side kept kept' same = held_before side kept kept' (λ u. inl (ap (λ (l : List Kept). slice_get l u) same))

-- What a step leaves of the SDPs of the other side.
pub record LeavesOther (at : Side) (kept kept' : List Kept) : Type 0 where
  pub held : HeldBefore (other_side at) kept kept'
  pub there : (r : ℕ) (sdp : Kept) → slice_get kept r ≡ Some sdp → sdp.at ≡ other_side at → slice_get kept' r ≡ slice_get kept r

apart : (at : Side) → at ≡ other_side at → ⊥
apart at same = true≢false (sym (same_side-self at) ∙ ap (λ (side : Side). same_side at side) same ∙ same_side-other at)

pub leaves_other : (at : Side) (kept kept' : List Kept) → TextsChange at kept kept' → LeavesOther at kept kept'
leaves_other at kept kept' (Same same) = record {
  held = same_before (other_side at) kept kept' same;
  there = λ r sdp there own. ap (λ (l : List Kept). slice_get l r) same;
}
leaves_other at kept kept' (Pushed last own pushed) =
    let place : (u : ℕ) → (((length kept == u) ≡ false) × (slice_get kept' u ≡ slice_get kept u)) ⊎ ((u ≡ length kept) × ((length kept == u) ≡ true) × (slice_get kept' u ≡ Some last)) =
    λ u. rw pushed (push_places kept last u) in
    record {
      held = held_before (other_side at) kept kept' (λ u. elim (place u) [
        | inl h ↦ inl h.1
        | inr h ↦ inr (ap (token_for (other_side at)) h.2 ∙ ap (λ (b : Bool). cond b last.token None) (ap (λ (side : Side). same_side side (other_side at)) own ∙ same_side-other at))
      ]);
      there = λ r sdp there mine. elim (place r) [
        | inl h ↦ h.1
        | inr h ↦ absurd (let within : r < length kept = slice_get_within kept r sdp there in omega (arith, h.0))
      ];
    }
leaves_other at kept kept' (Spent t token is spent_t) = record {
  held = spent_before at (other_side at) kept kept' t token is spent_t;
  there = λ r sdp there own. elim (spent_places at kept kept' t token is spent_t r) [
    | inl h ↦ h.1
    | inr h ↦ absurd (apart at (sym (own_text at h.1.0 token (ap (token_for at) (sym h.1.1) ∙ is)) ∙ ap (λ (one : Kept). one.at) (same_text h.0 h.1.1 there) ∙ own))
  ];
}
  where
    same_text : {r t : ℕ} {sdp other : Kept} → r ≡ t → slice_get kept t ≡ Some sdp → slice_get kept r ≡ Some other → sdp ≡ other
    same_text {r} {t} {sdp} {other} same there here =
        let e : Some sdp ≡ Some other = sym there ∙ ap (λ (n : ℕ). slice_get kept n) (sym same) ∙ here in (let f : sdp ≡ other = cc in f)
