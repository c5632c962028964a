-- The offer of a side that awaits its answer: what its past says of it, and what an entry leaves of that.
use Rattle.std.proofs.Common.{not, ◌≡◌, ◌<◌, ◌==◌, ◌&&◌, ◌||◌, ℕ, Bool, true, false, true≢false, cond, List, [], ◌∷◌, length, Option, Some, None, refl, sym, ◌∙◌, ap, subst}
use Rattle.std.specs.Prelude.{is_some, option_map, slice_get}
use Rattle.std.proofs.lemmas.Bool.{eq-eqb, eqb-true}
use Rattle.std.proofs.lemmas.Option.{slice_get_within}
use Rattle.rtc_wire.specs.declared.channel_config.ChannelConfig.{ChannelConfig}
use Rattle.rtc_sdp_values.specs.declared.line_row.LineRow.{LineRow}
use Rattle.rtc_channels.specs.Channels.{Channel}
use Rattle.rtc_change.specs.PendingOffer.{PendingOffer, new_channels}
use Rattle.rtc_peer_rows.specs.RowChanges.{all_restored}
use Rattle.rtc_peer_rows.proofs.RowChangeLemmas.{AreAlike}
use Rattle.rtc_peer_core.specs.Stance.{Stance}
use Rattle.rtc_peer_polling.specs.Numbers.{AreUnconfirmed}
use Rattle.rtc_run_history.specs.declared.kept.Kept.{Kept}
use Rattle.rtc_run_history.specs.declared.made.Made.TheVariants.{NotAsked, Nothing, Offer, Alloc as MadeAlloc}
use Rattle.rtc_run_history.specs.declared.outcome.Outcome.{Outcome}
use Rattle.rtc_run_history.specs.declared.outcome.Outcome.TheVariants.{Negotiated, Answered, Finished, Done, Wrote, Polled, Refused, NoSuch, Alloc}
use Rattle.rtc_run_history.specs.declared.side.Side.{Side}
use Rattle.rtc_run_history.specs.Sides.{same_side}
use Rattle.rtc_run_history.specs.Outstanding.{has_outstanding, is_unspent, offer_made, right_offer}
use Rattle.rtc_run_history.specs.PairState.{held_token, made_sdp, token_for}
use Rattle.rtc_run_history.specs.Past.{Entry, before, is_offer_of, is_right, is_spent, makes, moves, sdps}
use Rattle.rtc_run_history.specs.Rounds.{before_last, makes_offer}
use Rattle.rtc_run_history.specs.Undone.{channels_added_by, places_changed_by, rows_undone}
use Rattle.rtc_run_history.specs.Views.{Stances}
use Rattle.rtc_run_laws.proofs.AnswerTells.{text_found}
use Rattle.rtc_run_laws.proofs.CancelledRows.{AreCancellable, numbers_of}
use Rattle.rtc_run_laws.proofs.Entries.{said_at}
use Rattle.rtc_run_laws.proofs.StanceSteps.{PairStance}
use Rattle.rtc_run_laws.proofs.Tells.{HeldBefore, Tells, same_side-self}
use Rattle.rtc_run_laws.proofs.UndoneRows.{alike_on}

-- whether a side holds the token of an offer that may be there
abbrev pub is_held : List Kept → Side → Option ℕ → Bool
is_held kept at None = false
is_held kept at (Some t) = is_some (held_token kept at t)

-- What a token undoes is what its past says.
pub record TokenUndoes {E : Type 0} (past : List (Entry E)) (at : Side) (t : ℕ) (token : PendingOffer) (s : Stance) : Type 0 where
  pub numbers : numbers_of (new_channels token.changes) ≡ channels_added_by t past
  pub rows : (rows : List LineRow) → AreAlike s.lines rows
      → all_restored token.undo rows ≡ rows_undone (places_changed_by t past) 0 (before at (before_last (makes_offer t) past)) rows
  pub unconfirmed : AreCancellable (new_channels token.changes) s.channels.rows

-- the SDP of a number is an offer of this side
pub record IsOwnOffer (kept : List Kept) (at : Side) (t : ℕ) : Type 0 where
  pub sdp : Kept
  pub there : slice_get kept t ≡ Some sdp
  pub offer : sdp.offer ≡ true
  pub own : sdp.at ≡ at

-- What a past says of the offer of a side that awaits its answer.
pub record Outstands {E : Type 0} (fresh : Stances) (past : List (Entry E)) (at : Side) (s : Stance) (kept : List Kept) : Type 0 where
  pub polite : s.polite ≡ (fresh at).polite
  pub outstanding : s.outstanding ≡ is_held kept at (right_offer at past)
  pub owns : (t : ℕ) → right_offer at past ≡ Some t → IsOwnOffer kept at t
  pub links : (t : ℕ) (token : PendingOffer) → held_token kept at t ≡ Some token → is_right at t past ≡ true → right_offer at past ≡ Some t
  pub undoes : (t : ℕ) (token : PendingOffer) → held_token kept at t ≡ Some token → is_right at t past ≡ true → TokenUndoes past at t token s

-- ---- what the past says

own_offer : {E : Type 0} → (past : List (Entry E)) (at : Side) (pair : PairStance) (t : ℕ) → Tells past pair → IsOwnOffer pair.sdps at t → is_offer_of at (slice_get (sdps past) t) ≡ true
own_offer past at pair t tells own =
    ap (is_offer_of at) (said_at past pair t tells.says ∙ ap (option_map made_sdp) own.there) ∙ ap (λ (b : Bool). b && same_side own.sdp.at at) own.offer
    ∙ ap (λ (side : Side). same_side side at) own.own ∙ same_side-self at

-- an offer of a side awaits its answer where the past says so
pub outstanding_is : {E : Type 0} → (fresh : Stances) (past : List (Entry E)) (at : Side) (pair : PairStance) → Tells past pair → Outstands fresh past at (pair.sides at) pair.sdps
    → (pair.sides at).outstanding ≡ has_outstanding at past
outstanding_is fresh past at pair tells out = out.outstanding ∙ by (right_offer at past) refl
  where
    by : (right : Option ℕ) → right_offer at past ≡ right → is_held pair.sdps at right ≡ is_unspent right past
    by None is = refl
    by (Some t) is =
        ((tells.sides at).tokens t).held ∙ ap (λ (b : Bool). b && not (is_spent t past)) (own_offer past at pair t tells (out.owns t is))

made_numbered : {E : Type 0} → (outcome : Outcome E) (t : ℕ) → offer_made outcome ≡ Some t → makes t outcome ≡ true
made_numbered (Negotiated answers NotAsked) t is = absurd (let e : ◌≡◌ {A = Option ℕ} None (Some t) = is in cc)
made_numbered (Negotiated answers Nothing) t is = absurd (let e : ◌≡◌ {A = Option ℕ} None (Some t) = is in cc)
made_numbered (Negotiated answers (Offer k)) t is = let e : Some k ≡ Some t = is in eq-eqb k t (let f : k ≡ t = cc in f)
made_numbered (Negotiated answers MadeAlloc) t is = absurd (let e : ◌≡◌ {A = Option ℕ} None (Some t) = is in cc)
made_numbered (Answered n) t is = absurd (let e : ◌≡◌ {A = Option ℕ} None (Some t) = is in cc)
made_numbered Finished t is = absurd (let e : ◌≡◌ {A = Option ℕ} None (Some t) = is in cc)
made_numbered Done t is = absurd (let e : ◌≡◌ {A = Option ℕ} None (Some t) = is in cc)
made_numbered (Wrote taken) t is = absurd (let e : ◌≡◌ {A = Option ℕ} None (Some t) = is in cc)
made_numbered (Polled outputs end) t is = absurd (let e : ◌≡◌ {A = Option ℕ} None (Some t) = is in cc)
made_numbered (Refused error) t is = absurd (let e : ◌≡◌ {A = Option ℕ} None (Some t) = is in cc)
made_numbered NoSuch t is = absurd (let e : ◌≡◌ {A = Option ℕ} None (Some t) = is in cc)
made_numbered Alloc t is = absurd (let e : ◌≡◌ {A = Option ℕ} None (Some t) = is in cc)

or_true : (b : Bool) → (b || true) ≡ true
or_true true = refl
or_true false = refl

or_none : (b : Bool) → (b || false) ≡ b
or_none true = refl
or_none false = refl

-- the offer that is right is right
pub right_is_right : {E : Type 0} → (at : Side) (past : List (Entry E)) (t : ℕ) → right_offer at past ≡ Some t → is_right at t past ≡ true
right_is_right at [] t is = absurd (let e : ◌≡◌ {A = Option ℕ} None (Some t) = is in cc)
right_is_right at (e ∷ past) t is = by (moves at e.step e.outcome) is (right_is_right at past t)
  where
    by : (moved : Bool) → cond moved (offer_made e.outcome) (right_offer at past) ≡ Some t → (right_offer at past ≡ Some t → is_right at t past ≡ true)
        → (makes t e.outcome || (not moved && is_right at t past)) ≡ true
    by true is rest = let made = made_numbered e.outcome t is in rw made refl
    by false is rest = let right = rest is in rw right (or_true (makes t e.outcome))

-- ---- an entry that moves no offer of a side

pub cancellable_on : (channels : List (ℕ × ChannelConfig)) (rows rows' : List Channel) → ((id : ℕ) → AreUnconfirmed id rows → AreUnconfirmed id rows') → AreCancellable channels rows
    → AreCancellable channels rows'
cancellable_on [] rows rows' stay fresh = tt
cancellable_on (channel ∷ rest) rows rows' stay fresh = (stay channel.0 fresh.0, cancellable_on rest rows rows' stay fresh.1)

-- What it leaves of a side and of the SDPs.
pub record IsStill {E : Type 0} (past : List (Entry E)) (e : Entry E) (at : Side) (s t : Stance) (kept kept' : List Kept) : Type 0 where
  pub still : moves at e.step e.outcome ≡ false
  pub beyond : (k : ℕ) → k < length kept → makes k e.outcome ≡ false
  pub held : HeldBefore at kept kept'
  pub right : (r : ℕ) (sdp : Kept) → right_offer at past ≡ Some r → slice_get kept r ≡ Some sdp → sdp.at ≡ at → slice_get kept' r ≡ slice_get kept r
  pub polite : t.polite ≡ s.polite
  pub outstanding : t.outstanding ≡ s.outstanding
  pub alike : AreAlike s.lines t.lines
  pub unconfirmed : (id : ℕ) → AreUnconfirmed id s.channels.rows → AreUnconfirmed id t.channels.rows

-- an offer whose token is held was made before
unmade : {E : Type 0} → (e : Entry E) (at : Side) (kept : List Kept) → ((k : ℕ) → k < length kept → makes k e.outcome ≡ false) → (u : ℕ) (token : PendingOffer)
    → held_token kept at u ≡ Some token → makes u e.outcome ≡ false
unmade e at kept beyond u token is =
    let found : (sdp : Kept) × (slice_get kept u ≡ Some sdp) = text_found at (slice_get kept u) token is in
    beyond u (slice_get_within kept u found.0 found.1)

right_before : {E : Type 0} → (past : List (Entry E)) (e : Entry E) (at : Side) (u : ℕ) → moves at e.step e.outcome ≡ false → makes u e.outcome ≡ false → is_right at u (e ∷ past) ≡ is_right at u past
right_before past e at u still fresh = rw (fresh, still) refl

same_right : {E : Type 0} → (past : List (Entry E)) (e : Entry E) (at : Side) → moves at e.step e.outcome ≡ false → right_offer at (e ∷ past) ≡ right_offer at past
same_right past e at still = rw still refl

undoes_next : {E : Type 0} → (past : List (Entry E)) (e : Entry E) (at : Side) (u : ℕ) (token : PendingOffer) (s t : Stance) → makes u e.outcome ≡ false → AreAlike s.lines t.lines
    → ((id : ℕ) → AreUnconfirmed id s.channels.rows → AreUnconfirmed id t.channels.rows) → TokenUndoes past at u token s → TokenUndoes (e ∷ past) at u token t
undoes_next past e at u token s t fresh alike stay was = record {
  numbers = was.numbers ∙ (rw fresh refl);
  rows = λ rows like. was.rows rows (alike_on s.lines t.lines rows alike like) ∙ (rw fresh refl);
  unconfirmed = cancellable_on (new_channels token.changes) s.channels.rows t.channels.rows stay was.unconfirmed;
}

pub stays_out : {E : Type 0} → (fresh : Stances) (past : List (Entry E)) (e : Entry E) (at : Side) (s t : Stance) (kept kept' : List Kept) → IsStill past e at s t kept kept'
    → Outstands fresh past at s kept → Outstands fresh (e ∷ past) at t kept'
stays_out fresh past e at s t kept kept' still out =
    let same : right_offer at (e ∷ past) ≡ right_offer at past = same_right past e at still.still in
    let was_right : (u : ℕ) (token : PendingOffer) → held_token kept' at u ≡ Some token → is_right at u (e ∷ past) ≡ true → is_right at u past ≡ true =
    λ u token there is. sym (right_before past e at u still.still (unmade e at kept still.beyond u token (still.held u token there))) ∙ is in
    record {
      polite = still.polite ∙ out.polite;
      outstanding = still.outstanding ∙ out.outstanding ∙ by (right_offer at past) refl ∙ ap (is_held kept' at) (sym same);
      owns = λ u is.
          let was : right_offer at past ≡ Some u = sym same ∙ is in
          let own = out.owns u was in
          record { sdp = own.sdp; there = still.right u own.sdp was own.there own.own ∙ own.there; offer = own.offer; own = own.own };
      links = λ u token there is. same ∙ out.links u token (still.held u token there) (was_right u token there is);
      undoes = λ u token there is.
          undoes_next past e at u token s t (unmade e at kept still.beyond u token (still.held u token there)) still.alike still.unconfirmed
          (out.undoes u token (still.held u token there) (was_right u token there is));
    }
  where
    by : (right : Option ℕ) → right_offer at past ≡ right → is_held kept at right ≡ is_held kept' at right
    by None is = refl
    by (Some r) is =
        let own = out.owns r is in
        ap (λ (found : Option Kept). is_some (token_for at found)) (sym (still.right r own.sdp is own.there own.own))

-- ---- an entry that moves a side

-- without an offer
pub moved_out : {E : Type 0} → (fresh : Stances) (past : List (Entry E)) (e : Entry E) (at : Side) (s t : Stance) (kept kept' : List Kept) → moves at e.step e.outcome ≡ true
    → offer_made e.outcome ≡ None → ((u : ℕ) → makes u e.outcome ≡ false) → t.polite ≡ s.polite → t.outstanding ≡ false → Outstands fresh past at s kept → Outstands fresh (e ∷ past) at t kept'
moved_out fresh past e at s t kept kept' moved none unmade polite cleared out =
    let right : right_offer at (e ∷ past) ≡ None = rw (moved, none) refl in
    let wrong : (u : ℕ) → is_right at u (e ∷ past) ≡ false = λ u. let fresh_u = unmade u in rw (fresh_u, moved) refl in
    record {
      polite = polite ∙ out.polite;
      outstanding = cleared ∙ sym (ap (is_held kept' at) right);
      owns = λ u is. absurd (let f : None ≡ Some u = sym right ∙ is in cc);
      links = λ u token there is. absurd (true≢false (sym is ∙ wrong u));
      undoes = λ u token there is. absurd (true≢false (sym is ∙ wrong u));
    }

-- with an offer
pub offered_out : {E : Type 0} → (fresh : Stances) (past : List (Entry E)) (e : Entry E) (at : Side) (s t : Stance) (kept kept' : List Kept) (k : ℕ) → moves at e.step e.outcome ≡ true
    → offer_made e.outcome ≡ Some k → ((u : ℕ) → makes u e.outcome ≡ (k == u)) → t.polite ≡ s.polite → t.outstanding ≡ true → IsOwnOffer kept' at k → is_some (held_token kept' at k) ≡ true
    → ((token : PendingOffer) → held_token kept' at k ≡ Some token → TokenUndoes (e ∷ past) at k token t) → Outstands fresh past at s kept → Outstands fresh (e ∷ past) at t kept'
offered_out fresh past e at s t kept kept' k moved some makes_k polite set own held undoes out =
    let right : right_offer at (e ∷ past) ≡ Some k = rw (moved, some) refl in
    let only : (u : ℕ) → is_right at u (e ∷ past) ≡ true → k ≡ u =
    λ u is. eqb-true k u (let here = makes_k u in sym (or_none (k == u)) ∙ sym (right_of u here) ∙ is) in
    record {
      polite = polite ∙ out.polite;
      outstanding = set ∙ sym (ap (is_held kept' at) right ∙ held);
      owns = λ u is. let f : Some k ≡ Some u = sym right ∙ is in subst (IsOwnOffer kept' at) (let g : k ≡ u = cc in g) own;
      links = λ u token there is. right ∙ ap (λ (n : ℕ). Some n) (only u is);
      undoes = λ u token there is.
          let same : k ≡ u = only u is in
          subst (λ (n : ℕ). TokenUndoes (e ∷ past) at n token t) same (undoes token (ap (λ (n : ℕ). held_token kept' at n) same ∙ there));
    }
  where
    right_of : (u : ℕ) → makes u e.outcome ≡ (k == u) → is_right at u (e ∷ past) ≡ ((k == u) || false)
    right_of u here = rw (here, moved) refl

-- ---- an entry that spends the token that is right

pub ended_out : {E : Type 0} → (fresh : Stances) (past : List (Entry E)) (e : Entry E) (at : Side) (s t : Stance) (kept kept' : List Kept) (k : ℕ) → moves at e.step e.outcome ≡ false
    → ((u : ℕ) → makes u e.outcome ≡ false) → HeldBefore at kept kept' → right_offer at past ≡ Some k → held_token kept' at k ≡ None → IsOwnOffer kept' at k → t.polite ≡ s.polite → t.outstanding ≡ false
    → Outstands fresh past at s kept → Outstands fresh (e ∷ past) at t kept'
ended_out fresh past e at s t kept kept' k still unmade was right gone own polite cleared out =
    let same : right_offer at (e ∷ past) ≡ Some k = same_right past e at still ∙ right in
    let link : (u : ℕ) (token : PendingOffer) → held_token kept' at u ≡ Some token → is_right at u (e ∷ past) ≡ true → right_offer at past ≡ Some u =
    λ u token there is. out.links u token (was u token there) (sym (right_before past e at u still (unmade u)) ∙ is) in
    record {
      polite = polite ∙ out.polite;
      outstanding = cleared ∙ sym (ap (is_held kept' at) same ∙ ap is_some gone);
      owns = λ u is. let f : Some k ≡ Some u = sym same ∙ is in subst (IsOwnOffer kept' at) (let g : k ≡ u = cc in g) own;
      links = λ u token there is. same_right past e at still ∙ link u token there is;
      undoes = λ u token there is.
          let f : Some k ≡ Some u = sym right ∙ link u token there is in
          let g : k ≡ u = cc in
          absurd (let lost : ◌≡◌ {A = Option PendingOffer} None (Some token) = sym gone ∙ ap (λ (n : ℕ). held_token kept' at n) g ∙ there in cc);
    }
