-- What a past says of a pair, and what a new entry says of each side.
use Rattle.std.proofs.Common.{◌≡◌, ◌≤◌, ◌<◌, ◌+◌, ◌^◌, ◌==◌, ℕ, List, ◌∷◌, map, length, Bool, true, false, Option, Some, None, refl, sym, ◌∙◌, ap, arith, cond, ◌⊎◌, inl, inr}
use Rattle.std.specs.Prelude.{slice_get, is_some, option_map}
use Rattle.std.proofs.lemmas.Bool.{ne_eqb}
use Rattle.rtc_change.specs.PendingOffer.{PendingOffer, added_rows, staged_restart}
use Rattle.rtc_channels.specs.Channels.{AreBelow, AreRising}
use Rattle.rtc_peer_core.specs.Stance.{Stance}
use Rattle.rtc_peer_core.specs.Calls.{raised}
use Rattle.rtc_run_history.specs.declared.side.Side.{Side}
use Rattle.rtc_run_history.specs.declared.side.Side.TheVariants.{Left, Right}
use Rattle.rtc_run_history.specs.Sides.{same_side, other_side, side_of}
use Rattle.rtc_run_history.specs.Views.{tells_init}
use Rattle.rtc_run_history.specs.Past.{Entry, before, rows_or, sdps, spends, is_spent, is_offer_of, holds_token, moves, makes, is_right, added_by, channels_shown, channel_rows_or, numbers_told, numbers_or, restarts_by}
use Rattle.rtc_run_history.specs.declared.kept.Kept.{Kept}
use Rattle.rtc_run_history.specs.PairState.{made_sdp, token_for, held_token}
use Rattle.rtc_run_laws.proofs.Bounds.{IsWithin}
use Rattle.rtc_run_laws.proofs.NumberedChannels.{AreLess}
use Rattle.rtc_run_laws.proofs.StanceSteps.{PairStance}

-- What a past says of the token of a number, at a side whose counter is this.
pub record TokenTells {E : Type 0} (past : List (Entry E)) (at : Side) (counter t : ℕ) (kept : Option Kept) : Type 0 where
  pub held : is_some (token_for at kept) ≡ holds_token at t past
  pub right : (token : PendingOffer) → token_for at kept ≡ Some token → (counter == token.id + 1) ≡ is_right at t past
  pub older : (token : PendingOffer) → token_for at kept ≡ Some token → token.id + 1 ≤ counter
  pub changes : (token : PendingOffer) → token_for at kept ≡ Some token → (place : ℕ) → added_rows place token.changes ≡ added_by place t past
  pub restarts : (token : PendingOffer) → token_for at kept ≡ Some token → is_some (staged_restart token.changes) ≡ restarts_by t past
  pub inits : (token : PendingOffer) → token_for at kept ≡ Some token → token.says_init ≡ tells_init (option_map made_sdp kept)

-- What a past says of the channels of a side: their rows, and that its numbers rise, were given, and tell how many were given at most.
pub record ChannelsTell {E : Type 0} (past : List (Entry E)) (at : Side) (s : Stance) : Type 0 where
  pub shown : s.rows ≡ channels_shown at past
  pub few : s.channels.given ≤ length (numbers_told at past)
  pub below : AreBelow s.channels.given s.channels.rows
  pub rising : AreRising 0 s.channels.rows
  pub told : AreLess s.channels.given (numbers_told at past)

-- What a past says of a side.
pub record SideTells {E : Type 0} (past : List (Entry E)) (at : Side) (peer : Stance) (kept : List Kept) (size : ℕ) : Type 0 where
  pub rows : peer.lines ≡ before at past
  pub tokens : (t : ℕ) → TokenTells past at peer.counter t (slice_get kept t)
  pub counts : peer.counter ≤ size
  -- no two tokens have one id
  pub one_each : (t u : ℕ) (token other : PendingOffer) → held_token kept at t ≡ Some token → held_token kept at u ≡ Some other → token.id ≡ other.id → t ≡ u
  pub channels : ChannelsTell past at peer

pub record Tells {E : Type 0} (past : List (Entry E)) (pair : PairStance) : Type 0 where
  pub sides : (at : Side) → SideTells past at (pair.sides at) pair.sdps pair.size
  pub says : map made_sdp pair.sdps ≡ sdps past
  -- no token past the SDPs is spent
  pub later : (t : ℕ) → length (sdps past) ≤ t → is_spent t past ≡ false
  pub count : length pair.sdps ≤ pair.size

pub within : {E : Type 0} → (past : List (Entry E)) (pair : PairStance) → Tells past pair → IsWithin pair
within past pair tells = record { sdps = tells.count }

-- ---- sides

pub same_side-self : (at : Side) → same_side at at ≡ true
same_side-self Left = refl
same_side-self Right = refl

pub same_side-true : (side at : Side) → same_side side at ≡ true → side ≡ at
same_side-true Left Left same = refl
same_side-true Left Right same = absurd (cc)
same_side-true Right Left same = absurd (cc)
same_side-true Right Right same = refl

pub same_side-other : (at : Side) → same_side at (other_side at) ≡ false
same_side-other Left = refl
same_side-other Right = refl

-- ---- tokens that a side had before

pub raised-small : (counter size : ℕ) → counter ≤ size → size < 2 ^ 32 → raised counter ≡ counter + 1
raised-small counter size low few = omega arith

-- a new entry made no offer of this number, and spent no token of it
pub record IsUntold {E : Type 0} (past : List (Entry E)) (e : Entry E) (at : Side) (t : ℕ) : Type 0 where
  pub same : is_offer_of at (slice_get (sdps (e ∷ past)) t) ≡ is_offer_of at (slice_get (sdps past) t)
  pub unspent : spends t e.step e.outcome ≡ false
  pub unmade : makes t e.outcome ≡ false

token_kept : {E : Type 0} → (past : List (Entry E)) (e : Entry E) (at : Side) (counter t : ℕ) (kept : Option Kept) → IsUntold past e at t
    → moves at e.step e.outcome ≡ false → TokenTells past at counter t kept → TokenTells (e ∷ past) at counter t kept
token_kept past e at counter t kept untold still told =
    let same = untold.same in
    let unspent = untold.unspent in
    let unmade = untold.unmade in
    record {
      held = told.held ∙ (rw (same, unspent) refl);
      right = λ token is. told.right token is ∙ (rw (unmade, still) refl);
      older = told.older;
      changes = λ token is place. told.changes token is place ∙ (rw unmade refl);
      restarts = λ token is. told.restarts token is ∙ (rw unmade refl);
      inits = told.inits;
    }

pub not_next : (counter id : ℕ) → id + 1 ≤ counter → (counter + 1 == id + 1) ≡ false
not_next counter id older = ne_eqb (counter + 1) (id + 1) (λ e. omega arith)

token_moved : {E : Type 0} → (past : List (Entry E)) (e : Entry E) (at : Side) (counter t : ℕ) (kept : Option Kept) → IsUntold past e at t
    → moves at e.step e.outcome ≡ true → TokenTells past at counter t kept → TokenTells (e ∷ past) at (counter + 1) t kept
token_moved past e at counter t kept untold moved told =
    let same = untold.same in
    let unspent = untold.unspent in
    let unmade = untold.unmade in
    record {
      held = told.held ∙ (rw (same, unspent) refl);
      right = λ token is. not_next counter token.id (told.older token is) ∙ (rw (unmade, moved) refl);
      older = λ token is. let o : token.id + 1 ≤ counter = told.older token is in omega arith;
      changes = λ token is place. told.changes token is place ∙ (rw unmade refl);
      restarts = λ token is. told.restarts token is ∙ (rw unmade refl);
      inits = told.inits;
    }

pub token_next : {E : Type 0} → (moved : Bool) (past : List (Entry E)) (e : Entry E) (at : Side) (counter t : ℕ) (kept : Option Kept) → IsUntold past e at t
    → moves at e.step e.outcome ≡ moved → TokenTells past at counter t kept → TokenTells (e ∷ past) at (cond moved (counter + 1) counter) t kept
token_next true past e at counter t kept untold moved told = token_moved past e at counter t kept untold moved told
token_next false past e at counter t kept untold moved told = token_kept past e at counter t kept untold moved told

-- an SDP whose token this side has not
pub no_token : {E : Type 0} → (past : List (Entry E)) (at : Side) (counter t : ℕ) (kept : Option Kept) → token_for at kept ≡ None → holds_token at t past ≡ false → TokenTells past at counter t kept
no_token past at counter t kept none unheld = record {
  held = rw (none, unheld) refl;
  right = λ token is. absurd (let e : None ≡ Some token = sym none ∙ is in cc);
  older = λ token is. absurd (let e : None ≡ Some token = sym none ∙ is in cc);
  changes = λ token is. absurd (let e : None ≡ Some token = sym none ∙ is in cc);
  restarts = λ token is. absurd (let e : None ≡ Some token = sym none ∙ is in cc);
  inits = λ token is. absurd (let e : None ≡ Some token = sym none ∙ is in cc);
}

-- ---- sides after an entry

-- the tokens of a side are among those that it had
abbrev pub HeldBefore : Side → List Kept → List Kept → Type 0
HeldBefore at kept kept' = (t : ℕ) (token : PendingOffer) → held_token kept' at t ≡ Some token → held_token kept at t ≡ Some token

pub held_before : (at : Side) (kept kept' : List Kept) → ((t : ℕ) → (slice_get kept' t ≡ slice_get kept t) ⊎ (held_token kept' at t ≡ None)) → HeldBefore at kept kept'
held_before at kept kept' place t token is = elim (place t) [
  | inl same ↦ ap (token_for at) (sym same) ∙ is
  | inr none ↦ absurd (let e : None ≡ Some token = sym none ∙ is in cc)
]

at_most_one : (moved : Bool) (counter size size' : ℕ) → counter ≤ size → size + 1 ≤ size' → cond moved (counter + 1) counter ≤ size'
at_most_one true counter size size' low grows = omega arith
at_most_one false counter size size' low grows = omega arith

-- a side with no token that it had not
pub side_next : {E : Type 0} → (moved : Bool) (past : List (Entry E)) (e : Entry E) (at : Side) (old new : Stance) (kept kept' : List Kept) (size size' : ℕ)
    → new.lines ≡ before at (e ∷ past) → new.counter ≡ cond moved (old.counter + 1) old.counter → size + 1 ≤ size'
    → HeldBefore at kept kept' → ((t : ℕ) → TokenTells (e ∷ past) at (cond moved (old.counter + 1) old.counter) t (slice_get kept' t))
    → ChannelsTell (e ∷ past) at new → SideTells past at old kept size → SideTells (e ∷ past) at new kept' size'
side_next moved past e at old new kept kept' size size' rows counter grows was tokens channels told_it = record {
  rows = rows;
  tokens = λ t. rw counter (tokens t);
  counts = rw counter (at_most_one moved old.counter size size' told_it.counts grows);
  one_each = λ t u token other is is'. told_it.one_each t u token other (was t token is) (was u other is');
  channels = channels;
}

-- the channels of the side that does not act
channels_stay : {E : Type 0} → (past : List (Entry E)) (e : Entry E) (at : Side) (s : Stance) → same_side (side_of e.step) at ≡ false → ChannelsTell past at s → ChannelsTell (e ∷ past) at s
channels_stay past e at s another tell =
    let same : numbers_told at (e ∷ past) ≡ numbers_told at past = ap (λ b. numbers_or b e.outcome (numbers_told at past)) another in
    record {
      shown = tell.shown ∙ sym (ap (λ b. channel_rows_or b e.table (channels_shown at past)) another);
      few = rw same tell.few;
      below = tell.below;
      rising = tell.rising;
      told = rw same tell.told;
    }

-- the side that does not act
pub side_stays : {E : Type 0} → (past : List (Entry E)) (e : Entry E) (at : Side) (peer : Stance) (kept kept' : List Kept) (size size' : ℕ)
    → same_side (side_of e.step) at ≡ false → size + 1 ≤ size' → HeldBefore at kept kept'
    → ((t : ℕ) → TokenTells (e ∷ past) at peer.counter t (slice_get kept' t)) → SideTells past at peer kept size → SideTells (e ∷ past) at peer kept' size'
side_stays past e at peer kept kept' size size' another grows was tokens told_it =
    side_next false past e at peer peer kept kept' size size' (told_it.rows ∙ sym (ap (λ b. rows_or b e.table (before at past)) another)) refl grows was tokens
    (channels_stay past e at peer another told_it.channels) told_it
