-- What a past says of a pair after a new entry: one that makes no SDP, makes an answer, spends a token, or makes an offer.
use Rattle.std.proofs.Common.{◌≡◌, ◌≤◌, ◌<◌, ◌+◌, ◌^◌, ◌==◌, ℕ, List, [], ◌∷◌, ◌++◌, map, length, drop, Bool, true, false, Option, Some, None, refl, sym, ◌∙◌, ap, arith, cond, append-nil, length-append, ◌⊎◌, inl, inr}
use Rattle.std.specs.Prelude.{slice_get, option_map}
use Rattle.std.proofs.Math.Seq.{drop-append_seam, drop-length}
use Rattle.std.proofs.lemmas.Bool.{and_left}
use Rattle.std.proofs.lemmas.List.{map-append}
use Rattle.std.proofs.lemmas.Option.{slice_get-map}
use Rattle.rtc_change.specs.PendingOffer.{PendingOffer}
use Rattle.rtc_run_history.specs.declared.side.Side.{Side}
use Rattle.rtc_run_history.specs.Sides.{same_side, other_side, side_of}
use Rattle.rtc_run_history.specs.Past.{Entry, MadeSdp, before, rows_or, sdps, spends, is_spent, is_offer_of, holds_token, moves, makes}
use Rattle.rtc_run_history.specs.declared.kept.Kept.{Kept}
use Rattle.rtc_run_history.specs.PairState.{made_sdp, token_for}
use Rattle.rtc_run_laws.proofs.PushedLists.{push_places}
use Rattle.rtc_run_history.proofs.BothSides.{both_sides}
use Rattle.rtc_run_laws.proofs.Tells.{TokenTells, ChannelsTell, SideTells, Tells, IsUntold, HeldBefore, same_side-self, same_side-other, token_next, no_token, held_before, side_next, side_stays}
use Rattle.rtc_run_laws.proofs.StanceSteps.{PairStance, made_by}

-- What a new entry leaves, whatever it makes: rows and counter of its side, and the other side as it was.
pub record Goes {E : Type 0} (moved : Bool) (past : List (Entry E)) (e : Entry E) (old new : PairStance) : Type 0 where
  pub rows : (new.sides (side_of e.step)).lines ≡ rows_or true e.table (before (side_of e.step) past)
  pub channels : ChannelsTell (e ∷ past) (side_of e.step) (new.sides (side_of e.step))
  pub counter : (new.sides (side_of e.step)).counter ≡ cond moved ((old.sides (side_of e.step)).counter + 1) (old.sides (side_of e.step)).counter
  pub other : new.sides (other_side (side_of e.step)) ≡ old.sides (other_side (side_of e.step))
  pub mine : moves (side_of e.step) e.step e.outcome ≡ moved
  pub theirs : moves (other_side (side_of e.step)) e.step e.outcome ≡ false
  pub grows : old.size + 1 ≤ new.size
  pub small : new.size < 2 ^ 32
  pub made : e.made ≡ made_by old new

-- the SDPs that a pair keeps, after an entry
pub record TextsNext {E : Type 0} (past : List (Entry E)) (e : Entry E) (old new : PairStance) : Type 0 where
  pub says : map made_sdp new.sdps ≡ sdps (e ∷ past)
  pub later : (t : ℕ) → length (sdps (e ∷ past)) ≤ t → is_spent t (e ∷ past) ≡ false
  pub count : length new.sdps ≤ length old.sdps + 1

pub rows_told : {E : Type 0} → (moved : Bool) (past : List (Entry E)) (e : Entry E) (old new : PairStance) → Goes moved past e old new
    → (new.sides (side_of e.step)).lines ≡ before (side_of e.step) (e ∷ past)
rows_told moved past e old new goes = goes.rows ∙ sym (ap (λ b. rows_or b e.table (before (side_of e.step) past)) (same_side-self (side_of e.step)))

-- both sides after an entry
pub sides_next : {E : Type 0} → (past : List (Entry E)) (e : Entry E) (old new : PairStance) → new.sides (other_side (side_of e.step)) ≡ old.sides (other_side (side_of e.step)) → old.size + 1 ≤ new.size
    → TextsNext past e old new → SideTells (e ∷ past) (side_of e.step) (new.sides (side_of e.step)) new.sdps new.size
    → HeldBefore (other_side (side_of e.step)) old.sdps new.sdps
    → ((t : ℕ) → TokenTells (e ∷ past) (other_side (side_of e.step)) (old.sides (other_side (side_of e.step))).counter t (slice_get new.sdps t))
    → Tells past old → Tells (e ∷ past) new
sides_next past e old new other grows kept mine was tokens tells =
    let at = side_of e.step in
    let there : SideTells (e ∷ past) (other_side at) (old.sides (other_side at)) new.sdps new.size =
    side_stays past e (other_side at) (old.sides (other_side at)) old.sdps new.sdps old.size new.size (same_side-other at) grows was tokens (tells.sides (other_side at)) in
    let count : length old.sdps ≤ old.size = tells.count in
    record {
      sides = both_sides (λ side. SideTells (e ∷ past) side (new.sides side) new.sdps new.size) at mine (rw other there);
      says = kept.says;
      later = kept.later;
      count = omega (arith, kept.count, grows);
    }

pub tells_next : {E : Type 0} → (moved : Bool) (past : List (Entry E)) (e : Entry E) (old new : PairStance) → Goes moved past e old new → TextsNext past e old new
    → SideTells (e ∷ past) (side_of e.step) (new.sides (side_of e.step)) new.sdps new.size
    → HeldBefore (other_side (side_of e.step)) old.sdps new.sdps
    → ((t : ℕ) → TokenTells (e ∷ past) (other_side (side_of e.step)) (old.sides (other_side (side_of e.step))).counter t (slice_get new.sdps t))
    → Tells past old → Tells (e ∷ past) new
tells_next moved past e old new goes kept mine was tokens tells = sides_next past e old new goes.other goes.grows kept mine was tokens tells

-- what a past says of an SDP is what is kept of it
pub said_at : {E : Type 0} → (past : List (Entry E)) (pair : PairStance) (t : ℕ) → map made_sdp pair.sdps ≡ sdps past → slice_get (sdps past) t ≡ option_map made_sdp (slice_get pair.sdps t)
said_at past pair t says = ap (λ said. slice_get said t) (sym says) ∙ slice_get-map made_sdp pair.sdps t

-- an SDP that is kept as it was
pub same_offer : {E : Type 0} → (past : List (Entry E)) (e : Entry E) (old new : PairStance) (side : Side) (t : ℕ) → map made_sdp old.sdps ≡ sdps past → map made_sdp new.sdps ≡ sdps (e ∷ past)
    → option_map made_sdp (slice_get new.sdps t) ≡ option_map made_sdp (slice_get old.sdps t) → is_offer_of side (slice_get (sdps (e ∷ past)) t) ≡ is_offer_of side (slice_get (sdps past) t)
same_offer past e old new side t says says' same = ap (is_offer_of side) (said_at (e ∷ past) new t says' ∙ same ∙ sym (said_at past old t says))

-- ---- an entry that makes no SDP

pub unmade_tells : {E : Type 0} → (moved : Bool) (past : List (Entry E)) (e : Entry E) (old new : PairStance) → Goes moved past e old new
    → new.sdps ≡ old.sdps
    → ((t : ℕ) → spends t e.step e.outcome ≡ false) → ((t : ℕ) → makes t e.outcome ≡ false) → Tells past old → Tells (e ∷ past) new
unmade_tells moved past e old new goes kept unspent unmade tells =
    let at = side_of e.step in
    let none : e.made ≡ [] = goes.made ∙ ap (λ now. map made_sdp (drop (length old.sdps) now)) kept ∙ ap (map made_sdp) (drop-length old.sdps) in
    let same_said : sdps (e ∷ past) ≡ sdps past = ap (λ made. sdps past ++ made) none ∙ append-nil (sdps past) in
    let was : (side : Side) → HeldBefore side old.sdps new.sdps = λ side. held_before side old.sdps new.sdps (λ t. inl (ap (λ now. slice_get now t) kept)) in
    let untold : (side : Side) (t : ℕ) → IsUntold past e side t = λ side t. record { same = ap (λ said. is_offer_of side (slice_get said t)) same_said; unspent = unspent t; unmade = unmade t } in
    tells_next moved past e old new goes
    (record {
      says = ap (map made_sdp) kept ∙ tells.says ∙ sym same_said;
      later = λ t most. rw (unspent t) (tells.later t (rw same_said at most));
      count = let n : length new.sdps ≡ length old.sdps = ap length kept in omega arith;
    })
    (side_next moved past e at (old.sides at) (new.sides at) old.sdps new.sdps old.size new.size (rows_told moved past e old new goes) goes.counter goes.grows (was at)
    (λ t. rw kept (token_next moved past e at _ t _ (untold at t) goes.mine ((tells.sides at).tokens t)))
    goes.channels (tells.sides at))
    (was (other_side at))
    (λ t. rw kept (token_next false past e (other_side at) _ t _ (untold (other_side at) t) goes.theirs ((tells.sides (other_side at)).tokens t)))
    tells

-- ---- an entry that makes an SDP

-- the SDP that an entry makes is the last
pub says_pushed : {E : Type 0} → (past : List (Entry E)) (e : Entry E) (old new : PairStance) (kept : Kept) → e.made ≡ made_by old new → new.sdps ≡ old.sdps ++ kept ∷ []
    → map made_sdp old.sdps ≡ sdps past → map made_sdp new.sdps ≡ sdps (e ∷ past)
says_pushed past e old new kept made pushed says =
    ap (map made_sdp) pushed ∙ map-append made_sdp old.sdps (kept ∷ []) ∙ ap (λ said. said ++ made_sdp kept ∷ []) says
    ∙ sym (ap (λ more. sdps past ++ more) (made ∙ ap (λ now. map made_sdp (drop (length old.sdps) now)) pushed ∙ ap (map made_sdp) (drop-append_seam old.sdps (kept ∷ []))))

fewer : (xs ys : List MadeSdp) (t : ℕ) → length (xs ++ ys) ≤ t → length xs ≤ t
fewer xs ys t h = omega (arith, length-append xs ys)

pub texts_pushed : {E : Type 0} → (past : List (Entry E)) (e : Entry E) (old new : PairStance) (kept : Kept) → e.made ≡ made_by old new → new.sdps ≡ old.sdps ++ kept ∷ []
    → ((t : ℕ) → spends t e.step e.outcome ≡ false) → Tells past old → TextsNext past e old new
texts_pushed past e old new kept made pushed unspent tells = record {
  says = says_pushed past e old new kept made pushed tells.says;
  later = λ t most. rw (unspent t) (tells.later t (fewer (sdps past) e.made t most));
  count = let n : length new.sdps ≡ length old.sdps + 1 = ap length pushed ∙ length-append old.sdps (kept ∷ []) in omega arith;
}

pub no_choice : (b : Bool) → ◌≡◌ {A = Option PendingOffer} (cond b None None) None
no_choice true = refl
no_choice false = refl

-- an SDP without a token
tokenless : (at : Side) (kept : Kept) → kept.token ≡ None → token_for at (Some kept) ≡ None
tokenless at kept none = ap (λ token. cond (same_side kept.at at) token None) none ∙ no_choice (same_side kept.at at)

-- the token of an SDP that is no offer of this side
pub unheld : {E : Type 0} → (past : List (Entry E)) (side : Side) (t : ℕ) (said : Option MadeSdp) → slice_get (sdps past) t ≡ said → is_offer_of side said ≡ false → holds_token side t past ≡ false
unheld past side t said is none = rw (is, none) refl

pub answered_tells : {E : Type 0} → (past : List (Entry E)) (e : Entry E) (old new : PairStance) (kept : Kept) → Goes true past e old new
    → kept.offer ≡ false → kept.token ≡ None → new.sdps ≡ old.sdps ++ kept ∷ []
    → ((t : ℕ) → spends t e.step e.outcome ≡ false) → ((t : ℕ) → makes t e.outcome ≡ false) → Tells past old → Tells (e ∷ past) new
answered_tells past e old new kept goes answer none pushed unspent unmade tells =
    let at = side_of e.step in
    let says : map made_sdp new.sdps ≡ sdps (e ∷ past) = says_pushed past e old new kept goes.made pushed tells.says in
    let place : (t : ℕ) → (((length old.sdps == t) ≡ false) × (slice_get new.sdps t ≡ slice_get old.sdps t)) ⊎ ((t ≡ length old.sdps) × ((length old.sdps == t) ≡ true) × (slice_get new.sdps t ≡ Some kept)) =
    λ t. rw pushed (push_places old.sdps kept t) in
    let was : (side : Side) → HeldBefore side old.sdps new.sdps = λ side. held_before side old.sdps new.sdps
    (λ t. elim (place t) [ inl h ↦ inl h.1 | inr h ↦ inr (ap (token_for side) h.2 ∙ tokenless side kept none) ]) in
    let untold : (side : Side) (t : ℕ) → slice_get new.sdps t ≡ slice_get old.sdps t → IsUntold past e side t =
    λ side t there. record { same = same_offer past e old new side t tells.says says (ap (option_map made_sdp) there); unspent = unspent t; unmade = unmade t } in
    let last : (side : Side) (counter t : ℕ) → slice_get new.sdps t ≡ Some kept → TokenTells (e ∷ past) side counter t (Some kept) =
    λ side counter t there. no_token (e ∷ past) side counter t (Some kept) (tokenless side kept none)
    (unheld (e ∷ past) side t (Some (made_sdp kept)) (said_at (e ∷ past) new t says ∙ ap (option_map made_sdp) there) (and_left kept.offer (same_side kept.at side) answer)) in
    tells_next true past e old new goes (texts_pushed past e old new kept goes.made pushed unspent tells)
    (side_next true past e at (old.sides at) (new.sides at) old.sdps new.sdps old.size new.size (rows_told true past e old new goes) goes.counter goes.grows (was at)
    (λ t. elim (place t) [
      | inl h ↦ rw h.1 (token_next true past e at _ t _ (untold at t h.1) goes.mine ((tells.sides at).tokens t))
      | inr h ↦ rw h.2 (last at _ t h.2)
    ])
    goes.channels (tells.sides at))
    (was (other_side at))
    (λ t. elim (place t) [
      | inl h ↦ rw h.1 (token_next false past e (other_side at) _ t _ (untold (other_side at) t h.1) goes.theirs ((tells.sides (other_side at)).tokens t))
      | inr h ↦ rw h.2 (last (other_side at) _ t h.2)
    ])
    tells
