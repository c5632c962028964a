-- What holds in each phase of crossed offers, and what steps leave of it that are none of its own.
use Rattle.std.proofs.Common.{◌≡◌, ◌<◌, ◌&&◌, ℕ, true, false, List, [], ◌∷◌, length, Some, sym, ◌∙◌, ap, subst}
use Rattle.std.specs.Prelude.{slice_get}
use Rattle.std.proofs.lemmas.Option.{slice_get_within}
use Rattle.rtc_sdp_values.specs.declared.line_row.LineRow.{LineRow}
use Rattle.rtc_sdp_values.specs.declared.sdp.Sdp.{Sdp}
use Rattle.rtc_change.specs.declared.change.Change.{Change}
use Rattle.rtc_peer_core.specs.Stance.{Stance}
use Rattle.rtc_peer_core.specs.Undo.{RowBefore}
use Rattle.rtc_run_history.specs.Past.{Entry, added_by, before, is_right, is_spent, makes, moves, sdps, spends}
use Rattle.rtc_run_history.specs.Sides.{other_side}
use Rattle.rtc_run_history.specs.Undone.{table_undone}
use Rattle.rtc_run_history.specs.declared.kept.Kept.{Kept}
use Rattle.rtc_run_history.specs.declared.side.Side.{Side}
use Rattle.rtc_run_history.specs.declared.side.Side.TheVariants.{Left, Right}
use Rattle.rtc_run_laws.specs.Crossed.{AreRolesParted, CrossedNumbers, is_passive}
use Rattle.rtc_run_laws.proofs.CrossedEnds.{Meets}
use Rattle.rtc_run_laws.proofs.CrossedRounds.{CrossAnswer, CrossOffer, HasCrossed, Replies}
use Rattle.rtc_run_laws.proofs.CrossingRoles.{HasRole}
use Rattle.rtc_run_laws.proofs.CrossingPhases.{Polite, Quiet, Out, Back, Done, Impolite, Still, Asks, Told, Over}
use Rattle.rtc_run_laws.proofs.PastOffers.{stays_there}
use Rattle.rtc_run_laws.proofs.RowNames.{Aligned}
use Rattle.rtc_run_laws.proofs.RowsFollow.{Follows}
use Rattle.rtc_run_laws.proofs.SideRoundSteps.{SameIce}
use Rattle.rtc_run_laws.proofs.SideRounds.{AreAgreed, IsAnswerOut, IsOfferOut}
use Rattle.rtc_run_laws.proofs.StanceSteps.{PairStance, lent}

-- ---- the polite side

-- its offer is there
abbrev pub IsSaid : {E : Type 0} → Side → ℕ → List (Entry E) → Type 0
IsSaid s k past = (sdp : Sdp) × (slice_get (sdps past) k ≡ Some (record { at = s; offer = true; sdp = sdp }))

-- its offer may be rolled back, after which its rows are those that stood
pub record PoliteOut {E : Type 0} (s : Side) (k : ℕ) (stood : List LineRow) (past : List (Entry E)) : Type 0 where
  pub said : IsSaid s k past
  pub right : is_right s k past ≡ true
  pub unspent : is_spent k past ≡ false
  pub undone : (table_undone s k past).lines ≡ stood

abbrev pub Politely : {E : Type 0} → Polite → Side → ℕ → List LineRow → List (Entry E) → Type 0
Politely Quiet s k stood past = before s past ≡ stood
Politely Out s k stood past = PoliteOut s k stood past
Politely Back s k stood past = (before s past ≡ stood) × IsSaid s k past
Politely Done s k stood past = IsSaid s k past

said_stays : {E : Type 0} → (s : Side) (k : ℕ) (past : List (Entry E)) (e : Entry E) → IsSaid s k past → IsSaid s k (e ∷ past)
said_stays s k past e said = (said.0, stays_there (sdps past) e.made k _ said.1)

-- an entry that leaves the rows of the polite side, and its token
pub record IsBeside {E : Type 0} (s : Side) (k : ℕ) (past : List (Entry E)) (e : Entry E) : Type 0 where
  pub rows : before s (e ∷ past) ≡ before s past
  pub still : moves s e.step e.outcome ≡ false
  pub unspent : spends k e.step e.outcome ≡ false
  pub unmade : k < length (sdps past) → makes k e.outcome ≡ false

pub politely_stays : {E : Type 0} → (pp : Polite) (s : Side) (k : ℕ) (stood : List LineRow) (past : List (Entry E)) (e : Entry E) → IsBeside s k past e → Politely pp s k stood past → Politely pp s k stood (e ∷ past)
politely_stays Quiet s k stood past e is quiet = is.rows ∙ quiet
politely_stays Out s k stood past e is out =
    let unmade : makes k e.outcome ≡ false = is.unmade (slice_get_within (sdps past) k _ out.said.1) in
    record {
      said = said_stays s k past e out.said;
      right = rw (unmade, is.still) out.right;
      unspent = rw is.unspent out.unspent;
      undone = (rw (unmade, is.rows) out.undone);
    }
politely_stays Back s k stood past e is back = (is.rows ∙ back.0, said_stays s k past e back.1)
politely_stays Done s k stood past e is said = said_stays s k past e said

-- ---- the impolite side

-- it has nothing staged, and an offer of its own awaits its answer
pub record IsBare (s : Stance) : Type 0 where
  pub staged : s.staged ≡ []
  pub undo : s.undo ≡ []
  pub outstanding : s.outstanding ≡ true

pub record Waiting {E : Type 0} (s : Side) (stood : List LineRow) (past : List (Entry E)) (pair : PairStance) : Type 0 where
  pub agreed : AreAgreed pair
  pub parted : AreRolesParted (pair.sides Left).role (pair.sides Right).role
  pub alike : Aligned stood (before (other_side s) past)

pub record Asking {E : Type 0} (s : Side) (k : ℕ) (stood : List LineRow) (past : List (Entry E)) (pair : PairStance) : Type 0 where
  pub offer : CrossOffer
  pub has : HasCrossed offer (other_side s) k past
  pub same : Aligned stood offer.front
  pub out : IsOfferOut (other_side s) k pair
  pub bare : IsBare (pair.sides (other_side s))
  pub parted : AreRolesParted (pair.sides Left).role (pair.sides Right).role

pub record Telling {E : Type 0} (s : Side) (k a : ℕ) (stood : List LineRow) (past : List (Entry E)) (pair : PairStance) : Type 0 where
  pub offer : CrossOffer
  pub answer : CrossAnswer
  pub replies : Replies offer answer (other_side s) k a past
  pub same : Aligned stood offer.front
  pub out : IsAnswerOut (other_side s) k a pair
  pub bare : IsBare (pair.sides (other_side s))
  pub role : HasRole s a pair

pub record Ended {E : Type 0} (s : Side) (k : ℕ) (stood : List LineRow) (past : List (Entry E)) (pair : PairStance) : Type 0 where
  pub offer : CrossOffer
  pub adds : added_by (length offer.front) k past ≡ offer.more
  pub same : Aligned stood offer.front
  pub meets : Meets offer (other_side s) past
  pub parted : (is_passive (pair.sides Left).role && is_passive (pair.sides Right).role) ≡ false

abbrev pub Impolitely : {E : Type 0} → Impolite → Side → CrossedNumbers → List LineRow → List (Entry E) → PairStance → Type 0
Impolitely Still s n stood past pair = Waiting s stood past pair
Impolitely Asks s n stood past pair = Asking s n.impolite stood past pair
Impolitely Told s n stood past pair = Telling s n.impolite n.answer stood past pair
Impolitely Over s n stood past pair = Ended s n.impolite stood past pair

-- ---- what goes on at both sides

-- the start of each association stays
abbrev pub SameStarts : PairStance → PairStance → Type 0
SameStarts old new = (side : Side) → (new.sides side).snap.started ≡ (old.sides side).snap.started

pub agreed_stays : (old new : PairStance) → SameIce old new → SameStarts old new → AreAgreed old → AreAgreed new
agreed_stays old new ice starts agreed = record {
  current = λ side. let mine = ice side in let theirs = ice (other_side side) in rw (mine, theirs) (agreed.current side);
  joined = λ side. let mine = starts side in let theirs = starts (other_side side) in rw (mine, theirs) (agreed.joined side);
}

pub offer_out_stays : (at : Side) (k : ℕ) (old new : PairStance) → SameIce old new → SameStarts old new → new.sides at ≡ old.sides at → ((kept : Kept) → slice_get old.sdps k ≡ Some kept → slice_get new.sdps k ≡ Some kept)
    → IsOfferOut at k old → IsOfferOut at k new
offer_out_stays at k old new ice starts here there out = record {
  offer = record {
    kept = out.offer.kept;
    token = out.offer.token;
    there = there out.offer.kept out.offer.there;
    mine = out.offer.mine;
    has = out.offer.has;
    says = out.offer.says;
    half = rw here out.offer.half;
    tells = rw here out.offer.tells;
  };
  current = λ side. let mine = ice side in let theirs = ice (other_side side) in rw (mine, theirs) (out.current side);
  joined = λ side. let mine = starts side in let theirs = starts (other_side side) in rw (mine, theirs) (out.joined side);
}

pub bare_stays : (old new : Stance) → new ≡ old → IsBare old → IsBare new
bare_stays old new same bare = subst IsBare (sym same) bare

pub lent_bare : (s : Stance) → s.staged ≡ [] → s.undo ≡ [] → lent s ≡ s
lent_bare s staged undo =
    ap (λ (c : List Change). record s { staged = c; undo = [] }) (sym staged) ∙ ap (λ (u : List RowBefore). record s { undo = u }) (sym undo)

-- ---- the offer of the impolite side stays

-- an entry that leaves its rows, and its token
pub crossed_stays : {E : Type 0} → (offer : CrossOffer) (at : Side) (k : ℕ) (past : List (Entry E)) (e : Entry E) → IsBeside at k past e → HasCrossed offer at k past → HasCrossed offer at k (e ∷ past)
crossed_stays offer at k past e is has =
    let unmade : makes k e.outcome ≡ false = is.unmade (slice_get_within (sdps past) k _ has.there) in
    record {
      right = rw (unmade, is.still) has.right;
      unspent = rw is.unspent has.unspent;
      there = stays_there (sdps past) e.made k _ has.there;
      adds = rw unmade has.adds;
      kept = subst (λ (rows : List LineRow). Aligned offer.front rows) (sym is.rows) has.kept;
    }

pub replies_stay : {E : Type 0} → (offer : CrossOffer) (answer : CrossAnswer) (at : Side) (k a : ℕ) (past : List (Entry E)) (e : Entry E) → IsBeside at k past e → before (other_side at) (e ∷ past) ≡ before (other_side at) past → Replies offer answer at k a past → Replies offer answer at k a (e ∷ past)
replies_stay offer answer at k a past e is other it = record {
  has = crossed_stays offer at k past e is it.has;
  replied = record {
    there = stays_there (sdps past) e.made a _ it.replied.there;
    offered = it.replied.offered;
    mine = subst (λ (rows : List LineRow). Follows rows rows answer.rows) (sym is.rows) it.replied.mine;
    theirs = subst (λ (rows : List LineRow). Aligned answer.rows rows) (sym other) it.replied.theirs;
  };
}
