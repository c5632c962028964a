-- What is outstanding in a round, by what each side has of the other one: the offer and its answer tell of the side that made them.
use Rattle.std.proofs.Common.{◌≡◌, ◌≢◌, ℕ, Bool, true, false, not, ◌&&◌, ◌||◌, List, [], ◌∷◌, length, Option, Some, None, refl, ◌∙◌, ap}
use Rattle.std.specs.Prelude.{is_some, slice_get, IfSome}
use Rattle.std.proofs.lemmas.Slice.Eq.{bytes_eq-Decides}
use Rattle.rtc_parts.specs.IceMeaning.{IceSettings}
use Rattle.rtc_sctp_values.specs.SnapHalves.{KeptHalves}
use Rattle.rtc_sdp_values.specs.Sdp.{creds_of, sdp_fingerprint, sdp_sctp_init}
use Rattle.rtc_sdp_values.specs.declared.fingerprint.Fingerprint.{Fingerprint}
use Rattle.rtc_sdp_values.specs.declared.ice_creds.IceCreds.{IceCreds}
use Rattle.rtc_sdp_values.specs.declared.sdp.Sdp.{Sdp}
use Rattle.rtc_change.specs.Held.{Held}
use Rattle.rtc_change.specs.PendingOffer.{PendingOffer, staged_restart}
use Rattle.rtc_change.specs.Plans.{side_verdict, same_creds, is_restart, unasked_restart, no_fingerprint, both_lite}
use Rattle.rtc_peer_core.specs.MadeSdp.{creds_in_use, sdp_of_rows}
use Rattle.rtc_peer_core.specs.Stance.{Stance}
use Rattle.rtc_peer_core.specs.declared.sdp_head.SdpHead.{SdpHead}
use Rattle.rtc_peer_core.specs.declared.told_row.ToldRow.{ToldRow}
use Rattle.rtc_run_history.specs.declared.side.Side.{Side}
use Rattle.rtc_run_history.specs.declared.kept.Kept.{Kept}
use Rattle.rtc_run_history.specs.Sides.{other_side}
use Rattle.rtc_run_history.specs.Orderly.{Phase, Idle, AwaitsAnswer, AwaitsEnd, AreCurrent, AreJoined}
use Rattle.rtc_sdp_writer.specs.AsRead.{as_read}
use Rattle.rtc_run_laws.proofs.AsReadSdps.{creds_as_read, fingerprint_as_read}
use Rattle.rtc_run_laws.proofs.StanceSteps.{PairStance}
use Rattle.rtc_run_laws.proofs.StartHalves.{TellsHalf, AnswersHalf}

-- ---- what a session description tells of its side

-- it has these credentials and a fingerprint, and says whether its side is lite
pub record TellsSide (sdp : Sdp) (creds : IceCreds) (lite : Bool) : Type 0 where
  pub creds_are : creds_of sdp ≡ Some creds
  pub fingerprint : is_some (sdp_fingerprint sdp) ≡ true
  pub lite_is : sdp.ice_lite ≡ lite

-- one of at least one line, made of rows
pub head_told : (sdp : Sdp) (head : SdpHead) (told : List ToldRow) → sdp ≡ sdp_of_rows head told → length sdp.lines ≢ 0 → TellsSide sdp head.creds head.lite
head_told sdp head [] is some = absurd (some (ap (λ s. length s.lines) is))
head_told sdp head (one ∷ told) is some = record {
  creds_are = ap creds_of is;
  fingerprint = ap (λ s. is_some (sdp_fingerprint s)) is;
  lite_is = ap (λ s. s.ice_lite) is;
}

-- so does what is read of it
pub told_as_read : (sdp : Sdp) (creds : IceCreds) (lite : Bool) → TellsSide sdp creds lite → TellsSide (as_read sdp) creds lite
told_as_read sdp creds lite told = record {
  creds_are = creds_as_read sdp ∙ told.creds_are;
  fingerprint = ap is_some (fingerprint_as_read sdp) ∙ told.fingerprint;
  lite_is = told.lite_is;
}

-- ---- credentials

pub same_creds-self : (creds : IceCreds) → same_creds creds creds ≡ true
same_creds-self creds = rw ((bytes_eq-Decides creds.ufrag creds.ufrag).1 refl, (bytes_eq-Decides creds.pass creds.pass).1 refl) refl

-- what is known is not a restart
pub known_creds : (known : Option IceCreds) (creds : IceCreds) → IfSome known (λ k. k ≡ creds) → is_restart known (Some creds) ≡ false
known_creds None creds current = refl
known_creds (Some known) creds current = ap (λ k. not (same_creds k creds)) current ∙ ap not (same_creds-self creds)

or_true : (b : Bool) → (b || true) ≡ true
or_true true = refl
or_true false = refl

-- credentials that are known, or that may be new, are no unasked restart
asked_creds : (may : Bool) (known : Option IceCreds) (creds : IceCreds) → (may ≡ false → IfSome known (λ k. k ≡ creds)) → unasked_restart may known (Some creds) ≡ None
asked_creds may None creds current = refl
asked_creds true (Some known) creds current = rw (or_true (same_creds known creds)) refl
asked_creds false (Some known) creds current = let same : known ≡ creds = current refl in rw (same, same_creds-self creds) refl

told_fingerprint : (has : Bool) (told : Option Fingerprint) → is_some told ≡ true → no_fingerprint has told ≡ None
told_fingerprint true told there = refl
told_fingerprint false (Some fingerprint) there = refl
told_fingerprint false None there = absurd (cc)

-- A session description that tells of its side what it has to is not refused for that.
pub side_passes : (held : Held) (may : Bool) (sdp : Sdp) (creds : IceCreds) (lite : Bool) → TellsSide sdp creds lite → (held.lite && lite) ≡ false → (may ≡ false → IfSome held.remote_creds (λ k. k ≡ creds))
    → side_verdict held may sdp ≡ None
unfolding side_verdict
side_passes held may sdp creds lite tells apart current =
    let lites : both_lite held.lite sdp.ice_lite ≡ None = rw (tells.lite_is, apart) refl in
    let restart : unasked_restart may held.remote_creds (creds_of sdp) ≡ None = rw tells.creds_are (asked_creds may held.remote_creds creds current) in
    let known : no_fingerprint held.has_fingerprint (sdp_fingerprint sdp) ≡ None = told_fingerprint held.has_fingerprint (sdp_fingerprint sdp) tells.fingerprint in
    rw (lites, restart, known, tells.creds_are) refl

-- ---- what is outstanding

-- the offer of a number, which a side made, with its token and the credentials that it offers
pub record HasMade (at : Side) (n : ℕ) (pair : PairStance) : Type 0 where
  pub kept : Kept
  pub token : PendingOffer
  pub there : slice_get pair.sdps n ≡ Some kept
  pub mine : kept.at ≡ at
  pub has : kept.token ≡ Some token
  pub says : token.says_init ≡ is_some (sdp_sctp_init kept.sdp)
  pub half : TellsHalf (pair.sides at).inited (pair.sides at).snap (sdp_sctp_init kept.sdp)
  pub tells : TellsSide kept.sdp (creds_in_use (staged_restart token.changes) (pair.sides at).ice) (pair.sides at).ice.lite

-- each side keeps the chunk of the other one where the associations were started by the chunks of both
abbrev pub AreJoinedAt : PairStance → Side → Type 0
AreJoinedAt pair side = AreJoined (pair.sides side).snap.started (pair.sides (other_side side)).snap.started

pub record IsOfferOut (at : Side) (n : ℕ) (pair : PairStance) : Type 0 where
  pub offer : HasMade at n pair
  pub current : (side : Side) → AreCurrent pair.sides side
  pub joined : (side : Side) → AreJoinedAt pair side

-- The answer to an offer: the other side has taken the offer's credentials, and its half of a start; what the side that offered knows is
-- current, but where its offer restarts ICE.
pub record IsAnswerOut (at : Side) (n a : ℕ) (pair : PairStance) : Type 0 where
  pub offer : HasMade at n pair
  pub answer : Kept
  pub there : slice_get pair.sdps a ≡ Some answer
  pub tells : TellsSide answer.sdp (pair.sides (other_side at)).ice.local (pair.sides (other_side at)).ice.lite
  pub taken : (pair.sides (other_side at)).ice.remote ≡ creds_of offer.kept.sdp
  pub known : is_some (staged_restart offer.token.changes) ≡ false → AreCurrent pair.sides at
  pub half : AnswersHalf (pair.sides at).inited (pair.sides at).snap (pair.sides (other_side at)).snap.started offer.token.says_init
      (sdp_sctp_init answer.sdp)

-- nothing is outstanding, and what the sides have of each other is current
pub record AreAgreed (pair : PairStance) : Type 0 where
  pub current : (side : Side) → AreCurrent pair.sides side
  pub joined : (side : Side) → AreJoinedAt pair side

abbrev pub InRound : Phase → PairStance → Type 0
InRound Idle pair = AreAgreed pair
InRound (AwaitsAnswer at n said) pair = IsOfferOut at n pair
InRound (AwaitsEnd at n a said) pair = IsAnswerOut at n a pair

-- ---- steps that make no session description

-- what a round reads of a side
abbrev pub round_parts : Stance → IceSettings × Bool × KeptHalves
round_parts s = (s.ice, s.inited, s.snap)

-- it stays at both sides
abbrev pub SameSides : PairStance → PairStance → Type 0
SameSides old new = (side : Side) → round_parts (new.sides side) ≡ round_parts (old.sides side)

same_ice : (old new : PairStance) → SameSides old new → (side : Side) → (new.sides side).ice ≡ (old.sides side).ice
same_ice old new same side = ap (λ (c : IceSettings × Bool × KeptHalves). c.0) (same side)

same_inited : (old new : PairStance) → SameSides old new → (side : Side) → (new.sides side).inited ≡ (old.sides side).inited
same_inited old new same side = ap (λ (c : IceSettings × Bool × KeptHalves). c.1) (same side)

same_snap : (old new : PairStance) → SameSides old new → (side : Side) → (new.sides side).snap ≡ (old.sides side).snap
same_snap old new same side = ap (λ (c : IceSettings × Bool × KeptHalves). c.2) (same side)

current_stays : (old new : PairStance) → SameSides old new → (side : Side) → AreCurrent old.sides side → AreCurrent new.sides side
current_stays old new same side current =
    rw (same_ice old new same side, same_ice old new same (other_side side)) current

joined_stays : (old new : PairStance) → SameSides old new → (side : Side) → AreJoinedAt old side → AreJoinedAt new side
joined_stays old new same side joined =
    rw (same_snap old new same side, same_snap old new same (other_side side)) joined

made_stays : (at : Side) (n : ℕ) (old new : PairStance) → SameSides old new → new.sdps ≡ old.sdps → HasMade at n old → HasMade at n new
made_stays at n old new same kept made = record {
  kept = made.kept;
  token = made.token;
  there = ap (λ sdps. slice_get sdps n) kept ∙ made.there;
  mine = made.mine;
  has = made.has;
  says = made.says;
  half = rw (same_inited old new same at, same_snap old new same at) made.half;
  tells = rw (same_ice old new same at) made.tells;
}

pub round_stays : (phase : Phase) (old new : PairStance) → SameSides old new → new.sdps ≡ old.sdps → InRound phase old → InRound phase new
unfolding made_stays
round_stays Idle old new same kept agreed = record {
  current = λ side. current_stays old new same side (agreed.current side);
  joined = λ side. joined_stays old new same side (agreed.joined side);
}
round_stays (AwaitsAnswer at n said) old new same kept out = record {
  offer = made_stays at n old new same kept out.offer;
  current = λ side. current_stays old new same side (out.current side);
  joined = λ side. joined_stays old new same side (out.joined side);
}
round_stays (AwaitsEnd at n a said) old new same kept out = record {
  offer = made_stays at n old new same kept out.offer;
  answer = out.answer;
  there = ap (λ sdps. slice_get sdps a) kept ∙ out.there;
  tells = rw (same_ice old new same (other_side at)) out.tells;
  taken = ap (λ ice. ice.remote) (same_ice old new same (other_side at)) ∙ out.taken;
  known = λ none. current_stays old new same at (out.known none);
  half = rw (same_inited old new same at, same_snap old new same at, same_snap old new same (other_side at)) out.half;
}
