-- The DTLS roles of both sides where offers cross: the answer says that of the polite side, and the other one is opposite (RFC 8842,
-- section 5).
use Rattle.std.proofs.Common.{not, ◌≡◌, ◌≢◌, ◌&&◌, ◌++◌, ℕ, Bool, true, false, true≢false, List, [], ◌∷◌, length, map, Option, Some, None, refl, sym, ◌∙◌, ap, subst, inl, inr}
use Rattle.std.specs.Option.{option_or}
use Rattle.std.specs.Prelude.{slice_get}
use Rattle.std.proofs.lemmas.Bool.{eq-eqb}
use Rattle.rtc_wire_text.specs.Fields.{first}
use Rattle.rtc_sdp_values.specs.Sdp.{sdp_setup}
use Rattle.rtc_sdp_values.specs.declared.media_line.MediaLine.{MediaLine}
use Rattle.rtc_sdp_values.specs.declared.sdp.Sdp.{Sdp}
use Rattle.rtc_sdp_values.specs.declared.setup.Setup.{Setup}
use Rattle.rtc_sdp_writer.specs.AsRead.{as_read, line_as_read}
use Rattle.rtc_change.specs.PendingOffer.{PendingOffer}
use Rattle.rtc_peer_core.specs.declared.sdp_head.SdpHead.{SdpHead}
use Rattle.rtc_peer_core.specs.declared.told_row.ToldRow.{ToldRow}
use Rattle.rtc_peer_core.specs.MadeSdp.{answer_head, answer_sdp, answered_told, role_after, sdp_of_rows, setup_of_role}
use Rattle.rtc_peer_core.specs.SdpHalves.{answer_init}
use Rattle.rtc_peer_core.specs.Stance.{Stance}
use Rattle.rtc_peer_core.proofs.StanceTaken.{StandsAnswer, StandsOffer}
use Rattle.rtc_run_history.specs.declared.kept.Kept.{Kept}
use Rattle.rtc_run_history.specs.declared.side.Side.{Side}
use Rattle.rtc_run_history.specs.declared.side.Side.TheVariants.{Left, Right}
use Rattle.rtc_run_history.specs.PairState.{kept_remote_sdp}
use Rattle.rtc_run_history.specs.Past.{Entry, sdps}
use Rattle.rtc_run_history.specs.Performs.{kept_answer}
use Rattle.rtc_run_history.specs.Sides.{other_side}
use Rattle.rtc_run_history.specs.Signalled.{Readable}
use Rattle.rtc_run_history.specs.SoundEntry.{AreReadBack}
use Rattle.rtc_run_history.specs.Views.{Stances}
use Rattle.rtc_run_laws.specs.Crossed.{AreRolesParted, is_passive}
use Rattle.rtc_run_laws.proofs.OrderlyRuns.{delivered_at, kept_read}
use Rattle.rtc_run_laws.proofs.PushedLists.{push_places}
use Rattle.rtc_run_laws.proofs.StanceSteps.{PairStance, lent}
use Rattle.rtc_run_laws.proofs.Tells.{Tells}

-- ---- what a session description says of the role of its side

first_read : (lines : List MediaLine) → first (λ line. line.setup) (map line_as_read lines) ≡ first (λ line. line.setup) lines
first_read [] = refl
first_read (line ∷ lines) = rw (first_read lines) refl

setup_as_read : (sdp : Sdp) → sdp_setup (as_read sdp) ≡ sdp_setup sdp
setup_as_read sdp = ap (λ (found : Option Setup). option_or sdp.setup found) (first_read sdp.lines)

head_setup : (sdp : Sdp) (head : SdpHead) (told : List ToldRow) → sdp ≡ sdp_of_rows head told → length sdp.lines ≢ 0 → sdp_setup sdp ≡ Some head.setup
head_setup sdp head [] is some = absurd (some (ap (λ (s : Sdp). length s.lines) is))
head_setup sdp head (one ∷ told) is some = ap sdp_setup is

answer_says : (s : Stance) (offer answer : Sdp) (t : Stance) → StandsOffer s offer answer t → length answer.lines ≢ 0 → sdp_setup answer ≡ Some (setup_of_role (role_after s.role (sdp_setup offer)))
unfolding answer_sdp
answer_says s offer answer t h some = head_setup answer (answer_head s h.restart (answer_init s.inited s.snap h.halves) offer) (answered_told s h.told offer) h.answered some

-- ---- roles

-- the other side has no role yet, or the opposite one
abbrev pub FitsRole : Bool → Option Bool → Type 0
FitsRole role None = Unit {0}
FitsRole role (Some other) = other ≡ not role

not_again : (a b : Bool) → b ≡ not a → a ≡ not b
not_again true b is = rw is refl
not_again false b is = rw is refl

parted_back : (role other : Option Bool) → AreRolesParted role other → AreRolesParted other role
parted_back None None parted = tt
parted_back (Some role) (Some other) parted = not_again role other parted
parted_back None (Some other) parted = absurd parted
parted_back (Some role) None parted = absurd parted

-- seen from one of the sides
pub parted_at : (s : Side) (sides : Stances) → AreRolesParted (sides Left).role (sides Right).role → AreRolesParted (sides s).role (sides (other_side s)).role
parted_at Left sides parted = parted
parted_at Right sides parted = parted_back (sides Left).role (sides Right).role parted

fits_of : (role other : Option Bool) (told : Option Setup) → AreRolesParted role other → FitsRole (role_after role told) other
fits_of None None told parted = tt
fits_of (Some role) (Some other) told parted = parted
fits_of None (Some other) told parted = absurd parted
fits_of (Some role) None told parted = absurd parted

last_there : (kept kept' : List Kept) (last : Kept) → kept' ≡ kept ++ last ∷ [] → slice_get kept' (length kept) ≡ Some last
last_there kept kept' last pushed = elim (push_places kept last (length kept)) [
  | inl h ↦ absurd (true≢false (sym (eq-eqb (length kept) (length kept) refl) ∙ h.0))
  | inr h ↦ ap (λ (l : List Kept). slice_get l (length kept)) pushed ∙ h.2
]

-- ---- through the round

-- A side that has answered has its role, which its answer says, and the other one has none, or the opposite one.
pub record HasRole (s : Side) (m : ℕ) (pair : PairStance) : Type 0 where
  pub role : Bool
  pub own : (pair.sides s).role ≡ Some role
  pub fits : FitsRole role (pair.sides (other_side s)).role
  pub answer : Kept
  pub there : slice_get pair.sdps m ≡ Some answer
  pub says : sdp_setup answer.sdp ≡ Some (setup_of_role role)

pub role_answered : (s : Side) (sdp answer : Sdp) (old new : PairStance) → AreRolesParted (old.sides Left).role (old.sides Right).role → StandsOffer (lent (old.sides s)) sdp answer (new.sides s)
    → new.sides (other_side s) ≡ old.sides (other_side s) → new.sdps ≡ old.sdps ++ kept_answer s answer ∷ [] → length answer.lines ≢ 0 → HasRole s (length old.sdps) new
role_answered s sdp answer old new parted stands other pushed some =
    let role : Bool = role_after (old.sides s).role (sdp_setup sdp) in
    record {
      role = role;
      own = ap (λ (p : Stance). p.role) stands.rest;
      fits = subst (λ (p : Stance). FitsRole role p.role) (sym other) (fits_of (old.sides s).role (old.sides (other_side s)).role (sdp_setup sdp) (parted_at s old.sides parted));
      answer = kept_answer s answer;
      there = last_there old.sdps new.sdps (kept_answer s answer) pushed;
      says = answer_says (lent (old.sides s)) sdp answer (new.sides s) stands some;
    }

-- it stays where roles and session descriptions do
pub role_kept : (s : Side) (m : ℕ) (old new : PairStance) → ((at : Side) → (new.sides at).role ≡ (old.sides at).role) → new.sdps ≡ old.sdps → HasRole s m old → HasRole s m new
role_kept s m old new same kept has = record {
  role = has.role;
  own = same s ∙ has.own;
  fits = subst (λ (r : Option Bool). FitsRole has.role r) (sym (same (other_side s))) has.fits;
  answer = has.answer;
  there = ap (λ (l : List Kept). slice_get l m) kept ∙ has.there;
  says = has.says;
}

opposite : (role : Bool) (other : Option Bool) → FitsRole role other → role_after other (Some (setup_of_role role)) ≡ not role
opposite true None fits = refl
opposite false None fits = refl
opposite role (Some other) fits = fits

-- at most one of two sides with opposite roles is passive
pub not_both : (s : Side) (sides : Stances) (role : Bool) → (sides s).role ≡ Some role → (sides (other_side s)).role ≡ Some (not role) → (is_passive (sides Left).role && is_passive (sides Right).role) ≡ false
not_both Left sides true own other = rw own refl
not_both Left sides false own other = rw (own, other) refl
not_both Right sides true own other = rw (own, other) refl
not_both Right sides false own other = rw (own, other) refl

-- At the end of the round at most one side is passive.
pub roles_ended : {E : Type 0} → (past : List (Entry E)) (s : Side) (m : ℕ) (token : PendingOffer) (sdp : Sdp) (old new : PairStance) → Tells past old → AreReadBack (sdps past) → HasRole s m old
    → kept_remote_sdp false old.sdps (other_side s) m ≡ Readable sdp → StandsAnswer (lent (old.sides (other_side s))) token sdp (new.sides (other_side s)) → new.sides s ≡ old.sides s
    → (is_passive (new.sides Left).role && is_passive (new.sides Right).role) ≡ false
roles_ended past s m token sdp old new tells read has remote stands same =
    let there : as_read has.answer.sdp ≡ sdp = delivered_at old false (other_side s) m has.answer sdp (kept_read past old m has.answer tells read has.there) has.there remote in
    let told : sdp_setup sdp ≡ Some (setup_of_role has.role) = ap sdp_setup (sym there) ∙ setup_as_read has.answer.sdp ∙ has.says in
    not_both s new.sides has.role (ap (λ (p : Stance). p.role) same ∙ has.own)
    (ap (λ (p : Stance). p.role) stands.rest ∙ ap (λ (setup : Option Setup). Some (role_after (old.sides (other_side s)).role setup)) told
    ∙ ap (λ (b : Bool). Some b) (opposite has.role (old.sides (other_side s)).role has.fits))
