-- Glare (RFC 3264, section 4) between a polite and an impolite peer that are in step: the impolite one refuses the other offer, and the
-- polite one rolls its own back and accepts that of the impolite one; the answer ends the round (W3C WebRTC 1.0, section 10.7).
use Rattle.std.specs.Prelude.{◌≡◌, ◌+◌, ◌<◌, ◌^◌, ℕ, Bool, true, false, not, ◌&&◌, List, [], ◌∷◌, ◌++◌, length, Option, Some, None, is_some}
use Rattle.std.specs.List.{AllZip}
use Rattle.rtc_parts.specs.Among.{Member}
use Rattle.rtc_sdp_values.specs.declared.line_row.LineRow.{LineRow}
use Rattle.rtc_sdp_values.specs.declared.line_row.LineRow.TheVariants.{Media, App}
use Rattle.rtc_peer_core.specs.declared.rtc_error.RtcError.TheVariants.{Glare}
use Rattle.rtc_peer_core.specs.Meanings.{Meanings}
use Rattle.rtc_run_history.specs.declared.op.Op.{Op}
use Rattle.rtc_run_history.specs.declared.outcome.Outcome.{Outcome}
use Rattle.rtc_run_history.specs.declared.outcome.Outcome.TheVariants.{Answered, Finished, Done, Refused}
use Rattle.rtc_run_history.specs.declared.side.Side.{Side}
use Rattle.rtc_run_history.specs.declared.side.Side.TheVariants.{Left, Right}
use Rattle.rtc_run_history.specs.declared.step.Step.{Step}
use Rattle.rtc_run_history.specs.declared.step.Step.TheVariants.{Negotiate, AcceptOffer, AcceptAnswer, Rollback}
use Rattle.rtc_run_history.specs.declared.table.Table.{Table}
use Rattle.rtc_run_history.specs.Sides.{same_side, other_side}
use Rattle.rtc_run_history.specs.Past.{Entry, MadeSdp, steps_of, before, added_in, added_by}
use Rattle.rtc_run_history.specs.Outstanding.{offer_made}
use Rattle.rtc_run_history.specs.Finished.{Equal}
use Rattle.rtc_run_history.specs.Runs.{Reached}
use Rattle.rtc_run_history.specs.SaidRows.{are_live}
use Rattle.rtc_run_history.specs.Views.{Stances}
use Rattle.rtc_run_history.specs.Orderly.{AreInStep, can_connect, has_failed}
use Rattle.rtc_run_history.specs.PairState.{PairState, peer_at, rtc_at, stances_of}
use Rattle.rtc_run_history.specs.Performs.{Enters}

-- the numbers of the polite offer, of the impolite one, and of the answer to that
pub record CrossedNumbers : Type 0 where
  pub polite : ℕ
  pub impolite : ℕ
  pub answer : ℕ

-- the four steps behind the offers, if this side is the polite one
abbrev pub refusal_step : Side → CrossedNumbers → Step
refusal_step s n = AcceptOffer (other_side s) n.polite

abbrev pub rollback_step : Side → CrossedNumbers → Step
rollback_step s n = Rollback s n.polite

abbrev pub answer_step : Side → CrossedNumbers → Step
answer_step s n = AcceptOffer s n.impolite

abbrev pub end_step : Side → CrossedNumbers → Step
end_step s n = AcceptAnswer (other_side s) n.impolite n.answer

-- every order of them in which the rollback is before the acceptance of the other offer, and the refusal before that of the answer
abbrev pub orders : Side → CrossedNumbers → List (List Step)
orders s n =
    (refusal_step s n ∷ rollback_step s n ∷ answer_step s n ∷ end_step s n ∷ [])
    ∷ (rollback_step s n ∷ refusal_step s n ∷ answer_step s n ∷ end_step s n ∷ [])
    ∷ (rollback_step s n ∷ answer_step s n ∷ refusal_step s n ∷ end_step s n ∷ [])
    ∷ []

-- the steps from the two offers on, of which either is first, if so many session descriptions were made before
pub data IsCourse (s : Side) (next : ℕ) (ops others : List Op) (n : CrossedNumbers) (steps : List Step) : Type 0 where
  PoliteFirst : (order : List Step) → n ≡ record { polite = next; impolite = next + 1; answer = next + 2 } → Member order (orders s n)
      → steps ≡ Negotiate s ops true ∷ Negotiate (other_side s) others true ∷ order
      → IsCourse s next ops others n steps
  ImpoliteFirst : (order : List Step) → n ≡ record { polite = next + 1; impolite = next; answer = next + 2 } → Member order (orders s n)
      → steps ≡ Negotiate (other_side s) others true ∷ Negotiate s ops true ∷ order
      → IsCourse s next ops others n steps

-- steps are the first ones of others
abbrev pub BeginsWith : (first steps : List Step) → Type 0
BeginsWith first steps = (rest : List Step) × (steps ≡ first ++ rest)

-- neither side has a DTLS role, or the two are opposite
abbrev pub AreRolesParted : Option Bool → Option Bool → Type 0
AreRolesParted None None = Unit {0}
AreRolesParted (Some active) (Some other) = other ≡ not active
AreRolesParted role other = ⊥

abbrev pub is_passive : Option Bool → Bool
is_passive None = false
is_passive (Some active) = not active

-- two rows of one place, one kind and one mid
abbrev pub AreSameRow : LineRow → LineRow → Type 0
AreSameRow (Media place mid kind dir stopped remote_created) (Media place' mid' kind' dir' stopped' remote_created') =
    (place' ≡ place) × (mid' ≡ mid) × (kind' ≡ kind)
AreSameRow (App place mid) (App place' mid') = (place' ≡ place) × (mid' ≡ mid)
AreSameRow row other = ⊥

-- A polite side and an impolite one that may cross: they are in step, their DTLS roles fit, and one of the two makes checks.
pub record MayCross (s : Side) (rows others : List LineRow) (sides : Stances) : Type 0 where
  pub polite : (sides s).polite ≡ Some true
  pub impolite : (sides (other_side s)).polite ≡ Some false
  pub in_step : AreInStep rows others sides
  pub roles : AreRolesParted (sides Left).role (sides Right).role
  pub checks : can_connect sides ≡ true

-- a step that applies changes made an offer of them
abbrev pub MadeOffer : {E : Type 0} → Step → Outcome E → Type 0
MadeOffer (Negotiate at ops apply) outcome = is_some (offer_made outcome) ≡ true
MadeOffer step outcome = Unit {0}

-- an offer of the impolite side, and an answer, keep a row that is not stopped
abbrev pub KeepsLive : {E : Type 0} → (polite : Side) → Step → Outcome E → Option Table → List MadeSdp → Type 0
KeepsLive s (Negotiate at ops apply) outcome (Some table) made =
    same_side at s ≡ false
    → are_live (table.lines ++ added_in (length table.lines) (Negotiate at ops apply) outcome (Some table) made) ≡ true
KeepsLive s (AcceptOffer at k) (Answered a) (Some table) made = are_live table.lines ≡ true
KeepsLive s step outcome table made = Unit {0}

-- so it is with each of these entries
abbrev pub AreOffered : {E : Type 0} → (polite : Side) → List (Entry E) → Type 0
AreOffered s [] = Unit {0}
AreOffered s (entry ∷ past) =
    MadeOffer entry.step entry.outcome × KeepsLive s entry.step entry.outcome entry.table entry.made × AreOffered s past

module _ {I D S M E X T W N : Type 0} (m : Meanings I D S M E X T W N) (stun : List ℕ → Bool) where
  -- a pair continues through further entries, newest first
  abbrev pub GoesOn : PairState I D S M N → List (Entry E) → PairState I D S M N → Type 0
  GoesOn from [] pair = pair ≡ from
  GoesOn from (entry ∷ newer) pair = (between : PairState I D S M N) × GoesOn from newer between × Enters m stun between entry pair

  -- What each entry of the course owes: a refusal as glare, which changes nothing; a rollback, after which the rows of the polite side are
  -- those from before its offer; an answer; and the end of the round.
  pub record EntryMeets (s : Side) (n : CrossedNumbers) (stood : List LineRow) (between : PairState I D S M N) (entry : Entry E)
      (after : PairState I D S M N) : Type 0 where
    pub refused : entry.step ≡ refusal_step s n → entry.outcome ≡ Refused Glare
    pub unchanged : entry.step ≡ refusal_step s n → rtc_at (other_side s) after ≡ rtc_at (other_side s) between
    pub kept : entry.step ≡ refusal_step s n → after.sdps ≡ between.sdps
    pub rolled_back : entry.step ≡ rollback_step s n → entry.outcome ≡ Done
    pub undone : entry.step ≡ rollback_step s n → (peer_at s after).lines ≡ stood
    pub answered : entry.step ≡ answer_step s n → entry.outcome ≡ Answered n.answer
    pub finished : entry.step ≡ end_step s n → entry.outcome ≡ Finished

  -- so does each of these entries, newest first
  abbrev pub AllMeet : (s : Side) → CrossedNumbers → (stood : List LineRow) → (from : PairState I D S M N) → (entries : List (Entry E))
      → (pair : PairState I D S M N) → GoesOn from entries pair → Type 0
  AllMeet s n stood from [] pair went = Unit {0}
  AllMeet s n stood from (entry ∷ newer) pair went =
      AllMeet s n stood from newer went.0 went.1 × EntryMeets s n stood went.0 entry pair

  -- What the whole course leaves: equal lines, which are the rows from before and then those that the impolite side added, and no others;
  -- and at most one side is passive in the handshake of DTLS.
  pub record HaveMet (s : Side) (stood added : List LineRow) (pair : PairState I D S M N) : Type 0 where
    pub equal : Equal (peer_at s pair).lines (peer_at (other_side s) pair).lines
    pub rows : (at : Side) → AllZip AreSameRow (stood ++ added) (peer_at at pair).lines
    pub parted : (is_passive (peer_at Left pair).dtls.active && is_passive (peer_at Right pair).dtls.active) ≡ false

  -- If a run passed through the entries of a course, or through the first of them: both offers were made, the impolite one and the answer
  -- to it keep a live row, and no reply reports that memory ran out or that a part failed. Then each entry meets what it owes, and at the
  -- end both sides have met.
  pub record Crosses (earlier crossing : List (Entry E)) (from pair : PairState I D S M N) (went : GoesOn from crossing pair)
      : Type 0 where
    pub meets : (s : Side) (ops others : List Op) (n : CrossedNumbers) (course : List Step)
        → MayCross s (before Left earlier) (before Right earlier) (stances_of m from)
        → IsCourse s (length from.sdps) ops others n course
        → BeginsWith (steps_of crossing) course
        → AreOffered s crossing
        → has_failed crossing ≡ false
        → AllMeet s n (before s earlier) from crossing pair went
    pub met : (s : Side) (ops others : List Op) (n : CrossedNumbers)
        → MayCross s (before Left earlier) (before Right earlier) (stances_of m from)
        → IsCourse s (length from.sdps) ops others n (steps_of crossing)
        → AreOffered s crossing
        → has_failed crossing ≡ false
        → HaveMet s (before s earlier) (added_by (length (before (other_side s) earlier)) n.impolite (crossing ++ earlier)) pair

  -- So it is for each such part of a run of formed peers, whose steps have a size below 2^32.
  abbrev pub CrossedOffersMeet : (start : PairState I D S M N) → Type 0
  CrossedOffersMeet start =
      (earlier crossing : List (Entry E)) (from pair : PairState I D S M N)
      → Reached m stun start earlier from
      → (went : GoesOn from crossing pair)
      → pair.size < 2 ^ 32
      → Crosses earlier crossing from pair went
