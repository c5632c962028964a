-- The roles of plain DTLS parts, and the packets of their handshake by their marks.
use Rattle.std.proofs.Common.{◌≡◌, ◌∙◌, ◌∷◌, ◌==◌, inl, inr, ℕ, Bool, true, false, if◌then◌else◌, List, [], length, Option, Some, None, refl, sym, ap, arith}
use Rattle.std.specs.Prelude.{nat_le}
use Rattle.std.proofs.lemmas.Bool.{eqb-true}
use Rattle.rtc_parts.specs.Among.{Member}
use Rattle.rtc_plain_dtls.specs.declared.phase.Phase.{Phase}
use Rattle.rtc_plain_dtls.specs.declared.phase.Phase.TheVariants.{NoRole, AwaitStart, AwaitCert, AwaitHello, AwaitFinish, FinishedActive, FinishedPassive}
use Rattle.rtc_plain_dtls.specs.Frames as said
use Rattle.rtc_plain_dtls.specs.Frames.{DtlsFrame, alert_in, alone, dtls_frame_in, handshake_in}
use Rattle.rtc_plain_dtls.specs.Contents.{DtlsContents}
use Rattle.rtc_plain_dtls.specs.Calls.{role_taken}
use Rattle.rtc_peer_laws.specs.PeerActs.{first_role}

-- the role that a phase is of
abbrev pub role_in : Phase → Option Bool
role_in NoRole = None
role_in AwaitStart = Some true
role_in AwaitCert = Some true
role_in AwaitHello = Some false
role_in AwaitFinish = Some false
role_in FinishedActive = Some true
role_in FinishedPassive = Some false

-- the first role stays
pub role_takes : (active : Bool) (phase : Phase) → role_in (role_taken active phase) ≡ first_role (role_in phase) active
role_takes true NoRole = refl
role_takes false NoRole = refl
role_takes true AwaitStart = refl
role_takes false AwaitStart = refl
role_takes true AwaitCert = refl
role_takes false AwaitCert = refl
role_takes true AwaitHello = refl
role_takes false AwaitHello = refl
role_takes true AwaitFinish = refl
role_takes false AwaitFinish = refl
role_takes true FinishedActive = refl
role_takes false FinishedActive = refl
role_takes true FinishedPassive = refl
role_takes false FinishedPassive = refl

-- ---- packets of the handshake

-- a packet with this mark of the handshake is among some
abbrev pub HasMarked : (mark : ℕ) → List (List ℕ) → Type 0
HasMarked mark l = (rest : List ℕ) × Member (22 ∷ mark ∷ rest) l

-- a side that is finished got the certificate, as the active one, or the hello, as the passive one
abbrev pub CameAt : List (List ℕ) → Phase → Type 0
CameAt l NoRole = Unit {0}
CameAt l AwaitStart = Unit {0}
CameAt l AwaitCert = Unit {0}
CameAt l AwaitHello = Unit {0}
CameAt l AwaitFinish = HasMarked 1 l
CameAt l FinishedActive = HasMarked 2 l
CameAt l FinishedPassive = HasMarked 1 l

-- packets with a mark are queued at a side of this role alone
abbrev pub QueuedBy : (mark : ℕ) → Bool → DtlsContents → Type 0
QueuedBy mark role p = (rest : List ℕ) → Member (22 ∷ mark ∷ rest) p.packets → role_in p.phase ≡ Some role

abbrev second_byte : List ℕ → ℕ
second_byte [] = 0
second_byte (a ∷ []) = 0
second_byte (a ∷ b ∷ l) = b

abbrev first_byte : List ℕ → ℕ
first_byte [] = 0
first_byte (a ∷ l) = a

-- the one packet with a mark
pub same_mark : (mark other : ℕ) (rest bytes : List ℕ) → Member (22 ∷ mark ∷ rest) ((22 ∷ other ∷ bytes) ∷ []) → mark ≡ other
same_mark mark other rest bytes (inl h) = ap second_byte h
same_mark mark other rest bytes (inr h) = absurd h

pub one_two : ◌≡◌ {A = ℕ} 1 2 → ⊥
one_two h = absurd (omega (arith, h))

pub one_three : ◌≡◌ {A = ℕ} 1 3 → ⊥
one_three h = absurd (omega (arith, h))

pub two_one : ◌≡◌ {A = ℕ} 2 1 → ⊥
two_one h = absurd (omega (arith, h))

pub two_three : ◌≡◌ {A = ℕ} 2 3 → ⊥
two_three h = absurd (omega (arith, h))

pub other_kind : (kind mark : ℕ) (rest bytes : List ℕ) → (22 ≡ kind → ⊥) → Member (22 ∷ mark ∷ rest) ((kind ∷ bytes) ∷ []) → ⊥
other_kind kind mark rest bytes ne (inl h) = ne (ap first_byte h)
other_kind kind mark rest bytes ne (inr h) = h

-- ---- what frames say

abbrev pub frame_mark : DtlsFrame → ℕ
frame_mark said.Start = 0
frame_mark (said.Hello cert) = 1
frame_mark (said.Certificate cert) = 2
frame_mark said.Finish = 0
frame_mark (said.Data bytes) = 0
frame_mark said.Close = 0
frame_mark said.Unknown = 0

alone_mark : (frame : DtlsFrame) (bytes : List ℕ) → frame_mark frame ≡ 0 → frame_mark (alone frame bytes) ≡ 0
alone_mark frame [] h = h
alone_mark frame (b ∷ bytes) h = refl

module _ (mark : ℕ) (some : mark ≡ 0 → ⊥) where
  hand_marked : (bytes : List ℕ) → frame_mark (handshake_in bytes) ≡ mark → (rest : List ℕ) × (bytes ≡ mark ∷ rest)
  hand_marked [] h = absurd (some (sym h))
  hand_marked (m ∷ bytes) h = short (nat_le (length bytes) 1900) h
    where
      third : (b : Bool) → frame_mark (if b then alone said.Finish bytes else said.Unknown) ≡ mark → ⊥
      third true k = some (sym k ∙ alone_mark said.Finish bytes refl)
      third false k = some (sym k)

      second : (b : Bool) → (m == 2) ≡ b
          → frame_mark (if b then said.Certificate bytes else if m == 3 then alone said.Finish bytes else said.Unknown) ≡ mark
          → (rest : List ℕ) × (m ∷ bytes ≡ mark ∷ rest)
      second true e k = (bytes, ap (λ (n : ℕ). n ∷ bytes) (eqb-true m 2 e ∙ k))
      second false e k = absurd (third (m == 3) k)

      first : (b : Bool) → (m == 1) ≡ b
          → frame_mark (if b then said.Hello bytes else if m == 2 then said.Certificate bytes else if m == 3 then alone said.Finish bytes else said.Unknown)
          ≡ mark
          → (rest : List ℕ) × (m ∷ bytes ≡ mark ∷ rest)
      first true e k = (bytes, ap (λ (n : ℕ). n ∷ bytes) (eqb-true m 1 e ∙ k))
      first false e k = second (m == 2) refl k

      short : (b : Bool)
          → frame_mark
          (if b
          then (if m == 1 then said.Hello bytes else if m == 2 then said.Certificate bytes else if m == 3 then alone said.Finish bytes else said.Unknown)
          else said.Unknown)
          ≡ mark
          → (rest : List ℕ) × (m ∷ bytes ≡ mark ∷ rest)
      short true k = first (m == 1) refl k
      short false k = absurd (some (sym k))

  alert_mark : (bytes : List ℕ) → frame_mark (alert_in bytes) ≡ mark → ⊥
  alert_mark [] h = some (sym h)
  alert_mark (m ∷ bytes) h = by (m == 1) h
    where
      by : (b : Bool) → frame_mark (if b then alone said.Close bytes else said.Unknown) ≡ mark → ⊥
      by true k = some (sym k ∙ alone_mark said.Close bytes refl)
      by false k = some (sym k)

  -- a packet that says so has the mark
  pub marked_packet : (packet : List ℕ) → frame_mark (dtls_frame_in packet) ≡ mark → (rest : List ℕ) × (packet ≡ 22 ∷ mark ∷ rest)
  marked_packet [] h = absurd (some (sym h))
  marked_packet (kind ∷ bytes) h = first (kind == 23) h
    where
      third : (b : Bool) → frame_mark (if b then alert_in bytes else said.Unknown) ≡ mark → ⊥
      third true k = alert_mark bytes k
      third false k = some (sym k)

      second : (b : Bool) → (kind == 22) ≡ b
          → frame_mark (if b then handshake_in bytes else if kind == 21 then alert_in bytes else said.Unknown) ≡ mark
          → (rest : List ℕ) × (kind ∷ bytes ≡ 22 ∷ mark ∷ rest)
      second true e k =
          let it = hand_marked bytes k in
          (it.0, ap (λ (n : ℕ). n ∷ bytes) (eqb-true kind 22 e) ∙ ap (λ (l : List ℕ). 22 ∷ l) it.1)
      second false e k = absurd (third (kind == 21) k)

      plain : (b : Bool) → frame_mark (if b then said.Data bytes else said.Unknown) ≡ mark → ⊥
      plain true k = some (sym k)
      plain false k = some (sym k)

      first : (b : Bool)
          → frame_mark
          (if b then (if nat_le (length bytes) 1900 then said.Data bytes else said.Unknown)
          else if kind == 22 then handshake_in bytes else if kind == 21 then alert_in bytes else said.Unknown)
          ≡ mark
          → (rest : List ℕ) × (kind ∷ bytes ≡ 22 ∷ mark ∷ rest)
      first true k = absurd (plain (nat_le (length bytes) 1900) k)
      first false k = second (kind == 22) refl k
