-- What was done to a DTLS part, as a list of acts. The acts follow from the meaning of the calls.
use Rattle.std.specs.Prelude.{ℕ, ◌≡◌, Bool, true, List, [], ◌∷◌, ◌++◌, Result, Ok, Err, refl}
use Rattle.std.proofs.Common.{subst}
use Rattle.std.specs.declared.alloc.AllocError.{AllocError}
use Rattle.rtc_parts.specs.declared.dtls_error.DtlsError.{DtlsError}
use Rattle.rtc_parts.specs.declared.dtls_version.DtlsVersion.{DtlsVersion}
use Rattle.rtc_parts.specs.DtlsDrawn.{DtlsDrawn, DrewPacket, DrewData, tells}
use Rattle.rtc_parts.specs.DtlsMeaning.{DtlsMeaning}

-- a call by which nothing was given, taken, sent or got, with its arguments and its result
pub data DtlsCall : Type 0 where
  CertificateSet : (cert : List ℕ) (answer : Result (Unit {0}) AllocError) → DtlsCall
  Activated : (active : Bool) → DtlsCall
  VersionSet : (version : DtlsVersion) → DtlsCall
  SendRefused : (bytes : List ℕ) (cause : DtlsError) → DtlsCall
  TimedAt : (moment : ℕ) (answer : Result (Unit {0}) DtlsError) → DtlsCall
  Closed : (answer : Result (Unit {0}) DtlsError) → DtlsCall
  Showed : (drawn : DtlsDrawn) → DtlsCall

-- one act: a packet that was received or sent, application data that was sent or received, or another call
pub data DtlsAct : Type 0 where
  Given : (packet : List ℕ) → DtlsAct
  Taken : (packet : List ℕ) → DtlsAct
  Sent : (bytes : List ℕ) → DtlsAct
  Got : (bytes : List ℕ) → DtlsAct
  Stirred : (call : DtlsCall) → DtlsAct

-- a call took the part from p to q
abbrev pub DtlsCalled : {D : Type 0} → DtlsMeaning D → D → DtlsCall → D → Type 0
DtlsCalled m p (CertificateSet cert answer) q = m.certificate_set p cert answer q
DtlsCalled m p (Activated active) q = m.activated p active q
DtlsCalled m p (VersionSet version) q = m.version_set p version q
DtlsCalled m p (SendRefused bytes cause) q = m.sent p bytes (Err cause) q
DtlsCalled m p (TimedAt moment answer) q = m.timed p moment answer q
DtlsCalled m p (Closed answer) q = m.shut p answer q
DtlsCalled m p (Showed drawn) q = (tells drawn ≡ true) × m.polled p drawn q

-- an act took the part from p to q
abbrev pub DtlsActed : {D : Type 0} → DtlsMeaning D → D → DtlsAct → D → Type 0
DtlsActed m p (Given packet) q = (answer : Result (Unit {0}) DtlsError) × m.given p packet answer q
DtlsActed m p (Taken packet) q = m.polled p (DrewPacket packet) q
DtlsActed m p (Sent bytes) q = m.sent p bytes (Ok tt) q
DtlsActed m p (Got bytes) q = m.polled p (DrewData bytes) q
DtlsActed m p (Stirred call) q = DtlsCalled m p call q

-- a list of acts took the part from p to q
abbrev pub DtlsMoved : {D : Type 0} → DtlsMeaning D → D → List DtlsAct → D → Type 0
DtlsMoved m p [] q = q ≡ p
DtlsMoved {D} m p (act ∷ acts) q = (r : D) × (DtlsActed m p act r × DtlsMoved m r acts q)

-- two moves join to one
pub dtls_moved-append : {D : Type 0} (m : DtlsMeaning D) (a b c : D) (xs ys : List DtlsAct) → DtlsMoved m a xs b
    → DtlsMoved m b ys c → DtlsMoved m a (xs ++ ys) c
dtls_moved-append {D} m a b c [] ys h k = subst (λ (x : D). DtlsMoved m x ys c) h k
dtls_moved-append m a b c (x ∷ xs) ys h k = (h.0, (h.1.0, dtls_moved-append m h.0 b c xs ys h.1.1 k))

-- one act is a move
pub dtls_moved-one : {D : Type 0} (m : DtlsMeaning D) (a b : D) (act : DtlsAct) → DtlsActed m a act b → DtlsMoved m a (act ∷ []) b
dtls_moved-one m a b act h = (b, (h, refl))
