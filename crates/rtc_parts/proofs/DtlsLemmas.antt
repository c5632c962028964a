-- What lists of acts of a DTLS part gave, took, sent and got.
use Rattle.std.proofs.Common.{◌≡◌, ℕ, List, [], ◌∷◌, ◌++◌, refl, ap, subst}
use Rattle.rtc_parts.specs.DtlsDrawn.{DrewPacket}
use Rattle.rtc_parts.specs.DtlsMeaning.{DtlsMeaning}
use Rattle.rtc_parts.specs.DtlsActs.{DtlsAct, DtlsMoved, Given, Taken, Sent, Got}
use Rattle.rtc_parts.specs.DtlsWords.{dtls_given, dtls_taken, dtls_sent, dtls_got, takes}

pub dtls_given-append : (xs ys : List DtlsAct) → dtls_given (xs ++ ys) ≡ dtls_given xs ++ dtls_given ys
dtls_given-append [] ys = refl
dtls_given-append (Given b ∷ xs) ys = ap (λ l. b ∷ l) (dtls_given-append xs ys)
dtls_given-append (_ ∷ xs) ys = dtls_given-append xs ys

pub dtls_taken-append : (xs ys : List DtlsAct) → dtls_taken (xs ++ ys) ≡ dtls_taken xs ++ dtls_taken ys
dtls_taken-append [] ys = refl
dtls_taken-append (Taken b ∷ xs) ys = ap (λ l. b ∷ l) (dtls_taken-append xs ys)
dtls_taken-append (_ ∷ xs) ys = dtls_taken-append xs ys

pub dtls_sent-append : (xs ys : List DtlsAct) → dtls_sent (xs ++ ys) ≡ dtls_sent xs ++ dtls_sent ys
dtls_sent-append [] ys = refl
dtls_sent-append (Sent b ∷ xs) ys = ap (λ l. b ∷ l) (dtls_sent-append xs ys)
dtls_sent-append (_ ∷ xs) ys = dtls_sent-append xs ys

pub dtls_got-append : (xs ys : List DtlsAct) → dtls_got (xs ++ ys) ≡ dtls_got xs ++ dtls_got ys
dtls_got-append [] ys = refl
dtls_got-append (Got b ∷ xs) ys = ap (λ l. b ∷ l) (dtls_got-append xs ys)
dtls_got-append (_ ∷ xs) ys = dtls_got-append xs ys

-- one more packet is taken
pub takes_more : {D : Type 0} (m : DtlsMeaning D) (p q r : D) (packets : List (List ℕ)) (packet : List ℕ) → DtlsMoved m p (takes packets) q → m.polled q (DrewPacket packet) r → DtlsMoved m p (takes (packets ++ packet ∷ [])) r
takes_more {D} m p q r [] packet h k = (r, (subst (λ (x : D). m.polled x (DrewPacket packet) r) h k, refl))
takes_more m p q r (x ∷ packets) packet h k = (h.0, (h.1.0, takes_more m h.0 q r packets packet h.1.1 k))

-- a move of joined lists goes by a part between
pub dtls_moved-split : {D : Type 0} (m : DtlsMeaning D) (p q : D) (xs ys : List DtlsAct) → DtlsMoved m p (xs ++ ys) q → (r : D) × (DtlsMoved m p xs r × DtlsMoved m r ys q)
dtls_moved-split m p q [] ys h = (p, (refl, h))
dtls_moved-split m p q (x ∷ xs) ys h = let rest = dtls_moved-split m h.0 q xs ys h.1.1 in (rest.0, ((h.0, (h.1.0, rest.1.0)), rest.1.1))
