-- The payload type that parameters name, where their pairs are cut off one by one.
use Rattle.std.proofs.Common.{◌≡◌, ◌∙◌, ◌<◌, ℕ, List, length, Option, Some, None, refl, sym, ap, subst}
use Rattle.std.specs.Option.{option_or}
use Rattle.rtc_wire_text.specs.Cuts.{cut}
use Rattle.rtc_wire_text.specs.Fields.{first}
use Rattle.rtc_sdp_attributes.specs.Forms.{front_of}
use Rattle.rtc_sdp_attributes.specs.AttributeForms.{apt, apt_pair, behind_pair, behind_halves, behind_other}
use Rattle.rtc_sdp_attributes.proofs.PlaceLemmas.{parts_none, parts_some, shorter}

or_none : (o : Option ℕ) → option_or o None ≡ o
or_none None = refl
or_none (Some n) = refl

-- the first pair, and the rest
apt_parted : (text front behind : List ℕ) → Some (front, behind) ≡ cut 59 text → apt text ≡ option_or (apt_pair front) (apt behind)
apt_parted text front behind h = ap (first apt_pair) (parts_some 59 text front behind h)

-- the only pair
apt_alone : (text : List ℕ) → None ≡ cut 59 text → apt text ≡ apt_pair text
apt_alone text h = ap (first apt_pair) (parts_none 59 text h) ∙ or_none (apt_pair text)

passed : (text front behind rest : List ℕ) (named : Option ℕ) → named ≡ apt_pair front → Some (front, behind) ≡ cut 59 text → Some rest ≡ behind_pair named behind
    → (apt rest ≡ apt text) × (length rest < length text)
passed text front behind rest None e h k =
    let same : behind ≡ rest = cc in
    let found : apt text ≡ apt behind = apt_parted text front behind h ∙ ap (λ (o : Option ℕ). option_or o (apt behind)) (sym e) in
    subst (λ (l : List ℕ). (apt l ≡ apt text) × (length l < length text)) same (sym found, shorter 59 text (front, behind) h)
passed text front behind rest (Some n) e h k = absurd cc

passed_by_cut : (text rest : List ℕ) (found : Option (List ℕ × List ℕ)) → found ≡ cut 59 text → Some rest ≡ behind_halves found
    → (apt rest ≡ apt text) × (length rest < length text)
passed_by_cut text rest None e k = absurd cc
passed_by_cut text rest (Some halves) e k = passed text halves.0 halves.1 rest (apt_pair halves.0) refl e k

-- a pair that names no payload type is passed over
pub apt_next : (text rest : List ℕ) → Some rest ≡ behind_other text → apt rest ≡ apt text
apt_next text rest k = (passed_by_cut text rest (cut 59 text) refl k).0

pub apt_shorter : (text rest : List ℕ) → Some rest ≡ behind_other text → length rest < length text
apt_shorter text rest k = (passed_by_cut text rest (cut 59 text) refl k).1

named_here : (text front behind : List ℕ) (named : Option ℕ) → named ≡ apt_pair front → Some (front, behind) ≡ cut 59 text → None ≡ behind_pair named behind
    → apt_pair front ≡ apt text
named_here text front behind None e h k = absurd cc
named_here text front behind (Some n) e h k =
    sym e ∙ sym (apt_parted text front behind h ∙ ap (λ (o : Option ℕ). option_or o (apt behind)) (sym e))

done_by_cut : (text : List ℕ) (found : Option (List ℕ × List ℕ)) → found ≡ cut 59 text → None ≡ behind_halves found → apt_pair (front_of text found) ≡ apt text
done_by_cut text None e k = sym (apt_alone text e)
done_by_cut text (Some halves) e k = named_here text halves.0 halves.1 (apt_pair halves.0) refl e k

-- the first pair names one, or is the last
pub apt_done : (text : List ℕ) → None ≡ behind_other text → apt_pair (front_of text (cut 59 text)) ≡ apt text
apt_done text k = done_by_cut text (cut 59 text) refl k
