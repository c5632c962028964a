-- Parameters that are written are read back.
use Rattle.rtc_wire_text.specs.Numbers.{number_up_to}
use Rattle.std.proofs.Common.{◌≡◌, ℕ, ◌^◌, ◌<◌, ◌≤◌, true, List, [], ◌∷◌, ◌++◌, length, Some, refl, ap, ◌∙◌, arith, rules, Option}
use Rattle.std.specs.Prelude.{codes, option_map}
use Rattle.std.specs.Fmt.{decimal}
use Rattle.std.proofs.lemmas.Bool.{ne_eqb, lt-ltb}
use Rattle.rtc_wire_text.specs.Cuts.{Lacks}
use Rattle.rtc_wire_text.specs.Fields.{first}
use Rattle.rtc_wire_text.proofs.CutLemmas.{cut-append, no_digit, lacks-append, parts_one, printable_lacks}
use Rattle.rtc_wire_text.proofs.NumberLemmas.{number_up_to-decimal, decimal_lacks}
use Rattle.rtc_sdp_attributes.specs.Forms.{filled, is_filled, front_of}
use Rattle.rtc_sdp_attributes.specs.AttributeForms.{fmtp as fmtp_form, fmtp_made, apt, apt_pair, red_primary}
use Rattle.rtc_sdp_attributes.specs.AttributeTexts.{fmtp_text, apt_text, red_text}
use Rattle.rtc_sdp_attributes.proofs.FormLemmas.{passing_again, parted_again}

small : (pt : ℕ) → pt ≤ 127 → pt < 2 ^ 64
small pt le = omega arith

pub fmtp_again : (pt : ℕ) (text : List ℕ) → pt ≤ 127 → 0 < length text → fmtp_form (fmtp_text pt text) ≡ Some (record { pt = record { 0 = pt }; text = text })
unfolding fmtp_text
fmtp_again pt text le some =
    let some_bytes : is_filled text ≡ true = lt-ltb _ _ some in
    ap (option_map fmtp_made) (parted_again 32 (number_up_to 127) filled (decimal pt) text pt text (decimal_lacks 32 refl pt (small pt le)) (number_up_to-decimal 127 pt le (small pt le)) (passing_again is_filled text some_bytes))

pub fmtp_lacks : (byte : ℕ) → byte < 32 → (pt : ℕ) (text : List ℕ) → pt ≤ 127 → Lacks byte text → Lacks byte (fmtp_text pt text)
unfolding fmtp_text
fmtp_lacks byte low pt text le h =
    lacks-append byte (decimal pt) (32 ∷ text) (decimal_lacks byte (no_digit byte (omega arith)) pt (small pt le)) (ne_eqb 32 byte (λ e. omega arith), h)

-- the primary of a retransmission
pub apt_again : (pt : ℕ) → pt ≤ 127 → apt (apt_text pt) ≡ Some pt
unfolding apt_text
apt_again pt le =
    let whole : Lacks 59 (codes "apt=" ++ decimal pt) = lacks-append 59 (codes "apt=") (decimal pt) (search rules) (decimal_lacks 59 refl pt (small pt le)) in
    ap (first apt_pair) (parts_one 59 (codes "apt=" ++ decimal pt) whole) ∙ rw (number_up_to-decimal 127 pt le (small pt le)) refl

pub apt_filled : (pt : ℕ) → 0 < length (apt_text pt)
unfolding apt_text
apt_filled pt = omega arith

pub apt_lacks : (byte : ℕ) → byte < 32 → (pt : ℕ) → pt ≤ 127 → Lacks byte (apt_text pt)
unfolding apt_text
apt_lacks byte low pt le = lacks-append byte (codes "apt=") (decimal pt) (printable_lacks byte low (codes "apt=") refl) (decimal_lacks byte (no_digit byte (omega arith)) pt (small pt le))

-- the primary of redundant packets
pub red_again : (pt : ℕ) → pt ≤ 127 → red_primary (red_text pt) ≡ Some pt
unfolding red_text
red_again pt le =
    ap (λ (halves : Option (List ℕ × List ℕ)). number_up_to 127 (front_of (decimal pt ++ (47 ∷ decimal pt)) halves)) (cut-append 47 (decimal pt) (decimal pt) (decimal_lacks 47 refl pt (small pt le)))
    ∙ number_up_to-decimal 127 pt le (small pt le)

pub red_filled : (pt : ℕ) → 0 < length (red_text pt)
unfolding red_text
red_filled pt = go (decimal pt)
  where
    go : (xs : List ℕ) → 0 < length (xs ++ (47 ∷ decimal pt))
    go [] = omega arith
    go (x ∷ xs) = omega arith

pub red_lacks : (byte : ℕ) → byte < 32 → (pt : ℕ) → pt ≤ 127 → Lacks byte (red_text pt)
unfolding red_text
red_lacks byte low pt le =
    let d = decimal_lacks byte (no_digit byte (omega arith)) pt (small pt le) in
    lacks-append byte (decimal pt) (47 ∷ decimal pt) d (ne_eqb 47 byte (λ e. omega arith), d)
