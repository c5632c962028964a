-- Names and pairs of sources that are written are read back.
use Rattle.std.proofs.lemmas.List.{append-nil}
use Rattle.std.proofs.Common.{◌≡◌, ℕ, ◌^◌, ◌<◌, ◌≤◌, true, List, [], ◌∷◌, ◌++◌, length, Some, None, refl, ap, ◌∙◌, arith, Option}
use Rattle.std.specs.Prelude.{codes, option_map}
use Rattle.std.specs.Fmt.{decimal}
use Rattle.std.proofs.lemmas.Bool.{ne_eqb, lt-ltb}
use Rattle.rtc_wire_text.specs.Cuts.{Lacks}
use Rattle.rtc_wire_text.specs.Words.{spaced}
use Rattle.rtc_wire_text.proofs.CutLemmas.{cut-append, no_digit, lacks-append, lacks-after_each, printable_lacks}
use Rattle.rtc_wire_text.proofs.NumberLemmas.{number_up_to-decimal, decimal_lacks}
use Rattle.rtc_sdp_attributes.specs.Forms.{Form, filled, is_filled, labelled, halves_together, split_fields}
use Rattle.rtc_sdp_attributes.specs.AttributeForms.{ssrc_number, source, source_made, source_pair_form, source_pair_made}
use Rattle.rtc_sdp_attributes.specs.AttributeTexts.{ssrc_name_text, ssrc_msid_text, ssrc_pair_text}
use Rattle.rtc_sdp_attributes.proofs.FormLemmas.{passing_again, parted_again}

small : (n : ℕ) → n ≤ 4294967295 → n < 2 ^ 64
small n le = omega arith

number_lacks : (byte : ℕ) → byte < 33 → (n : ℕ) → n ≤ 4294967295 → Lacks byte (decimal n)
number_lacks byte low n le = decimal_lacks byte (no_digit byte low) n (small n le)

number_again : (n : ℕ) → n ≤ 4294967295 → ssrc_number (decimal n) ≡ Some n
number_again n le = number_up_to-decimal 4294967295 n le (small n le)

abbrev cname_form : Form (List ℕ)
cname_form = labelled (codes "cname") 58 filled

pub ssrc_name_again : (ssrc : ℕ) (cname : List ℕ) → ssrc ≤ 4294967295 → 0 < length cname → source (ssrc_name_text ssrc cname) ≡ Some (record { ssrc = record { 0 = ssrc }; cname = cname })
unfolding ssrc_name_text
ssrc_name_again ssrc cname le some =
    let some_bytes : is_filled cname ≡ true = lt-ltb _ _ some in
    ap (option_map source_made) (parted_again 32 ssrc_number cname_form (decimal ssrc) (codes "cname:" ++ cname) ssrc cname (number_lacks 32 (omega arith) ssrc le) (number_again ssrc le) (passing_again is_filled cname some_bytes))

pub ssrc_name_lacks : (byte : ℕ) → byte < 32 → (ssrc : ℕ) (cname : List ℕ) → ssrc ≤ 4294967295 → Lacks byte cname → Lacks byte (ssrc_name_text ssrc cname)
unfolding ssrc_name_text
ssrc_name_lacks byte low ssrc cname le h =
    lacks-append byte (decimal ssrc) (codes " cname:" ++ cname) (number_lacks byte (omega arith) ssrc le)
    (lacks-append byte (codes " cname:") cname (printable_lacks byte low (codes " cname:") refl) h)

-- the stream of a source is not read
pub ssrc_msid_none : (ssrc : ℕ) (stream track : List ℕ) → ssrc ≤ 4294967295 → source (ssrc_msid_text ssrc stream track) ≡ None
unfolding ssrc_msid_text
ssrc_msid_none ssrc stream track le =
    ap (λ (halves : Option (List ℕ × List ℕ)). option_map source_made (halves_together ssrc_number cname_form halves)) (cut-append 32 (decimal ssrc) (codes "msid:" ++ (stream ++ (32 ∷ track))) (number_lacks 32 (omega arith) ssrc le))
    ∙ rw (number_again ssrc le) refl

pub ssrc_msid_lacks : (byte : ℕ) → byte < 32 → (ssrc : ℕ) (stream track : List ℕ) → ssrc ≤ 4294967295 → Lacks byte stream → Lacks byte track → Lacks byte (ssrc_msid_text ssrc stream track)
unfolding ssrc_msid_text
ssrc_msid_lacks byte low ssrc stream track le h k =
    lacks-append byte (decimal ssrc) (codes " msid:" ++ (stream ++ (32 ∷ track))) (number_lacks byte (omega arith) ssrc le)
    (lacks-append byte (codes " msid:") (stream ++ (32 ∷ track)) (printable_lacks byte low (codes " msid:") refl)
    (lacks-append byte stream (32 ∷ track) h (ne_eqb 32 byte (λ e. omega arith), k)))

pub ssrc_pair_again : (ssrc rtx : ℕ) → ssrc ≤ 4294967295 → rtx ≤ 4294967295 → source_pair_form (ssrc_pair_text ssrc rtx) ≡ Some (record { 0 = ssrc }, record { 0 = rtx })
unfolding ssrc_pair_text
ssrc_pair_again ssrc rtx le lf =
    ap (option_map source_pair_made) (ap (split_fields 32 ssrc_number ssrc_number) (ap (λ (l : List ℕ). decimal ssrc ++ (32 ∷ l)) (append-nil (decimal rtx)))
    ∙ parted_again 32 ssrc_number ssrc_number (decimal ssrc) (decimal rtx) ssrc rtx (number_lacks 32 (omega arith) ssrc le) (number_again ssrc le) (number_again rtx lf))

pub ssrc_pair_lacks : (byte : ℕ) → byte < 32 → (ssrc rtx : ℕ) → ssrc ≤ 4294967295 → rtx ≤ 4294967295 → Lacks byte (ssrc_pair_text ssrc rtx)
unfolding ssrc_pair_text
ssrc_pair_lacks byte low ssrc rtx le lf =
    lacks-append byte (codes "FID") (spaced (decimal ssrc ∷ decimal rtx ∷ [])) (printable_lacks byte low (codes "FID") refl)
    (lacks-after_each byte 32 (ne_eqb 32 byte (λ e. omega arith)) (decimal ssrc ∷ decimal rtx ∷ []) (number_lacks byte (omega arith) ssrc le, (number_lacks byte (omega arith) rtx lf, tt)))
