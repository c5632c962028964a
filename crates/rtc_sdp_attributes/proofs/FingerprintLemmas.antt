-- A fingerprint that is written is read back.
use Rattle.rtc_wire_text.specs.Tokens.{is_token}
use Rattle.std.specs.Prelude.{option_map}
use Rattle.std.proofs.Common.{◌≡◌, ℕ, ◌<◌, ◌∷◌, Some, refl, ap, ◌∙◌, arith, List}
use Rattle.std.proofs.lemmas.Bool.{ne_eqb}
use Rattle.rtc_wire_text.specs.Cuts.{Lacks}
use Rattle.rtc_wire_text.specs.Hex.{hex_text, hex_bytes}
use Rattle.rtc_wire_text.proofs.CutLemmas.{token_lacks, no_token_byte, lacks-append}
use Rattle.rtc_wire_text.proofs.CaseLemmas.{lower_stays}
use Rattle.rtc_wire_text.proofs.HexLemmas.{hex_bytes-hex_text, hex_text_lacks}
use Rattle.rtc_sdp_values.specs.declared.fingerprint.Fingerprint.{Fingerprint}
use Rattle.rtc_sdp_attributes.specs.Forms.{token}
use Rattle.rtc_sdp_attributes.specs.AttributeForms.{fingerprint as fingerprint_form, fingerprint_made}
use Rattle.rtc_sdp_attributes.specs.AttributeTexts.{fingerprint_text}
use Rattle.rtc_sdp_attributes.specs.PlainValues.{IsPlainFingerprint}
use Rattle.rtc_sdp_attributes.proofs.FormLemmas.{passing_again, parted_again}

pub fingerprint_again : (fingerprint : Fingerprint) → IsPlainFingerprint fingerprint → fingerprint_form (fingerprint_text fingerprint) ≡ Some fingerprint
unfolding fingerprint_text
fingerprint_again fingerprint h =
    ap (option_map fingerprint_made) (parted_again 32 token hex_bytes fingerprint.hash_func (hex_text fingerprint.bytes) fingerprint.hash_func fingerprint.bytes (token_lacks 32 refl fingerprint.hash_func h.token) (passing_again is_token fingerprint.hash_func h.token) (hex_bytes-hex_text fingerprint.bytes h.some h.bytes))
    ∙ ap (λ (name : List ℕ). Some (record { hash_func = name; bytes = fingerprint.bytes })) (lower_stays fingerprint.hash_func h.small)

-- its text ends no line
pub fingerprint_lacks : (byte : ℕ) → byte < 32 → (fingerprint : Fingerprint) → IsPlainFingerprint fingerprint → Lacks byte (fingerprint_text fingerprint)
unfolding fingerprint_text
fingerprint_lacks byte low fingerprint h =
    lacks-append byte fingerprint.hash_func (32 ∷ hex_text fingerprint.bytes)
    (token_lacks byte (no_token_byte byte (omega arith)) fingerprint.hash_func h.token)
    (ne_eqb 32 byte (λ e. omega arith), hex_text_lacks byte (omega arith) fingerprint.bytes h.bytes)
