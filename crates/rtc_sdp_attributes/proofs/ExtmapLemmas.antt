-- A mapped extension that is written is read back.
use Rattle.rtc_sdp_values.specs.declared.direction.Direction.TheVariants.{SendRecv}
use Rattle.rtc_sdp_values.specs.declared.direction.Direction.{Direction}
use Rattle.std.specs.Prelude.{option_map}
use Rattle.std.proofs.Common.{◌≡◌, ℕ, ◌^◌, ◌<◌, ◌≤◌, true, ltb, ◌∷◌, Some, refl, ap, arith}
use Rattle.std.specs.Fmt.{decimal}
use Rattle.std.proofs.lemmas.Bool.{ne_eqb, lt-ltb}
use Rattle.rtc_wire_text.specs.Cuts.{Lacks}
use Rattle.rtc_wire_text.proofs.CutLemmas.{no_digit, lacks-append, is_printable, printable_lacks}
use Rattle.rtc_wire_text.proofs.NumberLemmas.{number_up_to-decimal, decimal_lacks}
use Rattle.rtc_sdp_values.specs.declared.extension.Extension.{Extension}
use Rattle.rtc_sdp_values.specs.declared.extension.Extension.TheVariants.{AudioLevel, AbsoluteSendTime, TransportSequenceNumber, RtpMid, RtpStreamId, RepairedRtpStreamId, VideoOrientation}
use Rattle.rtc_sdp_values.specs.Extension.{uri_of, of_uri}
use Rattle.rtc_sdp_values.proofs.ExtensionLemmas.{of_uri-uri_of}
use Rattle.rtc_sdp_attributes.specs.Forms.{Form, one_of, positive_up_to, tailed}
use Rattle.rtc_sdp_attributes.specs.AttributeForms.{direction_words, extmap as extmap_form, extmap_made}
use Rattle.rtc_sdp_attributes.specs.AttributeTexts.{extmap_text}
use Rattle.rtc_sdp_attributes.proofs.FormLemmas.{parted_again, tailed_bare}

small : (id : ℕ) → id ≤ 255 → id < 2 ^ 64
small id le = omega arith

number_again : (id : ℕ) → 0 < id → id ≤ 255 → positive_up_to 255 (decimal id) ≡ Some id
number_again id some le =
    let positive : ltb 0 id ≡ true = lt-ltb _ _ some in
    rw (number_up_to-decimal 255 id le (small id le), positive) refl

abbrev id_form : Form (ℕ × Direction)
id_form = tailed 47 (positive_up_to 255) SendRecv (one_of direction_words)

id_again : (id : ℕ) → 0 < id → id ≤ 255 → id_form (decimal id) ≡ Some (id, SendRecv)
id_again id some le = tailed_bare 47 (positive_up_to 255) SendRecv (one_of direction_words) (decimal id) id (decimal_lacks 47 refl id (small id le)) (number_again id some le)

pub extmap_again : (id : ℕ) (extension : Extension) → 0 < id → id ≤ 255 → extmap_form (extmap_text id extension) ≡ Some (id, extension)
unfolding extmap_text
extmap_again id extension some le =
    ap (option_map extmap_made) (parted_again 32 id_form of_uri (decimal id) (uri_of extension) (id, SendRecv) extension (decimal_lacks 32 refl id (small id le)) (id_again id some le) (of_uri-uri_of extension))

uri_printable : (extension : Extension) → is_printable (uri_of extension) ≡ true
uri_printable AudioLevel = refl
uri_printable AbsoluteSendTime = refl
uri_printable TransportSequenceNumber = refl
uri_printable RtpMid = refl
uri_printable RtpStreamId = refl
uri_printable RepairedRtpStreamId = refl
uri_printable VideoOrientation = refl

pub extmap_lacks : (byte : ℕ) → byte < 32 → (id : ℕ) (extension : Extension) → id ≤ 255 → Lacks byte (extmap_text id extension)
unfolding extmap_text
extmap_lacks byte low id extension le =
    lacks-append byte (decimal id) (32 ∷ uri_of extension) (decimal_lacks byte (no_digit byte (omega arith)) id (small id le))
    (ne_eqb 32 byte (λ e. omega arith), printable_lacks byte low (uri_of extension) (uri_printable extension))
