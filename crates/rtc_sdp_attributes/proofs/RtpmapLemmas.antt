-- A codec that is written is read back.
use Rattle.rtc_wire_text.specs.Tokens.{is_token}
use Rattle.std.specs.Prelude.{option_map}
use Rattle.std.proofs.Common.{◌≡◌, ℕ, ◌^◌, ◌<◌, ◌≤◌, List, [], ◌∷◌, ◌++◌, Some, refl, ap, ◌∙◌, arith, inl, inr}
use Rattle.std.specs.Fmt.{decimal}
use Rattle.std.proofs.lemmas.Bool.{ne_eqb}
use Rattle.std.proofs.lemmas.Bool.Decides.{eqb_tells}
use Rattle.std.proofs.lemmas.List.{append-nil}
use Rattle.rtc_wire_text.specs.Cuts.{Lacks}
use Rattle.rtc_wire_text.specs.Numbers.{number_up_to}
use Rattle.rtc_wire_text.proofs.CutLemmas.{token_lacks, no_token_byte, no_digit, lacks-append}
use Rattle.rtc_wire_text.proofs.NumberLemmas.{number_up_to-decimal, decimal_lacks}
use Rattle.rtc_sdp_attributes.specs.Forms.{Form, token, split_fields, tailed}
use Rattle.rtc_sdp_attributes.specs.AttributeForms.{rtpmap as rtpmap_form, rtpmap_made}
use Rattle.rtc_sdp_attributes.specs.AttributeTexts.{channels_text, rtpmap_text}
use Rattle.rtc_sdp_attributes.specs.PlainValues.{IsPlainRtpmap}
use Rattle.rtc_sdp_attributes.proofs.FormLemmas.{passing_again, parted_again, tailed_bare, tailed_again}

abbrev U32 : ℕ
U32 = 4294967295

abbrev rate_form : Form (ℕ × ℕ)
rate_form = tailed 47 (number_up_to 4294967295) 1 (number_up_to 255)

rate_one : (clock : ℕ) → clock ≤ U32 → rate_form (decimal clock ++ []) ≡ Some (clock, 1)
rate_one clock le =
    let small : clock < 2 ^ 64 = omega arith in
    ap rate_form (append-nil (decimal clock))
    ∙ tailed_bare 47 (number_up_to 4294967295) 1 (number_up_to 255) (decimal clock) clock (decimal_lacks 47 refl clock small) (number_up_to-decimal 4294967295 clock le small)

rate_more : (clock channels : ℕ) → clock ≤ U32 → channels ≤ 255 → rate_form (decimal clock ++ (47 ∷ decimal channels)) ≡ Some (clock, channels)
rate_more clock channels le few =
    let small : clock < 2 ^ 64 = omega arith in
    let n : channels < 2 ^ 64 = omega arith in
    tailed_again 47 (number_up_to 4294967295) 1 (number_up_to 255) (decimal clock) (decimal channels) clock channels (decimal_lacks 47 refl clock small) (number_up_to-decimal 4294967295 clock le small) (number_up_to-decimal 255 channels few n)

rate_again : (clock channels : ℕ) → clock ≤ U32 → channels ≤ 255 → rate_form (decimal clock ++ channels_text channels) ≡ Some (clock, channels)
rate_again clock channels le few = elim (eqb_tells channels 1) [
  | inl (t, e) ↦ rw e (rate_one clock le)
  | inr (f, _) ↦ rw f (rate_more clock channels le few)
]

pub rtpmap_again : (pt : ℕ) (codec : List ℕ) (clock channels : ℕ) → IsPlainRtpmap pt codec clock channels
    → rtpmap_form (rtpmap_text pt codec clock channels) ≡ Some (record { pt = record { 0 = pt }; codec = codec; clock = clock; channels = channels })
unfolding rtpmap_text
rtpmap_again pt codec clock channels h =
    let small : pt < 2 ^ 64 = omega (arith, h.pt_small) in
    let rate : List ℕ = decimal clock ++ channels_text channels in
    ap (option_map rtpmap_made) (parted_again 32 (number_up_to 127) (split_fields 47 token rate_form) (decimal pt) (codec ++ (47 ∷ rate)) pt (codec, (clock, channels)) (decimal_lacks 32 refl pt small) (number_up_to-decimal 127 pt h.pt_small small)
    (parted_again 47 token rate_form codec rate codec (clock, channels) (token_lacks 47 refl codec h.token) (passing_again is_token codec h.token) (rate_again clock channels h.clock_small h.channels_small)))

channels_lack : (byte : ℕ) → byte < 33 → (channels : ℕ) → channels ≤ 255 → Lacks byte (channels_text channels)
channels_lack byte low channels few = elim (eqb_tells channels 1) [
  | inl (t, e) ↦ rw t tt
  | inr (f, _) ↦ let small : channels < 2 ^ 64 = omega arith in rw f (ne_eqb 47 byte (λ e. omega arith), decimal_lacks byte (no_digit byte low) channels small)
]

-- its text ends no line
pub rtpmap_lacks : (byte : ℕ) → byte < 32 → (pt : ℕ) (codec : List ℕ) (clock channels : ℕ) → IsPlainRtpmap pt codec clock channels → Lacks byte (rtpmap_text pt codec clock channels)
unfolding rtpmap_text
rtpmap_lacks byte low pt codec clock channels h =
    let low33 : byte < 33 = omega arith in
    let n1 : pt < 2 ^ 64 = omega (arith, h.pt_small) in
    let n2 : clock < 2 ^ 64 = omega (arith, h.clock_small) in
    lacks-append byte (decimal pt) _ (decimal_lacks byte (no_digit byte low33) pt n1) (
      ne_eqb 32 byte (λ e. omega arith),
      lacks-append byte codec _ (token_lacks byte (no_token_byte byte low33) codec h.token)
          (ne_eqb 47 byte (λ e. omega arith), lacks-append byte (decimal clock) _ (decimal_lacks byte (no_digit byte low33) clock n2) (channels_lack byte low33 channels h.channels_small)),
    )
