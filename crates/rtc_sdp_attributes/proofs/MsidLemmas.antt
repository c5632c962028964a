-- A stream and a track that are written are read back.
use Rattle.rtc_wire_text.specs.Tokens.{is_token}
use Rattle.std.specs.Prelude.{option_map}
use Rattle.std.proofs.Common.{◌≡◌, ℕ, ◌<◌, ◌∷◌, Some, refl, ap, arith}
use Rattle.std.proofs.lemmas.Bool.{ne_eqb}
use Rattle.rtc_wire_text.specs.Cuts.{Lacks}
use Rattle.rtc_wire_text.proofs.CutLemmas.{token_lacks, no_token_byte, lacks-append}
use Rattle.rtc_sdp_values.specs.declared.msid.Msid.{Msid}
use Rattle.rtc_sdp_attributes.specs.Forms.{token}
use Rattle.rtc_sdp_attributes.specs.AttributeForms.{msid as msid_form, msid_made}
use Rattle.rtc_sdp_attributes.specs.AttributeTexts.{msid_text}
use Rattle.rtc_sdp_attributes.specs.PlainValues.{IsPlainMsid}
use Rattle.rtc_sdp_attributes.proofs.FormLemmas.{passing_again, parted_again}

pub msid_again : (msid : Msid) → IsPlainMsid msid → msid_form (msid_text msid) ≡ Some msid
unfolding msid_text
msid_again msid h =
    ap (option_map msid_made) (parted_again 32 token token msid.stream_id msid.track_id msid.stream_id msid.track_id (token_lacks 32 refl msid.stream_id h.stream) (passing_again is_token msid.stream_id h.stream) (passing_again is_token msid.track_id h.track))

pub msid_lacks : (byte : ℕ) → byte < 32 → (msid : Msid) → IsPlainMsid msid → Lacks byte (msid_text msid)
unfolding msid_text
msid_lacks byte low msid h =
    lacks-append byte msid.stream_id (32 ∷ msid.track_id) (token_lacks byte (no_token_byte byte (omega arith)) msid.stream_id h.stream)
    (ne_eqb 32 byte (λ e. omega arith), token_lacks byte (no_token_byte byte (omega arith)) msid.track_id h.track)
