-- The text of a chunk stands in a line of a session description: no byte of it is a space or a line feed.
use Rattle.std.proofs.Common.{◌≡◌, ◌==◌, not, ℕ, zero, suc, Bool, true, false, List, [], ◌∷◌, length, replicate, slice_index, Option, Some, None, refl}
use Rattle.std.specs.Prelude.{IfSome}
use Rattle.std.specs.List.{list_all}
use Rattle.std.proofs.lemmas.Bool.{and_parts}
use Rattle.base64.specs.Engines.{standard}
use Rattle.base64.specs.Rfc4648.{encode_symbols, padding_len}
use Rattle.rtc_wire_text.specs.Cuts.{Lacks}
use Rattle.rtc_sctp_values.specs.InitChunk.{chunk_text}
use Rattle.rtc_sdp_attributes.specs.Forms.{is_spaceless}
use Rattle.rtc_sdp_writer.specs.Plain.{IsPlainChunk}
use Rattle.rtc_peer_core.proofs.Alls.{all-append}
use Rattle.rtc_peer_core.proofs.FormedHeads.{IsInitText}

not_true : (b : Bool) → not b ≡ true → b ≡ false
not_true true is = absurd (cc)
not_true false is = refl

-- no byte is this one, where a test says so
lacks_by : (byte : ℕ) (text : List ℕ) → list_all (λ x. not (x == byte)) text ≡ true → Lacks byte text
lacks_by byte [] all = tt
lacks_by byte (x ∷ text) all =
    let parts = and_parts (not (x == byte)) (list_all (λ y. not (y == byte)) text) all in
    (not_true (x == byte) parts.0, lacks_by byte text parts.1)

-- neither is one that is looked up in the text, which is 0 past its end
looked_up : (byte : ℕ) (text : List ℕ) → (0 == byte) ≡ false → Lacks byte text → (i : ℕ) → (slice_index text i == byte) ≡ false
looked_up byte [] none lacks zero = none
looked_up byte [] none lacks (suc i) = none
looked_up byte (x ∷ text) none lacks zero = lacks.0
looked_up byte (x ∷ text) none lacks (suc i) = looked_up byte text none lacks.1 i

encoded_lacks : (byte : ℕ) (symbols : List ℕ) → ((i : ℕ) → (slice_index symbols i == byte) ≡ false) → (chunk : List ℕ)
    → Lacks byte (encode_symbols symbols chunk)
unfolding encode_symbols
encoded_lacks byte symbols each [] = tt
encoded_lacks byte symbols each (a ∷ []) = (each _, (each _, tt))
encoded_lacks byte symbols each (a ∷ b ∷ []) = (each _, (each _, (each _, tt)))
encoded_lacks byte symbols each (a ∷ b ∷ c ∷ rest) =
    (each _, (each _, (each _, (each _, encoded_lacks byte symbols each rest))))

repeated_lacks : (byte pad n : ℕ) → (pad == byte) ≡ false → Lacks byte (replicate n pad)
repeated_lacks byte pad zero other = tt
repeated_lacks byte pad (suc n) other = (other, repeated_lacks byte pad n other)

text_lacks : (byte : ℕ) → (0 == byte) ≡ false → (61 == byte) ≡ false → Lacks byte standard.encode_table → (chunk : List ℕ)
    → Lacks byte (chunk_text chunk)
unfolding chunk_text
text_lacks byte none pad lacks chunk =
    all-append (λ x. (x == byte) ≡ false) (encode_symbols standard.encode_table chunk) (replicate (padding_len (length chunk)) 61)
    (encoded_lacks byte standard.encode_table (looked_up byte standard.encode_table none lacks) chunk)
    (repeated_lacks byte 61 (padding_len (length chunk)) pad)

lacks_spaceless : (text : List ℕ) → Lacks 32 text → is_spaceless text ≡ true
lacks_spaceless [] lacks = refl
lacks_spaceless (byte ∷ text) lacks = rw lacks.0 (lacks_spaceless text lacks.1)

chunk_plain : (chunk : List ℕ) → IsPlainChunk (chunk_text chunk)
chunk_plain chunk = record {
  form = lacks_spaceless (chunk_text chunk) (text_lacks 32 refl refl (lacks_by 32 standard.encode_table refl) chunk);
  line = text_lacks 10 refl refl (lacks_by 10 standard.encode_table refl) chunk;
}

pub init_plain : (init : Option (List ℕ)) → IfSome init IsInitText → IfSome init IsPlainChunk
init_plain None text = tt
init_plain (Some text) is = rw is.1 (chunk_plain is.0)
