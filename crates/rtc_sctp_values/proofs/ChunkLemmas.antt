-- A chunk and its text.
use Rattle.std.proofs.Common.{◌≡◌, ◌∙◌, ℕ, List, Some, None, Result, Ok, Err, refl, sym, ap}
use Rattle.std.specs.Result.{result_ok}
use Rattle.base64.specs.Engines.{standard}
use Rattle.base64.specs.GeneralPurpose.{IsBytes, decode_of, decoded_of, encode_of}
use Rattle.base64.specs.declared.decode.DecodeError.{DecodeError}
use Rattle.base64.proofs.EngineFacts.{decode_of-encode_of, decode_of_strict}
use Rattle.rtc_sctp_values.specs.InitChunk.{chunk_text, chunk_of_text}

ok_of : (r : Result (List ℕ) DecodeError) (bytes : List ℕ) → result_ok r ≡ Some bytes → r ≡ Ok bytes
ok_of (Ok x) bytes h = cc h
ok_of (Err e) bytes h = cc h

-- a text that gives a chunk is the text of that chunk
pub chunk_text-chunk_of_text : (text bytes : List ℕ) → IsBytes text → chunk_of_text text ≡ Some bytes → chunk_text bytes ≡ text
unfolding chunk_text chunk_of_text decoded_of
chunk_text-chunk_of_text text bytes short h =
    sym (decode_of_strict standard text bytes (refl, refl) short (ok_of (decode_of standard text) bytes h))

-- the text of a chunk gives the chunk
pub chunk_of_text-chunk_text : (bytes : List ℕ) → IsBytes bytes → chunk_of_text (chunk_text bytes) ≡ Some bytes
unfolding chunk_text chunk_of_text decoded_of
chunk_of_text-chunk_text bytes short = rw (decode_of-encode_of standard bytes refl short) refl

-- what decodes is the chunk of its text, whose text it is
pub read_is : (input text bytes : List ℕ) → input ≡ text → decode_of standard input ≡ Ok bytes → Some bytes ≡ chunk_of_text text
unfolding chunk_of_text decoded_of
read_is input text bytes same h = sym (ap (λ (t : List ℕ). result_ok (decode_of standard t)) (sym same) ∙ ap result_ok h)

pub read_text_is : (input text bytes : List ℕ) → input ≡ text → input ≡ encode_of standard bytes → chunk_text bytes ≡ text
unfolding chunk_text
read_text_is input text bytes same h = sym h ∙ same

-- and what does not decode has none
pub unread_is : (input text : List ℕ) (e : DecodeError) → input ≡ text → decode_of standard input ≡ Err e → None ≡ chunk_of_text text
unfolding chunk_of_text decoded_of
unread_is input text e same h = sym (ap (λ (t : List ℕ). result_ok (decode_of standard t)) (sym same) ∙ ap result_ok h)
