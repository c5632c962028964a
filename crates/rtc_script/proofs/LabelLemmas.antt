-- The word of a label is that of one label.
use Rattle.std.proofs.Common.{◌≡◌, ◌≢◌, ◌<◌, ◌≤◌, ◌∙◌, ℕ, zero, suc, Bool, true, false, ltb, List, [], ◌∷◌, ◌++◌, length, Option, Some, None, Result, Ok, Err, IfOk, IfSome, IfNone, inl, inr, ◌⊎◌, IsTrue, refl, ap, sym, subst, codes, arith}
use Rattle.std.specs.Prelude.{◌↔◌}
use Rattle.std.specs.List.{AllByRecursion}
use Rattle.std.specs.Str.{IsUtf8}
use Rattle.std.proofs.Math.Utf8.{scalar, scalars, scalar_cases, encode, encodes}
use Rattle.std.proofs.lemmas.Bool.{and_parts, ltb-true}
use Rattle.std.proofs.lemmas.List.{nil_from_length}
use Rattle.hex.specs.Hex.{IsBytes, decode_of, encode_lower, lower_digits}
use Rattle.hex.specs.declared.error.FromHexError.{FromHexError}
use Rattle.hex.specs.declared.error.FromHexError.TheVariants.{OutOfMemory}
use Rattle.hex.proofs.HexLemmas.{length-encode_with, decode_of-encode_lower}
use Rattle.rtc_script.specs.Words.{hex_word}

-- ---- the bytes of characters

abbrev AreSmall : List ℕ → Type 0
AreSmall bytes = AllByRecursion (λ byte. byte < 256) bytes

small_append : (a b : List ℕ) → AreSmall a → AreSmall b → AreSmall (a ++ b)
small_append [] b small rest = rest
small_append (byte ∷ a) b small rest = (small.0, small_append a b small.1 rest)

small_bytes : (bytes : List ℕ) → AreSmall bytes → IsBytes bytes
small_bytes [] small i = let e : 0 < 256 = omega arith in e
small_bytes (byte ∷ bytes) small zero = small.0
small_bytes (byte ∷ bytes) small (suc i) = small_bytes bytes small.1 i

low_character : (c : ℕ) → scalar c ≡ true → c < 1114112
low_character c is = elim (scalar_cases c is) [
  | inl low ↦ omega arith
  | inr high ↦ high.1
]

character_small : (c : ℕ) → c < 1114112 → AreSmall (encode c)
unfolding encode
character_small c low = one (ltb c 128) refl
  where
    three : (test : Bool) → ltb c 128 ≡ false → ltb c 2048 ≡ false → ltb c 65536 ≡ test → AreSmall (encode c)
    three true past past' is = let e : c < 65536 = ltb-true c 65536 is in rw (past, past', is) (omega arith, (omega arith, (omega arith, tt)))
    three false past past' is = rw (past, past', is) (omega arith, (omega arith, (omega arith, (omega arith, tt))))

    two : (test : Bool) → ltb c 128 ≡ false → ltb c 2048 ≡ test → AreSmall (encode c)
    two true past is = let e : c < 2048 = ltb-true c 2048 is in rw (past, is) (omega arith, (omega arith, tt))
    two false past is = three (ltb c 65536) past is refl

    one : (test : Bool) → ltb c 128 ≡ test → AreSmall (encode c)
    one true is = let e : c < 128 = ltb-true c 128 is in rw is (omega arith, tt)
    one false is = two (ltb c 2048) is refl

characters_small : (cs : List ℕ) → scalars cs ≡ true → AreSmall (encodes cs)
characters_small [] are = tt
characters_small (c ∷ cs) are =
    let both = and_parts (scalar c) (scalars cs) are in
    small_append (encode c) (encodes cs) (character_small c (low_character c both.0)) (characters_small cs both.1)

pub bytes_of_text : (text : List ℕ) → IsUtf8 text → IsBytes text
bytes_of_text text is = small_bytes text (subst AreSmall is.1.1 (characters_small is.0 is.1.0))

-- ---- hex digits

-- digits that cannot be read are those of no bytes
no_digits : (word : List ℕ) (error : FromHexError) → decode_of word ≡ Err error → (bytes : List ℕ) → IsBytes bytes → word ≢ encode_lower bytes
no_digits word error fails bytes are same = absurd (let e = sym fails ∙ (ap decode_of same ∙ decode_of-encode_lower bytes are) in cc)

pub failed_digits : (word : List ℕ) (error : FromHexError) (lacks : Bool) → (error ≡ OutOfMemory) ⊎ (decode_of word ≡ Err error) → IsTrue lacks ↔ (error ≡ OutOfMemory) → lacks ≡ false
    → (bytes : List ℕ) → IsBytes bytes → word ≢ encode_lower bytes
failed_digits word error lacks (inl memory) told is bytes are same = absurd (let bad : false ≡ true = rw is at (told.1 memory) in cc)
failed_digits word error lacks (inr fails) told is bytes are same = no_digits word error fails bytes are same

-- nor are digits that are not written as they are read
pub other_digits : (word read : List ℕ) → decode_of word ≡ Ok read → encode_lower read ≢ word → (bytes : List ℕ) → IsBytes bytes → word ≢ encode_lower bytes
other_digits word read is other bytes are same =
    let both = sym is ∙ (ap decode_of same ∙ decode_of-encode_lower bytes are) in
    let one : read ≡ bytes = cc in
    other (ap encode_lower one ∙ sym same)

one_digits : (a b : List ℕ) → IsBytes a → IsBytes b → encode_lower a ≡ encode_lower b → a ≡ b
one_digits a b are others same =
    let both = sym (decode_of-encode_lower a are) ∙ (ap decode_of same ∙ decode_of-encode_lower b others) in
    cc

-- a dash is no word of hex digits
no_dash : (bytes : List ℕ) → codes "-" ≡ encode_lower bytes → ⊥
no_dash bytes same =
    let e : 1 ≡ length (encode_lower bytes) = ap length same in
    absurd (omega (arith, length-encode_with lower_digits bytes, e))

-- no digits write no bytes
pub no_bytes : (word bytes : List ℕ) → word ≡ [] → word ≢ hex_word bytes
no_bytes word [] none same = absurd (omega (arith, ap length (sym none ∙ same)))
no_bytes word (byte ∷ bytes) none same = absurd (omega (arith, length-encode_with lower_digits (byte ∷ bytes), ap length (sym none ∙ same)))

-- ---- words

-- the word of some bytes is no shorter than they are
pub word_long : (bytes : List ℕ) → length bytes ≤ length (hex_word bytes)
word_long [] = omega arith
word_long (byte ∷ bytes) = omega (arith, length-encode_with lower_digits (byte ∷ bytes))

-- a word of some digits is that of no bytes where its digits are
no_word : (word : List ℕ) → word ≢ codes "-" → ((bytes : List ℕ) → IsBytes bytes → word ≢ encode_lower bytes) → (bytes : List ℕ) → IsBytes bytes → word ≢ hex_word bytes
no_word word other none [] are same = other same
no_word word other none (byte ∷ bytes) are same = none (byte ∷ bytes) are same

some_word : (word bytes : List ℕ) → word ≢ [] → word ≡ encode_lower bytes → word ≡ hex_word bytes
some_word word [] some is = absurd (some (nil_from_length word (ap length is ∙ length-encode_with lower_digits [])))
some_word word (byte ∷ bytes) some is = is

-- bytes that some digits write are those of their word
pub word_read : {V E : Type 0} (items : V → List ℕ) (word : List ℕ) (read : Result (Option V) E) → word ≢ []
    → IfOk read (λ found. IfSome found (λ bytes. (word ≡ encode_lower (items bytes)) × IsBytes (items bytes)))
    → IfOk read (λ found. IfSome found (λ bytes. (word ≡ hex_word (items bytes)) × IsBytes (items bytes)))
word_read items word (Ok (Some bytes)) some is = (some_word word (items bytes) some is.0, is.1)
word_read items word (Ok None) some is = tt
word_read items word (Err error) some is = tt

-- and there are none where no bytes have these digits
pub no_word_read : {V E : Type 0} (word : List ℕ) (read : Result (Option V) E) → word ≢ codes "-"
    → IfOk read (λ found. IfNone found ((bytes : List ℕ) → IsBytes bytes → word ≢ encode_lower bytes))
    → IfOk read (λ found. IfNone found ((bytes : List ℕ) → IsBytes bytes → word ≢ hex_word bytes))
no_word_read word (Ok (Some bytes)) other none = tt
no_word_read word (Ok None) other none = no_word word other none
no_word_read word (Err error) other none = tt

pub one_word : (a b : List ℕ) → IsBytes a → IsBytes b → hex_word a ≡ hex_word b → a ≡ b
one_word [] [] are others same = refl
one_word [] (y ∷ b) are others same = absurd (no_dash (y ∷ b) same)
one_word (x ∷ a) [] are others same = absurd (no_dash (x ∷ a) (sym same))
one_word (x ∷ a) (y ∷ b) are others same = one_digits (x ∷ a) (y ∷ b) are others same

pub one_label : (a b : List ℕ) → IsUtf8 a → IsUtf8 b → hex_word a ≡ hex_word b → a ≡ b
one_label a b text text' same = one_word a b (bytes_of_text a text) (bytes_of_text b text') same
