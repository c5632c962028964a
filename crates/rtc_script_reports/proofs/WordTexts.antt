-- The words of numbers, names and bytes: what they do not have, and that they tell what they are the words of.
use Rattle.std.specs.Prelude.{codes}
use Rattle.std.specs.Fmt.{decimal, digits, digits_onto, digit_glyph}
use Rattle.std.specs.List.{list_all}
use Rattle.std.proofs.Common.{◌≡◌, ◌≢◌, ◌==◌, ◌||◌, ◌-◌, ◌/◌, ◌%◌, ◌<◌, ◌^◌, ◌⊎◌, inl, inr, ◌∷◌, ℕ, zero, suc, Bool, true, false, true≢false, cond, eqb, List, [], get_or, Result, Ok, Option, Some, None, refl, sym, ◌∙◌, ap, arith}
use Rattle.std.proofs.lemmas.Bool.{eqb-true}
use Rattle.std.proofs.lemmas.Bool.Decides.{nat_tests}
use Rattle.std.proofs.lemmas.Fmt.{decimal_injective}
use Rattle.hex.specs.Hex.{IsBytes, encode_with, encode_lower, decode_of, lower_digits}
use Rattle.hex.proofs.HexLemmas.{decode_of-encode_lower}
use Rattle.rtc_wire_text.specs.Tokens.{is_token_byte}
use Rattle.rtc_wire_text.proofs.TokenLemmas.{both, short_token_bytes}
use Rattle.rtc_script.specs.Words.{hex_word}
use Rattle.rtc_script_reports.specs.Fits.{IsName, has_byte}
use Rattle.rtc_script_reports.specs.Rows.{stream_text}
use Rattle.rtc_script_reports.specs.Outputs.{moment_text}

-- a letter of a text
abbrev pub letter : ℕ → List ℕ → ℕ
letter n text = get_or text n 0

-- ---- numbers

-- the byte is no digit
abbrev pub IsNoDigit : ℕ → Type 0
IsNoDigit byte = (byte < 48) ⊎ (57 < byte)

glyph_other : (byte n : ℕ) → IsNoDigit byte → (digit_glyph false (n % 10) == byte) ≡ false
glyph_other byte n (inl small) = let digit : n % 10 < 10 = omega arith in grind (arith, nat_tests)
glyph_other byte n (inr great) = let digit : n % 10 < 10 = omega arith in grind (arith, nat_tests)

onto_none : (count byte n : ℕ) (bytes : List ℕ) → IsNoDigit byte → has_byte byte bytes ≡ false → has_byte byte (digits_onto count 10 false n bytes) ≡ false
onto_none zero byte n bytes small h = h
onto_none (suc count) byte n bytes small h =
    let more : has_byte byte (digit_glyph false (n % 10) ∷ bytes) ≡ false = rw (glyph_other byte n small) h in
    either (eqb (n / 10) 0) _ _ more (onto_none count byte (n / 10) (digit_glyph false (n % 10) ∷ bytes) small more)
  where
    either : (b : Bool) (xs ys : List ℕ) → has_byte byte xs ≡ false → has_byte byte ys ≡ false → has_byte byte (cond b xs ys) ≡ false
    either true xs ys p q = p
    either false xs ys p q = q

-- a decimal has digits alone
pub decimal_none : (byte n : ℕ) → IsNoDigit byte → has_byte byte (decimal n) ≡ false
unfolding digits
decimal_none byte n small = onto_none 64 byte n [] small refl

-- ---- names

-- a name has no byte that no token has
pub token_none : (byte : ℕ) (name : List ℕ) → is_token_byte byte ≡ false → list_all is_token_byte name ≡ true → has_byte byte name ≡ false
token_none byte [] other name = refl
token_none byte (c ∷ text) other name =
    let parts = both (is_token_byte c) (list_all is_token_byte text) name in
    by (c == byte) refl (token_none byte text other parts.1)
  where
    by : (b : Bool) → (c == byte) ≡ b → has_byte byte text ≡ false → (b || has_byte byte text) ≡ false
    by false is rest = rest
    by true is rest = absurd (true≢false (sym (both (is_token_byte c) (list_all is_token_byte text) name).0 ∙ ap is_token_byte (eqb-true c byte is) ∙ other))

-- ---- bytes

digit_other : (byte k : ℕ) → byte < 48 → 0 < byte → (get_or lower_digits k 0 == byte) ≡ false
digit_other byte k small some = grind (arith, nat_tests)

encoded_none : (byte : ℕ) (bytes : List ℕ) → byte < 48 → 0 < byte → has_byte byte (encode_lower bytes) ≡ false
unfolding encode_with
encoded_none byte [] small some = refl
encoded_none byte (b ∷ bytes) small some = rw (digit_other byte (b / 16) small some) (rw (digit_other byte (b % 16) small some) (encoded_none byte bytes small some))

-- ---- spaces, ends of line and commas

-- a space, an end of line, a comma
abbrev pub gap : ℕ → ℕ
gap zero = 32
gap (suc zero) = 10
gap (suc (suc g)) = 44

gap_small : (g : ℕ) → (gap g < 45) × (0 < gap g)
gap_small zero = (omega arith, omega arith)
gap_small (suc zero) = (omega arith, omega arith)
gap_small (suc (suc g)) = (omega arith, omega arith)

gap_token : (g : ℕ) → is_token_byte (gap g) ≡ false
gap_token zero = refl
gap_token (suc zero) = refl
gap_token (suc (suc g)) = refl

pub decimal_gap : (g n : ℕ) → has_byte (gap g) (decimal n) ≡ false
decimal_gap g n = let small = gap_small g in decimal_none (gap g) n (inl (omega arith))

pub token_gap : (g : ℕ) (name : List ℕ) → list_all is_token_byte name ≡ true → has_byte (gap g) name ≡ false
token_gap g name is = token_none (gap g) name (gap_token g) is

pub name_gap : (g : ℕ) (name : List ℕ) → IsName name → has_byte (gap g) name ≡ false
name_gap g name is = token_gap g name (short_token_bytes name is)

pub hex_gap : (g : ℕ) (bytes : List ℕ) → has_byte (gap g) (hex_word bytes) ≡ false
hex_gap zero [] = refl
hex_gap (suc zero) [] = refl
hex_gap (suc (suc g)) [] = refl
hex_gap g (b ∷ bytes) = let small = gap_small g in encoded_none (gap g) (b ∷ bytes) (omega (arith, small.0)) small.1

-- equal words are of equal bytes
pub same_hex : (bytes others : List ℕ) → IsBytes bytes → IsBytes others → hex_word bytes ≡ hex_word others → bytes ≡ others
same_hex [] [] one other e = refl
same_hex (b ∷ bytes) [] one other e = absurd (unread b bytes one e)
  where
    unread : (c : ℕ) (text : List ℕ) → IsBytes (c ∷ text) → encode_lower (c ∷ text) ≡ codes "-" → ⊥
    unread c text is e = let f = sym (decode_of-encode_lower (c ∷ text) is) ∙ ap decode_of e in cc
same_hex [] (d ∷ others) one other e = absurd (unread d others other (sym e))
  where
    unread : (c : ℕ) (text : List ℕ) → IsBytes (c ∷ text) → encode_lower (c ∷ text) ≡ codes "-" → ⊥
    unread c text is e = let f = sym (decode_of-encode_lower (c ∷ text) is) ∙ ap decode_of e in cc
same_hex (b ∷ bytes) (d ∷ others) one other e =
    same_read (b ∷ bytes) (d ∷ others) (sym (decode_of-encode_lower (b ∷ bytes) one) ∙ ap decode_of e ∙ decode_of-encode_lower (d ∷ others) other)
  where
    same_read : {X : Type 0} (xs ys : List ℕ) → ◌≡◌ {A = Result (List ℕ) X} (Ok xs) (Ok ys) → xs ≡ ys
    same_read xs ys e = cc

-- ---- moments and streams

-- equal words are of equal moments
pub same_moment : (moment other : ℕ) → moment < 2 ^ 64 → other < 2 ^ 64 → moment_text moment ≡ moment_text other → moment ≡ other
same_moment moment other small less e = by (moment == 2 ^ 64 - 1) (other == 2 ^ 64 - 1) refl refl e
  where
    never : (n : ℕ) → decimal n ≢ codes "never"
    never n e = true≢false (sym (ap (has_byte 110) e) ∙ decimal_none 110 n (inr (omega arith)))

    by : (b c : Bool) → (moment == 2 ^ 64 - 1) ≡ b → (other == 2 ^ 64 - 1) ≡ c → cond b (codes "never") (decimal moment) ≡ cond c (codes "never") (decimal other) → moment ≡ other
    by true true is is' e = eqb-true moment (2 ^ 64 - 1) is ∙ sym (eqb-true other (2 ^ 64 - 1) is')
    by true false is is' e = absurd (never other (sym e))
    by false true is is' e = absurd (never moment e)
    by false false is is' e = decimal_injective moment other small less e

pub moment_gap : (g moment : ℕ) → has_byte (gap g) (moment_text moment) ≡ false
moment_gap g moment = by (moment == 2 ^ 64 - 1)
  where
    never : (g : ℕ) → has_byte (gap g) (codes "never") ≡ false
    never zero = refl
    never (suc zero) = refl
    never (suc (suc g)) = refl

    by : (b : Bool) → has_byte (gap g) (cond b (codes "never") (decimal moment)) ≡ false
    by true = never g
    by false = decimal_gap g moment

pub stream_gap : (g : ℕ) (stream : Option ℕ) → has_byte (gap g) (stream_text stream) ≡ false
stream_gap zero None = refl
stream_gap (suc zero) None = refl
stream_gap (suc (suc g)) None = refl
stream_gap g (Some stream) = decimal_gap g stream

pub dashed : (n : ℕ) → codes "-" ≢ decimal n
dashed n e = true≢false (ap (has_byte 45) e ∙ decimal_none 45 n (inl (omega arith)))
