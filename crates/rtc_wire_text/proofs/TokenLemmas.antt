-- Tokens are text, and a short one fits its array.
use Rattle.std.proofs.Common.{◌≡◌, ℕ, ◌≤◌, ◌<◌, zero, suc, Bool, true, false, ltb, leb, ◌&&◌, List, [], ◌∷◌, ◌++◌, length, take, drop, replicate, refl, ap, arith}
use Rattle.std.proofs.lemmas.List.{take_at, drop-replicate}
use borrow.Author.Tests.{leb-true}
use Rattle.std.specs.List.{list_all}
use Rattle.std.specs.Str.{IsAscii, IsUtf8}
use Rattle.std.proofs.lemmas.Str.{IsUtf8-from_ascii}
use Rattle.std.proofs.lemmas.Bool.Decides.{nat_tests}
use Rattle.rtc_wire_text.specs.Tokens.{is_token, is_short_token, is_token_byte}
use Rattle.rtc_wire_text.specs.ShortToken.{IsPadded}

pub both : (a b : Bool) → (a && b) ≡ true → (a ≡ true) × (b ≡ true)
both true b h = (refl, h)
both false b h = absurd cc

pub short_token_length : (text : List ℕ) → is_short_token text ≡ true → length text ≤ 32
short_token_length text h = leb-true _ _ (both (is_token text) (leb (length text) 32) h).1

pub short_token_bytes : (text : List ℕ) → is_short_token text ≡ true → list_all is_token_byte text ≡ true
short_token_bytes text h = (both (ltb 0 (length text)) (list_all is_token_byte text) (both (is_token text) (leb (length text) 32) h).0).1

-- a short token at the front of zeros
pub short_token_fits : (text : List ℕ) → is_short_token text ≡ true → IsPadded (record { len = length text; bytes = text ++ drop (length text) (replicate 32 0) })
short_token_fits text h =
    let rest = drop (length text) (replicate 32 0) in
    let front : take (length text) (text ++ rest) ≡ text = take_at text rest (length text) refl in
    record {
      most = short_token_length text h;
      count = ap length front;
      zeros = rw front (ap (λ (z : List ℕ). text ++ z) (drop-replicate (length text) 32 0));
      token = rw front h;
    }

token_byte_ascii : (byte : ℕ) → is_token_byte byte ≡ true → byte < 128
token_byte_ascii byte h = grind (arith, nat_tests)

token_bytes_ascii : (text : List ℕ) → list_all is_token_byte text ≡ true → IsAscii text
token_bytes_ascii [] h i = omega arith
token_bytes_ascii (b ∷ bs) h zero = token_byte_ascii b (both (is_token_byte b) (list_all is_token_byte bs) h).0
token_bytes_ascii (b ∷ bs) h (suc i) = token_bytes_ascii bs (both (is_token_byte b) (list_all is_token_byte bs) h).1 i

pub token_bytes_utf8 : (text : List ℕ) → list_all is_token_byte text ≡ true → IsUtf8 text
token_bytes_utf8 text h = IsUtf8-from_ascii text (token_bytes_ascii text h)
