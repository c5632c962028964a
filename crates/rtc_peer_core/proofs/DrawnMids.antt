-- A mid that is drawn is a short token.
use Rattle.std.proofs.Common.{◌≡◌, ◌+◌, ◌%◌, ◌<◌, ◌≤◌, ◌^◌, ℕ, zero, suc, Bool, true, false, cond, ltb, leb, ◌&&◌, List, [], ◌∷◌, length, refl, arith}
use Rattle.std.specs.List.{list_all}
use Rattle.std.specs.Char.{is_ascii_digit}
use Rattle.std.specs.Fmt.{decimal}
use Rattle.std.proofs.lemmas.Bool.{le-leb, lt-ltb}
use Rattle.std.proofs.lemmas.Bool.Decides.{nat_tests}
use Rattle.std.proofs.lemmas.Fmt.{digits_decimal, length-decimal-le}
use Rattle.rtc_wire_text.specs.Tokens.{is_token_byte, is_short_token}
use Rattle.rtc_wire_text.proofs.TokenLemmas.{both}
use Rattle.rtc_wire_text.proofs.NumberLemmas.{digit_model}
use Rattle.rtc_peer_core.specs.Names.{drawn_mid, free_mid}

digit_is_token : (b : ℕ) → is_ascii_digit b ≡ true → is_token_byte b ≡ true
digit_is_token b h = grind (arith, nat_tests)

digits_are_token : (bs : List ℕ) → list_all is_ascii_digit bs ≡ true → list_all is_token_byte bs ≡ true
digits_are_token [] h = refl
digits_are_token (b ∷ bs) h =
    let p = both (is_ascii_digit b) (list_all is_ascii_digit bs) h in
    rw (digit_is_token b p.0) (digits_are_token bs p.1)

pub both_hold : (a b : Bool) → a ≡ true → b ≡ true → (a && b) ≡ true
both_hold a b h k = rw (h, k) refl

-- the mid of a number is a short token
pub drawn_mid_token : (n : ℕ) → n < 2 ^ 32 → is_short_token (drawn_mid n) ≡ true
drawn_mid_token n small =
    let digits : list_all is_token_byte (drawn_mid n) ≡ true = digits_are_token (decimal n) (digits_decimal digit_model n (omega arith)) in
    let few : length (decimal n) ≤ 10 = length-decimal-le 10 n (omega arith) (omega arith) (omega arith) in
    let some : ltb 0 (length (drawn_mid n)) ≡ true = lt-ltb 0 (length (drawn_mid n)) (omega arith) in
    let short : leb (length (drawn_mid n)) 32 ≡ true = le-leb (length (drawn_mid n)) 32 (omega arith) in
    both_hold _ _ (both_hold _ _ some digits) short

-- so is the first that is not held
pub free_mid_token : (held : List ℕ → Bool) (tries n : ℕ) → n < 2 ^ 32 → is_short_token (free_mid held tries n) ≡ true
unfolding free_mid
free_mid_token held zero n small = drawn_mid_token n small
free_mid_token held (suc tries) n small = by (held (drawn_mid n)) (free_mid_token held tries ((n + 1) % 2 ^ 32) (omega arith))
  where
    by : (b : Bool) → is_short_token (free_mid held tries ((n + 1) % 2 ^ 32)) ≡ true → is_short_token (cond b (free_mid held tries ((n + 1) % 2 ^ 32)) (drawn_mid n)) ≡ true
    by true later = later
    by false later = drawn_mid_token n small
