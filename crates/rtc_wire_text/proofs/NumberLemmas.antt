-- What `parse` reads of digits.
use Rattle.std.proofs.Common.{◌≡◌, ◌≢◌, ℕ, ◌-◌, ◌^◌, ◌<◌, ◌≤◌, Bool, true, false, ltb, leb, min, List, [], ◌∷◌, length, Some, Result, Ok, Err, refl, arith, rules, inl, inr, sym, ap, ◌∙◌, get_or, not, zero, suc}
use Rattle.std.specs.List.{list_all}
use Rattle.std.specs.Char.{is_ascii_digit}
use Rattle.std.specs.Fmt.{decimal}
use Rattle.std.specs.Result.{OkIff, result_unwrap_or}
use Rattle.std.specs.Str.Parse.{digits_value, ParsesUnsigned}
use Rattle.std.proofs.lemmas.Bool.{cases_lt, lt-ltb, le-leb}
use borrow.Author.Tests.{ltb-true}
use Rattle.std.proofs.lemmas.Str.Parse.{IsNumeralModel, IsDigitsTest, numerals_by_value, parse_digits}
use Rattle.std.proofs.lemmas.Fmt.{digits_decimal, digits_value-decimal, decimal_nonempty, decimal-digits_value, decimal_digit, first_decimal}
use Rattle.rtc_wire_text.specs.Numbers.{is_numeral, number, number_up_to, has_zero_in_front, is_plain_numeral}
use Rattle.rtc_wire_text.specs.Cuts.{Lacks}
use Rattle.rtc_wire_text.proofs.CutLemmas.{passing_lack}
use Rattle.std.proofs.lemmas.Bool.Decides.{nat_tests}
use Rattle.rtc_wire_text.proofs.TokenLemmas.{both}

abbrev pub AreDigits : List ℕ → Type 0
AreDigits ds = list_all is_ascii_digit ds ≡ true

tests_digits : IsDigitsTest AreDigits
tests_digits = search rules

pub digit_model : IsNumeralModel AreDigits (digits_value 10)
digit_model = numerals_by_value AreDigits tests_digits

pub numeral_digits : (text : List ℕ) → is_numeral text ≡ true → AreDigits text
numeral_digits text h = (both (ltb 0 (length text)) (list_all is_ascii_digit text) h).1

pub numeral_some : (text : List ℕ) → is_numeral text ≡ true → 0 < length text
numeral_some text h = ltb-true _ _ (both (ltb 0 (length text)) (list_all is_ascii_digit text) h).0

pub parse_numeral : {E : Type 0} (text : List ℕ) (r : Result ℕ E) → is_numeral text ≡ true → ParsesUnsigned 64 10 text r → OkIff r ((0 < length text) × (digits_value 10 text < 2 ^ 64)) (digits_value 10 text)
parse_numeral text r h parsed = parse_digits digit_model 64 text r parsed (numeral_digits text h)

pub number_is : {E : Type 0} (text : List ℕ) (r : Result ℕ E) → is_numeral text ≡ true → ParsesUnsigned 64 10 text r → Some (result_unwrap_or r (2 ^ 64 - 1)) ≡ number text
unfolding number
number_is {E = E} text (Ok n) h parsed =
    let p = parse_numeral {E = E} text (Ok n) h parsed in
    rw h (ap Some (omega (arith, p.0.1, p.1)))
number_is {E = E} text (Err e) h parsed =
    let no = parse_numeral {E = E} text (Err e) h parsed in
    let some : 0 < length text = numeral_some text h in
    let big : 2 ^ 64 ≤ digits_value 10 text = elim (cases_lt (digits_value 10 text) (2 ^ 64)) [ inl lt ↦ absurd (no (some, lt)) | inr le ↦ le ] in
    rw h (ap Some (omega arith))

pub is_numeral-decimal : (n : ℕ) → n < 2 ^ 64 → is_numeral (decimal n) ≡ true
is_numeral-decimal n small = let a : ltb 0 (length (decimal n)) ≡ true = lt-ltb _ _ (decimal_nonempty n small) in rw (a, digits_decimal digit_model n small) refl

-- one of more digits does not begin with a zero
digits_in_front : (text : List ℕ) → has_zero_in_front text ≡ false → get_or text 0 0 ≡ 48 → 0 < length text → length text ≡ 1
digits_in_front [] h is_zero some = absurd (omega arith)
digits_in_front (first ∷ []) h is_zero some = refl
digits_in_front (first ∷ x ∷ rest) h is_zero some = grind (arith, nat_tests)

-- digits with no zero in front are the decimal of what is parsed of them
pub parsed_decimal : {E : Type 0} (text : List ℕ) (n : ℕ) (r : Result ℕ E) → r ≡ Ok n → is_numeral text ≡ true → has_zero_in_front text ≡ false → ParsesUnsigned 64 10 text r → text ≡ decimal n
parsed_decimal {E = E} text n r is h front parsed =
    let p : OkIff {E = E} (Ok n) ((0 < length text) × (digits_value 10 text < 2 ^ 64)) (digits_value 10 text) = rw is at (parse_numeral {E = E} text r h parsed) in
    let again : decimal (digits_value 10 text) ≡ text = decimal-digits_value digit_model text (numeral_digits text h) (numeral_some text h) (λ z. digits_in_front text front z (numeral_some text h)) p.0.1 in
    sym again ∙ ap decimal (sym p.1)

-- what is not parsed is no decimal
pub unparsed_decimal : {E : Type 0} (text : List ℕ) (e : E) (r : Result ℕ E) (n : ℕ) → r ≡ Err e → is_numeral text ≡ true → ParsesUnsigned 64 10 text r → n < 2 ^ 64 → text ≢ decimal n
unparsed_decimal {E = E} text e r n is h parsed small same =
    let no : OkIff {E = E} (Err e) ((0 < length text) × (digits_value 10 text < 2 ^ 64)) (digits_value 10 text) = rw is at (parse_numeral {E = E} text r h parsed) in
    let value : digits_value 10 text ≡ n = ap (digits_value 10) same ∙ digits_value-decimal digit_model n small in
    no (numeral_some text h, rw value small)

-- what a decimal is made of
pub plain_numeral_parts : (text : List ℕ) → is_plain_numeral text ≡ true → (is_numeral text ≡ true) × (has_zero_in_front text ≡ false)
plain_numeral_parts text h =
    let b = both (is_numeral text) (not (has_zero_in_front text)) h in
    (b.0, negated (has_zero_in_front text) b.1)
  where
    negated : (b : Bool) → not b ≡ true → b ≡ false
    negated true e = absurd cc
    negated false e = refl

-- a decimal has no zero in front
decimal_front : (n : ℕ) → n < 2 ^ 64 → has_zero_in_front (decimal n) ≡ false
decimal_front zero small = let digit : decimal 0 ≡ 48 ∷ [] = decimal_digit 0 (omega arith) in rw digit refl
decimal_front (suc n) small = larger (decimal (suc n)) (first_decimal (suc n) (omega arith) small)
  where
    larger : (text : List ℕ) → 48 < get_or text 0 0 → has_zero_in_front text ≡ false
    larger [] h = refl
    larger (first ∷ rest) h = grind (arith, nat_tests)

pub is_plain_numeral-decimal : (n : ℕ) → n < 2 ^ 64 → is_plain_numeral (decimal n) ≡ true
is_plain_numeral-decimal n small = rw (is_numeral-decimal n small, decimal_front n small) refl

-- a decimal is read as its number
pub number-decimal : (n : ℕ) → n < 2 ^ 64 → number (decimal n) ≡ Some n
unfolding number
number-decimal n small =
    let least : min n (2 ^ 64 - 1) ≡ n = omega arith in
    rw (is_numeral-decimal n small, digits_value-decimal digit_model n small) (ap Some least)

pub number_up_to-decimal : (most n : ℕ) → n ≤ most → n < 2 ^ 64 → number_up_to most (decimal n) ≡ Some n
number_up_to-decimal most n le small = let fits : leb n most ≡ true = le-leb _ _ le in rw (number-decimal n small, fits) refl

-- a decimal has digits alone
pub decimal_lacks : (byte : ℕ) → is_ascii_digit byte ≡ false → (n : ℕ) → n < 2 ^ 64 → Lacks byte (decimal n)
decimal_lacks byte out n small = passing_lack is_ascii_digit byte out (decimal n) (digits_decimal digit_model n small)
