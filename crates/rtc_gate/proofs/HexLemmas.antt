-- Digits that are read pair by pair.
use Rattle.std.proofs.Common.{◌≡◌, ℕ, zero, suc, ◌+◌, ◌-◌, ◌<◌, ◌≤◌, ◌∙◌, List, [], ◌∷◌, ◌++◌, length, drop, get_or, Option, Some, None, refl, ap, sym, arith, append_assoc}
use Rattle.rtc_gate.specs.HexWords.{lower_digit, byte_of_digits, byte_before, bytes_of_digits}

-- what is read so far, in front of what is read of the rest
abbrev pub with_front : List ℕ → Option (List ℕ) → Option (List ℕ)
with_front front None = None
with_front front (Some bytes) = Some (front ++ bytes)

drop_two : (digits : List ℕ) (at : ℕ) → at + 2 ≤ length digits → drop at digits ≡ get_or digits at 0 ∷ get_or digits (at + 1) 0 ∷ drop (at + 2) digits
drop_two digits at within = go digits at within ∙ ap (λ (n : ℕ). get_or digits at 0 ∷ get_or digits n 0 ∷ drop (at + 2) digits) (let same : suc at ≡ at + 1 = omega arith in same) ∙ refl
  where
    go : (digits : List ℕ) (at : ℕ) → at + 2 ≤ length digits → drop at digits ≡ get_or digits at 0 ∷ get_or digits (suc at) 0 ∷ drop (at + 2) digits
    go [] at within = absurd (omega arith)
    go (a ∷ []) at within = absurd (omega arith)
    go (a ∷ b ∷ digits) zero within = refl
    go (a ∷ b ∷ digits) (suc at) within =
        go (b ∷ digits) at (omega (arith, within)) ∙ ap (λ (n : ℕ). get_or (b ∷ digits) at 0 ∷ get_or (b ∷ digits) (suc at) 0 ∷ drop n (a ∷ b ∷ digits)) (let same : suc (at + 2) ≡ suc at + 2 = omega arith in same)

-- a pair is a byte
pub pair_read : (digits front front' : List ℕ) (at byte : ℕ) → at + 2 ≤ length digits → Some byte ≡ byte_of_digits (lower_digit (get_or digits at 0)) (lower_digit (get_or digits (at + 1) 0)) → front' ≡ front ++ byte ∷ [] → with_front front (bytes_of_digits (drop at digits)) ≡ bytes_of_digits digits → with_front front' (bytes_of_digits (drop (at + 2) digits)) ≡ bytes_of_digits digits
pair_read digits front front' at byte within is grown so_far =
    ap (λ (f : List ℕ). with_front f (bytes_of_digits (drop (at + 2) digits))) grown
    ∙ go (bytes_of_digits (drop (at + 2) digits))
    ∙ ap (λ (b : Option ℕ). with_front front (byte_before b (bytes_of_digits (drop (at + 2) digits)))) is
    ∙ ap (λ (x : List ℕ). with_front front (bytes_of_digits x)) (sym (drop_two digits at within))
    ∙ so_far
  where
    go : (o : Option (List ℕ)) → with_front (front ++ byte ∷ []) o ≡ with_front front (byte_before (Some byte) o)
    go None = refl
    go (Some bytes) = ap Some (append_assoc front (byte ∷ []) bytes)

-- where a pair is none, there are no bytes
pub pair_refused : (digits front : List ℕ) (at : ℕ) → at + 2 ≤ length digits → None ≡ byte_of_digits (lower_digit (get_or digits at 0)) (lower_digit (get_or digits (at + 1) 0)) → with_front front (bytes_of_digits (drop at digits)) ≡ bytes_of_digits digits → None ≡ bytes_of_digits digits
pair_refused digits front at within is so_far =
    ap (λ (b : Option ℕ). with_front front (byte_before b (bytes_of_digits (drop (at + 2) digits)))) is
    ∙ ap (λ (x : List ℕ). with_front front (bytes_of_digits x)) (sym (drop_two digits at within))
    ∙ so_far

drop_last : (digits : List ℕ) (at : ℕ) → at < length digits → length digits - at < 2 → drop at digits ≡ get_or digits at 0 ∷ []
drop_last [] at below short = absurd (omega arith)
drop_last (a ∷ []) zero below short = refl
drop_last (a ∷ b ∷ digits) zero below short = absurd (omega arith)
drop_last (a ∷ digits) (suc at) below short = drop_last digits at (omega (arith, below)) (omega (arith, short))

-- one digit that is left is no byte
pub odd_refused : (digits front : List ℕ) (at : ℕ) → at < length digits → length digits - at < 2 → with_front front (bytes_of_digits (drop at digits)) ≡ bytes_of_digits digits → None ≡ bytes_of_digits digits
odd_refused digits front at below short so_far = ap (λ (x : List ℕ). with_front front (bytes_of_digits x)) (sym (drop_last digits at below short)) ∙ so_far
