-- The numbers of calls, on examples.
use Rattle.std.proofs.Common.{ℕ, ◌≡◌, ◌-◌, ◌^◌, true, false, List, [], ◌∷◌, refl}
use Rattle.rtc_faulty.specs.Numbering.{Numbering, is_failing, number_used, call_failed, row_of_listed}

-- no number is used
abbrev fresh_numbers : List ℕ → Numbering
fresh_numbers failing = record { failing = failing; used = 0; faults = 0 }

-- of the calls 0 to 3 those with the numbers 0 and 2 fail
first_fails : is_failing (fresh_numbers (2 ∷ 0 ∷ [])) ≡ true
first_fails = refl

second_passes : is_failing (call_failed (fresh_numbers (2 ∷ 0 ∷ []))) ≡ false
second_passes = refl

third_fails : is_failing (number_used (call_failed (fresh_numbers (2 ∷ 0 ∷ [])))) ≡ true
third_fails = refl

fourth_passes : is_failing (call_failed (number_used (call_failed (fresh_numbers (2 ∷ 0 ∷ []))))) ≡ false
fourth_passes = refl

two_counted : (call_failed (number_used (call_failed (fresh_numbers (2 ∷ 0 ∷ []))))).faults ≡ 2
two_counted = refl

-- after the last number no call fails
last_fails : is_failing (record { failing = (2 ^ 64 - 1) ∷ []; used = 2 ^ 64 - 1; faults = 0 }) ≡ true
last_fails = refl

none_after_the_last : is_failing (call_failed (record { failing = (2 ^ 64 - 1) ∷ []; used = 2 ^ 64 - 1; faults = 0 })) ≡ false
none_after_the_last = refl

-- with five numbers left from 3 on, two faults in a row, however often they are listed
two_in_a_row : row_of_listed 5 3 (4 ∷ 3 ∷ 7 ∷ 4 ∷ []) ≡ 2
unfolding row_of_listed
two_in_a_row = refl

none_in_a_row : row_of_listed 6 2 (4 ∷ 3 ∷ 7 ∷ []) ≡ 0
unfolding row_of_listed
none_in_a_row = refl
