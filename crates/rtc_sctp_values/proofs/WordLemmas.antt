-- Bits of words, and lists that sum up others.
use Rattle.std.proofs.Common.{◌≡◌, ◌≢◌, ℕ, ◌+◌, ◌-◌, ◌*◌, ◌/◌, ◌%◌, ◌^◌, ◌<◌, List, length, get_or, set, Bool, true, false, eqb, ltb, w64, sym, ap, ◌∙◌, inl, inr, arith, refl, get_or-set_same, get_or-set_other}
use Rattle.std.specs.Int.{bit_at, trailing_zeros}
use Rattle.std.proofs.lemmas.Bool.{cases_eq, cases_lt, ltb-true, ltb-false}
use Rattle.std.proofs.lemmas.List.{get_or_past}
use Rattle.std.proofs.lemmas.Nat.Bits.{bit_at-zero, bit_at-trailing_zeros, bit_at_ones, bit_at_above}
use Rattle.rtc_sctp_values.specs.Words.{has_bit, IsSummary, IsSummaryBut, IsFirstWord, IsFirstBit}

-- the bit at a place where a word was replaced
pub bit_put : (words : List ℕ) (place word : ℕ) (value : Bool) → place / 64 < length words → eqb (bit_at word (place % 64)) 1 ≡ value
    → has_bit (set words (place / 64) word) place ≡ value
unfolding has_bit
bit_put words place word value within is = ap (λ n. eqb (bit_at n (place % 64)) 1) (get_or-set_same words (place / 64) word 0 within) ∙ is

-- a word that keeps its other bits keeps the bit at each other place
pub bit_kept : (words : List ℕ) (place word : ℕ) → place / 64 < length words
    → ((i : ℕ) → i < 64 → i ≢ place % 64 → bit_at word i ≡ bit_at (get_or words (place / 64) 0) i)
    → (other : ℕ) → other ≢ place → has_bit (set words (place / 64) word) other ≡ has_bit words other
unfolding has_bit
bit_kept words place word within kept other differs =
    elim (cases_eq (other / 64) (place / 64)) [
      | inl same ↦
          rw (same, get_or-set_same words (place / 64) word 0 within)
          (ap (λ n. eqb n 1) (kept (other % 64) (omega arith) (λ index. differs (omega arith))))
      | inr apart ↦ ap (λ n. eqb (bit_at n (other % 64)) 1) (get_or-set_other words (place / 64) (other / 64) word 0 apart)
    ]

-- a word with a bit is one of the list
pub used_within : (words : List ℕ) (at : ℕ) → 0 < get_or words at 0 → at < length words
used_within words at used =
    elim (cases_lt at (length words)) [
      | inl within ↦ within
      | inr past ↦ absurd (omega (arith, get_or_past words at 0 past, used))
    ]

-- the first place with a bit, where this is the first word with one
pub first_place : (words : List ℕ) (at : ℕ) → IsFirstWord words at → get_or words at 0 < 2 ^ 64
    → IsFirstBit words (at * 64 + trailing_zeros w64 (get_or words at 0))
unfolding has_bit
first_place words at first fits =
    let word : ℕ = get_or words at 0 in
    let lowest = bit_at-trailing_zeros w64 word first.used fits in
    let high : (at * 64 + trailing_zeros w64 word) / 64 ≡ at = omega (arith, lowest.0) in
    let low : (at * 64 + trailing_zeros w64 word) % 64 ≡ trailing_zeros w64 word = omega (arith, lowest.0) in
    record {
      set = rw (high, low, lowest.1) refl;
      before = λ other less.
          elim (cases_lt (other / 64) at) [
            | inl lower ↦ rw (first.before (other / 64) lower, bit_at-zero (other % 64)) refl
            | inr here ↦
                let same : other / 64 ≡ at = omega (arith, lowest.0) in
                rw (same, lowest.2 (other % 64) (omega arith)) refl
          ];
    }

-- the first bit of a summary names the first word that has a bit
pub first_word : (upper lower : List ℕ) (at : ℕ) → IsSummary upper lower → IsFirstBit upper at → IsFirstWord lower at
first_word upper lower at summary first = record {
  used = ltb-true 0 _ (sym (summary at) ∙ first.set);
  before = λ place less.
      let none = ltb-false 0 _ (sym (summary place) ∙ first.before place less) in
      omega arith;
}

-- no bit is set where every word is 0
pub no_bit : (words : List ℕ) → ((at : ℕ) → get_or words at 0 ≡ 0) → (place : ℕ) → has_bit words place ≡ false
unfolding has_bit
no_bit words none place = rw (none (place / 64), bit_at-zero (place % 64)) refl

-- every word is 0 where its summary is
pub none_below : (upper lower : List ℕ) → IsSummary upper lower → ((at : ℕ) → get_or upper at 0 ≡ 0) → (at : ℕ) → get_or lower at 0 ≡ 0
none_below upper lower summary none at =
    let least = ltb-false 0 (get_or lower at 0) (sym (summary at) ∙ no_bit upper none at) in
    omega arith

pub only_word : (top : List ℕ) → length top ≡ 1 → get_or top 0 0 ≡ 0 → (at : ℕ) → get_or top at 0 ≡ 0
only_word top count none at =
    elim (cases_lt at 1) [
      | inl first ↦ let zeroth : at ≡ 0 = omega arith in rw zeroth none
      | inr past ↦ get_or_past top at 0 (omega arith)
    ]

-- no bit is set in any of three levels where the top word is 0
pub no_bits : (words groups top : List ℕ) → length top ≡ 1 → IsSummary groups words → IsSummary top groups → get_or top 0 0 ≡ 0
    → (place : ℕ) → has_bit words place ≡ false
no_bits words groups top one lower upper none = no_bit words (none_below groups words lower (none_below top groups upper (only_word top one none)))

-- the first word of a list is the first with a bit, where it has one
pub first_of_one : (top : List ℕ) → 0 < get_or top 0 0 → IsFirstWord top 0
first_of_one top used = record { used = used; before = λ place less. absurd (omega arith) }

-- an upper list whose bit is put stays a summary
pub summary_put : (upper upper' lower : List ℕ) (at : ℕ) (used : Bool) → IsSummaryBut at upper lower → used ≡ ltb 0 (get_or lower at 0)
    → has_bit upper' at ≡ used → ((other : ℕ) → other ≢ at → has_bit upper' other ≡ has_bit upper other) → IsSummary upper' lower
summary_put upper upper' lower at used but is here others place =
    elim (cases_eq place at) [
      | inl same ↦ rw same (here ∙ is)
      | inr differs ↦ others place differs ∙ but place differs
    ]

-- a summary of words of which one was changed is one but for that word
pub summary_but : (upper lower lower' : List ℕ) (at : ℕ) → IsSummary upper lower
    → ((place : ℕ) → place ≢ at → get_or lower' place 0 ≡ get_or lower place 0) → IsSummaryBut at upper lower'
summary_but upper lower lower' at summary same place differs = summary place ∙ ap (λ n. ltb 0 n) (sym (same place differs))

-- the bits of a full word
bit_of_full : (count i : ℕ) → i < count → eqb (bit_at (2 ^ count - 1) i) 1 ≡ true
bit_of_full count i below = rw (bit_at_ones count i below) refl

-- full words are summed up by full words
pub full_summary : (upper lower : List ℕ) (count : ℕ) → length upper ≡ count → length lower ≡ count * 64
    → ((place : ℕ) → place < count → get_or upper place 0 ≡ 2 ^ 64 - 1) → ((place : ℕ) → place < count * 64 → get_or lower place 0 ≡ 2 ^ 64 - 1)
    → IsSummary upper lower
unfolding has_bit
full_summary upper lower count uppers lowers full below place =
    elim (cases_lt place (count * 64)) [
      | inl within ↦ rw (full (place / 64) (omega arith), below place within) (bit_of_full 64 (place % 64) (omega arith))
      | inr past ↦
          rw (get_or_past upper (place / 64) 0 (omega (arith, uppers)), get_or_past lower place 0 (omega (arith, lowers)), bit_at-zero (place % 64)) refl
    ]

-- eight full words are summed up by eight bits
pub full_top : (top lower : List ℕ) → length top ≡ 1 → length lower ≡ 8 → get_or top 0 0 ≡ 2 ^ 8 - 1
    → ((place : ℕ) → place < 8 → get_or lower place 0 ≡ 2 ^ 64 - 1) → IsSummary top lower
unfolding has_bit
full_top top lower one eight is below place =
    elim (cases_lt place 8) [
      | inl within ↦
          let first : place / 64 ≡ 0 = omega arith in
          rw (first, is, below place within) (bit_of_full 8 (place % 64) (omega arith))
      | inr past ↦
          elim (cases_lt place 64) [
            | inl near ↦
                let first : place / 64 ≡ 0 = omega arith in
                rw (first, is, get_or_past lower place 0 (omega (arith, eight)), bit_at_above (2 ^ 8 - 1) 8 (place % 64) (omega arith) (omega arith)) refl
            | inr far ↦
                rw (get_or_past top (place / 64) 0 (omega (arith, one)), get_or_past lower place 0 (omega (arith, eight)), bit_at-zero (place % 64)) refl
          ]
    ]

-- every bit of full words is set
pub full_bits : (words : List ℕ) (count : ℕ) → ((place : ℕ) → place < count → get_or words place 0 ≡ 2 ^ 64 - 1) → (place : ℕ) → place < count * 64 → has_bit words place ≡ true
unfolding has_bit
full_bits words count full place within = rw (full (place / 64) (omega arith)) (bit_of_full 64 (place % 64) (omega arith))
