-- The first bit from a place on, in one word and in three levels of words.
use Rattle.std.proofs.Common.{◌≡◌, ℕ, zero, suc, replicate, ◌+◌, ◌-◌, ◌*◌, ◌/◌, ◌%◌, ◌^◌, ◌<◌, ◌≤◌, Some, None, List, length, get_or, true, false, w64, sym, ap, ◌∙◌, inl, inr, arith, refl}
use Rattle.std.specs.Prelude.{Option}
use Rattle.std.specs.Int.{bit_at, trailing_zeros}
use Rattle.std.proofs.Math.Nat.{div-le_self}
use Rattle.std.proofs.lemmas.Bool.{cases_eq, cases_lt, ltb-true, ltb-false, false≢true}
use Rattle.std.proofs.lemmas.List.{get_or_past}
use Rattle.std.proofs.lemmas.Nat.{shr-shr}
use Rattle.std.proofs.lemmas.Nat.Bits.{bit_at-zero, bit_at-trailing_zeros, bit_at_above}
use Rattle.rtc_sctp_values.specs.Words.{has_bit, IsSummary, BitFrom, BitBehind}
use Rattle.rtc_sctp_values.proofs.WordLemmas.{no_bit}

-- ---- one word

-- a shifted word has the bits of the word behind the place
bit_at-shifted : (word place i : ℕ) → bit_at (word / 2 ^ place) i ≡ bit_at word (place + i)
bit_at-shifted word place i = ap (λ n. n % 2) (shr-shr word place i)

-- a bit behind a place, in its word
bit_on : (words : List ℕ) (from other : ℕ) → from ≤ other → other / 64 ≡ from / 64
    → bit_at (get_or words (other / 64) 0) (other % 64) ≡ bit_at (get_or words (from / 64) 0 / 2 ^ (from % 64)) (other - from)
bit_on words from other least same =
    let low : other % 64 ≡ from % 64 + (other - from) = omega (arith, least, same) in
    ap (λ n. bit_at (get_or words n 0) (other % 64)) same ∙ ap (λ n. bit_at (get_or words (from / 64) 0) n) low
    ∙ sym (bit_at-shifted (get_or words (from / 64) 0) (from % 64) (other - from))

is_clear : (words : List ℕ) (place : ℕ) → bit_at (get_or words (place / 64) 0) (place % 64) ≡ 0 → has_bit words place ≡ false
unfolding has_bit
is_clear words place h = rw h refl

is_set : (words : List ℕ) (place : ℕ) → bit_at (get_or words (place / 64) 0) (place % 64) ≡ 1 → has_bit words place ≡ true
unfolding has_bit
is_set words place h = rw h refl

pub none_behind : (words : List ℕ) (from : ℕ) → get_or words (from / 64) 0 / 2 ^ (from % 64) ≡ 0 → BitBehind words from None
none_behind words from none = λ other least same.
    is_clear words other (bit_on words from other least same ∙ ap (λ n. bit_at n (other - from)) none ∙ bit_at-zero (other - from))

-- a bit of a shifted word is one of the word's 64
within_word : (word place i : ℕ) → word < 2 ^ 64 → bit_at (word / 2 ^ place) i ≡ 1 → place + i < 64
within_word word place i fits one =
    elim (cases_lt (place + i) 64) [
      | inl within ↦ within
      | inr past ↦ absurd (omega (arith, bit_at_above word 64 (place + i) fits past, bit_at-shifted word place i, one))
    ]

pub some_behind : (words : List ℕ) (from : ℕ) → 0 < get_or words (from / 64) 0 / 2 ^ (from % 64) → get_or words (from / 64) 0 < 2 ^ 64
    → BitBehind words from (Some (from + trailing_zeros w64 (get_or words (from / 64) 0 / 2 ^ (from % 64))))
some_behind words from used fits =
    let word : ℕ = get_or words (from / 64) 0 in
    let rest : ℕ = word / 2 ^ (from % 64) in
    let t : ℕ = trailing_zeros w64 rest in
    let lowest = bit_at-trailing_zeros w64 rest used (omega (arith, fits, div-le_self word (2 ^ (from % 64)))) in
    let within : from % 64 + t < 64 = within_word word (from % 64) t fits lowest.1 in
    let same : (from + t) / 64 ≡ from / 64 = omega (arith, within) in
    let off : (from + t) - from ≡ t = omega arith in
    record {
      first = record {
        behind = omega arith;
        set = is_set words (from + t) (bit_on words from (from + t) (omega arith) same ∙ ap (λ n. bit_at rest n) off ∙ lowest.1);
        before = λ other least less.
            is_clear words other (bit_on words from other least (omega (arith, least, less, within)) ∙ lowest.2 (other - from) (omega (arith, least, less)));
      };
      word = same;
    }

-- ---- several words

past_words : (words : List ℕ) (place : ℕ) → length words ≤ place / 64 → has_bit words place ≡ false
past_words words place past = is_clear words place (ap (λ n. bit_at n (place % 64)) (get_or_past words (place / 64) 0 past) ∙ bit_at-zero (place % 64))

-- there is no bit past the words
pub none_past : (words : List ℕ) (from count : ℕ) → length words ≡ count → count * 64 ≤ from → BitFrom words from None
none_past words from count is past = λ other least. past_words words other (omega (arith, is, past, least))

-- a bit that is set is one of a word of the list
pub set_within : (words : List ℕ) (place : ℕ) → has_bit words place ≡ true → place / 64 < length words
set_within words place set =
    elim (cases_lt (place / 64) (length words)) [
      | inl within ↦ within
      | inr past ↦ absurd (false≢true (sym (past_words words place past) ∙ set))
    ]

-- of one word
pub of_one : (top : List ℕ) (from : ℕ) (r : Option ℕ) → length top ≡ 1 → from < 64 → BitBehind top from r → BitFrom top from r
of_one top from None one few none = λ other least.
    elim (cases_lt other 64) [
      | inl near ↦ none other least (omega (arith, near, few))
      | inr far ↦ past_words top other (omega (arith, far, one))
    ]
of_one top from (Some place) one few next = next.first

-- the words whose upper bit is clear have none
clear_word : (upper lower : List ℕ) (place : ℕ) → IsSummary upper lower → has_bit upper (place / 64) ≡ false → has_bit lower place ≡ false
clear_word upper lower place summary clear =
    let least = ltb-false 0 (get_or lower (place / 64) 0) (sym (summary (place / 64)) ∙ clear) in
    let none : get_or lower (place / 64) 0 ≡ 0 = omega (arith, least) in
    is_clear lower place (ap (λ n. bit_at n (place % 64)) none ∙ bit_at-zero (place % 64))

-- a word whose upper bit is set has one
has_one : (lower : List ℕ) (at : ℕ) → 0 < get_or lower at 0 → get_or lower at 0 < 2 ^ 64 → BitBehind lower (at * 64) None → ⊥
has_one lower at used fits none =
    let word : ℕ = get_or lower at 0 in
    let t : ℕ = trailing_zeros w64 word in
    let lowest = bit_at-trailing_zeros w64 word used fits in
    let high : (at * 64 + t) / 64 ≡ at = omega (arith, lowest.0) in
    let start : at * 64 / 64 ≡ at = omega arith in
    let low : (at * 64 + t) % 64 ≡ t = omega (arith, lowest.0) in
    let one : bit_at (get_or lower ((at * 64 + t) / 64) 0) ((at * 64 + t) % 64) ≡ 1 =
    ap (λ n. bit_at (get_or lower n 0) ((at * 64 + t) % 64)) high ∙ ap (λ n. bit_at word n) low ∙ lowest.1 in
    false≢true (sym (none (at * 64 + t) (omega arith) (high ∙ sym start)) ∙ is_set lower (at * 64 + t) one)

-- none in the word of a place, and none in the words behind it
pub none_below : (upper lower : List ℕ) (from : ℕ) → IsSummary upper lower → BitBehind lower from None → BitFrom upper (from / 64 + 1) None
    → BitFrom lower from None
none_below upper lower from summary here above = λ other least.
    elim (cases_eq (other / 64) (from / 64)) [
      | inl same ↦ here other least same
      | inr apart ↦ clear_word upper lower other summary (above (other / 64) (omega (arith, least, apart)))
    ]

-- none in the word of a place, and one in the first word behind it that has any
pub some_below : (upper lower : List ℕ) (from at : ℕ) (r : Option ℕ) → IsSummary upper lower → BitBehind lower from None
    → BitFrom upper (from / 64 + 1) (Some at) → get_or lower at 0 < 2 ^ 64 → BitBehind lower (at * 64) r → BitFrom lower from r
some_below upper lower from at None summary here above fits below =
    absurd (has_one lower at (ltb-true 0 _ (sym (summary at) ∙ above.set)) fits below)
some_below upper lower from at (Some place) summary here above fits below =
    let start : at * 64 / 64 ≡ at = omega arith in
    let word : place / 64 ≡ at = below.word ∙ start in
    record {
      behind = omega (arith, above.behind, word);
      set = below.first.set;
      before = λ other least less.
          elim (cases_eq (other / 64) (from / 64)) [
            | inl same ↦ here other least same
            | inr apart ↦
                elim (cases_lt (other / 64) at) [
                  | inl lower_word ↦ clear_word upper lower other summary (above.before (other / 64) (omega (arith, least, apart)) lower_word)
                  | inr last ↦ below.first.before other (omega (arith, last)) less
                ]
          ];
    }

-- ---- the empty set

zero_at : (n i : ℕ) → let z : ℕ = 0 in get_or (replicate n z) i z ≡ z
zero_at zero i = refl
zero_at (suc n) zero = refl
zero_at (suc n) (suc i) = zero_at n i

pub empty_bits : (count place : ℕ) → has_bit (replicate count 0) place ≡ false
empty_bits count place = no_bit (replicate count 0) (zero_at count) place

pub empty_summary : (n k : ℕ) → IsSummary (replicate n 0) (replicate k 0)
empty_summary n k = λ place. rw (empty_bits n place, zero_at k place) refl
