-- What the words of a setting determine.
use Rattle.std.proofs.Common.{◌≡◌, ◌≢◌, ◌<◌, ◌≤◌, ◌^◌, ℕ, true, false, List, [], ◌∷◌, length, refl, sym, ap, codes, arith}
use Rattle.std.specs.Fmt.{decimal}
use Rattle.rtc_script.specs.Lines.{AreValueWords}
use Rattle.rtc_script.specs.Words.{role_text}
use Rattle.rtc_script.specs.declared.setting.Setting.{Setting}
use Rattle.rtc_script.specs.declared.setting.Setting.TheVariants.{Lite, Snap, Buffer, MaxMessage, Stats, Polite}
use Rattle.rtc_script.proofs.OpWords.{same_letter}

one_same : (a b : List ℕ) → a ∷ [] ≡ b ∷ [] → a ≡ b
one_same a b same = cc (same)

one_or_two : (a b c : List ℕ) → a ∷ [] ≡ b ∷ c ∷ [] → ⊥
one_or_two a b c same = cc (same)

two_or_one : (a b c : List ℕ) → a ∷ b ∷ [] ≡ c ∷ [] → ⊥
two_or_one a b c same = cc (same)

first_same : (a b c d : List ℕ) → a ∷ b ∷ [] ≡ c ∷ d ∷ [] → a ≡ c
first_same a b c d same = cc (same)

second_same : (a b c d : List ℕ) → a ∷ b ∷ [] ≡ c ∷ d ∷ [] → b ≡ d
second_same a b c d same = cc (same)

-- the words that take a number
apart : codes "buffer" ≡ codes "maxmsg" → ⊥
apart same = absurd (omega (arith, same_letter 0 (codes "buffer") (codes "buffer") (codes "maxmsg") refl same))

apart_buffer : codes "stats" ≡ codes "buffer" → ⊥
apart_buffer same = absurd (omega (arith, same_letter 0 (codes "stats") (codes "stats") (codes "buffer") refl same))

apart_message : codes "stats" ≡ codes "maxmsg" → ⊥
apart_message same = absurd (omega (arith, same_letter 0 (codes "stats") (codes "stats") (codes "maxmsg") refl same))

-- another word than these is no setting by itself
pub no_one_word : (word : List ℕ) → word ≢ codes "lite" → word ≢ codes "snap" → word ≢ codes "polite" → word ≢ codes "impolite" → (setting : Setting)
    → AreValueWords (word ∷ []) setting → ⊥
no_one_word word one two three four Lite are = one (one_same word (codes "lite") are.0)
no_one_word word one two three four Snap are = two (one_same word (codes "snap") are.0)
no_one_word word one two three four (Buffer size) are = one_or_two word (codes "buffer") (decimal size) are.0
no_one_word word one two three four (MaxMessage size) are = one_or_two word (codes "maxmsg") (decimal size) are.0
no_one_word word one two three four (Stats millis) are = one_or_two word (codes "stats") (decimal millis) are.0
no_one_word word one two three four (Polite true) are = three (one_same word (codes "polite") are.0)
no_one_word word one two three four (Polite false) are = four (one_same word (codes "impolite") are.0)

-- another word than these has no number behind it
pub no_two_words : (word number : List ℕ) → word ≢ codes "buffer" → word ≢ codes "maxmsg" → word ≢ codes "stats" → (setting : Setting)
    → AreValueWords (word ∷ number ∷ []) setting → ⊥
no_two_words word number one two three Lite are = two_or_one word number (codes "lite") are.0
no_two_words word number one two three Snap are = two_or_one word number (codes "snap") are.0
no_two_words word number one two three (Buffer size) are = one (first_same word number (codes "buffer") (decimal size) are.0)
no_two_words word number one two three (MaxMessage size) are = two (first_same word number (codes "maxmsg") (decimal size) are.0)
no_two_words word number one two three (Stats millis) are = three (first_same word number (codes "stats") (decimal millis) are.0)
no_two_words word number one two three (Polite polite) are = two_or_one word number (role_text polite) are.0

-- what is no size of a buffer
pub no_buffer : (number : List ℕ) → ((size : ℕ) → size ≤ 1000000000 → number ≢ decimal size) → (setting : Setting)
    → AreValueWords (codes "buffer" ∷ number ∷ []) setting → ⊥
no_buffer number none Lite are = two_or_one (codes "buffer") number (codes "lite") are.0
no_buffer number none Snap are = two_or_one (codes "buffer") number (codes "snap") are.0
no_buffer number none (Buffer size) are = none size are.1 (second_same (codes "buffer") number (codes "buffer") (decimal size) are.0)
no_buffer number none (MaxMessage size) are = apart (first_same (codes "buffer") number (codes "maxmsg") (decimal size) are.0)
no_buffer number none (Stats millis) are = apart_buffer (sym (first_same (codes "buffer") number (codes "stats") (decimal millis) are.0))
no_buffer number none (Polite polite) are = two_or_one (codes "buffer") number (role_text polite) are.0

-- what is no length of a message
pub no_max_message : (number : List ℕ) → ((size : ℕ) → size < 2 ^ 32 → number ≢ decimal size) → (setting : Setting)
    → AreValueWords (codes "maxmsg" ∷ number ∷ []) setting → ⊥
no_max_message number none Lite are = two_or_one (codes "maxmsg") number (codes "lite") are.0
no_max_message number none Snap are = two_or_one (codes "maxmsg") number (codes "snap") are.0
no_max_message number none (Buffer size) are = apart (sym (first_same (codes "maxmsg") number (codes "buffer") (decimal size) are.0))
no_max_message number none (Stats millis) are = apart_message (sym (first_same (codes "maxmsg") number (codes "stats") (decimal millis) are.0))
no_max_message number none (MaxMessage size) are = none size are.1 (second_same (codes "maxmsg") number (codes "maxmsg") (decimal size) are.0)
no_max_message number none (Polite polite) are = two_or_one (codes "maxmsg") number (role_text polite) are.0

-- what is no time between rounds of statistics
pub no_stats : (number : List ℕ) → ((millis : ℕ) → 1 ≤ millis → millis ≤ 1000000000 → number ≢ decimal millis) → (setting : Setting)
    → AreValueWords (codes "stats" ∷ number ∷ []) setting → ⊥
no_stats number none Lite are = two_or_one (codes "stats") number (codes "lite") are.0
no_stats number none Snap are = two_or_one (codes "stats") number (codes "snap") are.0
no_stats number none (Buffer size) are = apart_buffer (first_same (codes "stats") number (codes "buffer") (decimal size) are.0)
no_stats number none (MaxMessage size) are = apart_message (first_same (codes "stats") number (codes "maxmsg") (decimal size) are.0)
no_stats number none (Stats millis) are = none millis are.1.0 are.1.1 (second_same (codes "stats") number (codes "stats") (decimal millis) are.0)
no_stats number none (Polite polite) are = two_or_one (codes "stats") number (role_text polite) are.0

-- a setting has one or two words
pub no_value : (found : List (List ℕ)) → (length found ≡ 1 → ⊥) → (length found ≡ 2 → ⊥) → (setting : Setting) → AreValueWords found setting → ⊥
no_value found one two Lite are = one (ap length are.0)
no_value found one two Snap are = one (ap length are.0)
no_value found one two (Buffer size) are = two (ap length are.0)
no_value found one two (MaxMessage size) are = two (ap length are.0)
no_value found one two (Stats millis) are = two (ap length are.0)
no_value found one two (Polite polite) are = one (ap length are.0)
