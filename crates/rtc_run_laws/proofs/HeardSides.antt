-- A stream of which no whole message stands unread stays so until more comes.
use Rattle.std.proofs.Common.{◌≡◌, ◌∙◌, ℕ, Bool, true, false, true≢false, Some, None, refl, sym, ap}
use Rattle.rtc_assoc_state.specs.Contents.{Contents, generation_of, has_unread}
use Rattle.rtc_run_laws.proofs.QuietActs.{StaysHeard}

-- a stream of which nothing stands unread, by acts that bring nothing
pub still_heard : (a b : Contents) (s : ℕ) → StaysHeard a b → has_unread a s (generation_of a s) ≡ false → has_unread b s (generation_of b s) ≡ false
still_heard a b s h none = ap (λ (n : ℕ). has_unread b s n) (h.same s) ∙ by (has_unread b s (generation_of a s)) refl
  where
    by : (c : Bool) → has_unread b s (generation_of a s) ≡ c → c ≡ false
    by true e = absurd (true≢false (sym (h.unraised s (generation_of a s) e) ∙ none))
    by false e = refl

pub no_some : (n : ℕ) → None ≡ Some n → ⊥
no_some n h = cc

pub some_is : (n k : ℕ) → Some n ≡ Some k → n ≡ k
some_is n k h = cc
