-- The front of a text, byte by byte.
use Rattle.std.proofs.Common.{◌≡◌, ◌≢◌, ℕ, ◌<◌, Bool, true, false, cond, eq-eqb, List, [], ◌∷◌, length, Option, Some, None, refl, ap, arith, inl, inr}
use Rattle.std.specs.Prelude.{option_map, MatchOption}
use Rattle.std.proofs.lemmas.Bool.Decides.{eqb_tells}
use Rattle.std.proofs.lemmas.Str.Pattern.{strip_prefix_char}
use Rattle.std.specs.Str.Pattern.{FindsCharPrefix}
use Rattle.std.proofs.Common.{drop, ◌+◌}
use denote.Ref.{Bor}
use Rattle.rtc_wire_text.specs.Fronts.{behind, from_first, is_byte}

abbrev shown : Option (Bor (List ℕ)) → Option (List ℕ)
shown found = option_map (λ rest. rest.now) found

stripped : (byte : ℕ) (text : List ℕ) (found : Option (Bor (List ℕ))) → MatchOption found ((rest : List ℕ) → text ≢ byte ∷ rest) (λ x. text ≡ byte ∷ x.now) → shown found ≡ behind (is_byte byte) text
stripped byte text (Some x) h = rw (h, eq-eqb byte byte refl) refl
stripped byte [] None h = refl
stripped byte (x ∷ xs) None h = elim (eqb_tells x byte) [
  | inl (t, e) ↦ absurd (h xs (ap (λ (y : ℕ). y ∷ xs) e))
  | inr (f, _) ↦ rw f refl
]

-- std's answer is what stands behind the byte
pub strip_prefix_is_behind : (byte : ℕ) (text : List ℕ) (found : Option (Bor (List ℕ))) → MatchOption found (FindsCharPrefix byte text None) (λ x. (n : ℕ) × FindsCharPrefix byte text (Some n) × (x.now ≡ drop n text) × (length x.now + n ≡ length text)) → byte < 128 → shown found ≡ behind (is_byte byte) text
strip_prefix_is_behind byte text found h small = stripped byte text found (strip_prefix_char byte text found h small)

-- a byte that passes is passed over
pub from_first-behind : (test : ℕ → Bool) (text rest : List ℕ) → Some rest ≡ behind test text → from_first test rest ≡ from_first test text
from_first-behind test [] rest h = absurd cc
from_first-behind test (x ∷ xs) rest h = go (test x) refl h
  where
    go : (b : Bool) → test x ≡ b → Some rest ≡ cond b (Some xs) None → from_first test rest ≡ cond (test x) (from_first test xs) (x ∷ xs)
    go true e h = let same : rest ≡ xs = cc in rw (e, same) refl
    go false e h = absurd cc

pub behind_shorter : (test : ℕ → Bool) (text rest : List ℕ) → Some rest ≡ behind test text → length rest < length text
behind_shorter test [] rest h = absurd cc
behind_shorter test (x ∷ xs) rest h = go (test x) h
  where
    go : (b : Bool) → Some rest ≡ cond b (Some xs) None → length rest < length (x ∷ xs)
    go true h = let same : rest ≡ xs = cc in rw same (omega arith)
    go false h = absurd cc

pub from_first_done : (test : ℕ → Bool) (text : List ℕ) → None ≡ behind test text → text ≡ from_first test text
from_first_done test [] h = refl
from_first_done test (x ∷ xs) h = go (test x) h
  where
    go : (b : Bool) → None ≡ cond b (Some xs) None → x ∷ xs ≡ cond b (from_first test xs) (x ∷ xs)
    go true h = absurd cc
    go false h = refl
