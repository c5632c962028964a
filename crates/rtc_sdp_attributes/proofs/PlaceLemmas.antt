-- A text that is cut at the first place of a byte.
use Rattle.std.proofs.Common.{◌≡◌, ◌∙◌, ◌+◌, ◌<◌, ℕ, zero, suc, Bool, true, false, eqb, List, [], ◌∷◌, length, take, drop, slice_index, Option, Some, None, refl, sym, ap, subst, inl, inr, arith}
use Rattle.std.specs.Prelude.{option_map}
use Rattle.std.specs.List.{onto_first}
use Rattle.std.proofs.lemmas.Bool.Decides.{eqb_tells}
use Rattle.memchr.specs.Find.{Nowhere, NoneBefore, Passes, is_byte}
use Rattle.rtc_wire_text.specs.Cuts.{cut, Lacks}
use Rattle.rtc_wire_text.specs.Words.{parts}
use Rattle.rtc_wire_text.proofs.CutLemmas.{cut_none}

is_false : (b : Bool) → ¬ (b ≡ true) → b ≡ false
is_false true h = absurd (h refl)
is_false false h = refl

pub below : (at byte : ℕ) → is_byte at byte ≡ true → at < 128 → byte < 128
below at byte is lt = elim (eqb_tells byte at) [
  | inl (t, e) ↦ omega (arith, e, lt)
  | inr (f, _) ↦ absurd cc
]

cut_at_place : (at : ℕ) (text : List ℕ) (place : ℕ) → place < length text → is_byte at (slice_index text place) ≡ true
    → ((k : ℕ) → k < place → is_byte at (slice_index text k) ≡ false) → cut at text ≡ Some (take place text, drop (suc place) text)
cut_at_place at [] place lt is none = absurd (omega arith)
cut_at_place at (b ∷ bs) zero lt is none =
    let here : eqb b at ≡ true = is in
    rw here refl
cut_at_place at (b ∷ bs) (suc n) lt is none =
    let here : eqb b at ≡ false = none 0 (omega arith) in
    rw (here, cut_at_place at bs n (omega arith) is (λ k l. none (suc k) (omega arith))) refl

lacks : (at : ℕ) (text : List ℕ) → ((k : ℕ) → k < length text → is_byte at (slice_index text k) ≡ false) → Lacks at text
lacks at [] h = tt
lacks at (x ∷ xs) h = (h 0 (omega arith), lacks at xs (λ k lt. h (suc k) (omega arith)))

-- a text is cut where the byte stands first
pub cut_found : (at : ℕ) (text : List ℕ) (place : ℕ) → NoneBefore (Passes (is_byte at) text) 0 (length text) place → Passes (is_byte at) text place
    → cut at text ≡ Some (take place text, drop (place + 1) text)
cut_found at text place first is =
    let further : suc place ≡ place + 1 = omega arith in
    subst (λ (n : ℕ). cut at text ≡ Some (take place text, drop n text)) further (cut_at_place at text place first.high is (λ k lt. is_false _ (first.before k (omega arith) lt)))

-- and nowhere, where it does not stand
pub cut_nowhere : (at : ℕ) (text : List ℕ) → Nowhere (Passes (is_byte at) text) 0 (length text) → cut at text ≡ None
cut_nowhere at text none = cut_none at text (lacks at text (λ k lt. is_false _ (none k (omega arith) lt)))

-- ---- parts that are cut off one by one
abbrev behind_cut : ℕ → List ℕ → Option (List ℕ × List ℕ) → List (List ℕ)
behind_cut at text None = text ∷ []
behind_cut at text (Some pair) = pair.0 ∷ parts at pair.1

one_more : (at x : ℕ) (xs : List ℕ) (found : Option (List ℕ × List ℕ)) →
    onto_first x (behind_cut at xs found) ≡ behind_cut at (x ∷ xs) (option_map (λ p. (x ∷ p.0, p.1)) found)
one_more at x xs None = refl
one_more at x xs (Some pair) = refl

parts_by_cut : (at : ℕ) (text : List ℕ) → parts at text ≡ behind_cut at text (cut at text)
parts_by_cut at [] = refl
parts_by_cut at (x ∷ xs) = elim (eqb_tells x at) [
  | inl (t, e) ↦ rw t refl
  | inr (f, _) ↦ rw f (ap (onto_first x) (parts_by_cut at xs) ∙ one_more at x xs (cut at xs))
]

-- a text without the byte is one part
pub parts_none : (at : ℕ) (text : List ℕ) → None ≡ cut at text → parts at text ≡ text ∷ []
parts_none at text h = parts_by_cut at text ∙ ap (behind_cut at text) (sym h)

-- what stands before the first such byte is the first part
pub parts_some : (at : ℕ) (text front behind : List ℕ) → Some (front, behind) ≡ cut at text → parts at text ≡ front ∷ parts at behind
parts_some at text front behind h = parts_by_cut at text ∙ ap (behind_cut at text) (sym h)

-- what is behind a cut is shorter than the text
one_shorter : (x : ℕ) (xs : List ℕ) (found : Option (List ℕ × List ℕ)) (pair : List ℕ × List ℕ) → ((p : List ℕ × List ℕ) → Some p ≡ found → length p.1 < length xs)
    → Some pair ≡ option_map (λ p. (x ∷ p.0, p.1)) found → length pair.1 < length (x ∷ xs)
one_shorter x xs None pair below h = absurd cc
one_shorter x xs (Some p) pair below h =
    let same : pair.1 ≡ p.1 = cc in
    omega (arith, below p refl, ap length same)

pub shorter : (at : ℕ) (text : List ℕ) (pair : List ℕ × List ℕ) → Some pair ≡ cut at text → length pair.1 < length text
shorter at [] pair h = absurd cc
shorter at (x ∷ xs) pair h = elim (eqb_tells x at) [
  | inl (t, e) ↦ let same : pair.1 ≡ xs = (let found : Some pair ≡ Some ([], xs) = rw t at h in cc) in omega (arith, ap length same)
  | inr (f, _) ↦ one_shorter x xs (cut at xs) pair (shorter at xs) (rw f at h)
]
