-- Where a text is cut, and what parts of it are read again.
use Rattle.std.proofs.Common.{◌≡◌, ◌≢◌, ℕ, suc, ◌<◌, Bool, true, false, ltb, leb, eqb, eq-eqb, List, [], ◌∷◌, ◌++◌, length, get_or, Option, Some, None, refl, sym, ap, ◌∙◌, arith, inl, inr, append_assoc}
use Rattle.std.specs.Prelude.{option_map, MatchOption}
use Rattle.std.specs.List.{AllByRecursion, list_all}
use Rattle.std.specs.Char.{is_ascii_digit}
use Rattle.std.proofs.lemmas.Bool.{ne_eqb, lt-leb}
use Rattle.std.proofs.lemmas.Bool.Decides.{eqb_tells, nat_tests}
use Rattle.std.proofs.lemmas.List.{append-nil}
use Rattle.std.proofs.lemmas.Str.Pattern.{IsSplitOnceResult, split_parts}
use denote.Ref.{Bor}
use Rattle.rtc_wire_text.specs.Cuts.{cut, Lacks}
use Rattle.rtc_wire_text.specs.Tokens.{is_token_byte, is_token, is_short_token}
use Rattle.rtc_wire_text.specs.Words.{parts, after_each, joined, words, spaced}
use Rattle.rtc_wire_text.proofs.TokenLemmas.{both}

-- a text is cut at the byte that stands behind what lacks it
pub cut-append : (byte : ℕ) (before behind : List ℕ) → Lacks byte before → cut byte (before ++ (byte ∷ behind)) ≡ Some (before, behind)
cut-append byte [] behind h = rw (eq-eqb byte byte refl) refl
cut-append byte (x ∷ xs) behind h = rw (h.0, cut-append byte xs behind h.1) refl

pub cut_none : (byte : ℕ) (text : List ℕ) → Lacks byte text → cut byte text ≡ None
cut_none byte [] h = refl
cut_none byte (x ∷ xs) h = rw (h.0, cut_none byte xs h.1) refl

lacks : (byte : ℕ) (text : List ℕ) → ((i : ℕ) → i < length text → get_or text i 0 ≢ byte) → Lacks byte text
lacks byte [] h = tt
lacks byte (x ∷ xs) h = (ne_eqb x byte (h 0 (omega arith)), lacks byte xs (λ i lt. h (suc i) (omega arith)))

from_parts : (byte : ℕ) (text : List ℕ) (found : Option (Bor (List ℕ) × Bor (List ℕ))) →
    MatchOption found ((i : ℕ) → i < length text → get_or text i 0 ≢ byte) (λ x. (text ≡ x.0.now ++ (byte ∷ x.1.now)) × ((i : ℕ) → i < length x.0.now → get_or x.0.now i 0 ≢ byte)) →
    option_map (λ p. (p.0.now, p.1.now)) found ≡ cut byte text
from_parts byte text None h = sym (cut_none byte text (lacks byte text h))
from_parts byte text (Some x) h = sym (ap (cut byte) h.0 ∙ cut-append byte x.0.now x.1.now (lacks byte x.0.now h.1))

-- std's answer is the cut
pub split_once_is_cut : (byte : ℕ) (text : List ℕ) (found : Option (Bor (List ℕ) × Bor (List ℕ))) → IsSplitOnceResult byte text found → byte < 128 → option_map (λ p. (p.0.now, p.1.now)) found ≡ cut byte text
split_once_is_cut byte text found h lt = from_parts byte text found (split_parts byte text found h lt)

-- bytes that pass a test lack each byte that does not
pub passing_lack : (test : ℕ → Bool) (byte : ℕ) → test byte ≡ false → (text : List ℕ) → list_all test text ≡ true → Lacks byte text
passing_lack test byte out [] h = tt
passing_lack test byte out (x ∷ xs) h =
    let b = both (test x) (list_all test xs) h in
    let ne : eqb x byte ≡ false = elim (eqb_tells x byte) [ inl (t, e) ↦ absurd (let bad : true ≡ false = sym b.0 ∙ ap test e ∙ out in cc) | inr (f, _) ↦ f ] in
    (ne, passing_lack test byte out xs b.1)

pub lacks-append : (byte : ℕ) (xs ys : List ℕ) → Lacks byte xs → Lacks byte ys → Lacks byte (xs ++ ys)
lacks-append byte [] ys h k = k
lacks-append byte (x ∷ xs) ys h k = (h.0, lacks-append byte xs ys h.1 k)

pub lacks-after_each : (byte at : ℕ) → eqb at byte ≡ false → (ws : List (List ℕ)) → AllByRecursion (λ w. Lacks byte w) ws → Lacks byte (after_each at ws)
lacks-after_each byte at ne [] h = tt
lacks-after_each byte at ne (w ∷ ws) h = (ne, lacks-append byte w (after_each at ws) h.0 (lacks-after_each byte at ne ws h.1))

pub lacks-joined : (byte at : ℕ) → eqb at byte ≡ false → (ws : List (List ℕ)) → AllByRecursion (λ w. Lacks byte w) ws → Lacks byte (joined at ws)
lacks-joined byte at ne [] h = tt
lacks-joined byte at ne (w ∷ ws) h = lacks-append byte w (after_each at ws) h.0 (lacks-after_each byte at ne ws h.1)

parts-append : (at : ℕ) (x rest : List ℕ) → Lacks at x → parts at (x ++ (at ∷ rest)) ≡ x ∷ parts at rest
parts-append at [] rest h = rw (eq-eqb at at refl) refl
parts-append at (b ∷ bs) rest h = rw (h.0, parts-append at bs rest h.1) refl

pub parts_one : (at : ℕ) (x : List ℕ) → Lacks at x → parts at x ≡ x ∷ []
parts_one at [] h = refl
parts_one at (b ∷ bs) h = rw (h.0, parts_one at bs h.1) refl

-- parts with a byte between are read again
pub parts-after_each : (at : ℕ) (x : List ℕ) (ws : List (List ℕ)) → Lacks at x → AllByRecursion (λ w. Lacks at w) ws → parts at (x ++ after_each at ws) ≡ x ∷ ws
parts-after_each at x [] h k = ap (parts at) (append-nil x) ∙ parts_one at x h
parts-after_each at x (w ∷ ws) h k = parts-append at x (w ++ after_each at ws) h ∙ ap (λ (l : List (List ℕ)). x ∷ l) (parts-after_each at w ws k.0 k.1)

-- spaced words are read again
pub words-spaced : (x : List ℕ) (ws : List (List ℕ)) → Lacks 32 x → AllByRecursion (λ w. Lacks 32 w) ws → words (x ++ spaced ws) ≡ x ∷ ws
words-spaced = parts-after_each 32

-- one more part at the end
pub after_each-push : (at : ℕ) (ws : List (List ℕ)) (w : List ℕ) → after_each at (ws ++ w ∷ []) ≡ after_each at ws ++ (at ∷ w)
after_each-push at [] w = ap (λ (l : List ℕ). at ∷ l) (append-nil w)
after_each-push at (v ∷ vs) w = ap (λ (l : List ℕ). at ∷ (v ++ l)) (after_each-push at vs w) ∙ ap (λ (l : List ℕ). at ∷ l) (sym (append_assoc v (after_each at vs) (at ∷ w)))

-- a token lacks each byte that no token has
pub token_lacks : (byte : ℕ) → is_token_byte byte ≡ false → (text : List ℕ) → is_token text ≡ true → Lacks byte text
token_lacks byte out text h = passing_lack is_token_byte byte out text (both (ltb 0 (length text)) (list_all is_token_byte text) h).1

pub short_token_lacks : (byte : ℕ) → is_token_byte byte ≡ false → (text : List ℕ) → is_short_token text ≡ true → Lacks byte text
short_token_lacks byte out text h = token_lacks byte out text (both (is_token text) (leb (length text) 32) h).0

-- ---- the bytes that end lines, and the other control characters

pub no_token_byte : (byte : ℕ) → byte < 33 → is_token_byte byte ≡ false
no_token_byte byte h = grind (arith, nat_tests)

pub no_digit : (byte : ℕ) → byte < 33 → is_ascii_digit byte ≡ false
no_digit byte h = grind (arith, nat_tests)

-- no byte of the text is a control character
abbrev pub is_printable : List ℕ → Bool
is_printable text = list_all (leb 32) text

pub printable_lacks : (byte : ℕ) → byte < 32 → (text : List ℕ) → is_printable text ≡ true → Lacks byte text
printable_lacks byte low text h = passing_lack (leb 32) byte (lt-leb 32 byte low) text h
