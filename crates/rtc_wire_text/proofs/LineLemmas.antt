-- Lines that are written are read again.
use Rattle.std.proofs.Common.{◌≡◌, ℕ, ◌-◌, eqb, List, [], ◌∷◌, ◌++◌, length, map, refl, sym, ap, ◌∙◌, arith, append_assoc}
use Rattle.std.specs.List.{slice_split}
use Rattle.std.specs.Str.Lines.{lines_of_parts, strip_carriage_return}
use Rattle.std.proofs.lemmas.List.{take_at, length-append}
use Rattle.std.proofs.Math.Seq.{get_or-append_seam}
use Rattle.rtc_wire_text.specs.Cuts.{Lacks}
use Rattle.rtc_wire_text.specs.Lines.{lines, crlf, text_of, AreLines}

abbrev with_return : List ℕ → List ℕ
with_return line = line ++ 13 ∷ []

abbrev at_ends : List ℕ → List (List ℕ)
at_ends = slice_split (λ byte. eqb byte 10)

-- the first line is parted from the rest
at_ends_line : (line rest : List ℕ) → Lacks 10 line → at_ends (crlf line ++ rest) ≡ with_return line ∷ at_ends rest
at_ends_line [] rest h = refl
at_ends_line (b ∷ bs) rest h = rw (h.0, at_ends_line bs rest h.1) refl

at_ends-text_of : (rows : List (List ℕ)) → AreLines rows → at_ends (text_of rows) ≡ map with_return rows ++ [] ∷ []
at_ends-text_of [] h = refl
at_ends-text_of (line ∷ rows) h = at_ends_line line (text_of rows) h.0 ∙ ap (λ (m : List (List ℕ)). with_return line ∷ m) (at_ends-text_of rows h.1)

stripped : (line : List ℕ) → strip_carriage_return (with_return line) ≡ line
stripped line =
    let n : length (with_return line) - 1 ≡ length line = omega (arith, length-append line (13 ∷ [])) in
    rw (n, get_or-append_seam line 13 [] 0, take_at line (13 ∷ []) (length line) refl) refl

parts_again : (rows : List (List ℕ)) → lines_of_parts (map with_return rows ++ [] ∷ []) ≡ rows
parts_again [] = refl
parts_again (line ∷ []) = ap (λ (l : List ℕ). l ∷ []) (stripped line)
parts_again (line ∷ next ∷ rows) = rw (stripped line) (ap (λ (l : List (List ℕ)). line ∷ l) (parts_again (next ∷ rows)))

-- the lines of the text of lines are these lines
pub lines-text_of : (rows : List (List ℕ)) → AreLines rows → lines (text_of rows) ≡ rows
lines-text_of rows h = ap lines_of_parts (at_ends-text_of rows h) ∙ parts_again rows

pub text_of-append : (xs ys : List (List ℕ)) → text_of (xs ++ ys) ≡ text_of xs ++ text_of ys
text_of-append [] ys = refl
text_of-append (x ∷ xs) ys = ap (λ (t : List ℕ). crlf x ++ t) (text_of-append xs ys) ∙ sym (append_assoc (crlf x) (text_of xs) (text_of ys))

pub AreLines-append : (xs ys : List (List ℕ)) → AreLines xs → AreLines ys → AreLines (xs ++ ys)
AreLines-append [] ys h k = k
AreLines-append (x ∷ xs) ys h k = (h.0, AreLines-append xs ys h.1 k)

-- texts of lines one after the other, as one text
pub ruleset appends = (append_assoc, text_of-append)
