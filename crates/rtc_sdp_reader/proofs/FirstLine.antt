-- The first line of a text.
use Rattle.std.proofs.Common.{◌≡◌, ◌∙◌, ◌<◌, ℕ, false, eqb, List, [], ◌∷◌, length, Some, None, refl, ap, inl, inr, arith}
use Rattle.std.specs.List.{onto_first}
use Rattle.std.specs.Str.Lines.{strip_carriage_return, lines_of_parts}
use Rattle.std.proofs.lemmas.Bool.Decides.{eqb_tells, nat_tests}
use Rattle.rtc_wire_text.specs.Cuts.{cut}
use Rattle.rtc_wire_text.specs.Lines.{lines}
use Rattle.rtc_wire_text.specs.Words.{parts}
use Rattle.rtc_sdp_attributes.proofs.PlaceLemmas.{parts_none, parts_some, shorter}

more_in_front : (line : List ℕ) (b : ℕ) (rest : List (List ℕ)) → lines_of_parts (line ∷ onto_first b rest) ≡ strip_carriage_return line ∷ lines_of_parts (onto_first b rest)
more_in_front line b [] = refl
more_in_front line b (part ∷ rest) = refl

line_in_front : (line behind : List ℕ) → lines_of_parts (line ∷ parts 10 behind) ≡ strip_carriage_return line ∷ lines_of_parts (parts 10 behind)
line_in_front line [] = refl
line_in_front line (b ∷ bs) = elim (eqb_tells b 10) [
  | inl (t, e) ↦ rw t refl
  | inr (f, _) ↦ rw f (more_in_front line b (parts 10 bs))
]

-- a line feed ends the first line
pub line_cut : (text line behind : List ℕ) → Some (line, behind) ≡ cut 10 text → lines text ≡ strip_carriage_return line ∷ lines behind
line_cut text line behind h = ap lines_of_parts (parts_some 10 text line behind h) ∙ line_in_front line behind

-- without one, the text is its only line
pub last_line : (text : List ℕ) → 0 < length text → None ≡ cut 10 text → lines text ≡ text ∷ lines []
last_line [] some h = absurd (omega arith)
last_line (b ∷ bs) some h =
    let filled : eqb (length (b ∷ bs)) 0 ≡ false = grind (arith, nat_tests) in
    ap lines_of_parts (parts_none 10 (b ∷ bs) h) ∙ rw filled refl

pub is_shorter : (text line behind : List ℕ) → Some (line, behind) ≡ cut 10 text → length behind < length text
is_shorter text line behind h = shorter 10 text (line, behind) h
