-- Skipped lines: one more of them in a text changes no value, and moves the numbers of the lines behind it by one.
use Rattle.std.specs.Prelude.{◌≡◌, ℕ, false, List, ◌∷◌, ◌++◌, map, Result, Ok, Err, if◌then◌else◌, nat_le}
use Rattle.rtc_wire_text.specs.Lines.{lines}
use Rattle.rtc_sdp_values.specs.declared.sdp.Sdp.{Sdp}
use Rattle.rtc_sdp_grammar.specs.declared.item.Item.TheVariants.{Skipped}
use Rattle.rtc_sdp_grammar.specs.ItemForm.{item_of}
use Rattle.rtc_sdp_reader.specs.declared.place.Place.TheVariants.{First}
use Rattle.rtc_sdp_reader.specs.Refusal.{is_short, next_number}
use Rattle.rtc_sdp_reader.specs.FirstRefused.{place_after}

-- a line that says nothing that counts here: an attribute of an unknown name, one whose malformed value is skipped, or a line of
-- another letter
abbrev pub IsSkippedLine : List ℕ → Type 0
IsSkippedLine line = item_of line ≡ Skipped

-- the lines hold the `v=` and the `o=` line, so that what follows is in the session part or in a line part
abbrev pub IsBegun : List (List ℕ) → Type 0
IsBegun front = is_short (place_after First (map item_of front)) ≡ false

-- the lines of `text` are those of `other`, with a skipped line behind `front`
pub record HasSkippedLine (text other : List ℕ) (front : List (List ℕ)) : Type 0 where
  pub line : List ℕ
  pub rest : List (List ℕ)
  pub with_it : lines text ≡ front ++ line ∷ rest
  pub without_it : lines other ≡ front ++ rest
  pub skipped : IsSkippedLine line
  pub begun : IsBegun front

-- the number of line n, with one more line behind the first `before`
abbrev pub number_behind : ℕ → ℕ → ℕ
number_behind before n = if nat_le n before then n else next_number n

-- the same value, or the refusal of the same line
abbrev pub with_line_behind : ℕ → Result Sdp ℕ → Result Sdp ℕ
with_line_behind before (Ok sdp) = Ok sdp
with_line_behind before (Err n) = Err (number_behind before n)
