-- A text, line by line, with what becomes of each; behind the line that refuses it nothing.
use Rattle.std.specs.Prelude.{◌≡◌, ℕ, ◌-◌, ◌==◌, Bool, false, List, [], ◌∷◌, ◌++◌, Option, Some, None, option_map}
use Rattle.std.specs.Prelude.{Result, Ok, Err, is_err, if◌then◌else◌, codes}
use Rattle.std.specs.Str.{is_utf8}
use Rattle.rtc_wire_text.specs.Lines.{lines}
use Rattle.rtc_sdp_grammar.specs.ItemForm.{item_of}
use Rattle.rtc_sdp_grammar.specs.declared.item.Item.{Item}
use Rattle.rtc_sdp_reader.specs.declared.place.Place.TheVariants.{First}
use Rattle.rtc_sdp_reader.specs.Reading.{reading}
use Rattle.rtc_sdp_reader.specs.Refusal.{next}
use Rattle.rtc_sdp_values.specs.declared.sdp.Sdp.{Sdp}
use Rattle.rtc_sdp_text.specs.declared.cause.Cause.{Cause}
use Rattle.rtc_sdp_text.specs.declared.cause.Cause.TheVariants.{NoVersion, NoOrigin, NoForm, Malformed, NotOneMid}
use Rattle.rtc_sdp_text.specs.declared.fate.Fate.{Fate}
use Rattle.rtc_sdp_text.specs.declared.fate.Fate.TheVariants.{Frame, Kept, UnknownName, CameBefore, NotOfItsForm, NotHere, Refused}
use Rattle.rtc_sdp_text.specs.declared.walk.Walk.{Walk}
use Rattle.rtc_sdp_text.specs.Fates.{item_fate, cause, came_with}
use Rattle.rtc_sdp_text.specs.declared.explanation.Explanation.{Explanation as Made}
use Rattle.rtc_sdp_text.specs.Repair.{repaired, bytes_reading}

-- ---- the words of a fate
abbrev pub cause_words : Cause → List ℕ
cause_words NoVersion = codes "refused (the first line is not v=0)"
cause_words NoOrigin = codes "refused (the second line is no o= line)"
cause_words NoForm = codes "refused (no line of a session description)"
cause_words Malformed = codes "refused (not of its form)"
cause_words NotOneMid = codes "refused (its part has not exactly one mid)"

abbrev pub fate_words : Fate → List ℕ
fate_words Frame = codes "frame"
fate_words Kept = codes "kept"
fate_words UnknownName = codes "skipped (unknown attribute)"
fate_words CameBefore = codes "skipped (another came first)"
fate_words NotOfItsForm = codes "skipped (not of its form)"
fate_words NotHere = codes "skipped (not here)"
fate_words (Refused cause) = cause_words cause

-- a line with its fate
abbrev pub fate_row : Fate → List ℕ → List ℕ
fate_row fate line = fate_words fate ++ (codes " | " ++ (line ++ codes "\n"))

-- ---- the lines, from the place of a walk over them
abbrev pub is_refused_here : Option ℕ → Bool
is_refused_here None = false
is_refused_here (Some left) = left == 1

abbrev pub one_less : Option ℕ → Option ℕ
one_less left = option_map (λ n. n - 1) left

abbrev pub item_row : Walk → List ℕ → Item → List ℕ
item_row walk line item =
    if is_refused_here walk.left then fate_row (Refused (cause walk.place item)) line
    else fate_row (item_fate walk.place walk.came line item) line

abbrev pub walk_over : Walk → Item → Walk
walk_over walk item = record {
  place = next walk.place item;
  came = came_with walk.place walk.came item;
  left = one_less walk.left;
}

-- a text whose first two lines are not there is refused behind its last
abbrev pub end_row : Option ℕ → List ℕ
end_row None = []
end_row (Some left) = codes "refused (the text ends too early)\n"

abbrev pub rows_from : Walk → List (List ℕ) → List ℕ
rows_from walk [] = end_row walk.left
rows_from walk (line ∷ rest) =
    item_row walk line (item_of line) ++ (if is_refused_here walk.left then [] else rows_from (walk_over walk (item_of line)) rest)

-- ---- the text
abbrev pub refusal_in : Result Sdp ℕ → Option ℕ
refusal_in (Ok sdp) = None
refusal_in (Err number) = Some number

abbrev pub begun : Option ℕ → Walk
begun refused = record { place = First; came = []; left = refused }

unfoldable pub explanation : List ℕ → List ℕ
explanation text = rows_from (begun (refusal_in (reading text))) (lines text)

-- that of bytes, in which a line that is not UTF-8 has no form
abbrev pub bytes_explanation : List ℕ → List ℕ
bytes_explanation bytes = if is_utf8 bytes then explanation bytes else explanation (repaired bytes)

-- the rows are those of the bytes, and it is said whether a line refuses them
pub record IsExplained (explained : Made) (bytes : List ℕ) : Type 0 where
  pub rows : explained.rows ≡ bytes_explanation bytes
  pub is_refused : explained.is_refused ≡ is_err (bytes_reading bytes)
