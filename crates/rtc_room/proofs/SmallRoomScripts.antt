-- The steps of a script that is short enough have a small size.
use Rattle.std.proofs.Common.{◌≡◌, ◌+◌, ◌*◌, ◌≤◌, ◌<◌, ◌^◌, ◌∙◌, ℕ, List, [], ◌∷◌, ◌++◌, length, ap, sym, subst, arith, length-append, Result, Ok, Err, IfOk}
use Rattle.std.specs.List.{join_with_byte}
use Rattle.std.proofs.lemmas.List.Splits.{join_with_byte-slice_split}
use Rattle.rtc_wire_text.specs.Lines.{pieces}
use Rattle.rtc_wire_text.specs.Words.{words}
use Rattle.rtc_run_history.specs.declared.step.Step.{Step}
use Rattle.rtc_run_history.specs.Sizes.{step_size}
use Rattle.rtc_script.specs.Lines.{AreStepWords}
use Rattle.rtc_script.proofs.SmallScripts.{words_small}
use Rattle.rtc_room_laws.specs.RoomSizes.{room_size, room_step_size}
use Rattle.rtc_room_laws.specs.declared.room_step.RoomStep.{RoomStep}
use Rattle.rtc_room_laws.specs.declared.room_step.RoomStep.TheVariants.{Join, Leave, Perform, Arrive, Forward}
use Rattle.rtc_room.specs.RoomLines.{AreDoWords, AreRoomWords, AreWordsOf, IsRoomLine}
use Rattle.rtc_room.specs.RoomScript.{HaveRoomLines, IsRoomScript, room_header}
use Rattle.rtc_room.specs.declared.room_script_error.RoomScriptError.{RoomScriptError}

joined_more : (word next : List ℕ) (rest : List (List ℕ)) → length (join_with_byte 32 (word ∷ next ∷ rest)) ≡ length word + 1 + length (join_with_byte 32 (next ∷ rest))
joined_more word next rest = omega (arith, length-append word (32 ∷ join_with_byte 32 (next ∷ rest)))

-- a step of a pair is no greater than the words behind the number of its member
do_small : (found : List (List ℕ)) (step : Step) → AreDoWords found step → step_size step ≤ length (join_with_byte 32 found)
do_small [] step h = absurd h
do_small (verb ∷ []) step h = absurd (let none : AreStepWords [] step = h.1 in none)
do_small (verb ∷ next ∷ rest) step h =
    let few : step_size step ≤ length (join_with_byte 32 (next ∷ rest)) = words_small (next ∷ rest) step h.1 in
    omega (arith, joined_more verb next rest)

-- the size of a step is at most 1024, or that of its words
step_words_small : (first : List ℕ) (rest : List (List ℕ)) (step : RoomStep) → AreWordsOf first rest step
    → room_step_size step ≤ 1024 + length (join_with_byte 32 (first ∷ rest))
step_words_small first rest (Join room) h = omega arith
step_words_small first rest (Leave member) h = omega arith
step_words_small first [] (Perform member step) h = absurd (let none : AreDoWords [] step = h.1 in none)
step_words_small first (next ∷ rest) (Perform member step) h =
    let few : step_size step ≤ length (join_with_byte 32 (next ∷ rest)) = do_small (next ∷ rest) step h.1 in
    omega (arith, joined_more first next rest)
step_words_small first rest (Arrive member packet now) h = omega arith
step_words_small first rest (Forward member) h = omega arith

room_words_small : (found : List (List ℕ)) (step : RoomStep) → AreRoomWords found step → room_step_size step ≤ 1024 + length (join_with_byte 32 found)
room_words_small [] step h = absurd h
room_words_small (first ∷ rest) step h = step_words_small first rest step h

line_small : (line : List ℕ) (step : RoomStep) → IsRoomLine line step → room_step_size step ≤ 1024 + length line
line_small line step is =
    subst (λ (l : List ℕ). room_step_size step ≤ 1024 + length l) (join_with_byte-slice_split 32 line) (room_words_small (words line) step is)

-- the text of lines that each end with LF
abbrev text_of : List (List ℕ) → List ℕ
text_of lines = join_with_byte 10 (lines ++ [] ∷ [])

text_more : (line : List ℕ) (lines : List (List ℕ)) → length (text_of (line ∷ lines)) ≡ length line + 1 + length (text_of lines)
text_more line [] = omega (arith, length-append line (10 ∷ []))
text_more line (next ∷ lines) = omega (arith, length-append line (10 ∷ text_of (next ∷ lines)))

-- each line has at least its end
lines_small : (lines : List (List ℕ)) (steps : List RoomStep) → HaveRoomLines lines steps → room_size steps ≤ 1025 * length (text_of lines)
lines_small [] [] h = omega arith
lines_small [] (step ∷ steps) h = absurd h
lines_small (line ∷ lines) [] h = absurd h
lines_small (line ∷ lines) (step ∷ steps) h =
    let first : room_step_size step ≤ 1024 + length line = line_small line step h.0 in
    let others : room_size steps ≤ 1025 * length (text_of lines) = lines_small lines steps h.1 in
    omega (arith, first, others, text_more line lines)

-- so many bytes hold steps of a size that a room may take
pub script_small : (text : List ℕ) (steps : List RoomStep) → IsRoomScript text steps → length text ≤ 2 ^ 20 → room_size steps < 2 ^ 32
script_small text steps h short =
    let all : join_with_byte 10 (pieces text) ≡ text = join_with_byte-slice_split 10 text in
    let whole : length (text_of (room_header ∷ h.0)) ≡ length text = ap length (sym (ap (join_with_byte 10) h.1) ∙ all) in
    let sizes : room_size steps ≤ 1025 * length (text_of h.0) = lines_small h.0 steps h.2 in
    omega (arith, sizes, whole, short, text_more room_header h.0)

-- and so do those of a script that is read
pub read_small : (text : List ℕ) (read : Result (List RoomStep) RoomScriptError) → IfOk read (λ (steps : List RoomStep). IsRoomScript text steps) → length text ≤ 2 ^ 20 → IfOk read (λ (steps : List RoomStep). room_size steps < 2 ^ 32)
read_small text (Ok steps) is short = script_small text steps is short
read_small text (Err error) is short = tt
