-- The steps of a script that is short enough are few.
use Rattle.std.proofs.Common.{◌≡◌, ◌+◌, ◌≤◌, ◌<◌, ◌^◌, ◌∙◌, ℕ, List, [], ◌∷◌, ◌++◌, length, ap, sym, arith, length-append, subst, Bor, Result, Ok, Err, IfOk}
use Rattle.std.specs.Fmt.{decimal}
use Rattle.std.specs.List.{join_with_byte}
use Rattle.std.proofs.lemmas.List.{map-append}
use Rattle.std.proofs.lemmas.List.Splits.{join_with_byte-slice_split}
use Rattle.std.proofs.lemmas.Slice.Zip.{AllZip-long}
use Rattle.rtc_wire_text.specs.Lines.{pieces}
use Rattle.rtc_wire_text.specs.Words.{words}
use Rattle.rtc_script.specs.Lines.{IsOp, IsAct, IsLine, AreStepWords}
use Rattle.rtc_script.specs.Script.{IsScript, ArePieces, HaveSteps, HaveBoth, header}
use Rattle.rtc_script.specs.declared.script.Script.{Script}
use Rattle.rtc_script.specs.declared.setting.Setting.{Setting}
use Rattle.rtc_script.specs.Words.{hex_word}
use Rattle.rtc_script.proofs.LabelLemmas.{word_long}
use Rattle.rtc_script.proofs.ZipLemmas.{texts}
use Rattle.rtc_run_history.specs.declared.side.Side.{Side}
use Rattle.rtc_script.specs.declared.script_error.ScriptError.{ScriptError}
use Rattle.rtc_run_history.specs.Sizes.{step_size, steps_size}
use Rattle.rtc_run_history.specs.declared.step.Step.{Step}
use Rattle.rtc_run_history.specs.declared.step.Step.TheVariants.{Negotiate, AcceptOffer, AcceptAnswer, Time, Datagram, Poll, Drain}
use Rattle.rtc_run_history.specs.declared.step.Step.TheVariants.{Write, CloseChannel, Close, Rollback, ForeignOffer, ForeignAnswer, Raw}

-- words with a space between are as many bytes as words, and more
many_words : (found : List (List ℕ)) → length found ≤ length (join_with_byte 32 found) + 1
many_words [] = omega arith
many_words (word ∷ []) = omega arith
many_words (word ∷ next ∷ rest) =
    let fewer : length (next ∷ rest) ≤ length (join_with_byte 32 (next ∷ rest)) + 1 = many_words (next ∷ rest) in
    omega (arith, length-append word (32 ∷ join_with_byte 32 (next ∷ rest)))

one_fits : (side verb : List ℕ) (rest : List (List ℕ)) → 1 ≤ length (join_with_byte 32 (side ∷ verb ∷ rest))
one_fits side verb rest =
    let many : length (side ∷ verb ∷ rest) ≤ length (join_with_byte 32 (side ∷ verb ∷ rest)) + 1 = many_words (side ∷ verb ∷ rest) in
    omega arith

-- the bytes of a text are written by its word
text_fits : (side verb text : List ℕ) → 1 + length text ≤ length (join_with_byte 32 (side ∷ verb ∷ hex_word text ∷ []))
text_fits side verb text =
    omega (arith, word_long text, length-append side (32 ∷ (verb ++ 32 ∷ hex_word text)), length-append verb (32 ∷ hex_word text))

token_fits : (side verb number text : List ℕ) → 1 + length text ≤ length (join_with_byte 32 (side ∷ verb ∷ number ∷ hex_word text ∷ []))
token_fits side verb number text =
    omega (
      arith,
      word_long text,
      length-append side (32 ∷ (verb ++ 32 ∷ (number ++ 32 ∷ hex_word text))),
      length-append verb (32 ∷ (number ++ 32 ∷ hex_word text)),
      length-append number (32 ∷ hex_word text),
    )

-- a line has a word for its side, one for its verb, one for each op, and two digits for each byte of a text
pub words_small : (found : List (List ℕ)) (step : Step) → AreStepWords found step → step_size step ≤ length (join_with_byte 32 found)
words_small [] step h = absurd h
words_small (side ∷ []) step h = absurd h
words_small (side ∷ verb ∷ rest) (Negotiate at ops apply) h =
    let act : IsAct verb rest (Negotiate at ops apply) = h.1 in
    let each : length ops ≡ length rest = AllZip-long IsOp rest ops act.1 in
    let many : length (side ∷ verb ∷ rest) ≤ length (join_with_byte 32 (side ∷ verb ∷ rest)) + 1 = many_words (side ∷ verb ∷ rest) in
    omega arith
words_small (side ∷ verb ∷ rest) (AcceptOffer at offer) h = one_fits side verb rest
words_small (side ∷ verb ∷ rest) (AcceptAnswer at token answer) h = one_fits side verb rest
words_small (side ∷ verb ∷ rest) (Time at now) h = one_fits side verb rest
words_small (side ∷ verb ∷ rest) (Datagram at packet now) h = one_fits side verb rest
words_small (side ∷ verb ∷ rest) (Poll at) h = one_fits side verb rest
words_small (side ∷ verb ∷ rest) (Drain at) h = one_fits side verb rest
words_small (side ∷ verb ∷ rest) (Write at channel binary bytes) h = one_fits side verb rest
words_small (side ∷ verb ∷ rest) (CloseChannel at channel) h = one_fits side verb rest
words_small (side ∷ verb ∷ rest) (Close at) h = one_fits side verb rest
words_small (side ∷ verb ∷ rest) (Rollback at token) h = one_fits side verb rest
words_small (side ∷ verb ∷ rest) (ForeignOffer at text) h =
    subst (λ (found : List (List ℕ)). 1 + length text ≤ length (join_with_byte 32 (side ∷ verb ∷ found))) (sym h.1.1.0) (text_fits side verb text)
words_small (side ∷ verb ∷ rest) (ForeignAnswer at token text) h =
    subst (λ (found : List (List ℕ)). 1 + length text ≤ length (join_with_byte 32 (side ∷ verb ∷ found))) (sym h.1.1.0) (token_fits side verb (decimal token) text)
words_small (side ∷ verb ∷ rest) (Raw at bytes now) h = one_fits side verb rest

-- so a step is no greater than its line
line_small : (line : List ℕ) (step : Step) → IsLine line step → step_size step ≤ length line
line_small line step is =
    subst (λ (text : List ℕ). step_size step ≤ length text) (join_with_byte-slice_split 32 line) (words_small (words line) step is)

-- the text of lines that each end with LF
abbrev text_of : List (List ℕ) → List ℕ
text_of lines = join_with_byte 10 (lines ++ [] ∷ [])

text_more : (line : List ℕ) (lines : List (List ℕ)) → length (text_of (line ∷ lines)) ≡ length line + 1 + length (text_of lines)
text_more line [] = omega (arith, length-append line (10 ∷ []))
text_more line (next ∷ lines) = omega (arith, length-append line (10 ∷ text_of (next ∷ lines)))

steps_small : (lines : List (List ℕ)) (steps : List Step) → HaveSteps lines steps → steps_size steps ≤ length (text_of lines)
steps_small [] [] h = omega arith
steps_small [] (step ∷ steps) h = absurd h
steps_small (line ∷ lines) [] h = absurd h
steps_small (line ∷ lines) (step ∷ steps) h =
    let first : step_size step ≤ length line = line_small line step h.0 in
    let others : steps_size steps ≤ length (text_of lines) = steps_small lines steps h.1 in
    omega (arith, text_more line lines)

lines_small : (lines : List (List ℕ)) (settings : List (Side × Setting)) (steps : List Step) → HaveBoth lines settings steps → steps_size steps ≤ length (text_of lines)
lines_small lines [] steps h = steps_small lines steps h
lines_small [] (setting ∷ settings) steps h = absurd h
lines_small (line ∷ lines) (setting ∷ settings) steps h =
    let others : steps_size steps ≤ length (text_of lines) = lines_small lines settings steps h.1 in
    omega (arith, text_more line lines)

-- so many bytes hold fewer steps and ops than a pair may perform
pub script_small : (text : List ℕ) (script : Script) → IsScript text script → length text ≤ 2 ^ 20 → steps_size script.steps < 2 ^ 32
script_small text script h short =
    let all : join_with_byte 10 (pieces text) ≡ text = join_with_byte-slice_split 10 text in
    let whole : length (text_of (header ∷ h.0)) ≡ length text = ap length (sym (ap (join_with_byte 10) h.1) ∙ all) in
    let sizes : steps_size script.steps ≤ length (text_of h.0) = lines_small h.0 script.settings script.steps h.2 in
    omega (arith, text_more header h.0)

-- the lines of a text, and what stands behind the last one, are its pieces
pub cut_pieces : (text : List ℕ) (cut all lines : List (Bor (List ℕ))) (end : Bor (List ℕ)) → texts all ≡ pieces text → cut ≡ all
    → cut ≡ lines ++ end ∷ [] → texts lines ++ end.now ∷ [] ≡ pieces text
cut_pieces text cut all lines end is same ends = sym (map-append (λ (line : Bor (List ℕ)). line.now) lines (end ∷ [])) ∙ ap texts (sym ends ∙ same) ∙ is

-- so a script that is read of so many bytes has few steps
pub read_small : (text : List ℕ) (found : List (List ℕ)) (read : Result Script ScriptError) → found ≡ pieces text
    → IfOk read (λ (script : Script). ArePieces found script) → length text ≤ 2 ^ 20 → IfOk read (λ (script : Script). steps_size script.steps < 2 ^ 32)
read_small text found (Ok script) same is short = script_small text script (subst (λ (cut : List (List ℕ)). ArePieces cut script) same is) short
read_small text found (Err error) same is short = tt
