-- The calls of a script that is short enough ask for little.
use Rattle.std.proofs.Common.{◌≡◌, ◌+◌, ◌≤◌, ◌<◌, ◌^◌, ◌∙◌, ℕ, Bool, true, false, List, [], ◌∷◌, ◌++◌, length, Option, Some, None, ap, sym, subst, cond, arith, length-append, Result, Ok, Err, IfOk}
use Rattle.std.specs.Prelude.{IfSome, codes}
use Rattle.std.specs.List.{join_with_byte}
use Rattle.std.specs.Str.{bytes_eq}
use Rattle.std.proofs.lemmas.List.Splits.{join_with_byte-slice_split}
use Rattle.rtc_wire_text.specs.Lines.{pieces}
use Rattle.rtc_wire_text.specs.Words.{words}
use Rattle.rtc_gate_calls.specs.Sizes.{call_size, calls_size}
use Rattle.rtc_gate_calls.specs.declared.gate_call.GateCall.{GateCall}
use Rattle.rtc_gate_calls.specs.declared.gate_call.GateCall.TheVariants.{Join, Leave, Feed, Take}
use Rattle.rtc_gate.specs.CallLines.{IsHexWord, ArePieceWords, AreLineWords, IsNameWord, IsCallLine}
use Rattle.rtc_gate.specs.HexWords.{lower_digit, byte_of_digits, byte_before, bytes_of_digits, bytes_of_some_digits, bytes_in_word}
use Rattle.rtc_gate.specs.GateScript.{IsGateScript, HaveCallLines, gate_header}
use Rattle.rtc_gate.specs.declared.script_error.ScriptError.{ScriptError}

-- digits are no fewer than their bytes
digits_small : (digits : List ℕ) → IfSome (bytes_of_digits digits) (λ bytes. length bytes ≤ length digits)
digits_small [] = omega arith
digits_small (high ∷ []) = tt
digits_small (high ∷ low ∷ rest) = go (byte_of_digits (lower_digit high) (lower_digit low)) (bytes_of_digits rest) (digits_small rest)
  where
    go : (byte : Option ℕ) (others : Option (List ℕ)) → IfSome others (λ bytes. length bytes ≤ length rest) → IfSome (byte_before byte others) (λ bytes. length bytes ≤ length (high ∷ low ∷ rest))
    go None None few = tt
    go None (Some bytes) few = tt
    go (Some byte) None few = tt
    go (Some byte) (Some bytes) few = omega (arith, few)

some_digits_small : (word : List ℕ) → IfSome (bytes_of_some_digits word) (λ bytes. length bytes ≤ length word)
some_digits_small [] = tt
some_digits_small (first ∷ rest) = digits_small (first ∷ rest)

word_small : (word : List ℕ) → IfSome (bytes_in_word word) (λ bytes. length bytes ≤ length word)
word_small word = go (bytes_eq word (codes "-"))
  where
    go : (dash : Bool) → IfSome (let o : Option (List ℕ) = cond dash (Some []) (bytes_of_some_digits word) in o) (λ bytes. length bytes ≤ length word)
    go true = omega arith
    go false = some_digits_small word

hex_small : (found : List (List ℕ)) (bytes : List ℕ) → IsHexWord found bytes → length bytes ≤ length (join_with_byte 32 found)
hex_small [] bytes h = absurd h
hex_small (word ∷ []) bytes h = subst (λ (o : Option (List ℕ)). IfSome o (λ bs. length bs ≤ length word)) h (word_small word)
hex_small (word ∷ more ∷ rest) bytes h = absurd h

joined_more : (word next : List ℕ) (rest : List (List ℕ)) → length (join_with_byte 32 (word ∷ next ∷ rest)) ≡ length word + 1 + length (join_with_byte 32 (next ∷ rest))
joined_more word next rest = omega (arith, length-append word (32 ∷ join_with_byte 32 (next ∷ rest)))

-- a piece is no longer than the words behind its verb
piece_small : (found : List (List ℕ)) (number : ℕ) (piece : List ℕ) → ArePieceWords found number piece → length piece ≤ length (join_with_byte 32 found)
piece_small [] number piece h = absurd h
piece_small (first ∷ []) number piece h = absurd h.2
piece_small (first ∷ next ∷ rest) number piece h =
    let few : length piece ≤ length (join_with_byte 32 (next ∷ rest)) = hex_small (next ∷ rest) piece h.2 in
    omega (arith, joined_more first next rest)

words_small : (found : List (List ℕ)) (call : GateCall) → AreLineWords found call → call_size call ≤ length (join_with_byte 32 found)
words_small [] call h = absurd h
words_small (verb ∷ []) (Join name) h = absurd (let named : IsNameWord [] name = h.1 in let none : [] ≡ name ∷ [] = named.0 in cc)
words_small (verb ∷ []) (Leave number) h = omega arith
words_small (verb ∷ []) (Feed number piece) h = absurd (let none : ArePieceWords [] number piece = h.1 in none)
words_small (verb ∷ []) (Take number) h = omega arith
words_small (verb ∷ next ∷ rest) (Join name) h = omega (arith, joined_more verb next rest)
words_small (verb ∷ next ∷ rest) (Leave number) h = omega arith
words_small (verb ∷ next ∷ rest) (Feed number piece) h =
    let words : ArePieceWords (next ∷ rest) number piece = h.1 in
    let few : length piece ≤ length (join_with_byte 32 (next ∷ rest)) = piece_small (next ∷ rest) number piece words in
    omega (arith, joined_more verb next rest)
words_small (verb ∷ next ∷ rest) (Take number) h = omega arith

-- so a call asks for no more than its line has
line_small : (line : List ℕ) (call : GateCall) → IsCallLine line call → call_size call ≤ length line
line_small line call is = subst (λ (l : List ℕ). call_size call ≤ length l) (join_with_byte-slice_split 32 line) (words_small (words line) call is)

-- the text of lines that each end with LF
abbrev text_of : List (List ℕ) → List ℕ
text_of lines = join_with_byte 10 (lines ++ [] ∷ [])

text_more : (line : List ℕ) (lines : List (List ℕ)) → length (text_of (line ∷ lines)) ≡ length line + 1 + length (text_of lines)
text_more line [] = omega (arith, length-append line (10 ∷ []))
text_more line (next ∷ lines) = omega (arith, length-append line (10 ∷ text_of (next ∷ lines)))

lines_small : (lines : List (List ℕ)) (calls : List GateCall) → HaveCallLines lines calls → calls_size calls ≤ length (text_of lines)
lines_small [] [] h = omega arith
lines_small [] (call ∷ calls) h = absurd h
lines_small (line ∷ lines) [] h = absurd h
lines_small (line ∷ lines) (call ∷ calls) h =
    let first : call_size call ≤ length line = line_small line call h.0 in
    let others : calls_size calls ≤ length (text_of lines) = lines_small lines calls h.1 in
    omega (arith, text_more line lines)

-- so many bytes hold calls that ask for less than a gateway can give
pub script_small : (text : List ℕ) (calls : List GateCall) → IsGateScript text calls → length text ≤ 2 ^ 20 → calls_size calls < 2 ^ 32
script_small text calls h short =
    let all : join_with_byte 10 (pieces text) ≡ text = join_with_byte-slice_split 10 text in
    let whole : length (text_of (gate_header ∷ h.0)) ≡ length text = ap length (sym (ap (join_with_byte 10) h.1) ∙ all) in
    let sizes : calls_size calls ≤ length (text_of h.0) = lines_small h.0 calls h.2 in
    omega (arith, text_more gate_header h.0)

-- and so do those of a script that is read
pub read_small : (text : List ℕ) (read : Result (List GateCall) ScriptError) → IfOk read (λ (calls : List GateCall). IsGateScript text calls) → length text ≤ 2 ^ 20 → IfOk read (λ (calls : List GateCall). calls_size calls < 2 ^ 32)
read_small text (Ok calls) is short = script_small text calls is short
read_small text (Err error) is short = tt
