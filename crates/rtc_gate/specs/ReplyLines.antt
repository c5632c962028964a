-- The lines that replies are written as.
use Rattle.std.specs.Prelude.{ℕ, List, [], ◌∷◌, ◌++◌, codes, Option, Some, None}
use Rattle.std.specs.Fmt.{decimal}
use Rattle.rtc_gate_calls.specs.declared.gate_error.GateError.{GateError}
use Rattle.rtc_gate_calls.specs.declared.gate_error.GateError.TheVariants.{BadName, NameTaken, Full, NoSuch, BadFrame, Alloc}
use Rattle.rtc_gate_calls.specs.declared.gate_reply.GateReply.{GateReply}
use Rattle.rtc_gate_calls.specs.declared.gate_reply.GateReply.TheVariants.{Joined, Left, Fed, Took, Refused}
use Rattle.rtc_gate.specs.HexWords.{word_of_bytes}

-- the words of a refusal; running out of memory ends the program before it is written
abbrev pub refusal_words : GateError → List ℕ
refusal_words BadName = codes "badname"
refusal_words NameTaken = codes "nametaken"
refusal_words Full = codes "full"
refusal_words NoSuch = codes "nosuch"
refusal_words (BadFrame at) = codes "badframe " ++ decimal at
refusal_words Alloc = codes "nomemory"

abbrev pub taken_words : Option (List ℕ) → List ℕ
taken_words None = codes "none"
taken_words (Some frame) = codes "took " ++ word_of_bytes frame

abbrev pub reply_words : GateReply → List ℕ
reply_words (Joined number) = codes "joined " ++ decimal number
reply_words Left = codes "left"
reply_words (Fed count) = codes "fed " ++ decimal count
reply_words (Took frame) = taken_words frame
reply_words (Refused error) = codes "refused " ++ refusal_words error

-- a line for each reply
abbrev pub reply_lines : List GateReply → List ℕ
reply_lines [] = []
reply_lines (reply ∷ replies) = reply_words reply ++ codes "\n" ++ reply_lines replies
