-- To which connection the gateway sends a frame. The roster is the connections that are here: the number and the name of each.
use Rattle.std.specs.Prelude.{
  ℕ,
  ◌==◌,
  Bool,
  true,
  false,
  not,
  ◌&&◌,
  List,
  [],
  ◌∷◌,
  length,
  nat_le,
  Option,
  Some,
  None,
  Result,
  Ok,
  Err,
  if◌then◌else◌,
}
use Rattle.std.specs.Str.{bytes_eq}
use Rattle.rtc_wire_text.specs.Tokens.{is_short_token}
use Rattle.rtc_gate_calls.specs.declared.signal_kind.SignalKind.{SignalKind}
use Rattle.rtc_gate_calls.specs.declared.signal_kind.SignalKind.TheVariants.{Offer, Answer, Candidate, NobodyThere, NotInGrammar}
use Rattle.rtc_gate_calls.specs.Signal.{Signal, signal_bytes}
use Rattle.rtc_gate_calls.specs.Grammar.{is_description}
use Rattle.rtc_gate_calls.specs.declared.gate_error.GateError.{GateError}
use Rattle.rtc_gate_calls.specs.declared.gate_error.GateError.TheVariants.{BadName, NameTaken, Full}

-- the number of the connection that has a name
abbrev pub number_named : List (ℕ × List ℕ) → List ℕ → Option ℕ
number_named [] name = None
number_named (entry ∷ roster) name = if bytes_eq entry.1 name then Some entry.0 else number_named roster name

-- a connection may join under a name that nobody has, if fewer than 1024 are here
abbrev pub admission : ℕ → List (ℕ × List ℕ) → Option ℕ → Result ℕ GateError
admission next roster (Some taken) = Err NameTaken
admission next roster None = if nat_le 1024 (length roster) then Err Full else Ok next

-- the reply to a join if `next` connections joined before
abbrev pub join_answer : ℕ → List (ℕ × List ℕ) → List ℕ → Result ℕ GateError
join_answer next roster name = if is_short_token name then admission next roster (number_named roster name) else Err BadName

-- the text of an offer or answer has to be a session description
abbrev pub holds_description : SignalKind → Bool
holds_description Offer = true
holds_description Answer = true
holds_description Candidate = false
holds_description NobodyThere = false
holds_description NotInGrammar = false

abbrev pub is_ungrammatical : Signal → Bool
is_ungrammatical signal = holds_description signal.kind && not (is_description signal.text)

-- what is sent back to the sender: why, the name that it wrote to, and no text
abbrev pub returned : SignalKind → Signal → Signal
returned why signal = record { kind = why; name = signal.name; text = [] }

-- a frame that is sent, and the number of the connection that it is for
pub record Letter : Type 0 where
  pub to : ℕ
  pub frame : List ℕ

abbrev pub addressed : Option ℕ → ℕ → List ℕ → Signal → Letter
addressed (Some number) sender name signal = record {
  to = number;
  frame = signal_bytes
      (record { kind = signal.kind; name = name; text = signal.text });
}
addressed None sender name signal = record { to = sender; frame = signal_bytes (returned NobodyThere signal) }

-- the frame that a signal of a sender is sent as: to the connection that has its name, with the sender's name in its place, or back
abbrev pub letter_of : List (ℕ × List ℕ) → ℕ → List ℕ → Signal → Letter
letter_of roster sender name signal =
    if is_ungrammatical signal then record { to = sender; frame = signal_bytes (returned NotInGrammar signal) }
    else addressed (number_named roster signal.name) sender name signal

-- the frames for one connection, in order
abbrev pub mail_for : ℕ → List Letter → List (List ℕ)
mail_for number [] = []
mail_for number (letter ∷ letters) = if letter.to == number then letter.frame ∷ mail_for number letters else mail_for number letters
