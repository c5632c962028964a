-- What a past of calls says of each connection, by the calls and replies alone: the received stream, the frames that were taken, and those
-- that were due. No state of a gate and no queue occurs in it.
use Rattle.std.specs.Prelude.{◌==◌, ℕ, Bool, true, false, not, ◌&&◌, List, [], ◌∷◌, ◌++◌, length, drop, map, filter, Option, Some}
use Rattle.std.specs.Prelude.{None, if◌then◌else◌}
use Rattle.rtc_gate_calls.specs.Signal.{Signal}
use Rattle.rtc_gate_calls.specs.SignalStream.{signals_in}
use Rattle.rtc_gate_calls.specs.Routing.{Letter, letter_of, mail_for}
use Rattle.rtc_gate_calls.specs.declared.gate_error.GateError.{GateError}
use Rattle.rtc_gate_calls.specs.declared.gate_error.GateError.TheVariants.{BadName, NameTaken, Full, NoSuch, BadFrame, Alloc}
use Rattle.rtc_gate_calls.specs.declared.gate_call.GateCall.{GateCall}
use Rattle.rtc_gate_calls.specs.declared.gate_call.GateCall.TheVariants.{Join, Leave, Feed, Take}
use Rattle.rtc_gate_calls.specs.declared.gate_reply.GateReply.{GateReply}
use Rattle.rtc_gate_calls.specs.declared.gate_reply.GateReply.TheVariants.{Joined, Left, Fed, Took, Refused}

-- a call with its reply. A past is a list of these, newest first.
pub record GateEvent : Type 0 where
  pub call : GateCall
  pub reply : GateReply

-- the calls of a past, and its replies, in order
abbrev pub calls_made : List GateEvent → List GateCall
calls_made [] = []
calls_made (event ∷ past) = calls_made past ++ event.call ∷ []

abbrev pub replies_given : List GateEvent → List GateReply
replies_given [] = []
replies_given (event ∷ past) = replies_given past ++ event.reply ∷ []

-- the roster with one that joined under a name
abbrev pub with_joined : GateReply → List ℕ → List (ℕ × List ℕ) → List (ℕ × List ℕ)
with_joined (Joined number) name roster = roster ++ (number, name) ∷ []
with_joined Left name roster = roster
with_joined (Fed count) name roster = roster
with_joined (Took frame) name roster = roster
with_joined (Refused error) name roster = roster

-- the roster without one that left
abbrev pub without_left : GateReply → ℕ → List (ℕ × List ℕ) → List (ℕ × List ℕ)
without_left (Joined other) number roster = roster
without_left Left number roster = filter (λ entry. not (entry.0 == number)) roster
without_left (Fed count) number roster = roster
without_left (Took frame) number roster = roster
without_left (Refused error) number roster = roster

abbrev pub roster_after : GateCall → GateReply → List (ℕ × List ℕ) → List (ℕ × List ℕ)
roster_after (Join name) reply roster = with_joined reply name roster
roster_after (Leave number) reply roster = without_left reply number roster
roster_after (Feed number piece) reply roster = roster
roster_after (Take number) reply roster = roster

-- who is here: the number and the name of each, in the order in which they joined
abbrev pub roster_behind : List GateEvent → List (ℕ × List ℕ)
roster_behind [] = []
roster_behind (event ∷ past) = roster_after event.call event.reply (roster_behind past)

abbrev pub is_bad_frame : GateError → Bool
is_bad_frame BadName = false
is_bad_frame NameTaken = false
is_bad_frame Full = false
is_bad_frame NoSuch = false
is_bad_frame (BadFrame at) = true
is_bad_frame Alloc = false

-- whether a piece was received: it was refused neither for lack of memory nor because nobody has the number
abbrev pub came_in : GateReply → Bool
came_in (Joined number) = false
came_in Left = false
came_in (Fed count) = true
came_in (Took frame) = false
came_in (Refused error) = is_bad_frame error

-- the bytes that a call adds to the stream of a connection
abbrev pub bytes_from : ℕ → GateCall → GateReply → List ℕ
bytes_from number (Join name) reply = []
bytes_from number (Leave other) reply = []
bytes_from number (Feed sender piece) reply = if came_in reply && sender == number then piece else []
bytes_from number (Take other) reply = []

-- the received pieces of a connection, joined
abbrev pub stream_from : ℕ → List GateEvent → List ℕ
stream_from number [] = []
stream_from number (event ∷ past) = stream_from number past ++ bytes_from number event.call event.reply

-- the frames of a stream that become whole with one piece more
abbrev pub newly_whole : List ℕ → List ℕ → List Signal
newly_whole stream piece = drop (length (signals_in stream)) (signals_in (stream ++ piece))

-- the name of the connection that has a number
abbrev pub name_numbered : ℕ → List (ℕ × List ℕ) → List ℕ
name_numbered number [] = []
name_numbered number (entry ∷ roster) = if entry.0 == number then entry.1 else name_numbered number roster

-- the frames that go out with a call: those that become whole, each to the connection that then has its name or back to the sender
abbrev pub letters_sent : List GateEvent → GateCall → GateReply → List Letter
letters_sent past (Join name) reply = []
letters_sent past (Leave number) reply = []
letters_sent past (Feed sender piece) reply =
    if came_in reply then map
    (letter_of (roster_behind past) sender (name_numbered sender (roster_behind past)))
    (newly_whole (stream_from sender past) piece) else []
letters_sent past (Take number) reply = []

-- the frames that are due to a connection: of those that go out with each call, the ones for it
abbrev pub due : ℕ → List GateEvent → List (List ℕ)
due number [] = []
due number (event ∷ past) = due number past ++ mail_for number (letters_sent past event.call event.reply)

abbrev pub frame_in_reply : Option (List ℕ) → List (List ℕ)
frame_in_reply None = []
frame_in_reply (Some frame) = frame ∷ []

-- the frame that a connection took
abbrev pub frames_taken_by : GateReply → Bool → List (List ℕ)
frames_taken_by (Joined number) its = []
frames_taken_by Left its = []
frames_taken_by (Fed count) its = []
frames_taken_by (Took frame) its = if its then frame_in_reply frame else []
frames_taken_by (Refused error) its = []

abbrev pub frames_from : ℕ → GateCall → GateReply → List (List ℕ)
frames_from number (Join name) reply = []
frames_from number (Leave other) reply = []
frames_from number (Feed sender piece) reply = []
frames_from number (Take taker) reply = frames_taken_by reply (taker == number)

-- the frames that a connection took, in order
abbrev pub frames_taken : ℕ → List GateEvent → List (List ℕ)
frames_taken number [] = []
frames_taken number (event ∷ past) = frames_taken number past ++ frames_from number event.call event.reply
