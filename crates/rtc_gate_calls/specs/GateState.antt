-- The state of the gateway, and what each call returns and leaves.
use Rattle.std.specs.Prelude.{◌≡◌, ℕ, ◌+◌, ◌-◌, ◌==◌, Bool, false, not, List, [], ◌∷◌, ◌++◌, length, map, filter, drop, slice_get}
use Rattle.std.specs.Prelude.{Option, Some, None, Result, Ok, Err, if◌then◌else◌}
use Rattle.rtc_gate_calls.specs.Signal.{Signal}
use Rattle.rtc_gate_calls.specs.SignalStream.{signals_in, tail_of, is_malformed}
use Rattle.rtc_gate_calls.specs.Routing.{Letter, join_answer, letter_of, mail_for}
use Rattle.rtc_gate_calls.specs.declared.gate_error.GateError.{GateError}
use Rattle.rtc_gate_calls.specs.declared.gate_error.GateError.TheVariants.{BadName, NameTaken, Full, NoSuch, BadFrame, Alloc}

-- A stream that was received so far: how many bytes its whole frames have, the bytes of the next one that are there, and whether it is
-- stuck at what is no incoming frame.
pub record Incoming : Type 0 where
  pub done : ℕ
  pub kept : List ℕ
  pub stuck : Bool

pub record ConnectionState : Type 0 where
  pub number : ℕ
  pub name : List ℕ
  pub incoming : Incoming
  pub queue : List (List ℕ)

-- how many connections joined, and those that are here, in the order in which they joined
pub record GateState : Type 0 where
  pub joined : ℕ
  pub connections : List ConnectionState

abbrev pub roster_entry : ConnectionState → ℕ × List ℕ
roster_entry connection = (connection.number, connection.name)

abbrev pub roster_of : List ConnectionState → List (ℕ × List ℕ)
roster_of connections = map roster_entry connections

-- the connection that has a number
abbrev pub connection_numbered : List ConnectionState → ℕ → Option ConnectionState
connection_numbered [] number = None
connection_numbered (connection
    ∷ connections) number = if connection.number == number then Some connection else connection_numbered connections number

abbrev pub started : Incoming
started = record { done = 0; kept = []; stuck = false }

-- the bytes that the whole frames at the front of a stream have
abbrev pub whole_size : List ℕ → ℕ
whole_size stream = length stream - length (tail_of stream)

-- a stream of which so many bytes were whole frames, and these follow
abbrev pub incoming_behind : ℕ → List ℕ → Incoming
incoming_behind done bytes = record {
  done = done + whole_size bytes;
  kept = if is_malformed bytes then [] else tail_of bytes;
  stuck = is_malformed bytes;
}

-- the stream with one piece more
abbrev pub resumed : Incoming → List ℕ → Incoming
resumed incoming piece = if incoming.stuck then incoming else incoming_behind incoming.done (incoming.kept ++ piece)

-- the frames that become whole with that piece
abbrev pub arriving : Incoming → List ℕ → List Signal
arriving incoming piece = if incoming.stuck then [] else signals_in (incoming.kept ++ piece)

-- how many frames became whole, or the place at which the stream is stuck
abbrev pub fed_answer : Incoming → List Signal → Result ℕ GateError
fed_answer incoming signals = if incoming.stuck then Err (BadFrame incoming.done) else Ok (length signals)

-- what a connection's next piece sends out
abbrev pub letters_of : List (ℕ × List ℕ) → ConnectionState → List ℕ → List Letter
letters_of roster sender piece = map (letter_of roster sender.number sender.name) (arriving sender.incoming piece)

-- a connection behind a feed: its mail is queued, and the sender's stream has one piece more
abbrev pub after_mail : ℕ → List ℕ → List Letter → ConnectionState → ConnectionState
after_mail sender piece letters connection = record {
  number = connection.number;
  name = connection.name;
  incoming = if connection.number == sender then resumed connection.incoming piece else connection.incoming;
  queue = connection.queue ++ mail_for connection.number letters;
}

abbrev pub without_first : ℕ → ConnectionState → ConnectionState
without_first number connection = record {
  number = connection.number;
  name = connection.name;
  incoming = connection.incoming;
  queue = if number == connection.number then drop 1 connection.queue else connection.queue;
}

abbrev pub fresh_connection : ℕ → List ℕ → ConnectionState
fresh_connection number name = record { number = number; name = name; incoming = started; queue = [] }

-- the gate behind each call
abbrev pub after_admission : Result ℕ GateError → GateState → List ℕ → GateState
after_admission (Ok number) gate name = record {
  joined = gate.joined + 1;
  connections = gate.connections
      ++ fresh_connection number name ∷ [];
}
after_admission (Err error) gate name = gate

abbrev pub after_join : GateState → List ℕ → GateState
after_join gate name = after_admission (join_answer gate.joined (roster_of gate.connections) name) gate name

abbrev pub after_leave : GateState → ℕ → GateState
after_leave gate number = record {
  joined = gate.joined;
  connections = filter (λ connection. not
      (connection.number == number)) gate.connections;
}

abbrev pub fed_connections : Option ConnectionState → List ConnectionState → List ℕ → List ConnectionState
fed_connections None connections piece = connections
fed_connections (Some sender) connections piece = map (after_mail sender.number piece
    (letters_of (roster_of connections) sender piece)) connections

abbrev pub after_feed : GateState → ℕ → List ℕ → GateState
after_feed gate number piece = record {
  joined = gate.joined;
  connections = fed_connections
      (connection_numbered gate.connections number) gate.connections piece;
}

abbrev pub after_take : GateState → ℕ → GateState
after_take gate number = record { joined = gate.joined; connections = map (without_first number) gate.connections }

-- what each call on a connection returns
abbrev pub leave_answer : Option ConnectionState → Result Unit GateError
leave_answer None = Err NoSuch
leave_answer (Some connection) = Ok tt

abbrev pub feed_answer : Option ConnectionState → List ℕ → Result ℕ GateError
feed_answer None piece = Err NoSuch
feed_answer (Some sender) piece = fed_answer (resumed sender.incoming piece) (arriving sender.incoming piece)

abbrev pub take_answer : Option ConnectionState → Result (Option (List ℕ)) GateError
take_answer None = Err NoSuch
take_answer (Some connection) = Ok (slice_get connection.queue 0)

-- The result is the expected one and what was `old` is as it is expected; or memory ran out, and it is unchanged.
abbrev pub IsAnswered : {T S : Type 0} → Result T GateError → Result T GateError → S → S → S → Type 0
IsAnswered (Ok answer) expected old new after = (expected ≡ Ok answer) × (new ≡ after)
IsAnswered (Err BadName) expected old new after = (expected ≡ Err BadName) × (new ≡ after)
IsAnswered (Err NameTaken) expected old new after = (expected ≡ Err NameTaken) × (new ≡ after)
IsAnswered (Err Full) expected old new after = (expected ≡ Err Full) × (new ≡ after)
IsAnswered (Err NoSuch) expected old new after = (expected ≡ Err NoSuch) × (new ≡ after)
IsAnswered (Err (BadFrame at)) expected old new after = (expected ≡ Err (BadFrame at)) × (new ≡ after)
IsAnswered (Err Alloc) expected old new after = new ≡ old
