-- What a gate replies to a call that is a value, and the gate that the call leaves.
use Rattle.std.specs.Prelude.{◌≡◌, ◌+◌, ◌<◌, ◌^◌, ℕ, Bool, true, false, List, length, Option, Result, Ok, Err, IfSome, if◌then◌else◌}
use Rattle.rtc_gate_calls.specs.declared.gate_error.GateError.{GateError}
use Rattle.rtc_gate_calls.specs.declared.gate_error.GateError.TheVariants.{BadName, NameTaken, Full, NoSuch, BadFrame, Alloc}
use Rattle.rtc_gate_calls.specs.declared.gate_call.GateCall.{GateCall}
use Rattle.rtc_gate_calls.specs.declared.gate_call.GateCall.TheVariants.{Join, Leave, Feed, Take}
use Rattle.rtc_gate_calls.specs.declared.gate_reply.GateReply.{GateReply}
use Rattle.rtc_gate_calls.specs.declared.gate_reply.GateReply.TheVariants.{Joined, Left, Fed, Took, Refused}
use Rattle.rtc_gate_calls.specs.Routing.{join_answer}
use Rattle.rtc_gate_calls.specs.GateState.{
  GateState,
  roster_of,
  connection_numbered,
  leave_answer,
  feed_answer,
  take_answer,
  after_join,
  after_leave,
  after_feed,
  after_take,
}

abbrev pub joined_reply : Result ℕ GateError → GateReply
joined_reply (Ok number) = Joined number
joined_reply (Err error) = Refused error

abbrev pub left_reply : Result Unit GateError → GateReply
left_reply (Ok done) = Left
left_reply (Err error) = Refused error

abbrev pub fed_reply : Result ℕ GateError → GateReply
fed_reply (Ok count) = Fed count
fed_reply (Err error) = Refused error

abbrev pub took_reply : Result (Option (List ℕ)) GateError → GateReply
took_reply (Ok frame) = Took frame
took_reply (Err error) = Refused error

-- what a call returns, running out of memory aside
abbrev pub reply_to : GateState → GateCall → GateReply
reply_to gate (Join name) = joined_reply (join_answer gate.joined (roster_of gate.connections) name)
reply_to gate (Leave number) = left_reply (leave_answer (connection_numbered gate.connections number))
reply_to gate (Feed number piece) = fed_reply (feed_answer (connection_numbered gate.connections number) piece)
reply_to gate (Take number) = took_reply (take_answer (connection_numbered gate.connections number))

-- the gate that a call leaves, running out of memory aside
abbrev pub after_call : GateState → GateCall → GateState
after_call gate (Join name) = after_join gate name
after_call gate (Leave number) = after_leave gate number
after_call gate (Feed number piece) = after_feed gate number piece
after_call gate (Take number) = after_take gate number

abbrev pub is_alloc : GateError → Bool
is_alloc BadName = false
is_alloc NameTaken = false
is_alloc Full = false
is_alloc NoSuch = false
is_alloc (BadFrame at) = false
is_alloc Alloc = true

-- whether memory ran out
abbrev pub ran_out : GateReply → Bool
ran_out (Joined number) = false
ran_out Left = false
ran_out (Fed count) = false
ran_out (Took frame) = false
ran_out (Refused error) = is_alloc error

-- the gate behind a call with its reply: unchanged if memory ran out
abbrev pub gate_behind : GateState → GateCall → GateReply → GateState
gate_behind gate call reply = if ran_out reply then gate else after_call gate call

-- the reply is that of the call, or memory ran out
abbrev pub IsReplyTo : GateState → GateCall → GateReply → Type 0
IsReplyTo gate call reply = ran_out reply ≡ false → reply ≡ reply_to gate call

-- What a call asks for: fewer than 2^32 joined before, and a stream that stays shorter than 2^64.
abbrev pub IsPossible : GateState → GateCall → Type 0
IsPossible gate (Join name) = gate.joined < 2 ^ 32
IsPossible gate (Leave number) = Unit {0}
IsPossible gate (Feed number piece) = IfSome (connection_numbered gate.connections number)
    (λ connection. connection.incoming.done + length connection.incoming.kept + length piece < 2 ^ 64)
IsPossible gate (Take number) = Unit {0}
