-- Gates behind a past, and what holds of each.
use Rattle.std.specs.Prelude.{◌≡◌, ◌++◌, ◌∷◌, ℕ, List, [], false, map, Some}
use Rattle.std.specs.List.{concat}
use Rattle.rtc_gate_calls.specs.declared.gate_call.GateCall.{GateCall}
use Rattle.rtc_gate_calls.specs.declared.gate_call.GateCall.TheVariants.{Feed}
use Rattle.rtc_gate_calls.specs.declared.gate_reply.GateReply.{GateReply}
use Rattle.rtc_gate_calls.specs.GateState.{GateState, ConnectionState, connection_numbered, incoming_behind}
use Rattle.rtc_gate_calls.specs.Replies.{IsReplyTo, gate_behind, ran_out}
use Rattle.rtc_gate_calls.specs.History.{GateEvent, calls_made, replies_given, stream_from, frames_taken, due}

-- nobody is here, and nobody joined
abbrev pub empty_gate : GateState
empty_gate = record { joined = 0; connections = [] }

-- the gate that a past leaves
abbrev pub gate_after : List GateEvent → GateState
gate_after [] = empty_gate
gate_after (event ∷ past) = gate_behind (gate_after past) event.call event.reply

-- each call got its reply from the gate that those before it left, or memory ran out in it
abbrev pub WereAnswered : List GateEvent → Type 0
WereAnswered [] = Unit {0}
WereAnswered (event ∷ past) = IsReplyTo (gate_after past) event.call event.reply × WereAnswered past

-- memory ran out in no call
abbrev pub NeverRanOut : List GateEvent → Type 0
NeverRanOut [] = Unit {0}
NeverRanOut (event ∷ past) = (ran_out event.reply ≡ false) × NeverRanOut past

-- What a past leaves to each connection. One that is here took what is due to it, up to what waits for it. One that has left took a front
-- of what was due. The stream of one that is here is read as if it had been received in one piece.
pub record DeliversDue (past : List GateEvent) : Type 0 where
  pub here : (number : ℕ) (connection : ConnectionState) → connection_numbered (gate_after past).connections number ≡ Some connection
      → frames_taken number past ++ connection.queue ≡ due number past
  pub left : (number : ℕ) → (rest : List (List ℕ)) × (frames_taken number past ++ rest ≡ due number past)
  pub streams : (number : ℕ) (connection : ConnectionState) → connection_numbered (gate_after past).connections number ≡ Some connection
      → connection.incoming ≡ incoming_behind 0 (stream_from number past)

-- Two lists of calls differ only in how one feed was cut into neighbouring feeds.
pub record AreCutApart (whole cut : List GateCall) : Type 0 where
  pub before : List GateCall
  pub behind : List GateCall
  pub sender : ℕ
  pub first : List ℕ
  pub more : List (List ℕ)
  pub fed_whole : whole ≡ before ++ Feed sender (first ++ concat more) ∷ behind
  pub fed_cut : cut ≡ before ++ (Feed sender first ∷ map (Feed sender) more) ++ behind

-- A gate that was empty made these calls, each with its reply, and memory ran out in none.
pub record RunsCalls (calls : List GateCall) (replies : List GateReply) (gate : GateState) : Type 0 where
  pub past : List GateEvent
  pub calls_are : calls_made past ≡ calls
  pub replies_are : replies_given past ≡ replies
  pub answered : WereAnswered past
  pub enough : NeverRanOut past
  pub leaves : gate ≡ gate_after past
  pub delivers : DeliversDue past
