-- Calls that are few are possible.
use Rattle.std.proofs.Common.{◌≡◌, ℕ, ◌+◌, ◌≤◌, ◌<◌, ◌^◌, ◌&&◌, ◌==◌, Bool, true, false, List, [], ◌∷◌, ◌++◌, length, Option, Some, None, refl, sym, subst, cond, arith, length-append}
use Rattle.std.specs.Prelude.{Result, Ok, Err, IfSome}
use Rattle.rtc_gate_calls.specs.SignalStream.{tail_of, is_malformed}
use Rattle.rtc_gate_calls.proofs.SplitLemmas.{tail_short}
use Rattle.rtc_gate_calls.specs.Routing.{join_answer}
use Rattle.rtc_gate_calls.specs.GateState.{ConnectionState, GateState, Incoming, roster_of, connection_numbered, whole_size, incoming_behind, after_admission}
use Rattle.rtc_gate_calls.specs.Replies.{IsPossible, after_call, gate_behind, ran_out}
use Rattle.rtc_gate_calls.specs.History.{GateEvent, calls_made, came_in, bytes_from, stream_from}
use Rattle.rtc_gate_calls.specs.Histories.{gate_after, WereAnswered}
use Rattle.rtc_gate_calls.specs.Sizes.{call_size, calls_size}
use Rattle.rtc_gate_calls.specs.declared.gate_error.GateError.{GateError}
use Rattle.rtc_gate_calls.specs.declared.gate_call.GateCall.{GateCall}
use Rattle.rtc_gate_calls.specs.declared.gate_call.GateCall.TheVariants.{Join, Leave, Feed, Take}
use Rattle.rtc_gate_calls.specs.declared.gate_reply.GateReply.{GateReply}
use Rattle.rtc_gate_calls.proofs.DueLaw.{delivered}

pub calls_size-append : (calls more : List GateCall) → calls_size (calls ++ more) ≡ calls_size calls + calls_size more
calls_size-append [] more = omega arith
calls_size-append (call ∷ calls) more = omega (arith, calls_size-append calls more)

admitted : (answer : Result ℕ GateError) (gate : GateState) (name : List ℕ) → (after_admission answer gate name).joined ≤ gate.joined + 1
admitted (Ok number) gate name = omega arith
admitted (Err error) gate name = omega arith

joined_by : (gate : GateState) (call : GateCall) → (after_call gate call).joined ≤ gate.joined + call_size call
joined_by gate (Join name) = admitted (join_answer gate.joined (roster_of gate.connections) name) gate name
joined_by gate (Leave number) = omega arith
joined_by gate (Feed number piece) = omega arith
joined_by gate (Take number) = omega arith

joined_behind : (gate : GateState) (call : GateCall) (reply : GateReply) → (gate_behind gate call reply).joined ≤ gate.joined + call_size call
joined_behind gate call reply = go (ran_out reply)
  where
    go : (out : Bool) → (let g : GateState = cond out gate (after_call gate call) in g).joined ≤ gate.joined + call_size call
    go true = omega arith
    go false = joined_by gate call

-- so many joined at most
joined_within : (past : List GateEvent) → (gate_after past).joined ≤ calls_size (calls_made past)
joined_within [] = omega arith
joined_within (event ∷ past) =
    let behind : (gate_after (event ∷ past)).joined ≤ (gate_after past).joined + call_size event.call = joined_behind (gate_after past) event.call event.reply in
    omega (arith, calls_size-append (calls_made past) (event.call ∷ []), joined_within past)

piece_within : (number : ℕ) (call : GateCall) (reply : GateReply) → length (bytes_from number call reply) ≤ call_size call
piece_within number (Join name) reply = omega arith
piece_within number (Leave other) reply = omega arith
piece_within number (Feed sender piece) reply = go (came_in reply && sender == number)
  where
    go : (its : Bool) → length (let bytes : List ℕ = cond its piece [] in bytes) ≤ length piece
    go true = omega arith
    go false = omega arith
piece_within number (Take other) reply = omega arith

-- so many bytes came in at most
stream_within : (number : ℕ) (past : List GateEvent) → length (stream_from number past) ≤ calls_size (calls_made past)
stream_within number [] = omega arith
stream_within number (event ∷ past) =
    let piece : length (bytes_from number event.call event.reply) ≤ call_size event.call = piece_within number event.call event.reply in
    omega (arith, length-append (stream_from number past) (bytes_from number event.call event.reply), calls_size-append (calls_made past) (event.call ∷ []), stream_within number past)

-- a stream is no longer than what came in
incoming_within : (stream : List ℕ) → (incoming_behind 0 stream).done + length (incoming_behind 0 stream).kept ≤ length stream
incoming_within stream = go (is_malformed stream)
  where
    go : (bad : Bool) → 0 + whole_size stream + length (let kept : List ℕ = cond bad [] (tail_of stream) in kept) ≤ length stream
    go true = omega arith
    go false = omega (arith, tail_short stream)

-- calls that ask for less than 2 ^ 32 together are possible, one after another
pub few_are_possible : (past : List GateEvent) (call : GateCall) → WereAnswered past → calls_size (calls_made past) + call_size call < 2 ^ 32 → IsPossible (gate_after past) call
few_are_possible past (Join name) answered few = omega (arith, joined_within past)
few_are_possible past (Leave number) answered few = tt
few_are_possible past (Feed number piece) answered few = go (connection_numbered (gate_after past).connections number) refl
  where
    go : (here : Option ConnectionState) → connection_numbered (gate_after past).connections number ≡ here → IfSome here (λ connection. connection.incoming.done + length connection.incoming.kept + length piece < 2 ^ 64)
    go None is = tt
    go (Some connection) is =
        let stream : List ℕ = stream_from number past in
        let same : connection.incoming ≡ incoming_behind 0 stream = (delivered past answered).streams number connection is in
        let within : connection.incoming.done + length connection.incoming.kept ≤ length stream = subst (λ (i : Incoming). i.done + length i.kept ≤ length stream) (sym same) (incoming_within stream) in
        let came : length stream ≤ calls_size (calls_made past) = stream_within number past in
        omega arith
few_are_possible past (Take number) answered few = tt
