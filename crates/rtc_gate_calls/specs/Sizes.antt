-- How much calls ask of a gate.
use Rattle.std.specs.Prelude.{ℕ, ◌+◌, List, [], ◌∷◌, length}
use Rattle.rtc_gate_calls.specs.declared.gate_call.GateCall.{GateCall}
use Rattle.rtc_gate_calls.specs.declared.gate_call.GateCall.TheVariants.{Join, Leave, Feed, Take}

-- a connection that joins, or the bytes of a piece
abbrev pub call_size : GateCall → ℕ
call_size (Join name) = 1
call_size (Leave number) = 0
call_size (Feed number piece) = length piece
call_size (Take number) = 0

abbrev pub calls_size : List GateCall → ℕ
calls_size [] = 0
calls_size (call ∷ calls) = call_size call + calls_size calls
