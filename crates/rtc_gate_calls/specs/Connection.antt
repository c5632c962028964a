-- How the fields of a connection show its state.
use Rattle.rtc_gate_calls.specs.GateState.{ConnectionState}
use Rattle.rtc_gate_calls.specs.declared.connection.Connection.TheInside.{Inside}

abbrev pub connection_state : Inside → ConnectionState
connection_state inside = record {
  number = inside.number;
  name = inside.name;
  incoming = record { done = inside.done; kept = inside.kept.items; stuck = inside.stuck };
  queue = inside.queue;
}
