-- What a sink does with the outputs of a peer.
use Rattle.std.specs.Prelude.{Result}
use Rattle.rtc_wire.specs.declared.transmit.Transmit.{Transmit}
use Rattle.rtc_peer_core.specs.declared.rtc_error.RtcError.{RtcError}
use Rattle.rtc_peer_transport.specs.declared.event.Event.{Event}

-- each call by the sink before, what it is given, what it returns, and the sink after; E are the events of the media part
pub record SinkMeaning (K E : Type 0) : Type 1 where
  pub sent : K → Transmit → Result (Unit {0}) RtcError → K → Type 0
  pub reported : K → Event E → Result (Unit {0}) RtcError → K → Type 0

-- a sink of which nothing is said
abbrev pub any_sink : {K E : Type 0} → SinkMeaning K E
any_sink = record { sent = λ before datagram result after. Unit {0}; reported = λ before event result after. Unit {0} }
