-- States of the connection that ICE makes.
use Rattle.std.specs.Prelude.{Bool, true, false}
use Rattle.rtc_parts.specs.declared.ice_connection_state.IceConnectionState.{IceConnectionState}
use Rattle.rtc_parts.specs.declared.ice_connection_state.IceConnectionState.TheVariants.{New, Checking, Connected, Completed}
use Rattle.rtc_parts.specs.declared.ice_connection_state.IceConnectionState.TheVariants.{Disconnected}

-- whether a pair of candidates works
abbrev pub state_is_connected : IceConnectionState → Bool
state_is_connected New = false
state_is_connected Checking = false
state_is_connected Connected = true
state_is_connected Completed = true
state_is_connected Disconnected = false
