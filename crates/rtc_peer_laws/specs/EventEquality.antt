-- Which events equal themselves.
use Rattle.std.specs.Prelude.{Bool, true}
use Rattle.rtc_peer_transport.specs.declared.event.Event.{Event}
use Rattle.rtc_peer_transport.specs.declared.event.Event.TheVariants.{Connected, IceConnectionStateChange, ChannelOpen, ChannelData}
use Rattle.rtc_peer_transport.specs.declared.event.Event.TheVariants.{ChannelClose, ChannelBufferedAmountLow, PeerStats, MediaIngressStats}
use Rattle.rtc_peer_transport.specs.declared.event.Event.TheVariants.{MediaEgressStats, Media, Closed}

-- each does, but for a media event that differs from itself by what media events are compared by
abbrev pub equals_itself : {E : Type 0} → (E → E → Bool) → Event E → Bool
equals_itself eq Connected = true
equals_itself eq (IceConnectionStateChange state) = true
equals_itself eq (ChannelOpen id label) = true
equals_itself eq (ChannelData message) = true
equals_itself eq (ChannelClose id) = true
equals_itself eq (ChannelBufferedAmountLow id) = true
equals_itself eq (PeerStats stats) = true
equals_itself eq (MediaIngressStats stats) = true
equals_itself eq (MediaEgressStats stats) = true
equals_itself eq (Media event) = eq event event
equals_itself eq Closed = true
