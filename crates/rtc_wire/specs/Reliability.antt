-- Reliability as an open message carries it: a type and a parameter (RFC 8832, section 5.1).
use Rattle.std.specs.Prelude.{ℕ, min}
use Rattle.rtc_wire.specs.declared.reliability_type.ReliabilityType.{ReliabilityType}
use Rattle.rtc_wire.specs.declared.reliability_type.ReliabilityType.TheVariants as types
use Rattle.rtc_wire.specs.declared.reliability.Reliability.{Reliability}
use Rattle.rtc_wire.specs.declared.reliability.Reliability.TheVariants.{Reliable, MaxPacketLifetime, MaxRetransmits}

-- the type and the parameter of a reliability
abbrev pub parts_of : Reliability → ReliabilityType × ℕ
parts_of Reliable = (types.Reliable, 0)
parts_of (MaxPacketLifetime lifetime) = (types.Timed, lifetime)
parts_of (MaxRetransmits retransmits) = (types.Rexmit, retransmits)

-- the reliability of a type and a parameter; what is above 65535 is 65535 (our profile's)
abbrev pub reliability_of : ReliabilityType → ℕ → Reliability
reliability_of types.Reliable parameter = Reliable
reliability_of types.Rexmit parameter = MaxRetransmits (min parameter 65535)
reliability_of types.Timed parameter = MaxPacketLifetime (min parameter 65535)
