-- Streams over an association that runs.
use Rattle.std.specs.Prelude.{◌≡◌, true}
use Rattle.rtc_parts.specs.AssociationMeaning.{AssociationMeaning}
use Rattle.rtc_sctp.specs.Streams.{SctpStreams, is_established}

-- the association is started, and it is established
abbrev pub AreRunning : {S : Type 0} → AssociationMeaning S → SctpStreams S → Type 0
AreRunning m p = (m.started p.association ≡ true) × (is_established p.state ≡ true)
