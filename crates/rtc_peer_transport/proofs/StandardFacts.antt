-- Small cases of the definitions, computed.
use Rattle.std.proofs.Common.{◌≡◌, ◌-◌, ◌^◌, ℕ, Bool, Option, Some, refl}
use Rattle.rtc_parts.specs.declared.reason.Reason.TheVariants.{NotHappening, DTLS, Ice}
use Rattle.rtc_peer_transport.specs.Connection.{no_transport}
use Rattle.rtc_peer_transport.specs.Deadlines.{sooner}

pub new_peer_waits_for_nothing : (verifies rtp_mode : Bool) (interval : Option ℕ) → (no_transport verifies rtp_mode interval).last_reason ≡ NotHappening
new_peer_waits_for_nothing verifies rtp_mode interval = refl

pub first_of_equal_deadlines : sooner (250, DTLS) (Some (250, Ice)) ≡ (250, DTLS)
first_of_equal_deadlines = refl

pub sooner_deadline : sooner (2 ^ 64 - 1, DTLS) (Some (250, Ice)) ≡ (250, Ice)
sooner_deadline = refl
