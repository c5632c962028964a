-- What is left of the read of a stream with nothing unread.
use Rattle.std.specs.Prelude.{◌≡◌, ◌⊎◌}
use Rattle.rtc_io.specs.Faults.{Rose}
use Rattle.rtc_parts.specs.AssociationMeaning.{AssociationMeaning}
use Rattle.rtc_sctp_entries.specs.declared.met.Met.{Met}
use Rattle.rtc_sctp_entries.specs.declared.met.Met.TheVariants.{Nothing, OutOfMemory}
use Rattle.rtc_sctp_entries.specs.Visits.{Turn}

-- nothing is met and nothing changes; or memory runs out, or the association's count of faults rose or has its last value
abbrev pub PassesOver : {S : Type 0} → AssociationMeaning S → Turn S → Met → Turn S → Type 0
PassesOver m t met t' =
    ((met ≡ Nothing) × (t' ≡ t)) ⊎ ((met ≡ OutOfMemory) ⊎ Rose (m.faults t.association) (m.faults t'.association))
