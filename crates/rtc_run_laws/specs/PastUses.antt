-- Channels whose stream is past the generation in which they were announced.
use Rattle.std.specs.Prelude.{ℕ, ◌≡◌, Some}
use Rattle.rtc_assoc_state.specs.PlainMeaning.{plain_meaning}
use Rattle.rtc_sctp_laws.specs.PastGenerations.{IsPast}
use Rattle.rtc_run_laws.specs.ChannelUses.{ChannelUse}
use Rattle.rtc_run_laws.specs.PlainPairs.{PlainPolled}

-- the stream has a later generation at the peer; or it has this one and takes no message any more, being closed from here, or the
-- association closing or closed
abbrev pub IsPastUse : {N : Type 0} → ChannelUse → PlainPolled N → Type 0
IsPastUse x p = (s : ℕ) × (x.stream ≡ Some s) × IsPast plain_meaning s x.generation p.core.sctp.association
