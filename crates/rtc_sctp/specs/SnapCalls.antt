-- What the calls on SNAP INIT chunks leave of the streams: nothing else changes.
use Rattle.std.specs.Prelude.{ℕ, ◌≡◌, Bool, List, Result}
use Rattle.std.specs.declared.alloc.AllocError.{AllocError}
use Rattle.rtc_parts.specs.Draws.{Draws}
use Rattle.rtc_sctp_values.specs.SnapHalves.{KeepsRemote, EnsuresLocal}
use Rattle.rtc_sctp.specs.Streams.{SctpStreams}

-- a text of the other end's chunk is taken into the pending ones
abbrev pub TakesRemoteHalf : {S : Type 0} → List ℕ → SctpStreams S → Result Bool AllocError → SctpStreams S → Type 0
TakesRemoteHalf text p r q = KeepsRemote text p.local_max p.snap r q.snap × (q ≡ record p { snap = q.snap })

-- this end's chunk is there afterwards
abbrev pub EnsuresLocalHalf : {S N : Type 0} → Draws N → SctpStreams S → N → Result (Unit {0}) AllocError → SctpStreams S → N → Type 0
EnsuresLocalHalf draws p ids r q ids' = EnsuresLocal draws p.local_max p.snap ids r q.snap ids' × (q ≡ record p { snap = q.snap })
