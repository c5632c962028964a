-- The kept timeout by worked rows.
use Rattle.std.proofs.Common.{◌≡◌, ◌-◌, ◌^◌, Some, None, true, refl}
use Rattle.rtc_ready.specs.Signals.{both, neither}
use Rattle.rtc_peer_core.specs.declared.phase.Phase.TheVariants.{Alive, Closing, Closed}
use Rattle.rtc_peer.specs.CachedPeer.{kept_in}

-- a new peer keeps none
new_peer : kept_in Alive both (2 ^ 64 - 1) ≡ None
new_peer = refl

-- after a drain, that by which it ended
drained_peer : kept_in Alive neither 500 ≡ Some 500
drained_peer = refl

closing_peer : kept_in Closing neither 500 ≡ Some 500
closing_peer = refl

-- one signal is enough
fed_peer : kept_in Alive (record neither { events = true }) 500 ≡ None
fed_peer = refl

moved_peer : kept_in Alive (record neither { timeout = true }) 500 ≡ None
moved_peer = refl

-- a closed peer waits for nothing, whatever its signals are
closed_peer : kept_in Closed both 500 ≡ Some (2 ^ 64 - 1)
closed_peer = refl
