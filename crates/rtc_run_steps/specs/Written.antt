-- A message that is written to a channel, if that is open.
use Rattle.std.specs.Prelude.{◌≡◌, ℕ, Bool, List, Option, Some, None, Result, Ok, Err}
use Rattle.rtc_peer_core.specs.declared.rtc_error.RtcError.{RtcError}
use Rattle.rtc_peer_core.specs.Meanings.{Meanings}
use Rattle.rtc_peer_transport.specs.declared.polled_peer.PolledPeer.{PolledPeer}
use Rattle.rtc_peer_transport.specs.ChannelCalls.{WritesChannel}
use Rattle.rtc_run_history.specs.declared.outcome.Outcome.{Outcome}
use Rattle.rtc_run_history.specs.declared.outcome.Outcome.TheVariants.{Wrote, Refused, NoSuch}

-- the outcome of a write, which returns nothing if the channel is not open
abbrev pub written_outcome : {E : Type 0} → Option (Result Bool RtcError) → Outcome E
written_outcome None = NoSuch
written_outcome (Some (Ok taken)) = Wrote taken
written_outcome (Some (Err error)) = Refused error

module _ {I D S M E X T W N : Type 0} (m : Meanings I D S M E X T W N) where
  -- the message is written to the stream of the channel, and nothing is done if it is not open
  abbrev pub WritesIfOpen : Option ℕ → (binary : Bool) → List ℕ → PolledPeer I D S M N → Option (Result Bool RtcError)
      → PolledPeer I D S M N → Type 0
  WritesIfOpen None binary bytes p None q = q ≡ p
  WritesIfOpen None binary bytes p (Some answer) q = ⊥
  WritesIfOpen (Some stream) binary bytes p None q = ⊥
  WritesIfOpen (Some stream) binary bytes p (Some answer) q = WritesChannel m stream binary bytes p answer q
