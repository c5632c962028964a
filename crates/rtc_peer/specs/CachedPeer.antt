-- A peer as its callers see it: the peer that is polled, two signals, and the timeout that is kept.
use Rattle.std.specs.Prelude.{◌≡◌, ◌-◌, ◌^◌, ℕ, Bool, true, false, Option, Some, None, Result, Ok}
use Rattle.rtc_parts.specs.declared.reason.Reason.TheVariants.{NotHappening}
use Rattle.rtc_ready.specs.Signals.{Signals}
use Rattle.rtc_peer_core.specs.declared.peer.Peer.{Peer}
use Rattle.rtc_peer_core.specs.declared.phase.Phase.{Phase}
use Rattle.rtc_peer_core.specs.declared.phase.Phase.TheVariants.{Alive, Closing, Closed}
use Rattle.rtc_peer_core.specs.declared.rtc_error.RtcError.{RtcError}
use Rattle.rtc_peer_transport.specs.declared.output.Output.{Output}
use Rattle.rtc_peer_transport.specs.declared.output.Output.TheVariants.{Timeout}
use Rattle.rtc_peer_transport.specs.declared.polled_peer.PolledPeer.{PolledPeer}
use Rattle.rtc_peer_transport.specs.declared.transport.Transport.{Transport}
use Rattle.rtc_peer_polling.specs.Walk.{with_reason}

-- What negotiation keeps, the connection, whether a walk may meet something and the timers may have moved, and the moment of the last
-- timeout.
pub record CachedPeer (I D S M N : Type 0) : Type 0 where
  pub core : Peer I D S M N
  pub transport : Transport
  pub signals : Signals
  pub kept : ℕ

-- the peer that is polled; neither a signal nor the kept moment occurs in its walk
abbrev pub polled_of : {I D S M N : Type 0} → CachedPeer I D S M N → PolledPeer I D S M N
polled_of c = record { core = c.core; transport = c.transport }

-- the kept moment counts while neither signal is set
abbrev pub kept_if : (events timeout : Bool) → ℕ → Option ℕ
kept_if true timeout kept = None
kept_if false true kept = None
kept_if false false kept = Some kept

-- a closed peer waits for nothing
abbrev pub kept_in : Phase → Signals → ℕ → Option ℕ
kept_in Alive signals kept = kept_if signals.events signals.timeout kept
kept_in Closing signals kept = kept_if signals.events signals.timeout kept
kept_in Closed signals kept = Some (2 ^ 64 - 1)

-- the moment of the timeout that the next poll returns, if that is known without a look at a part
abbrev pub kept_timeout_of : {I D S M N : Type 0} → CachedPeer I D S M N → Option ℕ
kept_timeout_of c = kept_in c.core.phase c.signals c.kept

-- such a poll returns that timeout, and the peer is as before; that of a closed peer is for no reason
abbrev pub AnswersKept : {I D S M E N : Type 0} → Phase → (moment : ℕ) → CachedPeer I D S M N → Result (Output E) RtcError
    → CachedPeer I D S M N → Type 0
AnswersKept Alive moment c answer d = (answer ≡ Ok (Timeout moment)) × (polled_of d ≡ polled_of c)
AnswersKept Closing moment c answer d = (answer ≡ Ok (Timeout moment)) × (polled_of d ≡ polled_of c)
AnswersKept Closed moment c answer d = (answer ≡ Ok (Timeout moment)) × (polled_of d ≡ with_reason NotHappening (polled_of c))
