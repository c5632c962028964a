-- What is known of a peer while a signal of it is off.
use Rattle.std.specs.Prelude.{if◌then◌else◌, ◌≡◌, ℕ, false}
use Rattle.rtc_ready.specs.Signals.{Signals}
use Rattle.rtc_peer_core.specs.Meanings.{Meanings}
use Rattle.rtc_peer_transport.specs.declared.met.Met.{Met}
use Rattle.rtc_peer_transport.specs.declared.met.Met.TheVariants.{Nothing, Again, Transmit, Event, Error}
use Rattle.rtc_peer_transport.specs.declared.polled_peer.PolledPeer.{PolledPeer}
use Rattle.rtc_peer_transport.specs.Closing.{is_closing_complete}
use Rattle.rtc_peer_transport.specs.Connection.{closed_peer}
use Rattle.rtc_peer_transport.specs.Deadlines.{least_deadline, wake_moment}
use Rattle.rtc_peer_transport.specs.Stages.{RepeatsStage}
use Rattle.rtc_peer_polling.specs.DtlsStages.{is_dtls_due}
use Rattle.rtc_peer_polling.specs.Walk.{VisitsParts}

module _ {I D S M E X T W N : Type 0} (m : Meanings I D S M E X T W N) where
  -- A walk meets nothing and leaves every part as it is, no moment of DTLS is reached, and the closing is not complete.
  pub record MeetsNothing (p : PolledPeer I D S M N) : Type 0 where
    pub walk : VisitsParts m p Nothing p
    pub due : is_dtls_due p ≡ false
    pub closing : is_closing_complete m p ≡ false

  -- The kept moment is that of the least deadline, and its reason is that of the last timeout.
  pub record IsTimed (p : PolledPeer I D S M N) (kept : ℕ) : Type 0 where
    pub moment : kept ≡ wake_moment m p
    pub reason : p.transport.last_reason ≡ (least_deadline m p).1

  -- If the signal of events is off, the peer is quiet; if that of the timeout is, the kept timeout is the one that a walk ends with.
  pub record AreSignals (p : PolledPeer I D S M N) (signals : Signals) (kept : ℕ) : Type 0 where
    pub events : signals.events ≡ false → MeetsNothing p
    pub timeout : signals.timeout ≡ false → IsTimed p kept

  -- if nothing was met, a closing that is complete leaves the peer closed
  abbrev pub EndsClosing : Met E → PolledPeer I D S M N → PolledPeer I D S M N → Type 0
  EndsClosing Nothing p q = q ≡ (if is_closing_complete m p then closed_peer p else p)
  EndsClosing Again p q = q ≡ p
  EndsClosing (Transmit transmit) p q = q ≡ p
  EndsClosing (Event event) p q = q ≡ p
  EndsClosing (Error error) p q = q ≡ p

  -- what a walk over the parts meets, and whether it ends a closing
  pub record MeetsParts (p : PolledPeer I D S M N) (met : Met E) (q : PolledPeer I D S M N) : Type 0 where
    pub visited : PolledPeer I D S M N
    pub by_visits : RepeatsStage (VisitsParts m) p met visited
    pub by_end : EndsClosing met visited q
