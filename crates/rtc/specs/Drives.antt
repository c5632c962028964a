-- How a peer is driven: it is given the moment, and each of its outputs is given to a sink.
use Rattle.std.specs.Prelude.{◌≡◌, ◌≤◌, ◌-◌, ◌^◌, ℕ, List, [], ◌∷◌, length, Result, Ok, Err}
use Rattle.rtc_peer_core.specs.Meanings.{Meanings}
use Rattle.rtc_peer_core.specs.declared.rtc_error.RtcError.{RtcError}
use Rattle.rtc_peer_transport.specs.declared.input.Input.TheVariants as given
use Rattle.rtc_peer_transport.specs.declared.output.Output.{Output}
use Rattle.rtc_peer_transport.specs.declared.output.Output.TheVariants.{Timeout, Transmit, Event}
use Rattle.rtc_peer_transport.specs.declared.polled_peer.PolledPeer.{PolledPeer}
use Rattle.rtc_peer_polling.specs.Inputs.{HandlesInput}
use Rattle.rtc_peer_polling.specs.Walk.{PollsPeer}
use Rattle.rtc.specs.SinkMeaning.{SinkMeaning}
use Rattle.rtc.specs.declared.handed.Handed.{Handed}
use Rattle.rtc.specs.declared.handed.Handed.TheVariants.{More, Until, Failed}

abbrev pub handed_by : Result (Unit {0}) RtcError → Handed
handed_by (Ok done) = More
handed_by (Err error) = Failed error

-- the moment of a timeout
abbrev pub moment_wanted : {E : Type 0} → Output E → ℕ
moment_wanted (Timeout moment) = moment
moment_wanted (Transmit datagram) = 2 ^ 64 - 1
moment_wanted (Event event) = 2 ^ 64 - 1

module _ {K E : Type 0} (sink : SinkMeaning K E) where
  -- a datagram is sent, an event is reported, and a moment is for no method of the sink
  abbrev pub TakesOutput : Output E → K → Result (Unit {0}) RtcError → K → Type 0
  TakesOutput (Timeout moment) a r b = ⊥
  TakesOutput (Transmit datagram) a r b = sink.sent a datagram r b
  TakesOutput (Event event) a r b = sink.reported a event r b

  -- one output, by what became of it
  abbrev pub HandsOutput : Output E → K → Handed → K → Type 0
  HandsOutput output a More b = TakesOutput output a (Ok tt) b
  HandsOutput output a (Until moment) b = (output ≡ Timeout moment) × (b ≡ a)
  HandsOutput output a (Failed error) b = TakesOutput output a (Err error) b

module _ {I D S M E X T W N K : Type 0} (m : Meanings I D S M E X T W N) (sink : SinkMeaning K E) where
  -- A poll fails, and the sink is unchanged; or the sink fails at what the poll gave.
  pub data FailsToHand (p : PolledPeer I D S M N) (a : K) (error : RtcError) (q : PolledPeer I D S M N) (b : K) : Type 0 where
    PollFails : PollsPeer m p (Err error) q → b ≡ a → FailsToHand p a error q b
    SinkFails : (output : Output E) → PollsPeer m p (Ok output) q → TakesOutput sink output a (Err error) b → FailsToHand p a error q b

  -- one poll, by what became of its output
  abbrev pub HandsNext : PolledPeer I D S M N → K → Handed → PolledPeer I D S M N → K → Type 0
  HandsNext p a More q b = (output : Output E) × PollsPeer m p (Ok output) q × TakesOutput sink output a (Ok tt) b
  HandsNext p a (Until moment) q b = PollsPeer m p (Ok (Timeout moment)) q × (b ≡ a)
  HandsNext p a (Failed error) q b = FailsToHand p a error q b

  -- The sink took these outputs, the last one first, each as a poll gave it.
  abbrev pub HandedOver : List (Output E) → PolledPeer I D S M N → K → PolledPeer I D S M N → K → Type 0
  HandedOver [] p a q b = (q ≡ p) × (b ≡ a)
  HandedOver (output ∷ outputs) p a q b =
      (between : PolledPeer I D S M N)
      × (held : K)
      × HandedOver outputs p a between held
      × PollsPeer m between (Ok output) q
      × TakesOutput sink output held (Ok tt) b

  -- A drain ends with a poll that returns a moment, or with what failed; or there were too many outputs, and it is to be called again.
  pub data EndsDrain (now count : ℕ) (p : PolledPeer I D S M N) (a : K) (r : Result ℕ RtcError) (q : PolledPeer I D S M N) (b : K)
      : Type 0 where
    Waits : (moment : ℕ) → r ≡ Ok moment → PollsPeer m p (Ok (Timeout moment)) q → b ≡ a → EndsDrain now count p a r q b
    Fails : (error : RtcError) → r ≡ Err error → FailsToHand p a error q b → EndsDrain now count p a r q b
    HasMore : 2 ^ 64 - 1 ≤ count → r ≡ Ok now → q ≡ p → b ≡ a → EndsDrain now count p a r q b

  -- All outputs of a peer are given to the sink, up to that end.
  pub record DrainsInto (now : ℕ) (p : PolledPeer I D S M N) (a : K) (r : Result ℕ RtcError) (q : PolledPeer I D S M N) (b : K)
      : Type 0 where
    pub outputs : List (Output E)
    pub last : PolledPeer I D S M N
    pub held : K
    pub handed : HandedOver outputs p a last held
    pub ends : EndsDrain now (length outputs) last held r q b

  -- A peer is given the moment, and then drained. If it does not take the moment, the sink is unchanged.
  pub data Drives (now : ℕ) (p : PolledPeer I D S M N) (a : K) (r : Result ℕ RtcError) (q : PolledPeer I D S M N) (b : K) : Type 0 where
    TimeFails : (error : RtcError) → r ≡ Err error → HandlesInput m (given.Timeout now) p (Err error) q → b ≡ a → Drives now p a r q b
    TimeTaken : (between : PolledPeer I D S M N) → HandlesInput m (given.Timeout now) p (Ok tt) between → DrainsInto now between a r q b
        → Drives now p a r q b
