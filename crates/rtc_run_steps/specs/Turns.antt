-- One poll of a step: what is shown of its output, or its error.
use Rattle.std.specs.Prelude.{◌≡◌, ◌-◌, ◌^◌, ℕ, Bool, true, false, List, [], ◌∷◌, ◌++◌, length, Err}
use Rattle.rtc_parts.specs.declared.reason.Reason.{Reason}
use Rattle.rtc_peer_core.specs.Meanings.{Meanings}
use Rattle.rtc_peer_transport.specs.declared.output.Output.{Output}
use Rattle.rtc_peer_transport.specs.declared.output.Output.TheVariants as polled
use Rattle.rtc_peer_transport.specs.declared.polled_peer.PolledPeer.{PolledPeer}
use Rattle.rtc_peer_polling.specs.Walk.{PollsPeer}
use Rattle.rtc_run_history.specs.declared.poll_end.PollEnd.{PollEnd}
use Rattle.rtc_run_history.specs.declared.poll_end.PollEnd.TheVariants.{Ended, Refused as EndRefused}
use Rattle.rtc_run_history.specs.declared.sent_packet.SentPacket.{SentPacket}
use Rattle.rtc_run_history.specs.declared.shown.Shown.{Shown}
use Rattle.rtc_run_history.specs.declared.shown.Shown.TheVariants.{Timeout, Packet, Event}
use Rattle.rtc_run_history.specs.declared.side.Side.{Side}
use Rattle.rtc_run_history.specs.Performs.{PollsShown, sent_packet}
use Rattle.rtc_run_steps.specs.declared.turn.Turn.{Turn}
use Rattle.rtc_run_steps.specs.declared.turn.Turn.TheVariants.{More, Over, Refused}

-- an output that ends a drain
abbrev pub is_timeout : {E : Type 0} → Shown E → Bool
is_timeout (Timeout moment reason) = true
is_timeout (Packet number len) = false
is_timeout (Event event) = false

-- what ends a step of one turn
abbrev pub end_of : Turn → PollEnd
end_of More = Ended
end_of Over = Ended
end_of (Refused error) = EndRefused error

-- the moment of a timeout
abbrev pub moment_of : {E : Type 0} → Output E → ℕ
moment_of (polled.Timeout moment) = moment
moment_of (polled.Transmit transmit) = 2 ^ 64 - 1
moment_of (polled.Event event) = 2 ^ 64 - 1

-- an output as it is shown: of a timeout its reason, and of a datagram its number and its length
abbrev pub ShowsOutput : {E : Type 0} → Side → List SentPacket → Reason → Output E → Shown E → List SentPacket → Type 0
ShowsOutput at packets reason (polled.Timeout moment) shown packets' = (shown ≡ Timeout moment reason) × (packets' ≡ packets)
ShowsOutput at packets reason (polled.Transmit transmit) shown packets' =
    (shown ≡ Packet (length packets) (length transmit.contents)) × (packets' ≡ packets ++ sent_packet at transmit ∷ [])
ShowsOutput at packets reason (polled.Event event) shown packets' = (shown ≡ Event event) × (packets' ≡ packets)

module _ {I D S M E X T W N : Type 0} (m : Meanings I D S M E X T W N) where
  -- one poll of a drain: its output is behind those that are shown
  abbrev pub TakesTurn : Side → PolledPeer I D S M N → List SentPacket → List (Shown E) → Turn → PolledPeer I D S M N → List SentPacket
      → List (Shown E) → Type 0
  TakesTurn at p packets outputs More q packets' outputs' =
      (shown : Shown E) × PollsShown m at p packets shown q packets' × (is_timeout shown ≡ false) × (outputs' ≡ outputs ++ shown ∷ [])
  TakesTurn at p packets outputs Over q packets' outputs' =
      (shown : Shown E) × PollsShown m at p packets shown q packets' × (is_timeout shown ≡ true) × (outputs' ≡ outputs ++ shown ∷ [])
  TakesTurn at p packets outputs (Refused error) q packets' outputs' =
      PollsPeer m p (Err error) q × (packets' ≡ packets) × (outputs' ≡ outputs)
