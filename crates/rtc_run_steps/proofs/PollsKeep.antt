-- Polls, inputs and closes leave the lines of a peer. A poll adds one channel at most, the others none.
use Rattle.std.proofs.Common.{◌≡◌, ◌≤◌, ◌+◌, length, Result, refl, ap}
use Rattle.rtc_peer_core.specs.declared.rtc_error.RtcError.{RtcError}
use Rattle.rtc_peer_core.specs.Meanings.{Meanings}
use Rattle.rtc_peer_transport.specs.declared.input.Input.{Input}
use Rattle.rtc_peer_transport.specs.declared.output.Output.{Output}
use Rattle.rtc_peer_transport.specs.declared.polled_peer.PolledPeer.{PolledPeer}
use Rattle.rtc_peer_transport.specs.Closing.{ClosesPeer}
use Rattle.rtc_peer_polling.specs.Inputs.{HandlesInput}
use Rattle.rtc_peer_polling.specs.Walk.{PollsPeer}
use Rattle.rtc_peer_polling.proofs.Keeping.{poll_keeps}
use Rattle.rtc_peer_polling.proofs.KeptCalls.{close_keeps}
use Rattle.rtc_peer_polling.proofs.KeptInputs.{input_keeps}
use Rattle.rtc_peer_polling.proofs.Numbering.{close_numbers, input_numbers, poll_numbers}

module _ {I D S M E X T W N : Type 0} (m : Meanings I D S M E X T W N) where
  pub lines_after_poll : (p : PolledPeer I D S M N) (answer : Result (Output E) RtcError) (q : PolledPeer I D S M N) → PollsPeer m p answer q
      → q.core.lines ≡ p.core.lines
  lines_after_poll p answer q h = ap (λ core. core.lines) (poll_keeps m p answer q h)

  pub channels_after_poll : (p : PolledPeer I D S M N) (answer : Result (Output E) RtcError) (q : PolledPeer I D S M N)
      → PollsPeer m p answer q → length q.core.channels.rows ≤ length p.core.channels.rows + 1
  channels_after_poll p answer q h = (poll_numbers m p answer q h).few_rows

  pub lines_after_input : (input : Input) (p : PolledPeer I D S M N) (r : Result (Unit {0}) RtcError) (q : PolledPeer I D S M N)
      → HandlesInput m input p r q → q.core.lines ≡ p.core.lines
  lines_after_input input p r q h = ap (λ core. core.lines) (input_keeps m input p r q h)

  pub channels_after_input : (input : Input) (p : PolledPeer I D S M N) (r : Result (Unit {0}) RtcError) (q : PolledPeer I D S M N)
      → HandlesInput m input p r q → length q.core.channels.rows ≤ length p.core.channels.rows
  channels_after_input input p r q h = (input_numbers m input p r q h).no_new_row refl

  pub lines_after_close : (p : PolledPeer I D S M N) (r : Result (Unit {0}) RtcError) (q : PolledPeer I D S M N) → ClosesPeer m p r q
      → q.core.lines ≡ p.core.lines
  lines_after_close p r q h = ap (λ core. core.lines) (close_keeps m p r q h)

  pub channels_after_close : (p : PolledPeer I D S M N) (r : Result (Unit {0}) RtcError) (q : PolledPeer I D S M N) → ClosesPeer m p r q
      → length q.core.channels.rows ≤ length p.core.channels.rows
  channels_after_close p r q h = (close_numbers m p r q h).no_new_row refl
