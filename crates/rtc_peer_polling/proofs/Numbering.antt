-- A poll gives a channel a number where it tells that it is open, and nowhere else; an input and closing give none.
use Rattle.std.proofs.Common.{◌≡◌, ◌∙◌, ℕ, Bool, true, false, Option, Result, Ok, refl, sym, ap, subst}
use Rattle.rtc_channels.specs.Channels.{Channels}
use Rattle.rtc_peer_core.specs.declared.phase.Phase.{Phase}
use Rattle.rtc_peer_core.specs.declared.phase.Phase.TheVariants.{Alive, Closing, Closed}
use Rattle.rtc_peer_core.specs.declared.rtc_error.RtcError.{RtcError}
use Rattle.rtc_peer_core.specs.Meanings.{Meanings}
use Rattle.rtc_peer_transport.specs.declared.event.Event.{Event}
use Rattle.rtc_peer_transport.specs.declared.event.Event.TheVariants as told
use Rattle.rtc_peer_transport.specs.declared.met.Met.{Met}
use Rattle.rtc_peer_transport.specs.declared.met.Met.TheVariants.{Nothing, Again, Transmit, Event as MetEvent, Error}
use Rattle.rtc_peer_transport.specs.declared.output.Output.{Output}
use Rattle.rtc_peer_transport.specs.declared.output.Output.TheVariants as answers
use Rattle.rtc_peer_transport.specs.declared.polled_peer.PolledPeer.{PolledPeer}
use Rattle.rtc_peer_transport.specs.Closing.{is_closing_complete}
use Rattle.rtc_peer_polling.specs.Numbers.{ChannelNumbers, number_told}
use Rattle.rtc_peer_polling.specs.Walk.{VisitsParts, WaitsIf, AnswersMet, Walks, PollsPeerFrom, PollsPeer}
use Rattle.rtc_peer_polling.proofs.NumberedChannels.{NumbersWhen, numbers_of}
use Rattle.rtc_peer_polling.proofs.NumberedCalls.{number_met, PeerNumbers, stays_by, repeats_numbered}
use Rattle.rtc_peer_polling.proofs.NumberedStages.{visits_numbered}
pub use Rattle.rtc_peer_polling.proofs.NumberedCalls.{close_numbers, input_numbers}

-- an event that is met is told
event_told : {E : Type 0} (event : Event E) → number_told (Ok (answers.Event event)) ≡ number_met (MetEvent event)
event_told (told.ChannelOpen id label) = refl
event_told _ = refl

-- what a call of a peer does that answered this
abbrev AnswerNumbers : {I D S M E N : Type 0} → Result (Output E) RtcError → PolledPeer I D S M N → PolledPeer I D S M N → Type 0
AnswerNumbers answer p q = NumbersWhen (number_told answer) p.core.channels q.core.channels

module _ {I D S M E X T W N : Type 0} (m : Meanings I D S M E X T W N) where
  -- this is answered, with the number that was met, and the channels are those of another peer
  answered_by : (answer told : Result (Output E) RtcError) (r : Met E) (p visited q : PolledPeer I D S M N) → answer ≡ told
      → number_told told ≡ number_met r → q.core.channels ≡ visited.core.channels → PeerNumbers r p visited → AnswerNumbers answer p q
  answered_by answer told r p visited q is same kept numbers =
      subst (λ (x : Channels). NumbersWhen (number_told answer) p.core.channels x) (sym kept)
      (subst (λ (n : Option ℕ). NumbersWhen n p.core.channels visited.core.channels)
      (sym (ap (λ (x : Result (Output E) RtcError). number_told x) is ∙ same)) numbers)

  waits_numbered : (complete : Bool) (p visited : PolledPeer I D S M N) (answer : Result (Output E) RtcError) (q : PolledPeer I D S M N)
      → PeerNumbers {E = E} Nothing p visited → WaitsIf m complete visited answer q → AnswerNumbers answer p q
  waits_numbered true p visited answer q numbers h =
      answered_by answer _ Nothing p visited q h.0 refl (ap (λ (x : PolledPeer I D S M N). x.core.channels) h.1) numbers
  waits_numbered false p visited answer q numbers h =
      answered_by answer _ Nothing p visited q h.0 refl (ap (λ (x : PolledPeer I D S M N). x.core.channels) h.1) numbers

  met_numbered : (met : Met E) (p visited : PolledPeer I D S M N) (answer : Result (Output E) RtcError) (q : PolledPeer I D S M N)
      → PeerNumbers met p visited → AnswersMet m met visited answer q → AnswerNumbers answer p q
  met_numbered Nothing p visited answer q numbers h = waits_numbered (is_closing_complete m visited) p visited answer q numbers h
  met_numbered Again p visited answer q numbers h = absurd h
  met_numbered (Transmit transmit) p visited answer q numbers h =
      answered_by answer _ (Transmit transmit) p visited q h.0 refl (ap (λ (x : PolledPeer I D S M N). x.core.channels) h.1) numbers
  met_numbered (MetEvent event) p visited answer q numbers h =
      answered_by answer _ (MetEvent event) p visited q h.0 (event_told event) (ap (λ (x : PolledPeer I D S M N). x.core.channels) h.1) numbers
  met_numbered (Error error) p visited answer q numbers h =
      answered_by answer _ (Error error) p visited q h.0 refl (ap (λ (x : PolledPeer I D S M N). x.core.channels) h.1) numbers

  walks_numbered : (p : PolledPeer I D S M N) (answer : Result (Output E) RtcError) (q : PolledPeer I D S M N) → Walks m p answer q
      → AnswerNumbers answer p q
  walks_numbered p answer q h =
      met_numbered h.met p h.visited answer q (repeats_numbered (VisitsParts m) (visits_numbered m) p h.met h.visited h.by_visits) h.by_answer

  polls_from_numbered : (phase : Phase) (p : PolledPeer I D S M N) (answer : Result (Output E) RtcError) (q : PolledPeer I D S M N)
      → PollsPeerFrom m phase p answer q → AnswerNumbers answer p q
  polls_from_numbered Alive p answer q h = walks_numbered p answer q h
  polls_from_numbered Closing p answer q h = walks_numbered p answer q h
  polls_from_numbered Closed p answer q h =
      subst (λ (x : Result (Output E) RtcError). AnswerNumbers x p q) (sym h.0) (stays_by p _ q h.1 refl)

  -- a poll gives one number at most, and tells it
  pub poll_numbers : (p : PolledPeer I D S M N) (answer : Result (Output E) RtcError) (q : PolledPeer I D S M N) → PollsPeer m p answer q
      → ChannelNumbers (number_told answer) p.core.channels q.core.channels
  poll_numbers p answer q h =
      numbers_of (number_told answer) p.core.channels q.core.channels (polls_from_numbered p.core.phase p answer q h)
