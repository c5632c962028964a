-- What inputs, polls and closes of a step do to the counts of faults of the peer that acts.
use Rattle.std.proofs.Common.{◌≡◌, ℕ, Bool, false, List, [], ◌∷◌, Option, Some, None, Result, Ok, Err, refl, ap}
use Rattle.rtc_wire.specs.DatagramRecv.{kind_by}
use Rattle.rtc_wire.specs.declared.multiplex_kind.MultiplexKind.{MultiplexKind}
use Rattle.rtc_wire.specs.declared.net_error.NetError.{NetError}
use Rattle.rtc_wire.specs.declared.transmit.Transmit.{Transmit}
use Rattle.rtc_peer_core.specs.declared.rtc_error.RtcError.{RtcError}
use Rattle.rtc_peer_core.specs.Meanings.{Meanings, PartsLaws}
use Rattle.rtc_peer_transport.specs.declared.input.Input.TheVariants as given
use Rattle.rtc_peer_transport.specs.declared.output.Output.TheVariants as polled
use Rattle.rtc_peer_transport.specs.declared.polled_peer.PolledPeer.{PolledPeer}
use Rattle.rtc_peer_transport.specs.Closing.{ClosesPeer}
use Rattle.rtc_peer_polling.specs.Inputs.{HandlesInput}
use Rattle.rtc_peer_polling.specs.Walk.{PollsPeer}
use Rattle.rtc_run_history.specs.declared.outcome.Outcome.{Outcome}
use Rattle.rtc_run_history.specs.declared.outcome.Outcome.TheVariants.{Done, Polled, Refused, NoSuch, Alloc}
use Rattle.rtc_run_history.specs.declared.poll_end.PollEnd.{PollEnd}
use Rattle.rtc_run_history.specs.declared.poll_end.PollEnd.TheVariants.{Ended, Refused as EndRefused, NoRoom}
use Rattle.rtc_run_history.specs.declared.sent_packet.SentPacket.{SentPacket}
use Rattle.rtc_run_history.specs.declared.shown.Shown.{Shown}
use Rattle.rtc_run_history.specs.declared.shown.Shown.TheVariants.{Timeout, Packet, Event}
use Rattle.rtc_run_history.specs.declared.side.Side.{Side}
use Rattle.rtc_run_history.specs.declared.table.Table.{Table}
use Rattle.rtc_run_history.specs.Memory.{CountedPart, tells_fault_of, is_end_fault_of}
use Rattle.rtc_run_history.specs.CallReplies.{StepCalls}
use Rattle.rtc_run_history.specs.Performs.{HandlesRead, StepTakesDatagram, PollsShown, PollsOnce, DrainsOn, DrainsPeer, StepPollsPeer}
use Rattle.rtc_run_laws.proofs.GrowingCounts.{answer_tells, Counts, later_of, counts_on, counts_as, still_counts}
use Rattle.rtc_run_laws.proofs.ClosingCounts.{close_counts}
use Rattle.rtc_run_laws.proofs.InputCounts.{input_counts}
use Rattle.rtc_run_laws.proofs.PollCounts.{poll_counts}

module _ {I D S M E X T W N : Type 0} (m : Meanings I D S M E X T W N) (laws : PartsLaws m) where
  -- nothing was done
  pub stays : (p q : PolledPeer I D S M N) (told : CountedPart → Bool) → ((part : CountedPart) → told part ≡ false) → q ≡ p → Counts m p told q
  stays p q told quiet same = still_counts m p p q told quiet same (record { dtls = refl; media = refl; association = refl })

  -- ---- calls

  input_goes : (input : _) (p : PolledPeer I D S M N) (r : Result (Unit {0}) RtcError) (q : PolledPeer I D S M N) → HandlesInput m input p r q
      → Counts m p (answer_tells r) q
  input_goes input p r q h = input_counts m laws input p r q h

  pub close_goes : (p : PolledPeer I D S M N) (r : Result (Unit {0}) RtcError) (q : PolledPeer I D S M N) → ClosesPeer m p r q → Counts m p (answer_tells r) q
  close_goes p r q h = close_counts m laws p r q h

  poll_goes : (p : PolledPeer I D S M N) (answer : _) (q : PolledPeer I D S M N) → PollsPeer m p answer q → Counts m p (answer_tells answer) q
  poll_goes p answer q h = poll_counts m laws p answer q h

  pub calls_go : (call : PolledPeer I D S M N → Result (Unit {0}) RtcError → PolledPeer I D S M N → Type 0)
      → ((p : PolledPeer I D S M N) (r : Result (Unit {0}) RtcError) (q : PolledPeer I D S M N) → call p r q → Counts m p (answer_tells r) q)
      → (old : PolledPeer I D S M N) (outcome : Outcome E) (table : Option Table) (new : PolledPeer I D S M N) → StepCalls m call old outcome table new
      → Counts m old (tells_fault_of outcome) new
  calls_go call goes old Alloc None new h = stays old new (tells_fault_of {E = E} Alloc) (λ part. refl) h
  calls_go call goes old Done (Some table) new h =
      counts_as m old new (answer_tells {A = Unit {0}} (Ok tt)) (tells_fault_of {E = E} Done) (λ part. refl) (goes old (Ok tt) new h.0)
  calls_go call goes old (Refused error) (Some table) new h =
      counts_as m old new (answer_tells {A = Unit {0}} (Err error)) (tells_fault_of {E = E} (Refused error)) (λ part. refl) (goes old (Err error) new h.0)
  calls_go call goes old outcome table new h = absurd h

  -- a moment is given
  pub time_goes : (now : ℕ) (old : PolledPeer I D S M N) (outcome : Outcome E) (table : Option Table) (new : PolledPeer I D S M N)
      → StepCalls m (HandlesInput m (given.Timeout now)) old outcome table new → Counts m old (tells_fault_of outcome) new
  time_goes now old outcome table new h = calls_go (HandlesInput m (given.Timeout now)) (λ p r q call. input_goes (given.Timeout now) p r q call) old outcome table new h

  -- a close is begun
  pub shut_goes : (old : PolledPeer I D S M N) (outcome : Outcome E) (table : Option Table) (new : PolledPeer I D S M N)
      → StepCalls m (ClosesPeer m) old outcome table new → Counts m old (tells_fault_of outcome) new
  shut_goes old outcome table new h = calls_go (ClosesPeer m) (λ p r q call. close_goes p r q call) old outcome table new h

  read_goes : (read : Result MultiplexKind NetError) (transmit : Transmit) (now : ℕ) (p : PolledPeer I D S M N) (r : Result (Unit {0}) RtcError) (q : PolledPeer I D S M N)
      → HandlesRead m read transmit now p r q → Counts m p (answer_tells r) q
  read_goes (Err why) transmit now p r q h =
      stays p q (answer_tells r) (λ part. ap (λ (x : Result (Unit {0}) RtcError). answer_tells x part) h.0) h.1
  read_goes (Ok kind) transmit now p r q h = input_goes (given.Receive now h.0) p r q h.2

  -- a datagram is given
  pub datagram_goes : (stun : List ℕ → Bool) (found : Option Transmit) (now : ℕ) (old : PolledPeer I D S M N) (outcome : Outcome E) (table : Option Table) (new : PolledPeer I D S M N)
      → StepTakesDatagram m stun found now old outcome table new → Counts m old (tells_fault_of outcome) new
  datagram_goes stun None now old Alloc None new h = stays old new (tells_fault_of {E = E} Alloc) (λ part. refl) h
  datagram_goes stun None now old NoSuch (Some table) new h = stays old new (tells_fault_of {E = E} NoSuch) (λ part. refl) h.0
  datagram_goes stun None now old outcome table new h = absurd h
  datagram_goes stun (Some transmit) now old outcome table new h =
      calls_go (HandlesRead m (kind_by stun transmit.contents) transmit now)
      (λ p r q call. read_goes (kind_by stun transmit.contents) transmit now p r q call) old outcome table new h

  -- ---- polls

  shown_goes : (at : Side) (p : PolledPeer I D S M N) (packets : List SentPacket) (shown : Shown E) (q : PolledPeer I D S M N) (packets' : List SentPacket)
      → PollsShown m at p packets shown q packets' → Counts m p (is_end_fault_of Ended) q
  shown_goes at p packets (Timeout moment reason) q packets' h =
      counts_as m p q _ (is_end_fault_of Ended) (λ part. refl) (poll_goes p (Ok (polled.Timeout moment)) q h.0)
  shown_goes at p packets (Packet number len) q packets' h =
      counts_as m p q _ (is_end_fault_of Ended) (λ part. refl) (poll_goes p (Ok (polled.Transmit h.0)) q h.1)
  shown_goes at p packets (Event event) q packets' h =
      counts_as m p q _ (is_end_fault_of Ended) (λ part. refl) (poll_goes p (Ok (polled.Event event)) q h.0)

  refused_goes : (p : PolledPeer I D S M N) (error : RtcError) (q : PolledPeer I D S M N) → PollsPeer m p (Err error) q → Counts m p (is_end_fault_of (EndRefused error)) q
  refused_goes p error q h = counts_as m p q _ (is_end_fault_of (EndRefused error)) (λ part. refl) (poll_goes p (Err error) q h)

  pub once_goes : (at : Side) (p : PolledPeer I D S M N) (packets : List SentPacket) (outputs : List (Shown E)) (end : PollEnd) (q : PolledPeer I D S M N) (packets' : List SentPacket)
      → PollsOnce m at p packets outputs end q packets' → Counts m p (is_end_fault_of end) q
  once_goes at p packets (shown ∷ []) Ended q packets' h = shown_goes at p packets shown q packets' h
  once_goes at p packets [] (EndRefused error) q packets' h = refused_goes p error q h.0
  once_goes at p packets outputs end q packets' h = absurd h

  drains_on : (at : Side) (p : PolledPeer I D S M N) (packets : List SentPacket) (outputs : List (Shown E)) (end : PollEnd) (q : PolledPeer I D S M N) (packets' : List SentPacket)
      → DrainsOn m at p packets outputs end q packets' → Counts m p (is_end_fault_of end) q
  drains_on at p packets [] Ended q packets' h = absurd h
  drains_on at p packets [] (EndRefused error) q packets' h = refused_goes p error q h.0
  drains_on at p packets [] NoRoom q packets' h = stays p q (is_end_fault_of NoRoom) (λ part. refl) h.0
  drains_on at p packets (Timeout moment reason ∷ []) Ended q packets' h = shown_goes at p packets (Timeout moment reason) q packets' h
  drains_on at p packets (Timeout moment reason ∷ outputs) end q packets' h = absurd h
  drains_on at p packets (Packet number len ∷ outputs) end q packets' h =
      counts_on m p h.0 q (is_end_fault_of end) (later_of m p (is_end_fault_of Ended) h.0 (shown_goes at p packets (Packet number len) h.0 h.1 h.2)) (drains_on at h.0 h.1 outputs end q packets' h.3)
  drains_on at p packets (Event event ∷ outputs) end q packets' h =
      counts_on m p h.0 q (is_end_fault_of end) (later_of m p (is_end_fault_of Ended) h.0 (shown_goes at p packets (Event event) h.0 h.1 h.2)) (drains_on at h.0 h.1 outputs end q packets' h.3)

  pub drains_go : (at : Side) (p : PolledPeer I D S M N) (packets : List SentPacket) (outputs : List (Shown E)) (end : PollEnd) (q : PolledPeer I D S M N) (packets' : List SentPacket)
      → DrainsPeer m at p packets outputs end q packets' → Counts m p (is_end_fault_of end) q
  drains_go at p packets [] NoRoom q packets' h = absurd h
  drains_go at p packets [] Ended q packets' h = drains_on at p packets [] Ended q packets' h
  drains_go at p packets [] (EndRefused error) q packets' h = drains_on at p packets [] (EndRefused error) q packets' h
  drains_go at p packets (shown ∷ outputs) end q packets' h = drains_on at p packets (shown ∷ outputs) end q packets' h

  -- polls of a step
  pub polls_go : (polls : List SentPacket → List (Shown E) → PollEnd → PolledPeer I D S M N → List SentPacket → Type 0) (old : PolledPeer I D S M N)
      → ((packets : List SentPacket) (outputs : List (Shown E)) (end : PollEnd) (q : PolledPeer I D S M N) (packets' : List SentPacket) → polls packets outputs end q packets'
      → Counts m old (is_end_fault_of end) q)
      → (packets : List SentPacket) (outcome : Outcome E) (table : Option Table) (new : PolledPeer I D S M N) (packets' : List SentPacket)
      → StepPollsPeer m polls old packets outcome table new packets' → Counts m old (tells_fault_of outcome) new
  polls_go polls old goes packets Alloc None new packets' h = stays old new (tells_fault_of {E = E} Alloc) (λ part. refl) h.0
  polls_go polls old goes packets (Polled outputs end) (Some table) new packets' h =
      counts_as m old new (is_end_fault_of end) (tells_fault_of (Polled outputs end)) (λ part. refl) (goes packets outputs end new packets' h.0)
  polls_go polls old goes packets outcome table new packets' h = absurd h
