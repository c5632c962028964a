-- Inputs, polls and closes of a step leave what negotiation reads of a peer, but for its channels, and tell the numbers that these get.
use Rattle.std.proofs.Common.{◌≡◌, ◌∙◌, ◌<◌, ℕ, Bool, true, List, [], ◌∷◌, ◌++◌, Option, Some, None, Result, Ok, Err, refl, sym, ap, subst, arith}
use Rattle.std.proofs.lemmas.List.Elements.{All-nil, All-cons}
use Rattle.rtc_wire.specs.DatagramRecv.{kind_by}
use Rattle.rtc_wire.specs.declared.multiplex_kind.MultiplexKind.{MultiplexKind}
use Rattle.rtc_wire.specs.declared.net_error.NetError.{NetError}
use Rattle.rtc_wire.specs.declared.transmit.Transmit.{Transmit}
use Rattle.rtc_channels.specs.Channels.{Channels}
use Rattle.rtc_peer_core.specs.declared.peer.Peer.{Peer}
use Rattle.rtc_peer_core.specs.declared.rtc_error.RtcError.{RtcError}
use Rattle.rtc_peer_core.specs.ChannelRows.{channel_rows}
use Rattle.rtc_peer_core.specs.Meanings.{Meanings, PartsLaws}
use Rattle.rtc_peer_core.specs.Stance.{Stance, stance_of}
use Rattle.rtc_peer_transport.specs.declared.input.Input.{Input}
use Rattle.rtc_peer_transport.specs.declared.input.Input.TheVariants as given
use Rattle.rtc_peer_transport.specs.declared.event.Event.{Event as PeerEvent}
use Rattle.rtc_peer_transport.specs.declared.event.Event.TheVariants as events
use Rattle.rtc_peer_transport.specs.declared.output.Output.{Output}
use Rattle.rtc_peer_transport.specs.declared.output.Output.TheVariants as polled
use Rattle.rtc_peer_transport.specs.declared.polled_peer.PolledPeer.{PolledPeer}
use Rattle.rtc_peer_transport.specs.Closing.{ClosesPeer}
use Rattle.rtc_peer_polling.specs.Inputs.{HandlesInput}
use Rattle.rtc_peer_polling.specs.Walk.{PollsPeer}
use Rattle.rtc_peer_polling.specs.Numbers.{AreUnconfirmed, ChannelNumbers, number_told}
use Rattle.rtc_peer_polling.specs.Kept.{KeepsParts, KeepsStart}
use Rattle.rtc_peer_polling.proofs.StreamStarts.{start_self, start_on}
use Rattle.rtc_peer_polling.proofs.Keeping.{poll_keeps}
use Rattle.rtc_peer_polling.proofs.KeptCalls.{close_keeps}
use Rattle.rtc_peer_polling.proofs.KeptInputs.{input_keeps}
use Rattle.rtc_peer_polling.proofs.Numbering.{close_numbers, input_numbers, poll_numbers}
use Rattle.rtc_peer_polling.proofs.Standing.{poll_stands}
use Rattle.rtc_peer_polling.proofs.StandingCalls.{close_stands}
use Rattle.rtc_peer_polling.proofs.StandingInputs.{input_stands, stance_by}
use Rattle.rtc_run_history.specs.declared.side.Side.{Side}
use Rattle.rtc_run_history.specs.declared.poll_end.PollEnd.{PollEnd}
use Rattle.rtc_run_history.specs.declared.poll_end.PollEnd.TheVariants.{Ended, Refused as EndRefused, NoRoom}
use Rattle.rtc_run_history.specs.declared.sent_packet.SentPacket.{SentPacket}
use Rattle.rtc_run_history.specs.declared.shown.Shown.{Shown}
use Rattle.rtc_run_history.specs.declared.shown.Shown.TheVariants.{Timeout, Packet, Event}
use Rattle.rtc_run_history.specs.declared.outcome.Outcome.{Outcome}
use Rattle.rtc_run_history.specs.declared.outcome.Outcome.TheVariants.{Negotiated, Answered, Finished, Done, Wrote, Polled, Refused, NoSuch, Alloc}
use Rattle.rtc_run_history.specs.declared.table.Table.{Table}
use Rattle.rtc_run_history.specs.declared.kept.Kept.{Kept}
use Rattle.rtc_run_history.specs.CallReplies.{Shows, StepCalls}
use Rattle.rtc_run_history.specs.Performs.{HandlesRead, StepTakesDatagram, PollsShown, PollsOnce, DrainsOn, DrainsPeer, StepPollsPeer}
use Rattle.rtc_run_history.specs.Past.{number_opened, numbers_opened, numbers_in}
use Rattle.rtc_run_history.specs.Sound.{is_handled, is_heard, is_polled}
use Rattle.rtc_run_laws.proofs.NumberedChannels.{AreNumbered, same_numbers, numbered_on}
use Rattle.rtc_run_laws.proofs.StanceSteps.{StanceShows, RestTold, StanceRests}

handled_heard : {E : Type 0} → (outcome : Outcome E) → is_handled outcome ≡ true → is_heard outcome ≡ true
handled_heard (Negotiated answers made) is = is
handled_heard (Answered k) is = is
handled_heard Finished is = is
handled_heard Done is = refl
handled_heard (Wrote taken) is = is
handled_heard (Polled outputs end) is = is
handled_heard (Refused error) is = refl
handled_heard NoSuch is = refl
handled_heard Alloc is = is

told_heard : {E : Type 0} → (old : Stance) (outcome : Outcome E) (table : Option Table) (new : Stance) → RestTold is_handled old outcome table new → RestTold is_heard old outcome table new
told_heard old outcome None new told = told
told_heard old outcome (Some table) new told = (handled_heard outcome told.0, told.1)

-- ---- numbers

-- a number that may be told, as a list
abbrev numbers_of : Option ℕ → List ℕ
numbers_of None = []
numbers_of (Some id) = id ∷ []

numbered_by : (told : Option ℕ) (held held' : Channels) → ChannelNumbers told held held' → AreNumbered (numbers_of told) held held'
numbered_by None held held' numbers = record {
  rises = numbers.rises;
  few = omega (arith, numbers.unless_told refl);
  below = numbers.below;
  rising = numbers.rising;
  told = λ below. All-nil (λ number. number < held'.given);
}
numbered_by (Some id) held held' numbers = record {
  rises = numbers.rises;
  few = numbers.one_more;
  below = numbers.below;
  rising = numbers.rising;
  told = λ below. All-cons (λ number. number < held'.given) id [] (numbers.told_below below id refl) (All-nil (λ number. number < held'.given));
}

-- no channel is confirmed
abbrev pub ConfirmsNone : Channels → Channels → Type 0
ConfirmsNone held held' = (id : ℕ) → AreUnconfirmed id held.rows → AreUnconfirmed id held'.rows

-- what is shown of an event tells the same number
opened_is : {E : Type 0} → (event : PeerEvent E) → number_opened (Event event) ≡ numbers_of (number_told (Ok (polled.Event event)))
opened_is events.Connected = refl
opened_is (events.IceConnectionStateChange state) = refl
opened_is (events.ChannelOpen id label) = refl
opened_is (events.ChannelData bytes) = refl
opened_is (events.ChannelClose id) = refl
opened_is (events.ChannelBufferedAmountLow id) = refl
opened_is (events.PeerStats stats) = refl
opened_is (events.MediaIngressStats stats) = refl
opened_is (events.MediaEgressStats stats) = refl
opened_is (events.Media event) = refl
opened_is events.Closed = refl

module _ {I D S M E X T W N : Type 0} (m : Meanings I D S M E X T W N) (laws : PartsLaws m) where
  pub shows_stands : (table : Table) (p : Peer I D S M N) → Shows m table p → StanceShows table (stance_of m p)
  shows_stands table p shows = record { lines = shows.lines; channels = shows.channels }

  -- the stance stays but for the channels, which get numbers that are told, and of which none is confirmed, and the association stays started
  -- or unstarted
  pub record Moves (numbers : List ℕ) (p q : PolledPeer I D S M N) : Type 0 where
    pub peer : stance_of m q.core ≡ record (stance_of m p.core) { channels = q.core.channels; rows = channel_rows m.association q.core.sctp q.core.channels }
    pub numbered : AreNumbered numbers p.core.channels q.core.channels
    pub unconfirmed : ConfirmsNone p.core.channels q.core.channels
    pub start : KeepsStart m.association p.core.sctp q.core.sctp

  pub moves_none : (p q : PolledPeer I D S M N) → q ≡ p → Moves [] p q
  moves_none p q same = rw same (record { peer = refl; numbered = same_numbers p.core.channels p.core.channels refl; unconfirmed = λ id none. none; start = start_self m.association p.core.sctp })

  moves_on : (numbers more : List ℕ) (p between q : PolledPeer I D S M N) → Moves numbers p between → Moves more between q → Moves (numbers ++ more) p q
  moves_on numbers more p between q first rest = record {
    peer = rest.peer ∙ ap (λ (s : Stance). record s { channels = q.core.channels; rows = channel_rows m.association q.core.sctp q.core.channels }) first.peer;
    numbered = numbered_on numbers more p.core.channels between.core.channels q.core.channels first.numbered rest.numbered;
    unconfirmed = λ id none. rest.unconfirmed id (first.unconfirmed id none);
    start = start_on m.association p.core.sctp between.core.sctp q.core.sctp first.start rest.start;
  }

  poll_moves : (p : PolledPeer I D S M N) (answer : Result (Output E) RtcError) (q : PolledPeer I D S M N) → PollsPeer m p answer q → Moves (numbers_of (number_told answer)) p q
  poll_moves p answer q h =
      let parts : KeepsParts m p q = poll_stands m laws.ice laws.media laws.association p answer q h in
      record {
        peer = stance_by m p q (poll_keeps m p answer q h) parts;
        numbered = numbered_by (number_told answer) p.core.channels q.core.channels (poll_numbers m p answer q h);
        unconfirmed = (poll_numbers m p answer q h).unconfirmed;
        start = parts.5;
      }

  pub input_moves : (input : Input) (p : PolledPeer I D S M N) (r : Result (Unit {0}) RtcError) (q : PolledPeer I D S M N) → HandlesInput m input p r q → Moves [] p q
  input_moves input p r q h =
      let parts : KeepsParts m p q = input_stands m laws.ice laws.media laws.association input p r q h in
      record {
        peer = stance_by m p q (input_keeps m input p r q h) parts;
        numbered = numbered_by None p.core.channels q.core.channels (input_numbers m input p r q h);
        unconfirmed = (input_numbers m input p r q h).unconfirmed;
        start = parts.5;
      }

  pub close_moves : (p : PolledPeer I D S M N) (r : Result (Unit {0}) RtcError) (q : PolledPeer I D S M N) → ClosesPeer m p r q → Moves [] p q
  close_moves p r q h =
      let parts : KeepsParts m p q = close_stands m laws.media laws.association p r q h in
      record {
        peer = stance_by m p q (close_keeps m p r q h) parts;
        numbered = numbered_by None p.core.channels q.core.channels (close_numbers m p r q h);
        unconfirmed = (close_numbers m p r q h).unconfirmed;
        start = parts.5;
      }

  pub rests_by : (may : Outcome E → Bool) (outcome : Outcome E) (table : Option Table) (old new : PolledPeer I D S M N) (sdps sdps' : List Kept) → Moves (numbers_in outcome) old new → sdps' ≡ sdps
      → RestTold may (stance_of m old.core) outcome table (stance_of m new.core) → StanceRests may (stance_of m old.core) sdps outcome table (stance_of m new.core) sdps'
  rests_by may outcome table old new sdps sdps' moves kept told = record { peer = moves.peer; sdps_kept = kept; numbered = moves.numbered; unconfirmed = moves.unconfirmed; told = told }

  pub same_stance : (old new : PolledPeer I D S M N) → new ≡ old → stance_of m new.core ≡ stance_of m old.core
  same_stance old new same = ap (λ (p : PolledPeer I D S M N). stance_of m p.core) same

  -- an input or a close
  pub calls_rest : (call : PolledPeer I D S M N → Result (Unit {0}) RtcError → PolledPeer I D S M N → Type 0)
      → ((p : PolledPeer I D S M N) (r : Result (Unit {0}) RtcError) (q : PolledPeer I D S M N) → call p r q → Moves [] p q)
      → (old : PolledPeer I D S M N) (outcome : Outcome E) (table : Option Table) (new : PolledPeer I D S M N) (sdps sdps' : List Kept)
      → StepCalls m call old outcome table new → sdps' ≡ sdps → StanceRests is_handled (stance_of m old.core) sdps outcome table (stance_of m new.core) sdps'
  calls_rest call moves old Alloc None new sdps sdps' h kept = rests_by is_handled Alloc None old new sdps sdps' (moves_none old new h) kept (refl, same_stance old new h)
  calls_rest call moves old Done (Some table) new sdps sdps' h kept =
      rests_by is_handled Done (Some table) old new sdps sdps' (moves old (Ok tt) new h.0) kept (refl, shows_stands table new.core h.1)
  calls_rest call moves old (Refused error) (Some table) new sdps sdps' h kept =
      rests_by is_handled (Refused error) (Some table) old new sdps sdps' (moves old (Err error) new h.0) kept (refl, shows_stands table new.core h.1)
  calls_rest call moves old outcome table new sdps sdps' h kept = absurd h

  pub read_moves : (kind : Result MultiplexKind NetError) (transmit : Transmit) (now : ℕ) (p : PolledPeer I D S M N) (r : Result (Unit {0}) RtcError) (q : PolledPeer I D S M N)
      → HandlesRead m kind transmit now p r q → Moves [] p q
  read_moves (Err why) transmit now p r q h = moves_none p q h.1
  read_moves (Ok kind) transmit now p r q h = input_moves (given.Receive now h.0) p r q h.2

  -- a datagram
  pub hears_rest : (stun : List ℕ → Bool) (found : Option Transmit) (now : ℕ) (old : PolledPeer I D S M N) (outcome : Outcome E) (table : Option Table) (new : PolledPeer I D S M N)
      (sdps sdps' : List Kept) → StepTakesDatagram m stun found now old outcome table new → sdps' ≡ sdps
      → StanceRests is_heard (stance_of m old.core) sdps outcome table (stance_of m new.core) sdps'
  hears_rest stun None now old Alloc None new sdps sdps' h kept = rests_by is_heard Alloc None old new sdps sdps' (moves_none old new h) kept (refl, same_stance old new h)
  hears_rest stun None now old NoSuch (Some table) new sdps sdps' h kept =
      rests_by is_heard NoSuch (Some table) old new sdps sdps' (moves_none old new h.0) kept
      (refl, subst (λ (s : Stance). StanceShows table s) (sym (same_stance old new h.0)) (shows_stands table old.core h.1))
  hears_rest stun None now old outcome table new sdps sdps' h kept = absurd h
  hears_rest stun (Some transmit) now old outcome table new sdps sdps' h kept =
      let does : StanceRests is_handled (stance_of m old.core) sdps outcome table (stance_of m new.core) sdps' =
      calls_rest (HandlesRead m (kind_by stun transmit.contents) transmit now) (read_moves (kind_by stun transmit.contents) transmit now) old outcome table new sdps sdps' h kept in
      record { peer = does.peer; sdps_kept = does.sdps_kept; numbered = does.numbered; unconfirmed = does.unconfirmed; told = told_heard (stance_of m old.core) outcome table (stance_of m new.core) does.told }

  -- ---- polls

  shown_moves : (at : Side) (p : PolledPeer I D S M N) (packets : List SentPacket) (shown : Shown E) (q : PolledPeer I D S M N) (packets' : List SentPacket)
      → PollsShown m at p packets shown q packets' → Moves (number_opened shown) p q
  shown_moves at p packets (Timeout moment reason) q packets' h = poll_moves p _ q h.0
  shown_moves at p packets (Packet number len) q packets' h = poll_moves p _ q h.1
  shown_moves at p packets (Event event) q packets' h = subst (λ (numbers : List ℕ). Moves numbers p q) (sym (opened_is event)) (poll_moves p _ q h.0)

  pub once_moves : (at : Side) (p : PolledPeer I D S M N) (packets : List SentPacket) (outputs : List (Shown E)) (end : PollEnd) (q : PolledPeer I D S M N) (packets' : List SentPacket)
      → PollsOnce m at p packets outputs end q packets' → Moves (numbers_opened outputs) p q
  once_moves at p packets (shown ∷ []) Ended q packets' h = moves_on (number_opened shown) [] p q q (shown_moves at p packets shown q packets' h) (moves_none q q refl)
  once_moves at p packets [] (EndRefused error) q packets' h = poll_moves p (Err error) q h.0
  once_moves at p packets outputs end q packets' h = absurd h

  drains_on_moves : (at : Side) (p : PolledPeer I D S M N) (packets : List SentPacket) (outputs : List (Shown E)) (end : PollEnd) (q : PolledPeer I D S M N) (packets' : List SentPacket)
      → DrainsOn m at p packets outputs end q packets' → Moves (numbers_opened outputs) p q
  drains_on_moves at p packets [] Ended q packets' h = absurd h
  drains_on_moves at p packets [] (EndRefused error) q packets' h = poll_moves p (Err error) q h.0
  drains_on_moves at p packets [] NoRoom q packets' h = moves_none p q h.0
  drains_on_moves at p packets (Timeout moment reason ∷ []) Ended q packets' h = shown_moves at p packets (Timeout moment reason) q packets' h
  drains_on_moves at p packets (Timeout moment reason ∷ outputs) end q packets' h = absurd h
  drains_on_moves at p packets (Packet number len ∷ outputs) end q packets' h =
      moves_on [] (numbers_opened outputs) p h.0 q (shown_moves at p packets (Packet number len) h.0 h.1 h.2) (drains_on_moves at h.0 h.1 outputs end q packets' h.3)
  drains_on_moves at p packets (Event event ∷ outputs) end q packets' h =
      moves_on (number_opened (Event event)) (numbers_opened outputs) p h.0 q (shown_moves at p packets (Event event) h.0 h.1 h.2) (drains_on_moves at h.0 h.1 outputs end q packets' h.3)

  pub drains_moves : (at : Side) (p : PolledPeer I D S M N) (packets : List SentPacket) (outputs : List (Shown E)) (end : PollEnd) (q : PolledPeer I D S M N) (packets' : List SentPacket)
      → DrainsPeer m at p packets outputs end q packets' → Moves (numbers_opened outputs) p q
  drains_moves at p packets [] NoRoom q packets' h = absurd h
  drains_moves at p packets [] Ended q packets' h = drains_on_moves at p packets [] Ended q packets' h
  drains_moves at p packets [] (EndRefused error) q packets' h = drains_on_moves at p packets [] (EndRefused error) q packets' h
  drains_moves at p packets (shown ∷ outputs) end q packets' h = drains_on_moves at p packets (shown ∷ outputs) end q packets' h

  -- polls
  pub polls_rest : (polls : List SentPacket → List (Shown E) → PollEnd → PolledPeer I D S M N → List SentPacket → Type 0) (old : PolledPeer I D S M N)
      → ((packets : List SentPacket) (outputs : List (Shown E)) (end : PollEnd) (q : PolledPeer I D S M N) (packets' : List SentPacket) → polls packets outputs end q packets' → Moves (numbers_opened outputs) old q)
      → (packets : List SentPacket) (outcome : Outcome E) (table : Option Table) (new : PolledPeer I D S M N) (packets' : List SentPacket) (sdps sdps' : List Kept)
      → StepPollsPeer m polls old packets outcome table new packets' → sdps' ≡ sdps → StanceRests is_polled (stance_of m old.core) sdps outcome table (stance_of m new.core) sdps'
  polls_rest polls old moves packets Alloc None new packets' sdps sdps' h kept = rests_by is_polled Alloc None old new sdps sdps' (moves_none old new h.0) kept (refl, same_stance old new h.0)
  polls_rest polls old moves packets (Polled outputs end) (Some table) new packets' sdps sdps' h kept =
      rests_by is_polled (Polled outputs end) (Some table) old new sdps sdps' (moves packets outputs end new packets' h.0) kept (refl, shows_stands table new.core h.1)
  polls_rest polls old moves packets outcome table new packets' sdps sdps' h kept = absurd h
