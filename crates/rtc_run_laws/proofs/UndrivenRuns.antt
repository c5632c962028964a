-- Steps leave both peers undriven, and a drain shows at most as many outputs as its peer weighs before it.
use Rattle.std.proofs.Common.{◌≡◌, ◌∷◌, ◌++◌, inl, inr, true, false, ℕ, ◌+◌, ◌≤◌, Bool, List, [], length, Option, Some, None, Ok, refl, sym, subst, arith}
use Rattle.rtc_wire.specs.declared.addr.Addr.{Addr}
use Rattle.rtc_wire.specs.DatagramRecv.{kind_by}
use Rattle.rtc_peer_core.specs.Meanings.{Meanings, PartsLaws}
use Rattle.rtc_peer_transport.specs.declared.input.Input.TheVariants as given
use Rattle.rtc_peer_transport.specs.declared.output.Output.TheVariants as polled
use Rattle.rtc_peer_transport.specs.declared.polled_peer.PolledPeer.{PolledPeer}
use Rattle.rtc_peer_transport.specs.ChannelCalls.{open_stream_under}
use Rattle.rtc_peer_transport.specs.Closing.{ClosesPeer}
use Rattle.rtc_peer_polling.specs.Inputs.{HandlesInput}
use Rattle.rtc_peer_laws.specs.Weight.{HasNoThreshold, IsTimely, load, weight}
use Rattle.rtc_peer_laws.proofs.Drains.{closed_none, load_within, output_falls, poll_unset}
use Rattle.rtc_peer_laws.proofs.ToldHandshakes.{polls_told}
use Rattle.rtc_peer_laws.proofs.ToldCalls.{channel_closes_told, closes_told, inputs_told, left_told, writes_told}
use Rattle.rtc_peer_core.specs.declared.phase.Phase.TheVariants.{Closed}
use Rattle.rtc_peer_laws.proofs.SetsNone.{channel_closes_set_none, closes_set_none, inputs_set_none, writes_set_none}
use Rattle.rtc_run_history.specs.declared.kept.Kept.{Kept}
use Rattle.rtc_run_history.specs.declared.outcome.Outcome.{Outcome}
use Rattle.rtc_run_history.specs.declared.outcome.Outcome.TheVariants as came
use Rattle.rtc_run_history.specs.declared.poll_end.PollEnd.{PollEnd}
use Rattle.rtc_run_history.specs.declared.sent_packet.SentPacket.{SentPacket}
use Rattle.rtc_run_history.specs.declared.shown.Shown.{Shown}
use Rattle.rtc_run_history.specs.declared.shown.Shown.TheVariants.{Timeout, Packet, Event}
use Rattle.rtc_run_history.specs.declared.side.Side.{Side}
use Rattle.rtc_run_history.specs.declared.side.Side.TheVariants.{Left, Right}
use Rattle.rtc_run_history.specs.declared.step.Step.{Step}
use Rattle.rtc_run_history.specs.declared.step.Step.TheVariants.{Negotiate, AcceptOffer, AcceptAnswer, Time, Datagram, Poll, Drain}
use Rattle.rtc_run_history.specs.declared.step.Step.TheVariants.{Write, CloseChannel, Close, Rollback, ForeignOffer, ForeignAnswer, Raw}
use Rattle.rtc_run_history.specs.declared.table.Table.{Table}
use Rattle.rtc_run_history.specs.PairState.{PairState, addr_at, held_token, kept_remote_sdp, remote_packet, rtc_at}
use Rattle.rtc_run_history.specs.Past.{Entry, steps_of}
use Rattle.rtc_run_history.specs.Performs.{Acts, DrainsOn, DrainsPeer, Enters, HandlesRead, StepPollsPeer, raw_datagram}
use Rattle.rtc_run_history.specs.Runs.{EntersSoundly, Reached, Went}
use Rattle.rtc_run_history.specs.Sides.{other_side, side_of}
use Rattle.rtc_run_history.specs.Signalled.{foreign}
use Rattle.rtc_run_laws.specs.Drains.{AreUndriven, HasMoment, HaveMoments, IsUndriven, ShowsWithin}
use Rattle.rtc_run_laws.proofs.StepWalks.{CallsKeep, calls_keep, close_keep, datagram_keep, drain_keep, poll_keep, read_keep, write_keep}
use Rattle.rtc_run_laws.proofs.UndrivenNegotiation.{KeepsCore, answer_keeps, negotiates_keep, offer_keeps, rollback_keeps}

-- the last step and those before it
moments_split : (steps : List Step) (step : Step) → HaveMoments (steps ++ step ∷ []) → HaveMoments steps × HasMoment step
moments_split [] step h = (tt, h.0)
moments_split (x ∷ steps) step h = let rest = moments_split steps step h.1 in ((h.0, rest.0), rest.1)

module _ {I D S M E X T W N : Type 0} (m : Meanings I D S M E X T W N) (laws : PartsLaws m) where
  abbrev Keeps : PolledPeer I D S M N → PolledPeer I D S M N → Type 0
  Keeps p q = IsUndriven m p → IsUndriven m q

  -- calls beside those of negotiation
  calls_undriven : CallsKeep m IsTimely Keeps
  calls_undriven = record {
    beside = record {
      none = λ p q is k. subst (λ (x : PolledPeer I D S M N). IsUndriven m x) (sym is) k;
      inputs = λ input is p r q h k. (inputs_set_none m laws p q input r is k.0 h, inputs_told m p q input r k.1 h);
      writes = λ stream binary bytes p r q h k. (
        writes_set_none m laws p q stream binary bytes r k.0 h,
        writes_told m p q stream binary bytes r k.1 h,
      );
      shuts = λ id p r q h k. (channel_closes_set_none m laws p q id r k.0 h, channel_closes_told m p q id r k.1 h);
    };
    on = λ p b q h k x. k (h x);
    polls = λ p answer q h k. (poll_unset m laws p q answer k.0 h, polls_told m p q answer k.1 h);
  }

  -- what leaves the connection, with what it keeps of the rest
  left : (old new : PolledPeer I D S M N) → new.transport ≡ old.transport → KeepsCore m laws old.core new.core → Keeps old new
  left old new same kept k = (kept.0 k.0, left_told m old new same kept.1 k.1)

  -- ---- each step, an arm each

  acts_keep : (stun : List ℕ → Bool) (other own : Addr) (step : Step) (old : PolledPeer I D S M N) (sdps : List Kept) (packets : List SentPacket)
      (outcome : Outcome E) (table : Option Table) (new : PolledPeer I D S M N) (sdps' : List Kept) (packets' : List SentPacket) → HasMoment step
      → Acts m stun other own step old sdps packets outcome table new sdps' packets' → Keeps old new
  acts_keep stun other own (Negotiate at ops apply) old sdps packets outcome table new sdps' packets' is h =
      left old new h.1.connection (negotiates_keep m laws at ops apply old.core sdps outcome table new.core sdps' h.0)
  acts_keep stun other own (AcceptOffer at offer) old sdps packets outcome table new sdps' packets' is h =
      left old new h.1.connection (offer_keeps m laws at (kept_remote_sdp true sdps at offer) old.core sdps outcome table new.core sdps' h.0)
  acts_keep stun other own (AcceptAnswer at token answer) old sdps packets outcome table new sdps' packets' is h =
      left old new h.1.connection (answer_keeps m laws token (held_token sdps at token) (kept_remote_sdp false sdps at answer) old.core sdps outcome table new.core sdps' h.0)
  acts_keep stun other own (Time at now) old sdps packets outcome table new sdps' packets' is h =
      calls_keep m Keeps calls_undriven.beside (HandlesInput m (given.Timeout now))
      (λ p r q x. calls_undriven.beside.inputs (given.Timeout now) is p r q x) old outcome table new h.0
  acts_keep stun other own (Datagram at packet now) old sdps packets outcome table new sdps' packets' is h =
      datagram_keep m Keeps calls_undriven.beside stun (remote_packet packets at packet) now (λ datagram. is) old outcome table new h.0
  acts_keep stun other own (Poll at) old sdps packets outcome table new sdps' packets' is h =
      poll_keep m Keeps calls_undriven at old packets outcome table new packets' h.0
  acts_keep stun other own (Drain at) old sdps packets outcome table new sdps' packets' is h =
      drain_keep m Keeps calls_undriven at old packets outcome table new packets' h.0
  acts_keep stun other own (Write at channel binary bytes) old sdps packets outcome table new sdps' packets' is h =
      write_keep m Keeps calls_undriven.beside (open_stream_under channel old) binary bytes old outcome table new h.0
  acts_keep stun other own (CloseChannel at channel) old sdps packets outcome table new sdps' packets' is h =
      close_keep m Keeps calls_undriven.beside (open_stream_under channel old) channel old outcome table new h.0
  acts_keep stun other own (Close at) old sdps packets outcome table new sdps' packets' is h =
      calls_keep m Keeps calls_undriven.beside (ClosesPeer m) (λ p r q x k. (closes_set_none m laws p q r k.0 x, closes_told m p q r k.1 x)) old outcome table new h.0
  acts_keep stun other own (Rollback at token) old sdps packets outcome table new sdps' packets' is h =
      left old new h.1.connection (rollback_keeps m laws token (held_token sdps at token) old.core sdps outcome table new.core sdps' h.0)
  acts_keep stun other own (ForeignOffer at text) old sdps packets outcome table new sdps' packets' is h =
      left old new h.1.connection (offer_keeps m laws at (foreign text) old.core sdps outcome table new.core sdps' h.0)
  acts_keep stun other own (ForeignAnswer at token text) old sdps packets outcome table new sdps' packets' is h =
      left old new h.1.connection (answer_keeps m laws token (held_token sdps at token) (foreign text) old.core sdps outcome table new.core sdps' h.0)
  acts_keep stun other own (Raw at bytes now) old sdps packets outcome table new sdps' packets' is h =
      calls_keep m Keeps calls_undriven.beside (HandlesRead m (kind_by stun bytes) (raw_datagram other own bytes) now)
      (λ p r q x. read_keep m Keeps calls_undriven.beside (kind_by stun bytes) (raw_datagram other own bytes) now (λ datagram. is) p r q x) old outcome table
      new h.0

  both_sides : (acting : Side) (pair : PairState I D S M N) → IsUndriven m (rtc_at acting pair) → IsUndriven m (rtc_at (other_side acting) pair)
      → AreUndriven m pair
  both_sides Left pair own other Left = own
  both_sides Left pair own other Right = other
  both_sides Right pair own other Left = other
  both_sides Right pair own other Right = own

  enters_keep : (stun : List ℕ → Bool) (old : PairState I D S M N) (entry : Entry E) (new : PairState I D S M N) → HasMoment entry.step → Enters m stun old entry new
      → AreUndriven m old → AreUndriven m new
  enters_keep stun old entry new is h k =
      let side = side_of entry.step in
      both_sides side new
      (acts_keep stun (addr_at (other_side side) old) (addr_at side old) entry.step (rtc_at side old) old.sdps old.packets entry.outcome entry.table
      (rtc_at side new) new.sdps new.packets is h.performs.acts (k side))
      (subst (λ (x : PolledPeer I D S M N). IsUndriven m x) (sym h.performs.other) (k (other_side side)))

  pub reached_keep : (stun : List ℕ → Bool) (start pair : PairState I D S M N) (past : List (Entry E)) → AreUndriven m start → HaveMoments (steps_of past)
      → Reached m stun start past pair → AreUndriven m pair
  reached_keep stun start pair [] k are h = subst (λ (x : PairState I D S M N). AreUndriven m x) (sym h) k
  reached_keep stun start pair (entry ∷ past) k are h =
      let split = moments_split (steps_of past) entry.step are in
      enters_keep stun h.0 entry pair split.1 h.2 (reached_keep stun start h.0 past k split.0 h.1)

  -- ---- drains

  drains_on_load : (at : Side) (p : PolledPeer I D S M N) (packets : List SentPacket) (outputs : List (Shown E)) (end : PollEnd) (q : PolledPeer I D S M N)
      (packets' : List SentPacket) → HasNoThreshold m p.core → DrainsOn m at p packets outputs end q packets' → length outputs ≤ load m p + 1
  drains_on_load at p packets [] end q packets' k h = omega arith
  drains_on_load at p packets (Timeout moment reason ∷ []) end q packets' k h = omega arith
  drains_on_load at p packets (Timeout moment reason ∷ (x ∷ outputs)) end q packets' k h = absurd h
  drains_on_load at p packets (Packet number len ∷ outputs) end q packets' k h =
      let falls = output_falls m laws p h.0 (polled.Transmit h.2.0) k h.2.1 in
      let rest = drains_on_load at h.0 h.1 outputs end q packets' (poll_unset m laws p h.0 (Ok (polled.Transmit h.2.0)) k h.2.1) h.3 in
      omega (arith, falls, rest)
  drains_on_load at p packets (Event event ∷ outputs) end q packets' k h =
      let falls = output_falls m laws p h.0 (polled.Event event) k h.2.0 in
      let rest = drains_on_load at h.0 h.1 outputs end q packets' (poll_unset m laws p h.0 (Ok (polled.Event event)) k h.2.0) h.3 in
      omega (arith, falls, rest)

  -- a closed peer shows a timeout alone
  drains_on_closed : (at : Side) (p : PolledPeer I D S M N) (packets : List SentPacket) (outputs : List (Shown E)) (end : PollEnd) (q : PolledPeer I D S M N)
      (packets' : List SentPacket) → p.core.phase ≡ Closed → DrainsOn m at p packets outputs end q packets' → length outputs ≤ 1
  drains_on_closed at p packets [] end q packets' k h = omega arith
  drains_on_closed at p packets (Timeout moment reason ∷ []) end q packets' k h = omega arith
  drains_on_closed at p packets (Timeout moment reason ∷ (x ∷ outputs)) end q packets' k h = absurd h
  drains_on_closed at p packets (Packet number len ∷ outputs) end q packets' k h = absurd (closed_none m laws p.core.phase (polled.Transmit h.2.0) p h.0 k refl h.2.1)
  drains_on_closed at p packets (Event event ∷ outputs) end q packets' k h = absurd (closed_none m laws p.core.phase (polled.Event event) p h.0 k refl h.2.0)

  drains_on_within : (at : Side) (p : PolledPeer I D S M N) (packets : List SentPacket) (outputs : List (Shown E)) (end : PollEnd) (q : PolledPeer I D S M N)
      (packets' : List SentPacket) → IsUndriven m p → DrainsOn m at p packets outputs end q packets' → length outputs ≤ weight m p
  drains_on_within at p packets outputs end q packets' (k, inl quiet) h =
      let most = drains_on_load at p packets outputs end q packets' k h in
      let less = load_within m laws p k quiet in
      omega (arith, most, less)
  drains_on_within at p packets outputs end q packets' (k, inr closed) h =
      let most = drains_on_closed at p packets outputs end q packets' closed h in
      omega (arith, most)

  drain_within : (at : Side) (p : PolledPeer I D S M N) (packets : List SentPacket) (outputs : List (Shown E)) (end : PollEnd) (q : PolledPeer I D S M N)
      (packets' : List SentPacket) → IsUndriven m p → DrainsPeer m at p packets outputs end q packets' → length outputs ≤ weight m p
  drain_within at p packets [] end q packets' k h = omega arith
  drain_within at p packets (x ∷ outputs) end q packets' k h = drains_on_within at p packets (x ∷ outputs) end q packets' k h

  polls_within : (at : Side) (between : PairState I D S M N) (outcome : Outcome E) (table : Option Table) (new : PolledPeer I D S M N) (packets' : List SentPacket)
      → IsUndriven m (rtc_at at between)
      → StepPollsPeer m (DrainsPeer m at (rtc_at at between)) (rtc_at at between) between.packets outcome table new packets'
      → ShowsWithin m between (Drain at) outcome
  polls_within at between (came.Polled outputs end) (Some table) new packets' k h = drain_within at (rtc_at at between) between.packets outputs end new packets' k h.0
  polls_within at between (came.Polled outputs end) None new packets' k h = absurd h
  polls_within at between outcome table new packets' k h = tt

  shows : (step : Step) (stun : List ℕ → Bool) (between : PairState I D S M N) (outcome : Outcome E) (table : Option Table) (after : PairState I D S M N) → AreUndriven m between
      → Acts m stun (addr_at (other_side (side_of step)) between) (addr_at (side_of step) between) step (rtc_at (side_of step) between) between.sdps between.packets outcome table
      (rtc_at (side_of step) after) after.sdps after.packets
      → ShowsWithin m between step outcome
  shows (Drain at) stun between outcome table after k h = polls_within at between outcome table (rtc_at at after) after.packets (k at) h.0
  shows step stun between outcome table after k h = tt

  pub entry_within : (stun : List ℕ → Bool) (between after : PairState I D S M N) (entry : Entry E) → AreUndriven m between → Enters m stun between entry after
      → ShowsWithin m between entry.step entry.outcome
  entry_within stun between after entry k h = shows entry.step stun between entry.outcome entry.table after k h.performs.acts

  -- a run by sound entries, each drain within the weight of its peer
  abbrev EntersWithin : (stun : List ℕ → Bool) → List (Entry E) → PairState I D S M N → Entry E → PairState I D S M N → Type 0
  EntersWithin stun earlier between entry after = Enters m stun between entry after × ShowsWithin m between entry.step entry.outcome

  went_reached : (stun : List ℕ → Bool) (start pair : PairState I D S M N) (past : List (Entry E)) → Went (EntersSoundly m stun start) (λ fresh. fresh ≡ start) past pair
      → Reached m stun start past pair
  went_reached stun start pair [] h = h
  went_reached stun start pair (entry ∷ past) h = (h.0, went_reached stun start h.0 past h.1, h.2.0)

  pub went_within : (stun : List ℕ → Bool) (start pair : PairState I D S M N) (past : List (Entry E)) → AreUndriven m start → HaveMoments (steps_of past)
      → Went (EntersSoundly m stun start) (λ fresh. fresh ≡ start) past pair → Went (EntersWithin stun) (λ fresh. fresh ≡ start) past pair
  went_within stun start pair [] k are h = h
  went_within stun start pair (entry ∷ past) k are h =
      let split = moments_split (steps_of past) entry.step are in
      let so = reached_keep stun start h.0 past k split.0 (went_reached stun start h.0 past h.1) in
      (h.0, went_within stun start h.0 past k split.0 h.1, (h.2.0, entry_within stun h.0 pair entry so h.2.0))
