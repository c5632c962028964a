-- The datagrams that a pair keeps are those that the replies show, in order.
use Rattle.std.proofs.Common.{◌≡◌, ◌∙◌, ℕ, Bool, true, false, List, [], ◌∷◌, ◌++◌, map, Option, Some, None, refl, sym, ap, append-nil, append_assoc}
use Rattle.std.proofs.lemmas.List.{map-append}
use Rattle.rtc_wire.specs.DatagramRecv.{kind_by}
use Rattle.rtc_wire.specs.declared.transmit.Transmit.{Transmit}
use Rattle.rtc_change.specs.PendingOffer.{PendingOffer}
use Rattle.rtc_peer_core.specs.declared.peer.Peer.{Peer}
use Rattle.rtc_peer_core.specs.Meanings.{Meanings}
use Rattle.rtc_peer_transport.specs.declared.input.Input.TheVariants as given
use Rattle.rtc_peer_transport.specs.declared.polled_peer.PolledPeer.{PolledPeer}
use Rattle.rtc_peer_transport.specs.ChannelCalls.{open_stream_under}
use Rattle.rtc_peer_transport.specs.Closing.{ClosesPeer}
use Rattle.rtc_peer_polling.specs.Inputs.{HandlesInput}
use Rattle.rtc_run_history.specs.Signalled.{Signalled, NotMade, Unreadable, Readable, foreign}
use Rattle.rtc_run_history.specs.declared.side.Side.{Side}
use Rattle.rtc_run_history.specs.declared.op.Op.{Op}
use Rattle.rtc_run_history.specs.declared.step.Step.{Step}
use Rattle.rtc_run_history.specs.declared.step.Step.TheVariants.{Negotiate, AcceptOffer, AcceptAnswer, Time, Datagram, Poll, Drain, Write, CloseChannel, Close, Rollback, ForeignOffer, ForeignAnswer, Raw}
use Rattle.rtc_run_history.specs.declared.poll_end.PollEnd.{PollEnd}
use Rattle.rtc_run_history.specs.declared.poll_end.PollEnd.TheVariants.{Ended, Refused as EndRefused, NoRoom}
use Rattle.rtc_run_history.specs.declared.sent_packet.SentPacket.{SentPacket}
use Rattle.rtc_run_history.specs.declared.shown.Shown.{Shown}
use Rattle.rtc_run_history.specs.declared.shown.Shown.TheVariants.{Timeout, Packet, Event}
use Rattle.rtc_run_history.specs.declared.outcome.Outcome.{Outcome}
use Rattle.rtc_run_history.specs.declared.outcome.Outcome.TheVariants.{Negotiated, Answered, Finished, Done, Wrote, Polled, Refused, NoSuch, Alloc}
use Rattle.rtc_run_history.specs.declared.table.Table.{Table}
use Rattle.rtc_run_history.specs.declared.kept.Kept.{Kept}
use Rattle.rtc_run_history.specs.Past.{packets_in, packets_told}
use Rattle.rtc_run_history.specs.PairState.{PairState, addr_at, rtc_at, size_sent, kept_remote_sdp, held_token, remote_packet}
use Rattle.rtc_run_history.specs.CallReplies.{StepCalls, FindsNone, StepWrites, StepClosesChannel, ClosesOpenChannel}
use Rattle.rtc_run_history.specs.Performs.{HandlesRead, Negotiates, StepAcceptsOffer, StepAcceptsAnswer, StepRollsBack, StepTakesDatagram, PollsShown, PollsOnce, DrainsOn, DrainsPeer, StepPollsPeer, Performs, raw_datagram, sent_packet}
use Rattle.rtc_run_history.specs.Sides.{other_side, side_of}

module _ {I D S M E X T W N : Type 0} (m : Meanings I D S M E X T W N) where
  -- ---- steps that show no datagram

  negotiates_quiet : (at : Side) (ops : List Op) (apply : Bool) (old : Peer I D S M N) (sdps : List Kept) (outcome : Outcome E) (table : Option Table) (new : Peer I D S M N) (sdps' : List Kept)
      → Negotiates m at ops apply old sdps outcome table new sdps' → packets_told at outcome ≡ []
  negotiates_quiet at ops apply old sdps Alloc None new sdps' h = refl
  negotiates_quiet at ops apply old sdps (Negotiated answers made) (Some table) new sdps' h = refl
  negotiates_quiet at ops apply old sdps outcome table new sdps' h = absurd h

  offer_quiet : (at : Side) (offer : Signalled) (old : Peer I D S M N) (sdps : List Kept) (outcome : Outcome E) (table : Option Table) (new : Peer I D S M N) (sdps' : List Kept)
      → StepAcceptsOffer m at offer old sdps outcome table new sdps' → packets_told at outcome ≡ []
  offer_quiet at NotMade old sdps Alloc None new sdps' h = refl
  offer_quiet at (Unreadable line) old sdps Alloc None new sdps' h = refl
  offer_quiet at (Readable sdp) old sdps Alloc None new sdps' h = refl
  offer_quiet at NotMade old sdps NoSuch (Some table) new sdps' h = refl
  offer_quiet at (Unreadable line) old sdps (Refused error) (Some table) new sdps' h = refl
  offer_quiet at (Readable sdp) old sdps (Answered k) (Some table) new sdps' h = refl
  offer_quiet at (Readable sdp) old sdps (Refused error) (Some table) new sdps' h = refl
  offer_quiet at offer old sdps outcome table new sdps' h = absurd h

  answer_quiet : (at : Side) (t : ℕ) (token : Option PendingOffer) (answer : Signalled) (old : Peer I D S M N) (sdps : List Kept) (outcome : Outcome E) (table : Option Table) (new : Peer I D S M N)
      (sdps' : List Kept) → StepAcceptsAnswer m t token answer old sdps outcome table new sdps' → packets_told at outcome ≡ []
  answer_quiet at t None NotMade old sdps Alloc None new sdps' h = refl
  answer_quiet at t None (Unreadable line) old sdps Alloc None new sdps' h = refl
  answer_quiet at t None (Readable sdp) old sdps Alloc None new sdps' h = refl
  answer_quiet at t (Some token) NotMade old sdps Alloc None new sdps' h = refl
  answer_quiet at t (Some token) (Unreadable line) old sdps Alloc None new sdps' h = refl
  answer_quiet at t (Some token) (Readable sdp) old sdps Alloc None new sdps' h = refl
  answer_quiet at t None NotMade old sdps NoSuch (Some table) new sdps' h = refl
  answer_quiet at t None (Unreadable line) old sdps NoSuch (Some table) new sdps' h = refl
  answer_quiet at t None (Readable sdp) old sdps NoSuch (Some table) new sdps' h = refl
  answer_quiet at t (Some token) NotMade old sdps NoSuch (Some table) new sdps' h = refl
  answer_quiet at t (Some token) (Unreadable line) old sdps (Refused error) (Some table) new sdps' h = refl
  answer_quiet at t (Some token) (Readable sdp) old sdps Finished (Some table) new sdps' h = refl
  answer_quiet at t (Some token) (Readable sdp) old sdps (Refused error) (Some table) new sdps' h = refl
  answer_quiet at t token answer old sdps outcome table new sdps' h = absurd h

  rollback_quiet : (at : Side) (t : ℕ) (token : Option PendingOffer) (old : Peer I D S M N) (sdps : List Kept) (outcome : Outcome E) (table : Option Table) (new : Peer I D S M N) (sdps' : List Kept)
      → StepRollsBack m t token old sdps outcome table new sdps' → packets_told at outcome ≡ []
  rollback_quiet at t None old sdps Alloc None new sdps' h = refl
  rollback_quiet at t (Some token) old sdps Alloc None new sdps' h = refl
  rollback_quiet at t None old sdps NoSuch (Some table) new sdps' h = refl
  rollback_quiet at t (Some token) old sdps Done (Some table) new sdps' h = refl
  rollback_quiet at t (Some token) old sdps (Refused error) (Some table) new sdps' h = refl
  rollback_quiet at t token old sdps outcome table new sdps' h = absurd h

  calls_quiet : (at : Side) (call : PolledPeer I D S M N → _ → PolledPeer I D S M N → Type 0) (old : PolledPeer I D S M N) (outcome : Outcome E) (table : Option Table) (new : PolledPeer I D S M N)
      → StepCalls m call old outcome table new → packets_told at outcome ≡ []
  calls_quiet at call old Alloc None new h = refl
  calls_quiet at call old Done (Some table) new h = refl
  calls_quiet at call old (Refused error) (Some table) new h = refl
  calls_quiet at call old outcome table new h = absurd h

  none_quiet : (at : Side) (old : PolledPeer I D S M N) (outcome : Outcome E) (table : Option Table) (new : PolledPeer I D S M N) → FindsNone m old outcome table new → packets_told at outcome ≡ []
  none_quiet at old Alloc None new h = refl
  none_quiet at old NoSuch (Some table) new h = refl
  none_quiet at old outcome table new h = absurd h

  write_quiet : (at : Side) (stream : Option ℕ) (binary : Bool) (bytes : List ℕ) (old : PolledPeer I D S M N) (outcome : Outcome E) (table : Option Table) (new : PolledPeer I D S M N)
      → StepWrites m stream binary bytes old outcome table new → packets_told at outcome ≡ []
  write_quiet at None binary bytes old outcome table new h = none_quiet at old outcome table new h
  write_quiet at (Some stream) binary bytes old Alloc None new h = refl
  write_quiet at (Some stream) binary bytes old (Wrote taken) (Some table) new h = refl
  write_quiet at (Some stream) binary bytes old (Refused error) (Some table) new h = refl
  write_quiet at (Some stream) binary bytes old outcome table new h = absurd h

  close_channel_quiet : (at : Side) (stream : Option ℕ) (id : ℕ) (old : PolledPeer I D S M N) (outcome : Outcome E) (table : Option Table) (new : PolledPeer I D S M N)
      → StepClosesChannel m stream id old outcome table new → packets_told at outcome ≡ []
  close_channel_quiet at None id old outcome table new h = none_quiet at old outcome table new h
  close_channel_quiet at (Some stream) id old outcome table new h = calls_quiet at (ClosesOpenChannel m id) old outcome table new h

  hears_quiet : (at : Side) (stun : List ℕ → Bool) (found : Option Transmit) (now : ℕ) (old : PolledPeer I D S M N) (outcome : Outcome E) (table : Option Table) (new : PolledPeer I D S M N)
      → StepTakesDatagram m stun found now old outcome table new → packets_told at outcome ≡ []
  hears_quiet at stun None now old Alloc None new h = refl
  hears_quiet at stun None now old NoSuch (Some table) new h = refl
  hears_quiet at stun None now old outcome table new h = absurd h
  hears_quiet at stun (Some transmit) now old outcome table new h = calls_quiet at (HandlesRead m (kind_by stun transmit.contents) transmit now) old outcome table new h

  -- ---- polls

  -- one output
  shown_packets : (at : Side) (p : PolledPeer I D S M N) (packets : List SentPacket) (shown : Shown E) (q : PolledPeer I D S M N) (packets' : List SentPacket)
      → PollsShown m at p packets shown q packets' → map size_sent packets' ≡ map size_sent packets ++ packets_in at (shown ∷ [])
  shown_packets at p packets (Timeout moment reason) q packets' h = ap (map size_sent) h.2 ∙ sym (append-nil (map size_sent packets))
  shown_packets at p packets (Packet number len) q packets' h =
      ap (map size_sent) h.4 ∙ map-append size_sent packets (sent_packet at h.0 ∷ []) ∙ ap (λ (n : ℕ). map size_sent packets ++ (at, n) ∷ []) (sym h.3)
  shown_packets at p packets (Event event) q packets' h = ap (map size_sent) h.1 ∙ sym (append-nil (map size_sent packets))

  -- and those behind it
  more_packets : (at : Side) (packets between packets' : List (Side × ℕ)) (shown : Shown E) (outputs : List (Shown E)) → between ≡ packets ++ packets_in at (shown ∷ [])
      → packets' ≡ between ++ packets_in at outputs → packets' ≡ packets ++ packets_in at (shown ∷ outputs)
  more_packets at packets between packets' (Timeout moment reason) outputs first rest = rest ∙ ap (λ (front : List (Side × ℕ)). front ++ packets_in at outputs) (first ∙ append-nil packets)
  more_packets at packets between packets' (Packet number len) outputs first rest =
      rest ∙ ap (λ (front : List (Side × ℕ)). front ++ packets_in at outputs) first ∙ append_assoc packets ((at, len) ∷ []) (packets_in at outputs)
  more_packets at packets between packets' (Event event) outputs first rest = rest ∙ ap (λ (front : List (Side × ℕ)). front ++ packets_in at outputs) (first ∙ append-nil packets)

  once_packets : (at : Side) (p : PolledPeer I D S M N) (packets : List SentPacket) (outputs : List (Shown E)) (end : PollEnd) (q : PolledPeer I D S M N) (packets' : List SentPacket)
      → PollsOnce m at p packets outputs end q packets' → map size_sent packets' ≡ map size_sent packets ++ packets_in at outputs
  once_packets at p packets (shown ∷ []) Ended q packets' h = shown_packets at p packets shown q packets' h
  once_packets at p packets [] (EndRefused error) q packets' h = ap (map size_sent) h.1 ∙ sym (append-nil (map size_sent packets))
  once_packets at p packets outputs end q packets' h = absurd h

  drains_on_packets : (at : Side) (p : PolledPeer I D S M N) (packets : List SentPacket) (outputs : List (Shown E)) (end : PollEnd) (q : PolledPeer I D S M N) (packets' : List SentPacket)
      → DrainsOn m at p packets outputs end q packets' → map size_sent packets' ≡ map size_sent packets ++ packets_in at outputs
  drains_on_packets at p packets [] Ended q packets' h = absurd h
  drains_on_packets at p packets [] (EndRefused error) q packets' h = ap (map size_sent) h.1 ∙ sym (append-nil (map size_sent packets))
  drains_on_packets at p packets [] NoRoom q packets' h = ap (map size_sent) h.1 ∙ sym (append-nil (map size_sent packets))
  drains_on_packets at p packets (Timeout moment reason ∷ []) Ended q packets' h = shown_packets at p packets (Timeout moment reason) q packets' h
  drains_on_packets at p packets (Timeout moment reason ∷ outputs) end q packets' h = absurd h
  drains_on_packets at p packets (Packet number len ∷ outputs) end q packets' h =
      more_packets at (map size_sent packets) (map size_sent h.1) (map size_sent packets') (Packet number len) outputs (shown_packets at p packets (Packet number len) h.0 h.1 h.2)
      (drains_on_packets at h.0 h.1 outputs end q packets' h.3)
  drains_on_packets at p packets (Event event ∷ outputs) end q packets' h =
      more_packets at (map size_sent packets) (map size_sent h.1) (map size_sent packets') (Event event) outputs (shown_packets at p packets (Event event) h.0 h.1 h.2)
      (drains_on_packets at h.0 h.1 outputs end q packets' h.3)

  drains_packets : (at : Side) (p : PolledPeer I D S M N) (packets : List SentPacket) (outputs : List (Shown E)) (end : PollEnd) (q : PolledPeer I D S M N) (packets' : List SentPacket)
      → DrainsPeer m at p packets outputs end q packets' → map size_sent packets' ≡ map size_sent packets ++ packets_in at outputs
  drains_packets at p packets [] NoRoom q packets' h = absurd h
  drains_packets at p packets [] Ended q packets' h = drains_on_packets at p packets [] Ended q packets' h
  drains_packets at p packets [] (EndRefused error) q packets' h = drains_on_packets at p packets [] (EndRefused error) q packets' h
  drains_packets at p packets (shown ∷ outputs) end q packets' h = drains_on_packets at p packets (shown ∷ outputs) end q packets' h

  polls_packets : (at : Side) (polls : List SentPacket → List (Shown E) → PollEnd → PolledPeer I D S M N → List SentPacket → Type 0)
      → ((packets : List SentPacket) (outputs : List (Shown E)) (end : PollEnd) (q : PolledPeer I D S M N) (packets' : List SentPacket) → polls packets outputs end q packets'
      → map size_sent packets' ≡ map size_sent packets ++ packets_in at outputs)
      → (old : PolledPeer I D S M N) (packets : List SentPacket) (outcome : Outcome E) (table : Option Table) (new : PolledPeer I D S M N) (packets' : List SentPacket)
      → StepPollsPeer m polls old packets outcome table new packets' → map size_sent packets' ≡ map size_sent packets ++ packets_told at outcome
  polls_packets at polls sends old packets Alloc None new packets' h = ap (map size_sent) h.1 ∙ sym (append-nil (map size_sent packets))
  polls_packets at polls sends old packets (Polled outputs end) (Some table) new packets' h = sends packets outputs end new packets' h.0
  polls_packets at polls sends old packets outcome table new packets' h = absurd h

  -- ---- each step

  -- a step that shows none keeps them
  same_packets : (packets packets' : List SentPacket) (told : List (Side × ℕ)) → told ≡ [] → packets' ≡ packets → map size_sent packets' ≡ map size_sent packets ++ told
  same_packets packets packets' told none kept = ap (map size_sent) kept ∙ sym (append-nil (map size_sent packets)) ∙ ap (λ (more : List (Side × ℕ)). map size_sent packets ++ more) (sym none)

  step_packets : (stun : List ℕ → Bool) (old : PairState I D S M N) (step : Step) (outcome : Outcome E) (table : Option Table) (new : PairState I D S M N) → Performs m stun old step outcome table new
      → map size_sent new.packets ≡ map size_sent old.packets ++ packets_told (side_of step) outcome
  step_packets stun old (Negotiate at ops apply) outcome table new performs =
      same_packets old.packets new.packets _ (negotiates_quiet at ops apply _ old.sdps outcome table _ new.sdps performs.acts.0) performs.acts.1.packets_kept
  step_packets stun old (AcceptOffer at k) outcome table new performs =
      same_packets old.packets new.packets _ (offer_quiet at (kept_remote_sdp true old.sdps at k) _ old.sdps outcome table _ new.sdps performs.acts.0) performs.acts.1.packets_kept
  step_packets stun old (AcceptAnswer at t a) outcome table new performs =
      same_packets old.packets new.packets _ (answer_quiet at t (held_token old.sdps at t) (kept_remote_sdp false old.sdps at a) _ old.sdps outcome table _ new.sdps performs.acts.0)
      performs.acts.1.packets_kept
  step_packets stun old (Time at now) outcome table new performs = same_packets old.packets new.packets _ (calls_quiet at (HandlesInput m (given.Timeout now)) (rtc_at at old) outcome table (rtc_at at new) performs.acts.0) performs.acts.2
  step_packets stun old (Datagram at packet now) outcome table new performs =
      same_packets old.packets new.packets _ (hears_quiet at stun (remote_packet old.packets at packet) now (rtc_at at old) outcome table (rtc_at at new) performs.acts.0) performs.acts.2
  step_packets stun old (Poll at) outcome table new performs =
      polls_packets at (PollsOnce m at (rtc_at at old)) (λ packets outputs end q packets'. once_packets at (rtc_at at old) packets outputs end q packets') (rtc_at at old) old.packets outcome table (rtc_at at new)
      new.packets performs.acts.0
  step_packets stun old (Drain at) outcome table new performs =
      polls_packets at (DrainsPeer m at (rtc_at at old)) (λ packets outputs end q packets'. drains_packets at (rtc_at at old) packets outputs end q packets') (rtc_at at old) old.packets outcome table (rtc_at at new)
      new.packets performs.acts.0
  step_packets stun old (Write at channel binary bytes) outcome table new performs =
      same_packets old.packets new.packets _ (write_quiet at (open_stream_under channel (rtc_at at old)) binary bytes (rtc_at at old) outcome table (rtc_at at new) performs.acts.0) performs.acts.2
  step_packets stun old (CloseChannel at channel) outcome table new performs =
      same_packets old.packets new.packets _ (close_channel_quiet at (open_stream_under channel (rtc_at at old)) channel (rtc_at at old) outcome table (rtc_at at new) performs.acts.0) performs.acts.2
  step_packets stun old (Close at) outcome table new performs = same_packets old.packets new.packets _ (calls_quiet at (ClosesPeer m) (rtc_at at old) outcome table (rtc_at at new) performs.acts.0) performs.acts.2
  step_packets stun old (Rollback at t) outcome table new performs =
      same_packets old.packets new.packets _ (rollback_quiet at t (held_token old.sdps at t) _ old.sdps outcome table _ new.sdps performs.acts.0) performs.acts.1.packets_kept
  step_packets stun old (ForeignOffer at text) outcome table new performs =
      same_packets old.packets new.packets _ (offer_quiet at (foreign text) _ old.sdps outcome table _ new.sdps performs.acts.0) performs.acts.1.packets_kept
  step_packets stun old (ForeignAnswer at t text) outcome table new performs =
      same_packets old.packets new.packets _ (answer_quiet at t (held_token old.sdps at t) (foreign text) _ old.sdps outcome table _ new.sdps performs.acts.0)
      performs.acts.1.packets_kept
  step_packets stun old (Raw at bytes now) outcome table new performs =
      same_packets old.packets new.packets _
      (hears_quiet at stun (Some (raw_datagram (addr_at (other_side at) old) (addr_at at old) bytes)) now (rtc_at at old) outcome table (rtc_at at new) performs.acts.0) performs.acts.2

  -- What a pair keeps after a step is what was shown before it, and what the step shows.
  pub packets_performed : (stun : List ℕ → Bool) (old new : PairState I D S M N) (step : Step) (outcome : Outcome E) (table : Option Table) (shown : List (Side × ℕ)) → map size_sent old.packets ≡ shown
      → Performs m stun old step outcome table new → map size_sent new.packets ≡ shown ++ packets_told (side_of step) outcome
  packets_performed stun old new step outcome table shown are performs =
      step_packets stun old step outcome table new performs ∙ ap (λ (front : List (Side × ℕ)). front ++ packets_told (side_of step) outcome) are
