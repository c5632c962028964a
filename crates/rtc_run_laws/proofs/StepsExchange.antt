-- Each step leaves the exchange of a pair.
use Rattle.std.proofs.Common.{◌≡◌, ◌∷◌, ℕ, Bool, true, false, true≢false, List, [], Option, Some, None, Result, Ok, Err, alloc_error, refl, sym, subst}
use Rattle.rtc_wire.specs.declared.addr.Addr.{Addr}
use Rattle.rtc_wire.specs.DatagramRecv.{kind_by}
use Rattle.rtc_wire.specs.declared.multiplex_kind.MultiplexKind.{MultiplexKind}
use Rattle.rtc_wire.specs.declared.net_error.NetError.{NetError}
use Rattle.rtc_wire.specs.declared.transmit.Transmit.{Transmit}
use Rattle.rtc_parts.specs.Among.{Member}
use Rattle.rtc_plain_ice.specs.PlainLaws.{plain_ice_laws}
use Rattle.rtc_plain_dtls.specs.PlainLaws.{plain_dtls_laws}
use Rattle.rtc_assoc_state.proofs.PlainLaws.{plain_laws}
use Rattle.rtc_plain_media.specs.PlainMediaLaws.{plain_media_laws}
use Rattle.rtc_plain_media.specs.declared.plain_media_event.PlainMediaEvent.{PlainMediaEvent}
use Rattle.rtc_parts.specs.Draws.{Draws}
use Rattle.rtc_sctp_laws.specs.StreamMessages.{StreamMessage}
use Rattle.rtc_peer_core.specs.declared.rtc_error.RtcError.{RtcError}
use Rattle.rtc_peer_core.specs.declared.rtc_error.RtcError.TheVariants.{Alloc as PeerAlloc}
use Rattle.rtc_peer_core.specs.Meanings.{PartsLaws}
use Rattle.rtc_peer_transport.specs.declared.input.Input.{Input}
use Rattle.rtc_peer_transport.specs.declared.input.Input.TheVariants as given
use Rattle.rtc_peer_transport.specs.declared.output.Output.{Output}
use Rattle.rtc_peer_transport.specs.declared.output.Output.TheVariants as polled
use Rattle.rtc_peer_transport.specs.ChannelCalls.{WritesChannel, open_stream_under}
use Rattle.rtc_peer_transport.specs.Closing.{ClosesPeer}
use Rattle.rtc_peer_polling.specs.Inputs.{HandlesInput}
use Rattle.rtc_peer_polling.specs.Walk.{PollsPeer}
use Rattle.rtc_peer_laws.specs.Acts.{CallActs, contents_shown}
use Rattle.rtc_peer_laws.specs.PeerActs.{PeerActs, came_by, moment_given, nothing_came}
use Rattle.rtc_peer_laws.proofs.ActedClosing.{close_acts}
use Rattle.rtc_peer_laws.proofs.ActedInputs.{channel_close_acts, input_acts, write_acts}
use Rattle.rtc_peer_laws.proofs.ActedPolls.{poll_acts}
use Rattle.rtc_run_history.specs.declared.kept.Kept.{Kept}
use Rattle.rtc_run_history.specs.declared.outcome.Outcome.{Outcome}
use Rattle.rtc_run_history.specs.declared.outcome.Outcome.TheVariants.{Done, Wrote, Polled, Refused, NoSuch, Alloc}
use Rattle.rtc_run_history.specs.declared.poll_end.PollEnd.{PollEnd}
use Rattle.rtc_run_history.specs.declared.poll_end.PollEnd.TheVariants.{Ended, Refused as EndRefused, NoRoom}
use Rattle.rtc_run_history.specs.declared.sent_packet.SentPacket.{SentPacket}
use Rattle.rtc_run_history.specs.declared.shown.Shown.{Shown}
use Rattle.rtc_run_history.specs.declared.shown.Shown.TheVariants.{Timeout, Packet, Event}
use Rattle.rtc_run_history.specs.declared.side.Side.{Side}
use Rattle.rtc_run_history.specs.declared.step.Step.{Step}
use Rattle.rtc_run_history.specs.declared.step.Step.TheVariants.{Negotiate, AcceptOffer, AcceptAnswer, Time, Datagram, Poll, Drain}
use Rattle.rtc_run_history.specs.declared.step.Step.TheVariants.{Write, CloseChannel, Close, Rollback, ForeignOffer, ForeignAnswer, Raw}
use Rattle.rtc_run_history.specs.declared.table.Table.{Table}
use Rattle.rtc_run_history.specs.CallReplies.{ClosesOpenChannel, FindsNone, StepCalls, StepClosesChannel, StepWrites, StepWritesOpen}
use Rattle.rtc_run_history.specs.Native.{is_native}
use Rattle.rtc_run_history.specs.PairState.{addr_at, rtc_at, held_token, kept_remote_sdp, remote_packet}
use Rattle.rtc_run_history.specs.Performs.{Acts, DrainsOn, DrainsPeer, HandlesRead, Performs, PollsOnce, PollsShown, StepPollsPeer, StepTakesDatagram}
use Rattle.rtc_run_history.specs.Sides.{other_side, side_of}
use Rattle.rtc_run_laws.specs.PlainPairs.{HasExchanged, PlainPair, PlainPolled, plain_over}
use Rattle.rtc_run_laws.specs.SentContents.{contents_sent}
use Rattle.rtc_run_laws.proofs.ContentsLemmas.{Carries, Shows, datagram_comes, nothing_comes, sent_among, shows_none, shows_one}
use Rattle.rtc_run_laws.proofs.NegotiationActed.{answer_acts, negotiates_did, offer_acts, rollback_acts}
use Rattle.rtc_run_laws.proofs.StandingExchange.{Stands, StandsIn, call_stands, negotiation_stands, pair_stands, same_stands, stands_pair}

pub plain_over_laws : {N : Type 0} (draws : Draws N) → PartsLaws (plain_over draws)
plain_over_laws draws = record { ice = plain_ice_laws; dtls = plain_dtls_laws; association = plain_laws; media = plain_media_laws }

module _ {N : Type 0} (draws : Draws N) (at : Side) (b : PeerActs) (q : PlainPolled N) where
  -- a call to which no application data comes but what the other side showed, and that shows nothing
  heard_stands : (packets packets' : List SentPacket) (input : Input) (p : PlainPolled N) (r : Result (Unit {0}) RtcError) (next : PlainPolled N)
      → packets' ≡ packets → Carries (came_by input).dtls (contents_sent (other_side at) packets) → HandlesInput (plain_over draws) input p r next
      → Stands at packets b q p → Stands at packets' b q next
  heard_stands packets packets' input p r next kept carried h stands =
      call_stands draws at packets packets' b q p next (came_by input) (moment_given input ∷ []) [] [] [] carried
      (shows_none at packets packets' kept) (input_acts (plain_over draws) plain_laws input p r next h) stands

  closed_stands : (packets packets' : List SentPacket) (p : PlainPolled N) (r : Result (Unit {0}) RtcError) (next : PlainPolled N)
      → packets' ≡ packets → ClosesPeer (plain_over draws) p r next → Stands at packets b q p → Stands at packets' b q next
  closed_stands packets packets' p r next kept h stands =
      call_stands draws at packets packets' b q p next nothing_came [] [] [] [] (nothing_comes (contents_sent (other_side at) packets))
      (shows_none at packets packets' kept) (close_acts (plain_over draws) nothing_came [] plain_laws p r next h) stands

  polled_stands : (packets packets' : List SentPacket) (p : PlainPolled N) (answer : Result (Output PlainMediaEvent) RtcError) (next : PlainPolled N)
      → Shows at packets packets' (contents_shown answer) → PollsPeer (plain_over draws) p answer next → Stands at packets b q p
      → Stands at packets' b q next
  polled_stands packets packets' p answer next shows h stands =
      let acts = poll_acts (plain_over draws) (plain_over_laws draws) p answer next h in
      call_stands draws at packets packets' b q p next nothing_came (p.core.greatest ∷ []) (contents_shown answer) acts.wrote acts.heard
      (nothing_comes (contents_sent (other_side at) packets)) shows acts.did stands

  -- an input or a close
  calls_stand : (call : PlainPolled N → Result (Unit {0}) RtcError → PlainPolled N → Type 0) (packets packets' : List SentPacket)
      → ((p : PlainPolled N) (r : Result (Unit {0}) RtcError) (next : PlainPolled N) → call p r next → Stands at packets b q p → Stands at packets' b q next)
      → (old : PlainPolled N) (outcome : Outcome PlainMediaEvent) (table : Option Table) (new : PlainPolled N) → packets' ≡ packets
      → StepCalls (plain_over draws) call old outcome table new → Stands at packets b q old → Stands at packets' b q new
  calls_stand call packets packets' keeps old Alloc None new kept h stands = same_stands at packets packets' b q old new h kept stands
  calls_stand call packets packets' keeps old Done (Some table) new kept h stands = keeps old (Ok tt) new h.0 stands
  calls_stand call packets packets' keeps old (Refused error) (Some table) new kept h stands = keeps old (Err error) new h.0 stands
  calls_stand call packets packets' keeps old outcome table new kept h stands = absurd h

  -- a write, or a close of a channel: nothing came, and nothing is shown
  done_stands : (packets packets' : List SentPacket) (wrote : List StreamMessage) (p next : PlainPolled N) → packets' ≡ packets
      → CallActs (plain_over draws) wrote p next → Stands at packets b q p → Stands at packets' b q next
  done_stands packets packets' wrote p next kept did stands =
      call_stands draws at packets packets' b q p next nothing_came [] [] wrote [] (nothing_comes (contents_sent (other_side at) packets))
      (shows_none at packets packets' kept) did stands

  -- what names a channel that is not open
  none_stands : (packets packets' : List SentPacket) (old : PlainPolled N) (outcome : Outcome PlainMediaEvent) (table : Option Table)
      (new : PlainPolled N) → packets' ≡ packets → FindsNone (plain_over draws) old outcome table new → Stands at packets b q old
      → Stands at packets' b q new
  none_stands packets packets' old Alloc None new kept h stands = same_stands at packets packets' b q old new h kept stands
  none_stands packets packets' old NoSuch (Some table) new kept h stands = same_stands at packets packets' b q old new h.0 kept stands
  none_stands packets packets' old outcome table new kept h stands = absurd h

  written_stands : (packets packets' : List SentPacket) (stream : ℕ) (binary : Bool) (bytes : List ℕ) (p : PlainPolled N) (r : Result Bool RtcError)
      (next : PlainPolled N) → packets' ≡ packets → WritesChannel (plain_over draws) stream binary bytes p r next → Stands at packets b q p
      → Stands at packets' b q next
  written_stands packets packets' stream binary bytes p r next kept h stands =
      done_stands packets packets' _ p next kept (write_acts (plain_over draws) stream binary bytes p r next h) stands

  open_write_stands : (packets packets' : List SentPacket) (stream : ℕ) (binary : Bool) (bytes : List ℕ) (old : PlainPolled N)
      (outcome : Outcome PlainMediaEvent) (table : Option Table) (new : PlainPolled N) → packets' ≡ packets
      → StepWritesOpen (plain_over draws) stream binary bytes old outcome table new → Stands at packets b q old → Stands at packets' b q new
  open_write_stands packets packets' stream binary bytes old Alloc None new kept h stands = same_stands at packets packets' b q old new h kept stands
  open_write_stands packets packets' stream binary bytes old (Wrote taken) (Some table) new kept h stands =
      written_stands packets packets' stream binary bytes old (Ok taken) new kept h.0 stands
  open_write_stands packets packets' stream binary bytes old (Refused error) (Some table) new kept h stands =
      written_stands packets packets' stream binary bytes old (Err error) new kept h.0 stands
  open_write_stands packets packets' stream binary bytes old outcome table new kept h stands = absurd h

  writes_stand : (packets packets' : List SentPacket) (stream : Option ℕ) (binary : Bool) (bytes : List ℕ) (old : PlainPolled N)
      (outcome : Outcome PlainMediaEvent) (table : Option Table) (new : PlainPolled N) → packets' ≡ packets
      → StepWrites (plain_over draws) stream binary bytes old outcome table new → Stands at packets b q old → Stands at packets' b q new
  writes_stand packets packets' None binary bytes old outcome table new kept h stands =
      none_stands packets packets' old outcome table new kept h stands
  writes_stand packets packets' (Some stream) binary bytes old outcome table new kept h stands =
      open_write_stands packets packets' stream binary bytes old outcome table new kept h stands

  shut_stands : (packets packets' : List SentPacket) (id : ℕ) → packets' ≡ packets → (p : PlainPolled N) (r : Result (Unit {0}) RtcError)
      (next : PlainPolled N) → ClosesOpenChannel (plain_over draws) id p r next → Stands at packets b q p → Stands at packets' b q next
  shut_stands packets packets' id kept p (Ok done) next h stands =
      done_stands packets packets' [] p next kept (channel_close_acts (plain_over draws) id p (Ok tt) next h) stands
  shut_stands packets packets' id kept p (Err PeerAlloc) next h stands =
      done_stands packets packets' [] p next kept (channel_close_acts (plain_over draws) id p (Err alloc_error) next h) stands
  shut_stands packets packets' id kept p (Err error) next h stands = absurd h

  channel_closes_stand : (packets packets' : List SentPacket) (stream : Option ℕ) (id : ℕ) (old : PlainPolled N)
      (outcome : Outcome PlainMediaEvent) (table : Option Table) (new : PlainPolled N) → packets' ≡ packets
      → StepClosesChannel (plain_over draws) stream id old outcome table new → Stands at packets b q old → Stands at packets' b q new
  channel_closes_stand packets packets' None id old outcome table new kept h stands =
      none_stands packets packets' old outcome table new kept h stands
  channel_closes_stand packets packets' (Some stream) id old outcome table new kept h stands =
      calls_stand (ClosesOpenChannel (plain_over draws) id) packets packets'
      (λ p r next closes s. shut_stands packets packets' id kept p r next closes s) old outcome table new kept h stands

  -- a datagram that the other side sent
  read_stands : (packets packets' : List SentPacket) (kind : Result MultiplexKind NetError) (transmit : Transmit) (now : ℕ) → packets' ≡ packets
      → Member transmit.contents (contents_sent (other_side at) packets) → (p : PlainPolled N) (r : Result (Unit {0}) RtcError) (next : PlainPolled N)
      → HandlesRead (plain_over draws) kind transmit now p r next → Stands at packets b q p → Stands at packets' b q next
  read_stands packets packets' (Err why) transmit now kept there p r next h stands = same_stands at packets packets' b q p next h.1 kept stands
  read_stands packets packets' (Ok kind) transmit now kept there p r next h stands =
      heard_stands packets packets' (given.Receive now h.0) p r next kept
      (datagram_comes h.0.contents transmit.contents (contents_sent (other_side at) packets) h.1.bytes there) h.2 stands

  hears_stand : (stun : List ℕ → Bool) (found : Option Transmit) (now : ℕ) (packets packets' : List SentPacket)
      → ((transmit : Transmit) → found ≡ Some transmit → Member transmit.contents (contents_sent (other_side at) packets))
      → (old : PlainPolled N) (outcome : Outcome PlainMediaEvent) (table : Option Table) (new : PlainPolled N) → packets' ≡ packets
      → StepTakesDatagram (plain_over draws) stun found now old outcome table new → Stands at packets b q old → Stands at packets' b q new
  hears_stand stun None now packets packets' there old Alloc None new kept h stands = same_stands at packets packets' b q old new h kept stands
  hears_stand stun None now packets packets' there old NoSuch (Some table) new kept h stands =
      same_stands at packets packets' b q old new h.0 kept stands
  hears_stand stun None now packets packets' there old outcome table new kept h stands = absurd h
  hears_stand stun (Some transmit) now packets packets' there old outcome table new kept h stands =
      calls_stand (HandlesRead (plain_over draws) (kind_by stun transmit.contents) transmit now) packets packets'
      (λ p r next handles s. read_stands packets packets' (kind_by stun transmit.contents) transmit now kept (there transmit refl) p r next handles s)
      old outcome table new kept h stands

  -- polls
  shown_stands : (packets : List SentPacket) (shown : Shown PlainMediaEvent) (packets' : List SentPacket) (p next : PlainPolled N)
      → PollsShown (plain_over draws) at p packets shown next packets' → Stands at packets b q p → Stands at packets' b q next
  shown_stands packets (Timeout moment reason) packets' p next h stands =
      polled_stands packets packets' p (Ok (polled.Timeout moment)) next (shows_none at packets packets' h.2) h.0 stands
  shown_stands packets (Packet number len) packets' p next h stands =
      polled_stands packets packets' p (Ok (polled.Transmit h.0)) next (shows_one at packets packets' h.0 h.4) h.1 stands
  shown_stands packets (Event event) packets' p next h stands =
      polled_stands packets packets' p (Ok (polled.Event event)) next (shows_none at packets packets' h.1) h.0 stands

  refused_stands : (packets packets' : List SentPacket) (p : PlainPolled N) (error : RtcError) (next : PlainPolled N) → packets' ≡ packets
      → PollsPeer (plain_over draws) p (Err error) next → Stands at packets b q p → Stands at packets' b q next
  refused_stands packets packets' p error next kept h stands = polled_stands packets packets' p (Err error) next (shows_none at packets packets' kept) h stands

  once_stands : (p : PlainPolled N) (packets : List SentPacket) (outputs : List (Shown PlainMediaEvent)) (end : PollEnd) (next : PlainPolled N)
      (packets' : List SentPacket) → PollsOnce (plain_over draws) at p packets outputs end next packets' → Stands at packets b q p
      → Stands at packets' b q next
  once_stands p packets (shown ∷ []) Ended next packets' h stands = shown_stands packets shown packets' p next h stands
  once_stands p packets [] (EndRefused error) next packets' h stands = refused_stands packets packets' p error next h.1 h.0 stands
  once_stands p packets outputs end next packets' h stands = absurd h

  drains_on_stand : (p : PlainPolled N) (packets : List SentPacket) (outputs : List (Shown PlainMediaEvent)) (end : PollEnd) (next : PlainPolled N)
      (packets' : List SentPacket) → DrainsOn (plain_over draws) at p packets outputs end next packets' → Stands at packets b q p
      → Stands at packets' b q next
  drains_on_stand p packets [] Ended next packets' h stands = absurd h
  drains_on_stand p packets [] (EndRefused error) next packets' h stands = refused_stands packets packets' p error next h.1 h.0 stands
  drains_on_stand p packets [] NoRoom next packets' h stands = same_stands at packets packets' b q p next h.0 h.1 stands
  drains_on_stand p packets (Timeout moment reason ∷ []) Ended next packets' h stands =
      shown_stands packets (Timeout moment reason) packets' p next h stands
  drains_on_stand p packets (Timeout moment reason ∷ outputs) end next packets' h stands = absurd h
  drains_on_stand p packets (Packet number len ∷ outputs) end next packets' h stands =
      drains_on_stand h.0 h.1 outputs end next packets' h.3 (shown_stands packets (Packet number len) h.1 p h.0 h.2 stands)
  drains_on_stand p packets (Event event ∷ outputs) end next packets' h stands =
      drains_on_stand h.0 h.1 outputs end next packets' h.3 (shown_stands packets (Event event) h.1 p h.0 h.2 stands)

  drains_stand : (p : PlainPolled N) (packets : List SentPacket) (outputs : List (Shown PlainMediaEvent)) (end : PollEnd) (next : PlainPolled N)
      (packets' : List SentPacket) → DrainsPeer (plain_over draws) at p packets outputs end next packets' → Stands at packets b q p
      → Stands at packets' b q next
  drains_stand p packets [] NoRoom next packets' h stands = absurd h
  drains_stand p packets [] Ended next packets' h stands = drains_on_stand p packets [] Ended next packets' h stands
  drains_stand p packets [] (EndRefused error) next packets' h stands = drains_on_stand p packets [] (EndRefused error) next packets' h stands
  drains_stand p packets (shown ∷ outputs) end next packets' h stands = drains_on_stand p packets (shown ∷ outputs) end next packets' h stands

  polls_stand : (polls : List SentPacket → List (Shown PlainMediaEvent) → PollEnd → PlainPolled N → List SentPacket → Type 0) (old : PlainPolled N)
      → ((packets : List SentPacket) (outputs : List (Shown PlainMediaEvent)) (end : PollEnd) (next : PlainPolled N) (packets' : List SentPacket)
      → polls packets outputs end next packets' → Stands at packets b q old → Stands at packets' b q next)
      → (packets : List SentPacket) (outcome : Outcome PlainMediaEvent) (table : Option Table) (new : PlainPolled N) (packets' : List SentPacket)
      → StepPollsPeer (plain_over draws) polls old packets outcome table new packets' → Stands at packets b q old → Stands at packets' b q new
  polls_stand polls old keeps packets Alloc None new packets' h stands = same_stands at packets packets' b q old new h.0 h.1 stands
  polls_stand polls old keeps packets (Polled outputs end) (Some table) new packets' h stands = keeps packets outputs end new packets' h.0 stands
  polls_stand polls old keeps packets outcome table new packets' h stands = absurd h

module _ {N : Type 0} (draws : Draws N) (b : PeerActs) (q : PlainPolled N) where
  -- each step, an arm each
  acts_stand : (stun : List ℕ → Bool) (other own : Addr) (step : Step) (old : PlainPolled N) (sdps : List Kept) (packets : List SentPacket)
      (outcome : Outcome PlainMediaEvent) (table : Option Table) (new : PlainPolled N) (sdps' : List Kept) (packets' : List SentPacket)
      → is_native step ≡ true → Acts (plain_over draws) stun other own step old sdps packets outcome table new sdps' packets' → Stands (side_of step) packets b q old
      → Stands (side_of step) packets' b q new
  acts_stand stun other own (Negotiate at ops apply) old sdps packets outcome table new sdps' packets' native h stands =
      negotiation_stands draws at packets packets' b q old new h.1.packets_kept
      (negotiates_did (plain_over draws) at ops apply old sdps outcome table new sdps' h.0) stands
  acts_stand stun other own (AcceptOffer at offer) old sdps packets outcome table new sdps' packets' native h stands =
      negotiation_stands draws at packets packets' b q old new h.1.packets_kept
      (offer_acts (plain_over draws) at (kept_remote_sdp true sdps at offer) old sdps outcome table new sdps' h.0) stands
  acts_stand stun other own (AcceptAnswer at token answer) old sdps packets outcome table new sdps' packets' native h stands =
      negotiation_stands draws at packets packets' b q old new h.1.packets_kept
      (answer_acts (plain_over draws) token (held_token sdps at token) (kept_remote_sdp false sdps at answer) old sdps outcome table new sdps' h.0) stands
  acts_stand stun other own (Time at now) old sdps packets outcome table new sdps' packets' native h stands =
      calls_stand draws at b q (HandlesInput (plain_over draws) (given.Timeout now)) packets packets'
      (λ p r next handles s.
      heard_stands draws at b q packets packets' (given.Timeout now) p r next h.2 (nothing_comes (contents_sent (other_side at) packets)) handles s)
      old outcome table new h.2 h.0 stands
  acts_stand stun other own (Datagram at packet now) old sdps packets outcome table new sdps' packets' native h stands =
      hears_stand draws at b q stun (remote_packet packets at packet) now packets packets' (λ transmit is. sent_among at packets packet transmit is)
      old outcome table new h.2 h.0 stands
  acts_stand stun other own (Poll at) old sdps packets outcome table new sdps' packets' native h stands =
      polls_stand draws at b q (PollsOnce (plain_over draws) at old) old
      (λ from outputs end next to polls s. once_stands draws at b q old from outputs end next to polls s) packets outcome table new packets' h.0 stands
  acts_stand stun other own (Drain at) old sdps packets outcome table new sdps' packets' native h stands =
      polls_stand draws at b q (DrainsPeer (plain_over draws) at old) old
      (λ from outputs end next to drains s. drains_stand draws at b q old from outputs end next to drains s) packets outcome table new packets' h.0 stands
  acts_stand stun other own (Write at channel binary bytes) old sdps packets outcome table new sdps' packets' native h stands =
      writes_stand draws at b q packets packets' (open_stream_under channel old) binary bytes old outcome table new h.2 h.0 stands
  acts_stand stun other own (CloseChannel at channel) old sdps packets outcome table new sdps' packets' native h stands =
      channel_closes_stand draws at b q packets packets' (open_stream_under channel old) channel old outcome table new h.2 h.0 stands
  acts_stand stun other own (Close at) old sdps packets outcome table new sdps' packets' native h stands =
      calls_stand draws at b q (ClosesPeer (plain_over draws)) packets packets'
      (λ p r next closes s. closed_stands draws at b q packets packets' p r next h.2 closes s) old outcome table new h.2 h.0 stands
  acts_stand stun other own (Rollback at token) old sdps packets outcome table new sdps' packets' native h stands =
      negotiation_stands draws at packets packets' b q old new h.1.packets_kept
      (rollback_acts (plain_over draws) token (held_token sdps at token) old sdps outcome table new sdps' h.0) stands
  acts_stand stun other own (ForeignOffer at text) old sdps packets outcome table new sdps' packets' native h stands = absurd (true≢false (sym native))
  acts_stand stun other own (ForeignAnswer at token text) old sdps packets outcome table new sdps' packets' native h stands = absurd (true≢false (sym native))
  acts_stand stun other own (Raw at bytes now) old sdps packets outcome table new sdps' packets' native h stands = absurd (true≢false (sym native))

module _ {N : Type 0} (draws : Draws N) where
  pub step_exchanges : (stun : List ℕ → Bool) (old : PlainPair N) (step : Step) (outcome : Outcome PlainMediaEvent) (table : Option Table)
      (new : PlainPair N) → is_native step ≡ true → Performs (plain_over draws) stun old step outcome table new → HasExchanged old → HasExchanged new
  step_exchanges stun old step outcome table new native performs exchanged =
      let before : StandsIn (side_of step) old = pair_stands (side_of step) old exchanged in
      let after : Stands (side_of step) new.packets before.other (rtc_at (other_side (side_of step)) old) (rtc_at (side_of step) new) =
      acts_stand draws before.other (rtc_at (other_side (side_of step)) old) stun (addr_at (other_side (side_of step)) old) (addr_at (side_of step) old) step (rtc_at (side_of step) old) old.sdps old.packets outcome table
      (rtc_at (side_of step) new) new.sdps new.packets native performs.acts before.stands in
      stands_pair (side_of step) new
      (record {
        other = before.other;
        stands =
            subst (λ (x : PlainPolled N). Stands (side_of step) new.packets before.other x (rtc_at (side_of step) new)) (sym performs.other) after;
      })
