-- Each step keeps what holds of the channels that its side announced.
use Rattle.std.proofs.Common.{◌≡◌, ◌++◌, ◌&&◌, ◌==◌, ◌∷◌, if◌then◌else◌, ℕ, Bool, true, false, true≢false, List, [], append-nil, Option, Some, None, Result, Ok, Err, alloc_error, refl, sym, ap}
use Rattle.rtc_wire.specs.declared.addr.Addr.{Addr}
use Rattle.rtc_wire.specs.DatagramRecv.{kind_by}
use Rattle.rtc_wire.specs.declared.multiplex_kind.MultiplexKind.{MultiplexKind}
use Rattle.rtc_wire.specs.declared.net_error.NetError.{NetError}
use Rattle.rtc_wire.specs.declared.transmit.Transmit.{Transmit}
use Rattle.rtc_parts.specs.Among.{Member}
use Rattle.rtc_assoc_state.proofs.PlainLaws.{plain_laws}
use Rattle.rtc_assoc_state.specs.PlainMeaning.{plain_meaning}
use Rattle.rtc_plain_media.specs.declared.plain_media_event.PlainMediaEvent.{PlainMediaEvent}
use Rattle.rtc_parts.specs.Draws.{Draws}
use Rattle.rtc_sctp.specs.Calls.{is_nil, written_ppi}
use Rattle.rtc_sctp_laws.specs.StreamMessages.{stream_message}
use Rattle.rtc_sctp_laws.specs.StreamUses.{messages_of}
use Rattle.rtc_sctp_laws.specs.Contents.{contents_of}
use Rattle.rtc_sctp_laws.specs.RunningStreams.{AreRunning}
use Rattle.rtc_sctp_laws.proofs.ContentLemmas.{write_named}
use Rattle.rtc_sctp_laws.proofs.PlainGenerations.{plain_generations}
use Rattle.rtc_peer_core.specs.declared.rtc_error.RtcError.{RtcError}
use Rattle.rtc_peer_core.specs.declared.rtc_error.RtcError.TheVariants.{Alloc as PeerAlloc}
use Rattle.rtc_peer_transport.specs.declared.input.Input.{Input}
use Rattle.rtc_peer_transport.specs.declared.input.Input.TheVariants as given
use Rattle.rtc_peer_transport.specs.ChannelCalls.{WritesChannel, open_stream_under}
use Rattle.rtc_peer_transport.specs.Closing.{ClosesPeer}
use Rattle.rtc_peer_polling.specs.Inputs.{HandlesInput}
use Rattle.rtc_peer_laws.specs.Acts.{CallActs, message_of_write}
use Rattle.rtc_peer_laws.specs.PeerActs.{PeerActs, came_by, moment_given, nothing_came}
use Rattle.rtc_peer_laws.proofs.ActedClosing.{close_acts}
use Rattle.rtc_peer_laws.proofs.ActedInputs.{channel_close_acts, input_acts, write_acts}
use Rattle.rtc_peer_laws.specs.KeptChannels.{CallKeepsStreams}
use Rattle.rtc_peer_laws.proofs.KeptInputs.{input_keeps}
use Rattle.rtc_peer_laws.proofs.KeptPeers.{channel_close_keeps, channel_write_keeps, close_keeps}
use Rattle.rtc_peer_laws.specs.JoinedPeers.{CarriesData}
use Rattle.rtc_peer_laws.proofs.JoinedLemmas.{begun_carries, none_carries}
use Rattle.rtc_run_history.specs.declared.kept.Kept.{Kept}
use Rattle.rtc_run_history.specs.declared.outcome.Outcome.{Outcome}
use Rattle.rtc_run_history.specs.declared.outcome.Outcome.TheVariants.{Done, Wrote, Refused, NoSuch, Alloc}
use Rattle.rtc_run_history.specs.declared.sent_packet.SentPacket.{SentPacket}
use Rattle.rtc_run_history.specs.declared.side.Side.{Side}
use Rattle.rtc_run_history.specs.declared.step.Step.{Step}
use Rattle.rtc_run_history.specs.declared.step.Step.TheVariants.{Negotiate, AcceptOffer, AcceptAnswer, Time, Datagram, Poll, Drain}
use Rattle.rtc_run_history.specs.declared.step.Step.TheVariants.{Write, CloseChannel, Close, Rollback, ForeignOffer, ForeignAnswer, Raw}
use Rattle.rtc_run_history.specs.declared.table.Table.{Table}
use Rattle.rtc_run_history.specs.CallReplies.{ClosesOpenChannel, FindsNone, StepCalls, StepClosesChannel, StepWrites, StepWritesOpen}
use Rattle.rtc_run_history.specs.Native.{is_native}
use Rattle.rtc_run_history.specs.PairState.{held_token, kept_remote_sdp, remote_packet}
use Rattle.rtc_run_history.specs.Performs.{Acts, HandlesRead, StepTakesDatagram}
use Rattle.rtc_run_history.specs.Sides.{other_side, side_of}
use Rattle.rtc_run_laws.specs.PlainPairs.{PlainPolled, plain_over}
use Rattle.rtc_run_laws.specs.SentContents.{contents_sent}
use Rattle.rtc_run_laws.proofs.ContentsLemmas.{datagram_carries, sent_among, shows_none}
use Rattle.rtc_run_laws.proofs.NegotiationActed.{answer_acts, negotiates_did, offer_acts, rollback_acts}
use Rattle.rtc_run_laws.specs.ChannelUses.{ChannelUse}
use Rattle.rtc_run_laws.specs.PollsOfRuns.{by_step}
use Rattle.rtc_run_laws.specs.SentMessages.{sent_acted, sent_by_write}
use Rattle.rtc_run_laws.specs.ToldMessages.{MessagesTold, told_shown}
use Rattle.rtc_run_laws.specs.UsesOfRuns.{uses_acted, uses_written}
use Rattle.rtc_run_laws.proofs.KeptNegotiation.{answer_step_keeps, negotiates_keep, offer_step_keeps, rollback_leaves}
use Rattle.rtc_run_laws.proofs.OpenStreams.{open_free, open_placed}
use Rattle.rtc_run_laws.proofs.PolledSteps.{drain_step_stood, poll_step_stood}
use Rattle.rtc_run_laws.proofs.SidesTold.{side_wrote}
use Rattle.rtc_run_laws.proofs.UseLists.{all_sent, written_carries}
use Rattle.rtc_run_laws.proofs.StepRows.{rollback_rows}
use Rattle.rtc_run_laws.proofs.StepsExchange.{plain_over_laws}
use Rattle.rtc_run_laws.proofs.SidesInOne.{one_wrote}
use Rattle.rtc_run_laws.proofs.WholeUses.{whole_sent}
use Rattle.rtc_run_laws.proofs.StandingSides.{Sent, Stood, call_stood, quiet_stood, rolled_stood, same_stood}

-- a message that is written to a generation of a stream goes to no other
sent_more : (t h s g : ℕ) (binary : Bool) (bytes : List ℕ) (sent : List (Bool × List ℕ))
    → sent ++ contents_of (messages_of s g (stream_message t h (written_ppi binary (is_nil bytes)) bytes ∷ []))
    ≡ (if (t == s) && (h == g) then sent ++ (binary, bytes) ∷ [] else sent)
sent_more t h s g binary bytes sent = by ((t == s) && (h == g)) refl
  where
    by : (b : Bool) → ((t == s) && (h == g)) ≡ b
        → sent ++ contents_of (if b then stream_message t h (written_ppi binary (is_nil bytes)) bytes ∷ [] else [])
        ≡ (if b then sent ++ (binary, bytes) ∷ [] else sent)
    by true e = ap (λ (l : List (Bool × List ℕ)). sent ++ l) (written_carries t h binary bytes)
    by false e = append-nil sent

module _ {N : Type 0} (draws : Draws N) (at : Side) (b : PeerActs) (q : PlainPolled N) (sent : Sent) (told : MessagesTold) where
  heard_stood : (packets packets' : List SentPacket) (input : Input) (uses : List ChannelUse) (p : PlainPolled N) (r : Result (Unit {0}) RtcError)
      (next : PlainPolled N) → packets' ≡ packets → CarriesData (came_by input).dtls (contents_sent (other_side at) packets)
      → HandlesInput (plain_over draws) input p r next → Stood draws at packets b q uses sent told p → Stood draws at packets' b q uses sent told next
  heard_stood packets packets' input uses p r next kept carried h stood =
      quiet_stood draws at packets packets' b q p next (came_by input) (moment_given input ∷ []) uses sent told carried (shows_none at packets packets' kept)
      (input_acts (plain_over draws) plain_laws input p r next h) (input_keeps (plain_over draws) plain_laws input p r next h) stood

  closed_stood : (packets packets' : List SentPacket) (uses : List ChannelUse) (p : PlainPolled N) (r : Result (Unit {0}) RtcError) (next : PlainPolled N)
      → packets' ≡ packets → ClosesPeer (plain_over draws) p r next → Stood draws at packets b q uses sent told p → Stood draws at packets' b q uses sent told next
  closed_stood packets packets' uses p r next kept h stood =
      quiet_stood draws at packets packets' b q p next nothing_came [] uses sent told (none_carries (contents_sent (other_side at) packets))
      (shows_none at packets packets' kept) (close_acts (plain_over draws) nothing_came [] plain_laws p r next h)
      (close_keeps (plain_over draws) plain_laws p r next h) stood

  -- an input or a close
  calls_stood : (call : PlainPolled N → Result (Unit {0}) RtcError → PlainPolled N → Type 0) (packets packets' : List SentPacket) (uses : List ChannelUse)
      → ((p : PlainPolled N) (r : Result (Unit {0}) RtcError) (next : PlainPolled N) → call p r next → Stood draws at packets b q uses sent told p
      → Stood draws at packets' b q uses sent told next)
      → (old : PlainPolled N) (outcome : Outcome PlainMediaEvent) (table : Option Table) (new : PlainPolled N) → packets' ≡ packets
      → StepCalls (plain_over draws) call old outcome table new → Stood draws at packets b q uses sent told old → Stood draws at packets' b q uses sent told new
  calls_stood call packets packets' uses keeps old Alloc None new kept h stood = same_stood draws at packets packets' b q sent told old new uses h kept stood
  calls_stood call packets packets' uses keeps old Done (Some table) new kept h stood = keeps old (Ok tt) new h.0 stood
  calls_stood call packets packets' uses keeps old (Refused error) (Some table) new kept h stood = keeps old (Err error) new h.0 stood
  calls_stood call packets packets' uses keeps old outcome table new kept h stood = absurd h

  -- a call to which nothing came, and that shows and writes nothing
  done_stood : (packets packets' : List SentPacket) (uses : List ChannelUse) (p next : PlainPolled N) → packets' ≡ packets
      → CallActs (plain_over draws) [] p next → CallKeepsStreams (plain_over draws) p [] next → Stood draws at packets b q uses sent told p
      → Stood draws at packets' b q uses sent told next
  done_stood packets packets' uses p next kept did keeps stood =
      quiet_stood draws at packets packets' b q p next nothing_came [] uses sent told (none_carries (contents_sent (other_side at) packets))
      (shows_none at packets packets' kept) did keeps stood

  -- what names a channel that is not open
  none_stood : (packets packets' : List SentPacket) (uses : List ChannelUse) (old : PlainPolled N) (outcome : Outcome PlainMediaEvent)
      (table : Option Table) (new : PlainPolled N) → packets' ≡ packets → FindsNone (plain_over draws) old outcome table new
      → Stood draws at packets b q uses sent told old → Stood draws at packets' b q uses sent told new
  none_stood packets packets' uses old Alloc None new kept h stood = same_stood draws at packets packets' b q sent told old new uses h kept stood
  none_stood packets packets' uses old NoSuch (Some table) new kept h stood = same_stood draws at packets packets' b q sent told old new uses h.0 kept stood
  none_stood packets packets' uses old outcome table new kept h stood = absurd h

  -- writes
  taken_stood : (packets packets' : List SentPacket) (channel stream : ℕ) (binary : Bool) (bytes : List ℕ) (uses : List ChannelUse)
      (p next : PlainPolled N) → packets' ≡ packets → open_stream_under channel p ≡ Some stream
      → WritesChannel (plain_over draws) stream binary bytes p (Ok true) next → Stood draws at packets b q uses sent told p
      → Stood draws at packets' b q (uses_written {E = PlainMediaEvent} channel binary bytes (Wrote true) uses) (λ s g. sent_by_write (plain_over draws) (Some stream) binary bytes (Wrote true) p s g (sent s g)) told next
  taken_stood packets packets' channel stream binary bytes uses p next kept there h stood =
      let did : CallActs (plain_over draws) (message_of_write stream (plain_meaning.generation p.core.sctp.association stream) binary bytes (Ok true)) p next =
      write_acts (plain_over draws) stream binary bytes p (Ok true) next h in
      let keeps = channel_write_keeps (plain_over draws) plain_laws stream binary bytes p (Ok true) next h in
      call_stood draws at packets packets' b q p next nothing_came [] []
      (message_of_write stream (plain_meaning.generation p.core.sctp.association stream) binary bytes (Ok true)) [] uses
      (uses_written {E = PlainMediaEvent} channel binary bytes (Wrote true) uses) sent
      (λ s g. sent_by_write (plain_over draws) (Some stream) binary bytes (Wrote true) p s g (sent s g)) told told
      (none_carries (contents_sent (other_side at) packets)) (shows_none at packets packets' kept) did
      (λ s g. sent_more stream (plain_meaning.generation p.core.sctp.association stream) s g binary bytes (sent s g)) stood
      (side_wrote (plain_over draws) plain_laws plain_generations stream channel binary bytes
      (message_of_write stream (plain_meaning.generation p.core.sctp.association stream) binary bytes (Ok true)) nothing_came [] [] p next uses
      stood.side.written stood.side.read (open_placed channel stream p there) (open_free channel stream p there) h refl
      (write_named stream (plain_meaning.generation p.core.sctp.association stream) binary bytes (Ok 0)) did
      keeps stood.side.told)
      (whole_sent told stood.side.read [] channel (binary, bytes) uses stood.whole)
      (one_wrote (plain_over draws) (plain_over_laws draws) plain_generations
      (message_of_write stream (plain_meaning.generation p.core.sctp.association stream) binary bytes (Ok true)) told channel (binary, bytes) uses p next
      stood.side.told.numbers keeps stood.only)
      (all_sent (λ x. AreRunning plain_meaning p.core.sctp) (λ x. AreRunning plain_meaning next.core.sctp) channel (binary, bytes) uses
      (λ x e k. keeps.running k) (λ x e k. keeps.running k) stood.running)

  open_write_stood : (packets packets' : List SentPacket) (channel stream : ℕ) (binary : Bool) (bytes : List ℕ) (uses : List ChannelUse)
      (old : PlainPolled N) (outcome : Outcome PlainMediaEvent) (table : Option Table) (new : PlainPolled N) → packets' ≡ packets
      → open_stream_under channel old ≡ Some stream → StepWritesOpen (plain_over draws) stream binary bytes old outcome table new
      → Stood draws at packets b q uses sent told old → Stood draws at packets' b q (uses_written channel binary bytes outcome uses) (λ s g. sent_by_write (plain_over draws) (Some stream) binary bytes outcome old s g (sent s g)) told new
  open_write_stood packets packets' channel stream binary bytes uses old Alloc None new kept there h stood =
      same_stood draws at packets packets' b q sent told old new uses h kept stood
  open_write_stood packets packets' channel stream binary bytes uses old (Wrote true) (Some table) new kept there h stood =
      taken_stood packets packets' channel stream binary bytes uses old new kept there h.0 stood
  open_write_stood packets packets' channel stream binary bytes uses old (Wrote false) (Some table) new kept there h stood =
      done_stood packets packets' uses old new kept (write_acts (plain_over draws) stream binary bytes old (Ok false) new h.0)
      (channel_write_keeps (plain_over draws) plain_laws stream binary bytes old (Ok false) new h.0) stood
  open_write_stood packets packets' channel stream binary bytes uses old (Refused error) (Some table) new kept there h stood =
      done_stood packets packets' uses old new kept (write_acts (plain_over draws) stream binary bytes old (Err error) new h.0)
      (channel_write_keeps (plain_over draws) plain_laws stream binary bytes old (Err error) new h.0) stood
  open_write_stood packets packets' channel stream binary bytes uses old outcome table new kept there h stood = absurd h

  unwritten_stood : (packets packets' : List SentPacket) (channel : ℕ) (binary : Bool) (bytes : List ℕ) (uses : List ChannelUse) (old : PlainPolled N)
      (outcome : Outcome PlainMediaEvent) (table : Option Table) (new : PlainPolled N) → packets' ≡ packets
      → FindsNone (plain_over draws) old outcome table new → Stood draws at packets b q uses sent told old
      → Stood draws at packets' b q (uses_written channel binary bytes outcome uses) (λ s g. sent_by_write (plain_over draws) None binary bytes outcome old s g (sent s g)) told new
  unwritten_stood packets packets' channel binary bytes uses old Alloc None new kept h stood =
      same_stood draws at packets packets' b q sent told old new uses h kept stood
  unwritten_stood packets packets' channel binary bytes uses old NoSuch (Some table) new kept h stood =
      same_stood draws at packets packets' b q sent told old new uses h.0 kept stood
  unwritten_stood packets packets' channel binary bytes uses old outcome table new kept h stood = absurd h

  writes_stood : (packets packets' : List SentPacket) (channel : ℕ) (stream : Option ℕ) (binary : Bool) (bytes : List ℕ) (uses : List ChannelUse)
      (old : PlainPolled N) (outcome : Outcome PlainMediaEvent) (table : Option Table) (new : PlainPolled N) → packets' ≡ packets
      → open_stream_under channel old ≡ stream → StepWrites (plain_over draws) stream binary bytes old outcome table new
      → Stood draws at packets b q uses sent told old → Stood draws at packets' b q (uses_written channel binary bytes outcome uses) (λ s g. sent_by_write (plain_over draws) stream binary bytes outcome old s g (sent s g)) told new
  writes_stood packets packets' channel None binary bytes uses old outcome table new kept there h stood =
      unwritten_stood packets packets' channel binary bytes uses old outcome table new kept h stood
  writes_stood packets packets' channel (Some stream) binary bytes uses old outcome table new kept there h stood =
      open_write_stood packets packets' channel stream binary bytes uses old outcome table new kept there h stood

  -- closes of channels
  shut_stood : (packets packets' : List SentPacket) (id : ℕ) (uses : List ChannelUse) → packets' ≡ packets → (p : PlainPolled N)
      (r : Result (Unit {0}) RtcError) (next : PlainPolled N) → ClosesOpenChannel (plain_over draws) id p r next → Stood draws at packets b q uses sent told p
      → Stood draws at packets' b q uses sent told next
  shut_stood packets packets' id uses kept p (Ok done) next h stood =
      done_stood packets packets' uses p next kept (channel_close_acts (plain_over draws) id p (Ok tt) next h)
      (channel_close_keeps (plain_over draws) plain_laws id p (Ok tt) next h) stood
  shut_stood packets packets' id uses kept p (Err PeerAlloc) next h stood =
      done_stood packets packets' uses p next kept (channel_close_acts (plain_over draws) id p (Err alloc_error) next h)
      (channel_close_keeps (plain_over draws) plain_laws id p (Err alloc_error) next h) stood
  shut_stood packets packets' id uses kept p (Err error) next h stood = absurd h

  channel_closes_stood : (packets packets' : List SentPacket) (stream : Option ℕ) (id : ℕ) (uses : List ChannelUse) (old : PlainPolled N)
      (outcome : Outcome PlainMediaEvent) (table : Option Table) (new : PlainPolled N) → packets' ≡ packets
      → StepClosesChannel (plain_over draws) stream id old outcome table new → Stood draws at packets b q uses sent told old → Stood draws at packets' b q uses sent told new
  channel_closes_stood packets packets' None id uses old outcome table new kept h stood =
      none_stood packets packets' uses old outcome table new kept h stood
  channel_closes_stood packets packets' (Some stream) id uses old outcome table new kept h stood =
      calls_stood (ClosesOpenChannel (plain_over draws) id) packets packets' uses
      (λ p r next closes s. shut_stood packets packets' id uses kept p r next closes s) old outcome table new kept h stood

  -- a datagram that the other side sent
  read_stood : (packets packets' : List SentPacket) (kind : Result MultiplexKind NetError) (transmit : Transmit) (now : ℕ) (uses : List ChannelUse)
      → packets' ≡ packets → Member transmit.contents (contents_sent (other_side at) packets) → (p : PlainPolled N) (r : Result (Unit {0}) RtcError)
      (next : PlainPolled N) → HandlesRead (plain_over draws) kind transmit now p r next → Stood draws at packets b q uses sent told p
      → Stood draws at packets' b q uses sent told next
  read_stood packets packets' (Err why) transmit now uses kept there p r next h stood = same_stood draws at packets packets' b q sent told p next uses h.1 kept stood
  read_stood packets packets' (Ok kind) transmit now uses kept there p r next h stood =
      heard_stood packets packets' (given.Receive now h.0) uses p r next kept
      (datagram_carries h.0.contents transmit.contents (contents_sent (other_side at) packets) h.1.bytes there) h.2 stood

  hears_stood : (stun : List ℕ → Bool) (found : Option Transmit) (now : ℕ) (packets packets' : List SentPacket) (uses : List ChannelUse)
      → ((transmit : Transmit) → found ≡ Some transmit → Member transmit.contents (contents_sent (other_side at) packets))
      → (old : PlainPolled N) (outcome : Outcome PlainMediaEvent) (table : Option Table) (new : PlainPolled N) → packets' ≡ packets
      → StepTakesDatagram (plain_over draws) stun found now old outcome table new → Stood draws at packets b q uses sent told old
      → Stood draws at packets' b q uses sent told new
  hears_stood stun None now packets packets' uses there old Alloc None new kept h stood = same_stood draws at packets packets' b q sent told old new uses h kept stood
  hears_stood stun None now packets packets' uses there old NoSuch (Some table) new kept h stood =
      same_stood draws at packets packets' b q sent told old new uses h.0 kept stood
  hears_stood stun None now packets packets' uses there old outcome table new kept h stood = absurd h
  hears_stood stun (Some transmit) now packets packets' uses there old outcome table new kept h stood =
      calls_stood (HandlesRead (plain_over draws) (kind_by stun transmit.contents) transmit now) packets packets' uses
      (λ p r next handles s.
      read_stood packets packets' (kind_by stun transmit.contents) transmit now uses kept (there transmit refl) p r next handles s)
      old outcome table new kept h stood

module _ {N : Type 0} (draws : Draws N) (b : PeerActs) (q : PlainPolled N) where
  -- each step, an arm each
  pub acts_stood : (stun : List ℕ → Bool) (other own : Addr) (step : Step) (old : PlainPolled N) (sdps : List Kept) (packets : List SentPacket)
      (outcome : Outcome PlainMediaEvent) (table : Option Table) (new : PlainPolled N) (sdps' : List Kept) (packets' : List SentPacket)
      (uses : List ChannelUse) (sent : Sent) (told : MessagesTold) → is_native step ≡ true
      → (h : Acts (plain_over draws) stun other own step old sdps packets outcome table new sdps' packets')
      → Stood draws (side_of step) packets b q uses sent told old
      → Stood draws (side_of step) packets' b q (uses_acted (plain_over draws) stun other own step old sdps packets outcome table new sdps' packets' h uses) (λ s g. sent_acted (plain_over draws) step outcome old s g (sent s g))
      (by_step (plain_over draws) (told_shown (plain_over draws)) stun other own step old sdps packets outcome table new sdps' packets' h told) new
  acts_stood stun other own (Negotiate at ops apply) old sdps packets outcome table new sdps' packets' uses sent told go h stood =
      quiet_stood draws at packets packets' b q old new _ _ uses sent told (begun_carries (contents_sent (other_side at) packets))
      (shows_none at packets packets' h.1.packets_kept)
      (negotiates_did (plain_over draws) at ops apply old sdps outcome table new sdps' h.0)
      (negotiates_keep (plain_over draws) at ops apply old sdps outcome table new sdps' h.0) stood
  acts_stood stun other own (AcceptOffer at offer) old sdps packets outcome table new sdps' packets' uses sent told go h stood =
      quiet_stood draws at packets packets' b q old new _ _ uses sent told (begun_carries (contents_sent (other_side at) packets))
      (shows_none at packets packets' h.1.packets_kept)
      (offer_acts (plain_over draws) at (kept_remote_sdp true sdps at offer) old sdps outcome table new sdps' h.0)
      (offer_step_keeps (plain_over draws) plain_laws at (kept_remote_sdp true sdps at offer) old sdps outcome table new sdps' h.0) stood
  acts_stood stun other own (AcceptAnswer at token answer) old sdps packets outcome table new sdps' packets' uses sent told go h stood =
      quiet_stood draws at packets packets' b q old new _ _ uses sent told (begun_carries (contents_sent (other_side at) packets))
      (shows_none at packets packets' h.1.packets_kept)
      (answer_acts (plain_over draws) token (held_token sdps at token) (kept_remote_sdp false sdps at answer) old sdps outcome table new sdps' h.0)
      (answer_step_keeps (plain_over draws) plain_laws token (held_token sdps at token) (kept_remote_sdp false sdps at answer) old sdps outcome table new sdps' h.0)
      stood
  acts_stood stun other own (Time at now) old sdps packets outcome table new sdps' packets' uses sent told go h stood =
      calls_stood draws at b q sent told (HandlesInput (plain_over draws) (given.Timeout now)) packets packets' uses
      (λ p r next handles s.
      heard_stood draws at b q sent told packets packets' (given.Timeout now) uses p r next h.2 (none_carries (contents_sent (other_side at) packets)) handles s)
      old outcome table new h.2 h.0 stood
  acts_stood stun other own (Datagram at packet now) old sdps packets outcome table new sdps' packets' uses sent told go h stood =
      hears_stood draws at b q sent told stun (remote_packet packets at packet) now packets packets' uses (λ transmit is. sent_among at packets packet transmit is)
      old outcome table new h.2 h.0 stood
  acts_stood stun other own (Poll at) old sdps packets outcome table new sdps' packets' uses sent told go h stood =
      poll_step_stood draws at b q sent old packets outcome table new packets' uses told h.0 stood
  acts_stood stun other own (Drain at) old sdps packets outcome table new sdps' packets' uses sent told go h stood =
      drain_step_stood draws at b q sent old packets outcome table new packets' uses told h.0 stood
  acts_stood stun other own (Write at channel binary bytes) old sdps packets outcome table new sdps' packets' uses sent told go h stood =
      writes_stood draws at b q sent told packets packets' channel (open_stream_under channel old) binary bytes uses old outcome table new h.2 refl h.0 stood
  acts_stood stun other own (CloseChannel at channel) old sdps packets outcome table new sdps' packets' uses sent told go h stood =
      channel_closes_stood draws at b q sent told packets packets' (open_stream_under channel old) channel uses old outcome table new h.2 h.0 stood
  acts_stood stun other own (Close at) old sdps packets outcome table new sdps' packets' uses sent told go h stood =
      calls_stood draws at b q sent told (ClosesPeer (plain_over draws)) packets packets' uses
      (λ p r next closes s. closed_stood draws at b q sent told packets packets' uses p r next h.2 closes s) old outcome table new h.2 h.0 stood
  acts_stood stun other own (Rollback at token) old sdps packets outcome table new sdps' packets' uses sent told go h stood =
      rolled_stood draws at packets packets' b q old new _ _ uses sent told (begun_carries (contents_sent (other_side at) packets))
      (shows_none at packets packets' h.1.packets_kept)
      (rollback_acts (plain_over draws) token (held_token sdps at token) old sdps outcome table new sdps' h.0)
      (rollback_leaves (plain_over draws) token (held_token sdps at token) old sdps outcome table new sdps' h.0)
      (rollback_rows (plain_over draws) token (held_token sdps at token) old sdps outcome table new sdps' h.0) stood
  acts_stood stun other own (ForeignOffer at text) old sdps packets outcome table new sdps' packets' uses sent told go h stood = absurd (true≢false (sym go))
  acts_stood stun other own (ForeignAnswer at token text) old sdps packets outcome table new sdps' packets' uses sent told go h stood = absurd (true≢false (sym go))
  acts_stood stun other own (Raw at bytes now) old sdps packets outcome table new sdps' packets' uses sent told go h stood = absurd (true≢false (sym go))
