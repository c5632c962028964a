-- Polls keep what holds of the channels that their side announced.
use Rattle.std.proofs.Common.{◌≡◌, ◌∷◌, List, [], Option, Some, None, Result, Ok, Err}
use Rattle.rtc_assoc_state.proofs.PlainLaws.{plain_laws}
use Rattle.rtc_assoc_state.specs.Contents.{fresh_contents}
use Rattle.rtc_assoc_state.specs.PlainMeaning.{plain_meaning}
use Rattle.rtc_plain_media.specs.declared.plain_media_event.PlainMediaEvent.{PlainMediaEvent}
use Rattle.rtc_parts.specs.Draws.{Draws}
use Rattle.rtc_sctp_laws.specs.StreamUses.{messages_of}
use Rattle.rtc_sctp_laws.specs.Contents.{contents_of}
use Rattle.rtc_sctp_laws.specs.RunningStreams.{AreRunning}
use Rattle.rtc_sctp_laws.proofs.ContentLemmas.{dcep_contents}
use Rattle.rtc_sctp_laws.proofs.PlainGenerations.{plain_generations}
use Rattle.rtc_sctp_laws.proofs.PlainReadings.{plain_named}
use Rattle.rtc_peer_core.specs.declared.rtc_error.RtcError.{RtcError}
use Rattle.rtc_peer_transport.specs.declared.event.Event.TheVariants.{ChannelData, ChannelOpen}
use Rattle.rtc_peer_transport.specs.declared.output.Output.{Output}
use Rattle.rtc_peer_transport.specs.declared.output.Output.TheVariants as polled
use Rattle.rtc_peer_polling.specs.Walk.{PollsPeer}
use Rattle.rtc_peer_laws.specs.Acts.{PollActs, contents_shown}
use Rattle.rtc_peer_laws.specs.PeerActs.{PeerActs, nothing_came}
use Rattle.rtc_peer_laws.proofs.ActedPolls.{poll_acts}
use Rattle.rtc_peer_laws.proofs.JoinedLemmas.{none_carries}
use Rattle.rtc_run_history.specs.declared.outcome.Outcome.{Outcome}
use Rattle.rtc_run_history.specs.declared.outcome.Outcome.TheVariants.{Polled, Alloc}
use Rattle.rtc_run_history.specs.declared.poll_end.PollEnd.{PollEnd}
use Rattle.rtc_run_history.specs.declared.poll_end.PollEnd.TheVariants.{Ended, Refused as EndRefused, NoRoom}
use Rattle.rtc_run_history.specs.declared.sent_packet.SentPacket.{SentPacket}
use Rattle.rtc_run_history.specs.declared.shown.Shown.{Shown}
use Rattle.rtc_run_history.specs.declared.shown.Shown.TheVariants.{Timeout, Packet, Event}
use Rattle.rtc_run_history.specs.declared.side.Side.{Side}
use Rattle.rtc_run_history.specs.declared.table.Table.{Table}
use Rattle.rtc_run_history.specs.Performs.{DrainsOn, DrainsPeer, PollsOnce, PollsShown, StepPollsPeer}
use Rattle.rtc_run_history.specs.Sides.{other_side}
use Rattle.rtc_run_laws.specs.PlainPairs.{PlainPolled, plain_over}
use Rattle.rtc_run_laws.specs.SentContents.{contents_sent}
use Rattle.rtc_run_laws.proofs.ContentsLemmas.{Shows, shows_none, shows_one}
use Rattle.rtc_run_laws.proofs.PlainReads.{IsSoundEnd, fresh_sound, plain_reads}
use Rattle.rtc_run_laws.proofs.StepsExchange.{plain_over_laws}
use Rattle.rtc_run_laws.proofs.ToldInOne.{one_polled}
use Rattle.rtc_run_laws.proofs.ReadVisits.{sound_acts}
use Rattle.rtc_run_laws.specs.ChannelUses.{ChannelUse, announced_use, uses_shown}
use Rattle.rtc_run_laws.specs.PollsOfRuns.{by_drain, by_drain_step, by_poll, by_poll_step, by_polls}
use Rattle.rtc_run_laws.specs.ToldMessages.{MessagesTold, told_shown}
use Rattle.rtc_run_laws.proofs.AnnouncedStreams.{uses_answered}
use Rattle.rtc_run_laws.proofs.SidesTold.{side_polled}
use Rattle.rtc_run_laws.proofs.UseLists.{AllUses, all_got, all_kept, all_more}
use Rattle.rtc_run_laws.proofs.StandingSides.{Sent, Stood, call_stood, nothing_sent, same_stood}
use Rattle.rtc_run_laws.proofs.WholePolled.{told_answered, whole_polled}

module _ {N : Type 0} (draws : Draws N) (at : Side) (b : PeerActs) (q : PlainPolled N) (sent : Sent) where
  -- a channel is announced over an association that runs, which does so still after each poll
  polled_running : (answer : Result (Output PlainMediaEvent) RtcError) (p next : PlainPolled N) (uses : List ChannelUse) → PollActs (plain_over draws) p answer next
      → AllUses (λ x. AreRunning plain_meaning p.core.sctp) uses
      → AllUses (λ x. AreRunning plain_meaning next.core.sctp) (uses_answered (plain_over draws) answer next uses)
  polled_running (Ok (polled.Event (ChannelOpen id label))) p next uses acts h =
      all_more (λ x. AreRunning plain_meaning next.core.sctp) uses (announced_use (plain_over draws) id next)
      (all_kept (λ x. AreRunning plain_meaning p.core.sctp) (λ x. AreRunning plain_meaning next.core.sctp) uses (λ x k. acts.streams.running plain_laws k) h)
      acts.streams.opens.running
  polled_running (Ok (polled.Event (ChannelData message))) p next uses acts h =
      all_got (λ x. AreRunning plain_meaning p.core.sctp) (λ x. AreRunning plain_meaning next.core.sctp) message.id (message.binary, message.bytes) uses
      (λ x e k. acts.streams.running plain_laws k) (λ x e k. acts.streams.running plain_laws k) h
  polled_running (Ok (polled.Event event)) p next uses acts h =
      all_kept (λ x. AreRunning plain_meaning p.core.sctp) (λ x. AreRunning plain_meaning next.core.sctp) uses (λ x k. acts.streams.running plain_laws k) h
  polled_running (Ok (polled.Transmit transmit)) p next uses acts h =
      all_kept (λ x. AreRunning plain_meaning p.core.sctp) (λ x. AreRunning plain_meaning next.core.sctp) uses (λ x k. acts.streams.running plain_laws k) h
  polled_running (Ok (polled.Timeout moment)) p next uses acts h =
      all_kept (λ x. AreRunning plain_meaning p.core.sctp) (λ x. AreRunning plain_meaning next.core.sctp) uses (λ x k. acts.streams.running plain_laws k) h
  polled_running (Err error) p next uses acts h =
      all_kept (λ x. AreRunning plain_meaning p.core.sctp) (λ x. AreRunning plain_meaning next.core.sctp) uses (λ x k. acts.streams.running plain_laws k) h

  -- polls
  polled_stood : (packets packets' : List SentPacket) (uses : List ChannelUse) (told : MessagesTold) (p : PlainPolled N) (answer : Result (Output PlainMediaEvent) RtcError)
      (next : PlainPolled N) → Shows at packets packets' (contents_shown answer) → PollsPeer (plain_over draws) p answer next
      → Stood draws at packets b q uses sent told p → Stood draws at packets' b q (uses_answered (plain_over draws) answer next uses) sent (told_answered (plain_over draws) answer next told) next
  polled_stood packets packets' uses told p answer next shows h stood =
      let acts = poll_acts (plain_over draws) (plain_over_laws draws) p answer next h in
      call_stood draws at packets packets' b q p next nothing_came (p.core.greatest ∷ []) (contents_shown answer) acts.wrote acts.heard uses
      (uses_answered (plain_over draws) answer next uses) sent sent told (told_answered (plain_over draws) answer next told) (none_carries (contents_sent (other_side at) packets)) shows acts.did
      (λ s g. nothing_sent (sent s g) (contents_of (messages_of s g acts.wrote)) (dcep_contents s g acts.wrote acts.dcep)) stood
      (side_polled (plain_over draws) plain_laws plain_generations plain_named (plain_over_laws draws) p answer next h acts uses stood.side.written stood.side.read stood.side.told)
      (whole_polled (plain_over draws) plain_laws plain_generations p answer next h acts uses stood.side.written stood.side.read told stood.side.told stood.whole)
      (one_polled (plain_over draws) (plain_over_laws draws) plain_generations IsSoundEnd plain_reads p answer next h acts uses stood.side.written
      stood.side.read told stood.side.told
      (sound_acts plain_meaning plain_laws plain_generations IsSoundEnd plain_reads stood.acts.association fresh_contents p.core.sctp.association
      stood.side.went fresh_sound) stood.only)
      (polled_running answer p next uses acts stood.running)

  pub shown_stood : (packets : List SentPacket) (shown : Shown PlainMediaEvent) (packets' : List SentPacket) (uses : List ChannelUse) (told : MessagesTold) (p next : PlainPolled N)
      → PollsShown (plain_over draws) at p packets shown next packets' → Stood draws at packets b q uses sent told p
      → Stood draws at packets' b q (uses_shown (plain_over draws) shown next uses) sent (told_shown (plain_over draws) shown next told) next
  shown_stood packets (Timeout moment reason) packets' uses told p next h stood =
      polled_stood packets packets' uses told p (Ok (polled.Timeout moment)) next (shows_none at packets packets' h.2) h.0 stood
  shown_stood packets (Packet number len) packets' uses told p next h stood =
      polled_stood packets packets' uses told p (Ok (polled.Transmit h.0)) next (shows_one at packets packets' h.0 h.4) h.1 stood
  shown_stood packets (Event event) packets' uses told p next h stood =
      polled_stood packets packets' uses told p (Ok (polled.Event event)) next (shows_none at packets packets' h.1) h.0 stood

  refused_stood : (packets packets' : List SentPacket) (uses : List ChannelUse) (told : MessagesTold) (p : PlainPolled N) (error : RtcError) (next : PlainPolled N)
      → packets' ≡ packets → PollsPeer (plain_over draws) p (Err error) next → Stood draws at packets b q uses sent told p → Stood draws at packets' b q uses sent told next
  refused_stood packets packets' uses told p error next kept h stood =
      polled_stood packets packets' uses told p (Err error) next (shows_none at packets packets' kept) h stood

  once_stood : (p : PlainPolled N) (packets : List SentPacket) (outputs : List (Shown PlainMediaEvent)) (end : PollEnd) (next : PlainPolled N)
      (packets' : List SentPacket) (uses : List ChannelUse) (told : MessagesTold) → PollsOnce (plain_over draws) at p packets outputs end next packets'
      → Stood draws at packets b q uses sent told p → Stood draws at packets' b q (by_poll (plain_over draws) (uses_shown (plain_over draws)) outputs next uses) sent
      (by_poll (plain_over draws) (told_shown (plain_over draws)) outputs next told) next
  once_stood p packets (shown ∷ []) Ended next packets' uses told h stood = shown_stood packets shown packets' uses told p next h stood
  once_stood p packets [] (EndRefused error) next packets' uses told h stood = refused_stood packets packets' uses told p error next h.1 h.0 stood
  once_stood p packets outputs end next packets' uses told h stood = absurd h

  drains_on_stood : (p : PlainPolled N) (packets : List SentPacket) (outputs : List (Shown PlainMediaEvent)) (end : PollEnd) (next : PlainPolled N)
      (packets' : List SentPacket) (uses : List ChannelUse) (told : MessagesTold) (h : DrainsOn (plain_over draws) at p packets outputs end next packets')
      → Stood draws at packets b q uses sent told p
      → Stood draws at packets' b q (by_polls (plain_over draws) (uses_shown (plain_over draws)) at p packets outputs end next packets' h uses) sent
      (by_polls (plain_over draws) (told_shown (plain_over draws)) at p packets outputs end next packets' h told) next
  drains_on_stood p packets [] Ended next packets' uses told h stood = absurd h
  drains_on_stood p packets [] (EndRefused error) next packets' uses told h stood = refused_stood packets packets' uses told p error next h.1 h.0 stood
  drains_on_stood p packets [] NoRoom next packets' uses told h stood = same_stood draws at packets packets' b q sent told p next uses h.0 h.1 stood
  drains_on_stood p packets (Timeout moment reason ∷ []) Ended next packets' uses told h stood =
      shown_stood packets (Timeout moment reason) packets' uses told p next h stood
  drains_on_stood p packets (Timeout moment reason ∷ outputs) end next packets' uses told h stood = absurd h
  drains_on_stood p packets (Packet number len ∷ outputs) end next packets' uses told h stood =
      drains_on_stood h.0 h.1 outputs end next packets' uses told h.3 (shown_stood packets (Packet number len) h.1 uses told p h.0 h.2 stood)
  drains_on_stood p packets (Event event ∷ outputs) end next packets' uses told h stood =
      drains_on_stood h.0 h.1 outputs end next packets' (uses_shown (plain_over draws) (Event event) h.0 uses)
      (told_shown (plain_over draws) (Event event) h.0 told) h.3 (shown_stood packets (Event event) h.1 uses told p h.0 h.2 stood)

  drawn_stood : (p : PlainPolled N) (packets : List SentPacket) (outputs : List (Shown PlainMediaEvent)) (end : PollEnd) (next : PlainPolled N)
      (packets' : List SentPacket) (uses : List ChannelUse) (told : MessagesTold) (h : DrainsPeer (plain_over draws) at p packets outputs end next packets')
      → Stood draws at packets b q uses sent told p
      → Stood draws at packets' b q (by_drain (plain_over draws) (uses_shown (plain_over draws)) at p packets outputs end next packets' h uses) sent
      (by_drain (plain_over draws) (told_shown (plain_over draws)) at p packets outputs end next packets' h told) next
  drawn_stood p packets [] NoRoom next packets' uses told h stood = absurd h
  drawn_stood p packets [] Ended next packets' uses told h stood = drains_on_stood p packets [] Ended next packets' uses told h stood
  drawn_stood p packets [] (EndRefused error) next packets' uses told h stood = drains_on_stood p packets [] (EndRefused error) next packets' uses told h stood
  drawn_stood p packets (shown ∷ outputs) end next packets' uses told h stood = drains_on_stood p packets (shown ∷ outputs) end next packets' uses told h stood

  pub poll_step_stood : (old : PlainPolled N) (packets : List SentPacket) (outcome : Outcome PlainMediaEvent) (table : Option Table) (new : PlainPolled N)
      (packets' : List SentPacket) (uses : List ChannelUse) (told : MessagesTold)
      → StepPollsPeer (plain_over draws) (PollsOnce (plain_over draws) at old) old packets outcome table new packets' → Stood draws at packets b q uses sent told old
      → Stood draws at packets' b q (by_poll_step (plain_over draws) (uses_shown (plain_over draws)) outcome new uses) sent
      (by_poll_step (plain_over draws) (told_shown (plain_over draws)) outcome new told) new
  poll_step_stood old packets Alloc None new packets' uses told h stood = same_stood draws at packets packets' b q sent told old new uses h.0 h.1 stood
  poll_step_stood old packets (Polled outputs end) (Some table) new packets' uses told h stood = once_stood old packets outputs end new packets' uses told h.0 stood
  poll_step_stood old packets outcome table new packets' uses told h stood = absurd h

  pub drain_step_stood : (old : PlainPolled N) (packets : List SentPacket) (outcome : Outcome PlainMediaEvent) (table : Option Table) (new : PlainPolled N)
      (packets' : List SentPacket) (uses : List ChannelUse) (told : MessagesTold)
      (h : StepPollsPeer (plain_over draws) (DrainsPeer (plain_over draws) at old) old packets outcome table new packets')
      → Stood draws at packets b q uses sent told old
      → Stood draws at packets' b q (by_drain_step (plain_over draws) (uses_shown (plain_over draws)) at old packets outcome table new packets' h uses) sent
      (by_drain_step (plain_over draws) (told_shown (plain_over draws)) at old packets outcome table new packets' h told) new
  drain_step_stood old packets Alloc None new packets' uses told h stood = same_stood draws at packets packets' b q sent told old new uses h.0 h.1 stood
  drain_step_stood old packets (Polled outputs end) (Some table) new packets' uses told h stood =
      drawn_stood old packets outputs end new packets' uses told h.0 stood
  drain_step_stood old packets outcome table new packets' uses told h stood = absurd h
