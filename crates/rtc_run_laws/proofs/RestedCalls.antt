-- Calls, and polls that are not known to have ended in a timeout, keep what holds of a side that rests.
use Rattle.std.proofs.Common.{◌≡◌, ◌⊎◌, ◌∷◌, ℕ, Bool, true, false, List, [], Option, Some, None, Result, Ok, Err, alloc_error, inl, inr}
use Rattle.rtc_parts.specs.Among.{Member}
use Rattle.rtc_assoc_state.proofs.PlainLaws.{plain_laws}
use Rattle.rtc_assoc_state.specs.PlainMeaning.{plain_meaning}
use Rattle.rtc_plain_media.specs.declared.plain_media_event.PlainMediaEvent.{PlainMediaEvent}
use Rattle.rtc_parts.specs.Draws.{Draws}
use Rattle.rtc_sctp_laws.specs.StreamMessages.{StreamMessage}
use Rattle.rtc_peer_core.specs.declared.rtc_error.RtcError.{RtcError}
use Rattle.rtc_peer_core.specs.declared.rtc_error.RtcError.TheVariants.{Alloc as PeerAlloc}
use Rattle.rtc_peer_transport.specs.declared.event.Event.{Event}
use Rattle.rtc_peer_transport.specs.declared.event.Event.TheVariants.{ChannelOpen, ChannelData}
use Rattle.rtc_peer_transport.specs.declared.output.Output.{Output}
use Rattle.rtc_peer_transport.specs.declared.output.Output.TheVariants as polled
use Rattle.rtc_peer_transport.specs.ChannelCalls.{WritesChannel}
use Rattle.rtc_peer_transport.specs.Closing.{ClosesPeer}
use Rattle.rtc_peer_polling.specs.Walk.{PollsPeer}
use Rattle.rtc_peer_core.specs.declared.phase.Phase.TheVariants.{Closed}
use Rattle.rtc_peer_laws.specs.RowsChanged.{RowsChanged}
use Rattle.rtc_peer_laws.specs.Acts.{PeerDid, begun_here, contents_shown, message_of_write}
use Rattle.rtc_peer_laws.specs.PeerActs.{Came, nothing_came}
use Rattle.rtc_peer_laws.proofs.ActedClosing.{close_acts}
use Rattle.rtc_peer_laws.proofs.ActedInputs.{channel_close_acts, write_acts}
use Rattle.rtc_peer_laws.proofs.ActedPolls.{poll_acts}
use Rattle.rtc_peer_laws.specs.KeptChannels.{CallKeepsStreams}
use Rattle.rtc_peer_laws.proofs.KeptPeers.{channel_close_keeps, channel_write_keeps, close_keeps}
use Rattle.rtc_run_history.specs.declared.outcome.Outcome.{Outcome}
use Rattle.rtc_run_history.specs.declared.outcome.Outcome.TheVariants.{Done, Wrote, Refused, NoSuch, Alloc}
use Rattle.rtc_run_history.specs.declared.table.Table.{Table}
use Rattle.rtc_run_history.specs.CallReplies.{ClosesOpenChannel, FindsNone, StepCalls, StepClosesChannel, StepWrites, StepWritesOpen}
use Rattle.rtc_run_laws.specs.PlainPairs.{PlainPolled, plain_over}
use Rattle.rtc_run_laws.proofs.StepsExchange.{plain_over_laws}
use Rattle.rtc_run_laws.specs.ChannelUses.{ChannelUse, announced_use, uses_told}
use Rattle.rtc_run_laws.specs.UsesOfRuns.{uses_written}
use Rattle.rtc_run_laws.proofs.RestedSides.{GoesOn, RestsSide, rests_got, rests_kept, rests_more, rests_same, rests_sent}
use Rattle.rtc_run_laws.proofs.RowLemmas.{closed_stays}
use Rattle.rtc_run_laws.proofs.OpenedRests.{opened_rests}
use Rattle.rtc_run_laws.proofs.ShutRows.{rows_shut}
use Rattle.rtc_run_laws.proofs.UnestablishedRows.{rows_unestablish}
use Rattle.rtc_run_laws.proofs.SidesTold.{SideTold}
use Rattle.rtc_run_laws.proofs.StepRows.{poll_rows}

-- a packet of no bytes alone
pub begun_empty : (x : List ℕ) → Member x begun_here.dtls → x ≡ []
begun_empty x (inl e) = e
begun_empty x (inr k) = absurd k

module _ {N : Type 0} (draws : Draws N) where
  -- by the changes of channels and of their entries
  pub goes_by : (p next : PlainPolled N)
      → (next.core.phase ≡ Closed) ⊎ RowsChanged plain_meaning p.core.channels p.core.sctp next.core.channels next.core.sctp
      → (next.core.phase ≡ Closed) ⊎ GoesOn p next
  goes_by p next (inl closed) = inl closed
  goes_by p next (inr changed) =
      inr (
        (λ s. rows_shut s p.core.channels p.core.sctp next.core.channels next.core.sctp changed),
        rows_unestablish p.core.channels p.core.sctp next.core.channels next.core.sctp changed,
      )

  -- a poll that is not known to have ended in a timeout
  pub poll_rests : (p : PlainPolled N) (answer : Result (Output PlainMediaEvent) RtcError) (next : PlainPolled N) (uses : List ChannelUse)
      → PollsPeer (plain_over draws) p answer next → RestsSide uses p → RestsSide uses next
  poll_rests p answer next uses h rests =
      let acts = poll_acts (plain_over draws) (plain_over_laws draws) p answer next h in
      rests_kept draws nothing_came (p.core.greatest ∷ []) (contents_shown answer) acts.wrote acts.heard p next uses acts.did (λ x k. absurd k)
      acts.streams.gone (λ closed. (closed_stays (plain_over draws) p answer next closed h).1)
      (goes_by p next (poll_rows (plain_over draws) (plain_over_laws draws) p answer next h).changed) rests

  pub event_rests : (event : Event PlainMediaEvent) (p next : PlainPolled N) (uses : List ChannelUse) (written read : List StreamMessage)
      → PollsPeer (plain_over draws) p (Ok (polled.Event event)) next → SideTold (plain_over draws) uses written read p → RestsSide uses p
      → RestsSide (uses_told (plain_over draws) event next uses) next
  event_rests (ChannelOpen id label) p next uses written read h told rests =
      rests_more (announced_use (plain_over draws) id next) uses next (λ k. opened_rests draws p next id label uses written read h told k)
      (poll_rests p (Ok (polled.Event (ChannelOpen id label))) next uses h rests)
  event_rests (ChannelData message) p next uses written read h told rests =
      rests_got message.id (message.binary, message.bytes) uses next (poll_rests p (Ok (polled.Event (ChannelData message))) next uses h rests)
  event_rests event p next uses written read h told rests = poll_rests p (Ok (polled.Event event)) next uses h rests

  -- a call
  pub call_rests : (came : Came) (moments : List ℕ) (shown : List (List ℕ)) (wrote : List StreamMessage) (p next : PlainPolled N) (uses : List ChannelUse)
      → PeerDid (plain_over draws) came moments shown wrote [] p next → CallKeepsStreams (plain_over draws) p wrote next
      → ((x : List ℕ) → Member x came.dtls → x ≡ []) → RestsSide uses p → RestsSide uses next
  call_rests came moments shown wrote p next uses did keeps empty k =
      rests_kept draws came moments shown wrote [] p next uses did empty keeps.gone keeps.closed (goes_by p next keeps.changed) k

  pub quiet_rests : (wrote : List StreamMessage) (p next : PlainPolled N) (uses : List ChannelUse) → PeerDid (plain_over draws) nothing_came [] [] wrote [] p next
      → CallKeepsStreams (plain_over draws) p wrote next → RestsSide uses p → RestsSide uses next
  quiet_rests wrote p next uses did keeps k = call_rests nothing_came [] [] wrote p next uses did keeps (λ x k. absurd k) k

  -- ---- writes and closes

  pub none_rests : (uses : List ChannelUse) (old : PlainPolled N) (outcome : Outcome PlainMediaEvent) (table : Option Table) (new : PlainPolled N)
      → FindsNone (plain_over draws) old outcome table new → RestsSide uses old → RestsSide uses new
  none_rests uses old Alloc None new h k = rests_same uses old new h k
  none_rests uses old NoSuch (Some table) new h k = rests_same uses old new h.0 k
  none_rests uses old outcome table new h k = absurd h

  pub unwritten_rests : (channel : ℕ) (binary : Bool) (bytes : List ℕ) (uses : List ChannelUse) (old : PlainPolled N) (outcome : Outcome PlainMediaEvent)
      (table : Option Table) (new : PlainPolled N) → FindsNone (plain_over draws) old outcome table new → RestsSide uses old
      → RestsSide (uses_written channel binary bytes outcome uses) new
  unwritten_rests channel binary bytes uses old Alloc None new h k = rests_same uses old new h k
  unwritten_rests channel binary bytes uses old NoSuch (Some table) new h k = rests_same uses old new h.0 k
  unwritten_rests channel binary bytes uses old outcome table new h k = absurd h

  pub wrote_rests : (stream : ℕ) (binary : Bool) (bytes : List ℕ) (uses : List ChannelUse) (old : PlainPolled N) (answer : Result Bool RtcError)
      (new : PlainPolled N) → WritesChannel (plain_over draws) stream binary bytes old answer new → RestsSide uses old → RestsSide uses new
  wrote_rests stream binary bytes uses old answer new h k =
      quiet_rests (message_of_write stream (plain_meaning.generation old.core.sctp.association stream) binary bytes answer) old new uses
      (write_acts (plain_over draws) stream binary bytes old answer new h)
      (channel_write_keeps (plain_over draws) plain_laws stream binary bytes old answer new h) k

  pub open_write_rests : (channel stream : ℕ) (binary : Bool) (bytes : List ℕ) (uses : List ChannelUse) (old : PlainPolled N)
      (outcome : Outcome PlainMediaEvent) (table : Option Table) (new : PlainPolled N) → StepWritesOpen (plain_over draws) stream binary bytes old outcome table new
      → RestsSide uses old → RestsSide (uses_written channel binary bytes outcome uses) new
  open_write_rests channel stream binary bytes uses old Alloc None new h k = rests_same uses old new h k
  open_write_rests channel stream binary bytes uses old (Wrote true) (Some table) new h k =
      rests_sent channel (binary, bytes) uses new (wrote_rests stream binary bytes uses old (Ok true) new h.0 k)
  open_write_rests channel stream binary bytes uses old (Wrote false) (Some table) new h k =
      wrote_rests stream binary bytes uses old (Ok false) new h.0 k
  open_write_rests channel stream binary bytes uses old (Refused error) (Some table) new h k =
      wrote_rests stream binary bytes uses old (Err error) new h.0 k
  open_write_rests channel stream binary bytes uses old outcome table new h k = absurd h

  pub writes_rests : (channel : ℕ) (stream : Option ℕ) (binary : Bool) (bytes : List ℕ) (uses : List ChannelUse) (old : PlainPolled N)
      (outcome : Outcome PlainMediaEvent) (table : Option Table) (new : PlainPolled N) → StepWrites (plain_over draws) stream binary bytes old outcome table new
      → RestsSide uses old → RestsSide (uses_written channel binary bytes outcome uses) new
  writes_rests channel None binary bytes uses old outcome table new h k = unwritten_rests channel binary bytes uses old outcome table new h k
  writes_rests channel (Some stream) binary bytes uses old outcome table new h k =
      open_write_rests channel stream binary bytes uses old outcome table new h k

  pub calls_rests : (call : PlainPolled N → Result (Unit {0}) RtcError → PlainPolled N → Type 0) (uses : List ChannelUse)
      → ((p : PlainPolled N) (r : Result (Unit {0}) RtcError) (next : PlainPolled N) → call p r next → RestsSide uses p → RestsSide uses next)
      → (old : PlainPolled N) (outcome : Outcome PlainMediaEvent) (table : Option Table) (new : PlainPolled N)
      → StepCalls (plain_over draws) call old outcome table new → RestsSide uses old → RestsSide uses new
  calls_rests call uses keeps old Alloc None new h k = rests_same uses old new h k
  calls_rests call uses keeps old Done (Some table) new h k = keeps old (Ok tt) new h.0 k
  calls_rests call uses keeps old (Refused error) (Some table) new h k = keeps old (Err error) new h.0 k
  calls_rests call uses keeps old outcome table new h k = absurd h

  pub shut_rests : (id : ℕ) (uses : List ChannelUse) (p : PlainPolled N) (r : Result (Unit {0}) RtcError) (next : PlainPolled N)
      → ClosesOpenChannel (plain_over draws) id p r next → RestsSide uses p → RestsSide uses next
  shut_rests id uses p (Ok done) next h k =
      quiet_rests [] p next uses (channel_close_acts (plain_over draws) id p (Ok tt) next h) (channel_close_keeps (plain_over draws) plain_laws id p (Ok tt) next h) k
  shut_rests id uses p (Err PeerAlloc) next h k =
      quiet_rests [] p next uses (channel_close_acts (plain_over draws) id p (Err alloc_error) next h)
      (channel_close_keeps (plain_over draws) plain_laws id p (Err alloc_error) next h) k
  shut_rests id uses p (Err error) next h k = absurd h

  pub channel_closes_rests : (stream : Option ℕ) (id : ℕ) (uses : List ChannelUse) (old : PlainPolled N) (outcome : Outcome PlainMediaEvent)
      (table : Option Table) (new : PlainPolled N) → StepClosesChannel (plain_over draws) stream id old outcome table new → RestsSide uses old
      → RestsSide uses new
  channel_closes_rests None id uses old outcome table new h k = none_rests uses old outcome table new h k
  channel_closes_rests (Some stream) id uses old outcome table new h k =
      calls_rests (ClosesOpenChannel (plain_over draws) id) uses (λ p r next closes k. shut_rests id uses p r next closes k) old outcome table new h k

  pub closed_rests : (uses : List ChannelUse) (p : PlainPolled N) (r : Result (Unit {0}) RtcError) (next : PlainPolled N) → ClosesPeer (plain_over draws) p r next
      → RestsSide uses p → RestsSide uses next
  closed_rests uses p r next h k =
      quiet_rests [] p next uses (close_acts (plain_over draws) nothing_came [] plain_laws p r next h) (close_keeps (plain_over draws) plain_laws p r next h) k
