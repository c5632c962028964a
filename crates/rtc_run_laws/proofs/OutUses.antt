-- A channel that was announced and not opened in-band has no row any more, or its stream was settled by other means than messages: by each step.
use Rattle.std.proofs.Common.{◌≡◌, ◌⊎◌, inl, inr, ◌∷◌, ◌++◌, ℕ, Bool, true, false, true≢false, List, [], Option, Some, None, Ok, Err, sym, ap, subst}
use Rattle.rtc_wire.specs.declared.addr.Addr.{Addr}
use Rattle.rtc_sctp_entries.specs.declared.stream_entry.StreamEntry.{StreamEntry}
use Rattle.rtc_sctp_entries.specs.Entries.{Ascend}
use Rattle.rtc_sctp.specs.Streams.{SctpStreams}
use Rattle.rtc_channels.specs.Channels.{Channels}
use Rattle.rtc_channels.specs.Holds.{all_cancelled}
use Rattle.rtc_peer_core.specs.declared.phase.Phase.TheVariants.{Closed}
use Rattle.rtc_peer_core.specs.declared.rtc_error.RtcError.{RtcError}
use Rattle.rtc_peer_core.specs.declared.rtc_error.RtcError.TheVariants.{Alloc as PeerAlloc}
use Rattle.rtc_peer_core.specs.Meanings.{Meanings, PartsLaws}
use Rattle.rtc_peer_transport.specs.declared.event.Event.{Event}
use Rattle.rtc_peer_transport.specs.declared.event.Event.TheVariants.{ChannelOpen, ChannelData}
use Rattle.rtc_peer_transport.specs.declared.output.Output.{Output}
use Rattle.rtc_peer_transport.specs.declared.output.Output.TheVariants as polled
use Rattle.rtc_peer_transport.specs.declared.polled_peer.PolledPeer.{PolledPeer}
use Rattle.rtc_peer_polling.specs.Walk.{PollsPeer}
use Rattle.rtc_peer_laws.specs.ChannelStreams.{UnlessLacking}
use Rattle.rtc_peer_laws.specs.RowsChanged.{RowsChanged, RowsPolled}
use Rattle.rtc_peer_laws.proofs.ActedPolls.{poll_acts}
use Rattle.rtc_peer_laws.proofs.PolledRows.{polled_changes}
use Rattle.rtc_run_history.specs.declared.kept.Kept.{Kept}
use Rattle.rtc_run_history.specs.declared.outcome.Outcome.{Outcome}
use Rattle.rtc_run_history.specs.declared.outcome.Outcome.TheVariants.{Polled, Wrote, Alloc}
use Rattle.rtc_run_history.specs.declared.poll_end.PollEnd.{PollEnd}
use Rattle.rtc_run_history.specs.declared.poll_end.PollEnd.TheVariants.{Ended, Refused as EndRefused, NoRoom}
use Rattle.rtc_run_history.specs.declared.sent_packet.SentPacket.{SentPacket}
use Rattle.rtc_run_history.specs.declared.shown.Shown.{Shown}
use Rattle.rtc_run_history.specs.declared.shown.Shown.TheVariants as shows
use Rattle.rtc_run_history.specs.declared.side.Side.{Side}
use Rattle.rtc_run_history.specs.declared.step.Step.{Step}
use Rattle.rtc_run_history.specs.declared.step.Step.TheVariants.{Poll, Drain, Write, Rollback}
use Rattle.rtc_run_history.specs.declared.table.Table.{Table}
use Rattle.rtc_run_history.specs.Memory.{end_lacks, error_lacks, outcome_lacks}
use Rattle.rtc_run_history.specs.Native.{is_native}
use Rattle.rtc_run_history.specs.PairState.{held_token}
use Rattle.rtc_run_history.specs.Performs.{Acts, DrainsOn, DrainsPeer, PollsOnce, StepPollsPeer}
use Rattle.rtc_run_laws.specs.ChannelUses.{ChannelUse, announced_use, uses_shown, uses_told}
use Rattle.rtc_run_laws.specs.PollsOfRuns.{by_drain, by_drain_step, by_poll, by_poll_step, by_polls}
use Rattle.rtc_run_laws.specs.UsesOfRuns.{uses_acted, uses_written}
use Rattle.rtc_run_laws.proofs.BegunRows.{AreSound}
use Rattle.rtc_run_laws.proofs.CancelledSides.{sound_cancelled}
use Rattle.rtc_run_laws.proofs.OpenedRows.{changed_begun}
use Rattle.rtc_run_laws.proofs.OutEntries.{announced_out}
use Rattle.rtc_run_laws.proofs.OutRows.{IsOutChannel, changed_out, out_cancelled}
use Rattle.rtc_run_laws.proofs.StepRows.{RowsCancelled, StepChanges, acts_rows, rollback_rows}
use Rattle.rtc_run_laws.proofs.UseLists.{AllUses, all_got, all_kept, all_more, all_rolled, all_sent}

module _ {I D S M E X T W N : Type 0} (m : Meanings I D S M E X T W N) where
  abbrev pub IsOutUse : PolledPeer I D S M N → ChannelUse → Type 0
  IsOutUse p x = x.in_band ≡ false → IsOutChannel x.channel p.core.channels p.core.sctp.entries

  -- each channel that was announced, and not opened in-band
  pub record OutSound (p : PolledPeer I D S M N) (uses : List ChannelUse) : Type 0 where
    pub sound : AreSound p.core.channels p.core.sctp
    pub ordered : Ascend p.core.sctp.entries
    pub each : AllUses (IsOutUse p) uses

  -- a closed peer announces nothing
  abbrev pub SideOut : PolledPeer I D S M N → List ChannelUse → Type 0
  SideOut p uses = (p.core.phase ≡ Closed) ⊎ OutSound p uses

  -- ---- calls

  written_each : (P : ChannelUse → Type 0) → ((x : ChannelUse) (message : Bool × List ℕ) → P x → P (record x { sent = x.sent ++ message ∷ [] }))
      → (c : ℕ) (binary : Bool) (bytes : List ℕ) (outcome : Outcome E) (uses : List ChannelUse) → AllUses P uses
      → AllUses P (uses_written c binary bytes outcome uses)
  written_each P keeps c binary bytes (Wrote true) uses h =
      all_sent P P c (binary, bytes) uses (λ x e k. keeps x (binary, bytes) k) (λ x e k. k) h
  written_each P keeps c binary bytes (Wrote false) uses h = h
  written_each P keeps c binary bytes outcome uses h = h

  module _ (laws : PartsLaws m) where
    changed_on : (p q : PolledPeer I D S M N) (uses : List ChannelUse)
        → RowsChanged m.association p.core.channels p.core.sctp q.core.channels q.core.sctp → OutSound p uses → OutSound q uses
    changed_on p q uses h k =
        let goes = changed_out m.association laws.association p.core.channels p.core.sctp q.core.channels q.core.sctp h k.sound in
        record {
          sound = (changed_begun m.association laws.association 0 p.core.channels p.core.sctp q.core.channels q.core.sctp h).sound k.sound;
          ordered = goes.ordered k.ordered;
          each = all_kept (IsOutUse p) (IsOutUse q) uses (λ x out band. goes.outs x.channel (out band)) k.each;
        }

    cancelled_on : (p q : PolledPeer I D S M N) (uses : List ChannelUse) → RowsCancelled m p q → OutSound p uses → OutSound q uses
    cancelled_on p q uses h k =
        let entries : q.core.sctp.entries ≡ p.core.sctp.entries = ap (λ (x : SctpStreams S). x.entries) h.sctp in
        record {
          sound = sound_cancelled h.channels p.core.channels q.core.channels p.core.sctp q.core.sctp h.cancelled h.sctp k.sound;
          ordered = subst (λ (l : List StreamEntry). Ascend l) (sym entries) k.ordered;
          each = all_kept (IsOutUse p) (IsOutUse q) uses
              (λ x out band.
              subst (λ (held : Channels). IsOutChannel x.channel held q.core.sctp.entries) (sym h.cancelled)
              (subst (λ (l : List StreamEntry). IsOutChannel x.channel (all_cancelled h.channels p.core.channels) l) (sym entries)
              (out_cancelled x.channel h.channels p.core.channels p.core.sctp.entries k.sound.numbers (out band))))
              k.each;
        }

    changes_on : (p q : PolledPeer I D S M N) (uses : List ChannelUse) → StepChanges m p q → OutSound p uses → SideOut q uses
    changes_on p q uses (inr h) k = inr (cancelled_on p q uses h k)
    changes_on p q uses (inl h) k = by h.changed
      where
        by : (q.core.phase ≡ Closed) ⊎ RowsChanged m.association p.core.channels p.core.sctp q.core.channels q.core.sctp → SideOut q uses
        by (inl closed) = inl closed
        by (inr changed) = inr (changed_on p q uses changed k)

    -- ---- polls

    polled_on : (p q : PolledPeer I D S M N) (uses : List ChannelUse) → RowsPolled m.association p.core.channels p.core.sctp q.core.channels q.core.sctp
        → OutSound p uses → OutSound q uses
    polled_on p q uses h k =
        changed_on p q uses (polled_changes m.association p.core.channels p.core.sctp q.core.channels q.core.sctp h) k

    output_on : (output : Output E) (p q : PolledPeer I D S M N) (uses : List ChannelUse) → PollsPeer m p (Ok output) q → OutSound p uses → OutSound q uses
    output_on output p q uses h k = polled_on p q uses (poll_acts m laws p (Ok output) q h).streams.changed k

    unless_lacking : (error : RtcError) (X : Type 0) → error_lacks error ≡ false → UnlessLacking {E = E} (Err error) X → X
    unless_lacking PeerAlloc X h k = absurd (true≢false h)
    unless_lacking error X h k = k

    refused_on : (error : RtcError) (p q : PolledPeer I D S M N) (uses : List ChannelUse) → PollsPeer m p (Err error) q → error_lacks error ≡ false
        → OutSound p uses → OutSound q uses
    refused_on error p q uses h fits k =
        polled_on p q uses
        (unless_lacking error (RowsPolled m.association p.core.channels p.core.sctp q.core.channels q.core.sctp) fits
        (poll_acts m laws p (Err error) q h).streams.changed) k

    event_on : (event : Event E) (p q : PolledPeer I D S M N) (uses : List ChannelUse) → PollsPeer m p (Ok (polled.Event event)) q → OutSound p uses
        → OutSound q (uses_told m event q uses)
    event_on (ChannelOpen id label) p q uses h k =
        let on = output_on (polled.Event (ChannelOpen id label)) p q uses h k in
        record {
          sound = on.sound;
          ordered = on.ordered;
          each = all_more (IsOutUse q) uses (announced_use m id q) on.each
              (λ band. announced_out m laws p q id label h on.sound.numbers on.ordered band);
        }
    event_on (ChannelData message) p q uses h k =
        let on = output_on (polled.Event (ChannelData message)) p q uses h k in
        record {
          sound = on.sound;
          ordered = on.ordered;
          each = all_got (IsOutUse q) (IsOutUse q) message.id (message.binary, message.bytes) uses (λ x e f. f) (λ x e f. f) on.each;
        }
    event_on event p q uses h k = output_on (polled.Event event) p q uses h k

    once_on : (at : Side) (p : PolledPeer I D S M N) (packets : List SentPacket) (outputs : List (Shown E)) (end : PollEnd) (q : PolledPeer I D S M N)
        (packets' : List SentPacket) (uses : List ChannelUse) → PollsOnce m at p packets outputs end q packets' → end_lacks end ≡ false → OutSound p uses
        → OutSound q (by_poll m (uses_shown m) outputs q uses)
    once_on at p packets (shows.Timeout moment reason ∷ []) Ended q packets' uses h fits k = output_on (polled.Timeout moment) p q uses h.0 k
    once_on at p packets (shows.Packet number len ∷ []) Ended q packets' uses h fits k = output_on (polled.Transmit h.0) p q uses h.1 k
    once_on at p packets (shows.Event event ∷ []) Ended q packets' uses h fits k = event_on event p q uses h.0 k
    once_on at p packets [] (EndRefused error) q packets' uses h fits k = refused_on error p q uses h.0 fits k
    once_on at p packets outputs end q packets' uses h fits k = absurd h

    drains_on : (at : Side) (p : PolledPeer I D S M N) (packets : List SentPacket) (outputs : List (Shown E)) (end : PollEnd) (q : PolledPeer I D S M N)
        (packets' : List SentPacket) (uses : List ChannelUse) (d : DrainsOn m at p packets outputs end q packets') → end_lacks end ≡ false
        → OutSound p uses → OutSound q (by_polls m (uses_shown m) at p packets outputs end q packets' d uses)
    drains_on at p packets [] Ended q packets' uses d fits k = absurd d
    drains_on at p packets [] (EndRefused error) q packets' uses d fits k = refused_on error p q uses d.0 fits k
    drains_on at p packets [] NoRoom q packets' uses d fits k = absurd (true≢false fits)
    drains_on at p packets (shows.Timeout moment reason ∷ []) Ended q packets' uses d fits k = output_on (polled.Timeout moment) p q uses d.0 k
    drains_on at p packets (shows.Timeout moment reason ∷ outputs) end q packets' uses d fits k = absurd d
    drains_on at p packets (shows.Packet number len ∷ outputs) end q packets' uses d fits k =
        drains_on at d.0 d.1 outputs end q packets' uses d.3 fits (output_on (polled.Transmit d.2.0) p d.0 uses d.2.1 k)
    drains_on at p packets (shows.Event event ∷ outputs) end q packets' uses d fits k =
        drains_on at d.0 d.1 outputs end q packets' (uses_told m event d.0 uses) d.3 fits (event_on event p d.0 uses d.2.0 k)

    drain_on : (at : Side) (p : PolledPeer I D S M N) (packets : List SentPacket) (outputs : List (Shown E)) (end : PollEnd) (q : PolledPeer I D S M N)
        (packets' : List SentPacket) (uses : List ChannelUse) (d : DrainsPeer m at p packets outputs end q packets') → end_lacks end ≡ false
        → OutSound p uses → OutSound q (by_drain m (uses_shown m) at p packets outputs end q packets' d uses)
    drain_on at p packets [] NoRoom q packets' uses d fits k = absurd d
    drain_on at p packets [] Ended q packets' uses d fits k = drains_on at p packets [] Ended q packets' uses d fits k
    drain_on at p packets [] (EndRefused error) q packets' uses d fits k = drains_on at p packets [] (EndRefused error) q packets' uses d fits k
    drain_on at p packets (shown ∷ outputs) end q packets' uses d fits k = drains_on at p packets (shown ∷ outputs) end q packets' uses d fits k

    pub poll_step_on : (at : Side) (old : PolledPeer I D S M N) (packets : List SentPacket) (outcome : Outcome E) (table : Option Table)
        (new : PolledPeer I D S M N) (packets' : List SentPacket) (uses : List ChannelUse)
        → StepPollsPeer m (PollsOnce m at old) old packets outcome table new packets' → outcome_lacks outcome ≡ false → OutSound old uses
        → OutSound new (by_poll_step m (uses_shown m) outcome new uses)
    poll_step_on at old packets Alloc None new packets' uses h fits k = absurd (true≢false fits)
    poll_step_on at old packets (Polled outputs end) (Some table) new packets' uses h fits k = once_on at old packets outputs end new packets' uses h.0 fits k
    poll_step_on at old packets outcome table new packets' uses h fits k = absurd h

    pub drain_step_on : (at : Side) (old : PolledPeer I D S M N) (packets : List SentPacket) (outcome : Outcome E) (table : Option Table)
        (new : PolledPeer I D S M N) (packets' : List SentPacket) (uses : List ChannelUse)
        (h : StepPollsPeer m (DrainsPeer m at old) old packets outcome table new packets') → outcome_lacks outcome ≡ false → OutSound old uses
        → OutSound new (by_drain_step m (uses_shown m) at old packets outcome table new packets' h uses)
    drain_step_on at old packets Alloc None new packets' uses h fits k = absurd (true≢false fits)
    drain_step_on at old packets (Polled outputs end) (Some table) new packets' uses h fits k = drain_on at old packets outputs end new packets' uses h.0 fits k
    drain_step_on at old packets outcome table new packets' uses h fits k = absurd h

    -- ---- steps

    pub acted_on : (stun : List ℕ → Bool) (other own : Addr) (step : Step) (old : PolledPeer I D S M N) (sdps : List Kept) (packets : List SentPacket)
        (outcome : Outcome E) (table : Option Table) (new : PolledPeer I D S M N) (sdps' : List Kept) (packets' : List SentPacket)
        (h : Acts m stun other own step old sdps packets outcome table new sdps' packets') (uses : List ChannelUse) → is_native step ≡ true
        → outcome_lacks outcome ≡ false → OutSound old uses
        → SideOut new (uses_acted m stun other own step old sdps packets outcome table new sdps' packets' h uses)
    acted_on stun other own (Poll at) old sdps packets outcome table new sdps' packets' h uses native fits k =
        inr (poll_step_on at old packets outcome table new packets' uses h.0 fits k)
    acted_on stun other own (Drain at) old sdps packets outcome table new sdps' packets' h uses native fits k =
        inr (drain_step_on at old packets outcome table new packets' uses h.0 fits k)
    acted_on stun other own (Write at channel binary bytes) old sdps packets outcome table new sdps' packets' h uses native fits k =
        changes_on old new (uses_written channel binary bytes outcome uses)
        (acts_rows m laws stun other own (Write at channel binary bytes) old sdps packets outcome table new sdps' packets' native h)
        (record {
          sound = k.sound;
          ordered = k.ordered;
          each = written_each (IsOutUse old) (λ x message out. out) channel binary bytes outcome uses k.each;
        })
    acted_on stun other own (Rollback at token) old sdps packets outcome table new sdps' packets' h uses native fits k =
        let on = cancelled_on old new uses (rollback_rows m token (held_token sdps at token) old sdps outcome table new sdps' h.0) k in
        inr
        (record {
          sound = on.sound;
          ordered = on.ordered;
          each = all_rolled (IsOutUse new) (IsOutUse new) old.core.channels.rows new.core.channels.rows uses (λ x e out. out) (λ x e out. out) on.each;
        })
    acted_on stun other own step old sdps packets outcome table new sdps' packets' h uses native fits k =
        changes_on old new uses (acts_rows m laws stun other own step old sdps packets outcome table new sdps' packets' native h) k
