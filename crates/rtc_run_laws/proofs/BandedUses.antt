-- In a run of new pairs by steps that settle no channel by other means than messages each channel is announced as opened in-band.
use Rattle.std.proofs.Common.{◌≡◌, inl, inr, ◌==◌, ◌∷◌, if◌then◌else◌, not, ℕ, Bool, true, false, List, [], Option, Some, None, Ok, refl, ap, ◌&&◌, ◌||◌}
use Rattle.std.specs.Prelude.{is_some}
use Rattle.std.proofs.lemmas.Bool.{eqb-true}
use Rattle.rtc_wire.specs.declared.addr.Addr.{Addr}
use Rattle.rtc_parts.specs.Draws.{Draws}
use Rattle.rtc_plain_media.specs.declared.plain_media_event.PlainMediaEvent.{PlainMediaEvent}
use Rattle.rtc_sctp_entries.specs.declared.stream_entry.StreamEntry.{StreamEntry}
use Rattle.rtc_sctp_entries.specs.Entries.{config_or_fresh, stream_config}
use Rattle.rtc_peer_core.specs.Meanings.{Meanings, PartsLaws}
use Rattle.rtc_peer_transport.specs.ChannelCalls.{config_under, stream_under}
use Rattle.rtc_peer_transport.specs.declared.event.Event.{Event}
use Rattle.rtc_peer_transport.specs.declared.event.Event.TheVariants.{ChannelOpen, ChannelData}
use Rattle.rtc_peer_transport.specs.declared.output.Output.{Output}
use Rattle.rtc_peer_transport.specs.declared.output.Output.TheVariants as polled
use Rattle.rtc_peer_transport.specs.declared.polled_peer.PolledPeer.{PolledPeer}
use Rattle.rtc_peer_polling.specs.Walk.{PollsPeer}
use Rattle.rtc_peer_laws.proofs.ActedPolls.{poll_acts}
use Rattle.rtc_run_history.specs.Native.{are_native}
use Rattle.rtc_run_history.specs.PairState.{addr_at, rtc_at}
use Rattle.rtc_run_history.specs.Past.{Entry, steps_of}
use Rattle.rtc_run_history.specs.Performs.{Acts, DrainsOn, DrainsPeer, PollsOnce, StepPollsPeer}
use Rattle.rtc_run_history.specs.Runs.{Reached}
use Rattle.rtc_run_history.specs.Sides.{other_side, same_side, side_of}
use Rattle.rtc_run_history.specs.declared.kept.Kept.{Kept}
use Rattle.rtc_run_history.specs.declared.outcome.Outcome.{Outcome}
use Rattle.rtc_run_history.specs.declared.outcome.Outcome.TheVariants.{Polled, Wrote, Alloc}
use Rattle.rtc_run_history.specs.declared.poll_end.PollEnd.{PollEnd}
use Rattle.rtc_run_history.specs.declared.poll_end.PollEnd.TheVariants.{Ended}
use Rattle.rtc_run_history.specs.declared.sent_packet.SentPacket.{SentPacket}
use Rattle.rtc_run_history.specs.declared.shown.Shown.{Shown}
use Rattle.rtc_run_history.specs.declared.shown.Shown.TheVariants as shows
use Rattle.rtc_run_history.specs.declared.side.Side.{Side}
use Rattle.rtc_run_history.specs.declared.step.Step.{Step}
use Rattle.rtc_run_history.specs.declared.step.Step.TheVariants.{Poll, Drain, Write, Rollback}
use Rattle.rtc_run_history.specs.declared.table.Table.{Table}
use Rattle.rtc_channels.specs.Channels.{Channel}
use Rattle.rtc_run_laws.specs.ChannelUses.{is_negotiated, ChannelUse, announced_use, uses_shown, uses_told, with_got_message}
use Rattle.rtc_run_laws.specs.InBandSteps.{AreInBandSteps, IsInBandStep}
use Rattle.rtc_run_laws.specs.NewPairs.{IsNewPair}
use Rattle.rtc_run_laws.specs.PlainPairs.{PlainPair, plain_over}
use Rattle.rtc_run_laws.specs.PollsOfRuns.{by_drain_step, by_poll_step, by_polls}
use Rattle.rtc_run_laws.specs.UsesOfRuns.{uses_acted, uses_of, uses_written}
use Rattle.rtc_run_laws.proofs.BandedInputs.{SideBanded}
use Rattle.rtc_run_laws.proofs.BandedRows.{AreBandedRows}
use Rattle.rtc_run_laws.proofs.BandedMoments.{IsBanded, polled_banded}
use Rattle.rtc_run_laws.proofs.BandedRuns.{first_steps, side_banded, steps_of_stream}
use Rattle.rtc_run_laws.proofs.NativeSteps.{native_entry}
use Rattle.rtc_run_laws.proofs.RowLemmas.{closed_stays}
use Rattle.rtc_run_laws.proofs.StandingEntries.{AreBanded}
use Rattle.rtc_run_laws.proofs.StepsExchange.{plain_over_laws}
use Rattle.rtc_run_laws.proofs.UseLists.{AllUses, all_got, all_more, all_rolled, all_sent}
use Rattle.rtc_run_laws.proofs.UsesPolled.{no_timeout}

abbrev pub IsInBandUse : ChannelUse → Type 0
IsInBandUse x = x.in_band ≡ true

-- nor was it negotiated out-of-band
abbrev pub IsPlainUse : ChannelUse → Type 0
IsPlainUse x = IsInBandUse x × (x.negotiated ≡ false)

-- no row is of a channel that was negotiated so
none_negotiated : (n : ℕ) (rows : List Channel) → ((s : ℕ) → AreBandedRows s rows) → is_negotiated n rows ≡ false
none_negotiated n [] h = refl
none_negotiated n (row ∷ rows) h = by (row.id == n) row.negotiated refl (none_negotiated n rows (λ s. (h s).1))
  where
    by : (b : Bool) (o : Option ℕ) → row.negotiated ≡ o → is_negotiated n rows ≡ false → ((b && is_some o) || is_negotiated n rows) ≡ false
    by false o e rest = rest
    by true None e rest = rest
    by true (Some t) e rest = absurd ((h t).0.0 e)

-- the config of such an entry, if there is one
banded_config : (s : ℕ) (es : List StreamEntry) → AreBanded s es → is_some (config_or_fresh (stream_config s es)).negotiated ≡ false
banded_config s [] h = refl
banded_config s (e ∷ es) h = by (e.id == s) refl (banded_config s es h.1)
  where
    by : (b : Bool) → (e.id == s) ≡ b → is_some (config_or_fresh (stream_config s es)).negotiated ≡ false
        → is_some (config_or_fresh (if b then e.config else stream_config s es)).negotiated ≡ false
    by true is rest = h.0 (eqb-true e.id s is)
    by false is rest = rest

band_got : (c : ℕ) (message : Bool × List ℕ) (uses : List ChannelUse) → AllUses IsPlainUse uses → AllUses IsPlainUse (with_got_message c message uses)
band_got c message uses h = all_got IsPlainUse IsPlainUse c message uses (λ x e k. k) (λ x e k. k) h

band_written : {E : Type 0} → (c : ℕ) (binary : Bool) (bytes : List ℕ) (outcome : Outcome E) (uses : List ChannelUse) → AllUses IsPlainUse uses
    → AllUses IsPlainUse (uses_written c binary bytes outcome uses)
band_written c binary bytes (Wrote true) uses h = all_sent IsPlainUse IsPlainUse c (binary, bytes) uses (λ x e k. k) (λ x e k. k) h
band_written c binary bytes (Wrote false) uses h = h
band_written c binary bytes outcome uses h = h

module _ {I D S M E X T W N : Type 0} (m : Meanings I D S M E X T W N) (laws : PartsLaws m) where
  -- no stream was settled by other means
  abbrev AllBanded : PolledPeer I D S M N → Type 0
  AllBanded q = (s : ℕ) → IsBanded s q.core.channels q.core.sctp.entries

  abbrev pub SideInBand : PolledPeer I D S M N → Type 0
  SideInBand p = (s : ℕ) → SideBanded s m p

  -- ---- a channel that is announced

  band_under : (o : Option ℕ) (q : PolledPeer I D S M N) → AllBanded q
      → is_some (config_or_fresh (config_under o q.core.sctp)).negotiated ≡ false
  band_under None q h = refl
  band_under (Some s) q h = banded_config s q.core.sctp.entries (h s).entries

  band_told : (event : Event E) (q : PolledPeer I D S M N) (uses : List ChannelUse) → AllBanded q → AllUses IsPlainUse uses
      → AllUses IsPlainUse (uses_told m event q uses)
  band_told (ChannelOpen id label) q uses k h =
      all_more IsPlainUse uses (announced_use m id q) h (
        ap not (band_under (stream_under id q.core.channels) q k),
        none_negotiated id q.core.channels.rows (λ s. (k s).rows),
      )
  band_told (ChannelData message) q uses k h = band_got message.id (message.binary, message.bytes) uses h
  band_told event q uses k h = h

  -- ---- polls

  band_polled : (s : ℕ) (output : Output E) (p q : PolledPeer I D S M N) → PollsPeer m p (Ok output) q → IsBanded s p.core.channels p.core.sctp.entries
      → IsBanded s q.core.channels q.core.sctp.entries
  band_polled s output p q h k =
      polled_banded s m.association laws.association p.core.channels p.core.sctp q.core.channels q.core.sctp
      (poll_acts m laws p (Ok output) q h).streams.changed k

  -- a closed peer reports no event
  event_band : (event : Event E) (p q : PolledPeer I D S M N) → PollsPeer m p (Ok (polled.Event event)) q → SideInBand p → AllBanded q
  event_band event p q h k = λ s. by s (k s)
    where
      by : (s : ℕ) → SideBanded s m p → IsBanded s q.core.channels q.core.sctp.entries
      by s (inl closed) = absurd (no_timeout event _ (Ok (polled.Event event)) refl (closed_stays m p (Ok (polled.Event event)) q closed h).0)
      by s (inr band) = band_polled s (polled.Event event) p q h band

  output_band : (output : Output E) (p q : PolledPeer I D S M N) → PollsPeer m p (Ok output) q → SideInBand p → SideInBand q
  output_band output p q h k = λ s. by s (k s)
    where
      by : (s : ℕ) → SideBanded s m p → SideBanded s m q
      by s (inl closed) = inl (closed_stays m p (Ok output) q closed h).1
      by s (inr band) = inr (band_polled s output p q h band)

  once_band : (at : Side) (p : PolledPeer I D S M N) (packets : List SentPacket) (shown : Shown E) (end : PollEnd) (q : PolledPeer I D S M N)
      (packets' : List SentPacket) (uses : List ChannelUse) → PollsOnce m at p packets (shown ∷ []) end q packets' → SideInBand p
      → AllUses IsPlainUse uses → AllUses IsPlainUse (uses_shown m shown q uses)
  once_band at p packets (shows.Timeout moment reason) end q packets' uses d k h = h
  once_band at p packets (shows.Packet number len) end q packets' uses d k h = h
  once_band at p packets (shows.Event event) Ended q packets' uses d k h = band_told event q uses (event_band event p q d.0 k) h
  once_band at p packets (shows.Event event) end q packets' uses d k h = absurd d

  poll_band : (at : Side) (old : PolledPeer I D S M N) (packets : List SentPacket) (outcome : Outcome E) (table : Option Table)
      (new : PolledPeer I D S M N) (packets' : List SentPacket) (uses : List ChannelUse)
      → StepPollsPeer m (PollsOnce m at old) old packets outcome table new packets' → SideInBand old → AllUses IsPlainUse uses
      → AllUses IsPlainUse (by_poll_step m (uses_shown m) outcome new uses)
  poll_band at old packets Alloc None new packets' uses d k h = h
  poll_band at old packets (Polled [] end) (Some table) new packets' uses d k h = h
  poll_band at old packets (Polled (shown ∷ []) end) (Some table) new packets' uses d k h =
      once_band at old packets shown end new packets' uses d.0 k h
  poll_band at old packets (Polled (shown ∷ more ∷ outputs) end) (Some table) new packets' uses d k h = absurd d.0
  poll_band at old packets outcome table new packets' uses d k h = absurd d

  polls_band : (at : Side) (p : PolledPeer I D S M N) (packets : List SentPacket) (outputs : List (Shown E)) (end : PollEnd)
      (q : PolledPeer I D S M N) (packets' : List SentPacket) (d : DrainsOn m at p packets outputs end q packets') (uses : List ChannelUse)
      → SideInBand p → AllUses IsPlainUse uses → AllUses IsPlainUse (by_polls m (uses_shown m) at p packets outputs end q packets' d uses)
  polls_band at p packets [] end q packets' d uses k h = h
  polls_band at p packets (shows.Timeout moment reason ∷ outputs) end q packets' d uses k h = h
  polls_band at p packets (shows.Packet number len ∷ outputs) end q packets' d uses k h =
      polls_band at d.0 d.1 outputs end q packets' d.3 uses (output_band (polled.Transmit d.2.0) p d.0 d.2.1 k) h
  polls_band at p packets (shows.Event event ∷ outputs) end q packets' d uses k h =
      let band = event_band event p d.0 d.2.0 k in
      polls_band at d.0 d.1 outputs end q packets' d.3 (uses_told m event d.0 uses) (λ s. inr (band s)) (band_told event d.0 uses band h)

  drain_band : (at : Side) (old : PolledPeer I D S M N) (packets : List SentPacket) (outcome : Outcome E) (table : Option Table)
      (new : PolledPeer I D S M N) (packets' : List SentPacket) (d : StepPollsPeer m (DrainsPeer m at old) old packets outcome table new packets')
      (uses : List ChannelUse) → SideInBand old → AllUses IsPlainUse uses
      → AllUses IsPlainUse (by_drain_step m (uses_shown m) at old packets outcome table new packets' d uses)
  drain_band at old packets (Polled [] end) (Some table) new packets' d uses k h = h
  drain_band at old packets (Polled (shown ∷ outputs) end) (Some table) new packets' d uses k h =
      polls_band at old packets (shown ∷ outputs) end new packets' d.0 uses k h
  drain_band at old packets (Polled outputs end) None new packets' d uses k h = h
  drain_band at old packets outcome table new packets' d uses k h = h

  -- ---- each step, of a peer that is so

  pub acted_band : (stun : List ℕ → Bool) (other own : Addr) (step : Step) (old : PolledPeer I D S M N) (sdps : List Kept) (packets : List SentPacket)
      (outcome : Outcome E) (table : Option Table) (new : PolledPeer I D S M N) (sdps' : List Kept) (packets' : List SentPacket)
      (a : Acts m stun other own step old sdps packets outcome table new sdps' packets') (uses : List ChannelUse) → SideInBand old
      → AllUses IsPlainUse uses
      → AllUses IsPlainUse (uses_acted m stun other own step old sdps packets outcome table new sdps' packets' a uses)
  acted_band stun other own (Poll at) old sdps packets outcome table new sdps' packets' a uses k h =
      poll_band at old packets outcome table new packets' uses a.0 k h
  acted_band stun other own (Drain at) old sdps packets outcome table new sdps' packets' a uses k h =
      drain_band at old packets outcome table new packets' a.0 uses k h
  acted_band stun other own (Write at channel binary bytes) old sdps packets outcome table new sdps' packets' a uses k h =
      band_written channel binary bytes outcome uses h
  acted_band stun other own (Rollback at token) old sdps packets outcome table new sdps' packets' a uses k h =
      all_rolled IsPlainUse IsPlainUse old.core.channels.rows new.core.channels.rows uses (λ x e f. f) (λ x e f. f) h
  acted_band stun other own step old sdps packets outcome table new sdps' packets' a uses k h = h

-- ---- runs

module _ {N : Type 0} (draws : Draws N) (stun : List ℕ → Bool) (start : PlainPair N) (new : IsNewPair draws start) (none : start.sdps ≡ []) where
  pub run_in_band : (past : List (Entry PlainMediaEvent)) (pair : PlainPair N) → are_native (steps_of past) ≡ true
      → (ran : Reached (plain_over draws) stun start past pair) → AreInBandSteps (steps_of past) → (at : Side)
      → AllUses IsPlainUse (uses_of (plain_over draws) stun start at past pair ran)
  run_in_band [] pair go ran steps at = tt
  run_in_band (entry ∷ past) pair go ran steps at = by (same_side (side_of entry.step) at) (run_in_band past ran.0 native ran.1 both.0 at)
    where
      native : are_native (steps_of past) ≡ true
      native = (native_entry entry past go).0

      both : AreInBandSteps (steps_of past) × IsInBandStep entry.step
      both = first_steps (steps_of past) entry.step steps

      band : SideInBand (plain_over draws) (plain_over_laws draws) (rtc_at (side_of entry.step) ran.0)
      band s =
          side_banded draws stun start new none past ran.0 native ran.1 s (side_of entry.step) (steps_of_stream s (steps_of past) both.0)

      before : List ChannelUse
      before = uses_of (plain_over draws) stun start at past ran.0 ran.1

      acted : List ChannelUse
      acted =
          uses_acted (plain_over draws) stun (addr_at (other_side (side_of entry.step)) ran.0) (addr_at (side_of entry.step) ran.0) entry.step
          (rtc_at (side_of entry.step) ran.0) ran.0.sdps ran.0.packets entry.outcome entry.table
          (rtc_at (side_of entry.step) pair) pair.sdps pair.packets ran.2.performs.acts before

      by : (b : Bool) → AllUses IsPlainUse before → AllUses IsPlainUse (if b then acted else before)
      by true h =
          acted_band (plain_over draws) (plain_over_laws draws) stun (addr_at (other_side (side_of entry.step)) ran.0)
          (addr_at (side_of entry.step) ran.0) entry.step (rtc_at (side_of entry.step) ran.0) ran.0.sdps ran.0.packets entry.outcome entry.table
          (rtc_at (side_of entry.step) pair) pair.sdps pair.packets ran.2.performs.acts before band h
      by false h = h
