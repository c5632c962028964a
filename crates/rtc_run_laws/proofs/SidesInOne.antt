-- What was told of a channel stays what it was in calls: the channel stands as data left it, or goes.
use Rattle.std.proofs.Common.{◌≡◌, ◌∙◌, ◌⊎◌, inl, inr, ℕ, Bool, true, List, [], Some, Result, Ok, Err, sym, subst}
use Rattle.rtc_sctp.specs.Streams.{SctpStreams}
use Rattle.rtc_sctp_laws.specs.GenerationLaws.{GenerationLaws}
use Rattle.rtc_sctp_laws.specs.StreamMessages.{StreamMessage}
use Rattle.rtc_channels.specs.Channels.{Channel, Channels}
use Rattle.rtc_channels.specs.Holds.{all_cancelled}
use Rattle.rtc_peer_core.specs.declared.phase.Phase.TheVariants.{Closed as ClosedPhase}
use Rattle.rtc_peer_core.specs.declared.rtc_error.RtcError.{RtcError}
use Rattle.rtc_peer_core.specs.declared.rtc_error.RtcError.TheVariants.{Alloc}
use Rattle.rtc_peer_core.specs.Meanings.{Meanings, PartsLaws}
use Rattle.rtc_peer_transport.specs.declared.output.Output.{Output}
use Rattle.rtc_peer_transport.specs.declared.polled_peer.PolledPeer.{PolledPeer}
use Rattle.rtc_peer_polling.specs.StreamStages.{channel_over}
use Rattle.rtc_peer_polling.specs.Walk.{PollsPeer}
use Rattle.rtc_peer_polling.proofs.Lacking.{poll_lacks}
use Rattle.rtc_peer_laws.specs.ChannelStreams.{AreNumberedChannels, IsGone, UnlessLacking}
use Rattle.rtc_peer_laws.specs.KeptChannels.{CallKeepsStreams}
use Rattle.rtc_peer_laws.specs.RowsChanged.{RowsChanged, RowsPolled}
use Rattle.rtc_peer_laws.proofs.CancelledChannels.{cancelled_gone, cancelled_over}
use Rattle.rtc_run_laws.specs.ChannelUses.{ChannelUse, with_rolled_back, with_sent_message}
use Rattle.rtc_run_laws.specs.ToldMessages.{MessagesTold}
use Rattle.rtc_run_laws.proofs.RowLemmas.{closed_stays}
use Rattle.rtc_run_laws.proofs.StepRows.{RowsCancelled}
use Rattle.rtc_run_laws.proofs.UnendedRows.{StandsIn, Went, Waits, polled_go, rows_go}
use Rattle.rtc_run_laws.proofs.UseLists.{AllUses, all_rolled, all_sent}

-- of a channel that was announced in-band: what was told of it is of the stream and the generation of its announcement
abbrev pub IsInOne : MessagesTold → ChannelUse → Type 0
IsInOne told x = x.in_band ≡ true → (s g : ℕ) → (told x.channel s g ≡ []) ⊎ ((x.stream ≡ Some s) × (x.generation ≡ g))

module _ {I D S M E X T W N : Type 0} (m : Meanings I D S M E X T W N) where
  -- a channel of which data was told stands so, unless the peer is closed
  abbrev pub ToldStands : MessagesTold → PolledPeer I D S M N → Type 0
  ToldStands told p = (c s g : ℕ) → (told c s g ≡ []) ⊎ StandsIn m.association g c s p.core.channels p.core.sctp

  pub record SideOne (told : MessagesTold) (uses : List ChannelUse) (p : PolledPeer I D S M N) : Type 0 where
    pub early : (p.core.phase ≡ ClosedPhase) ⊎ ToldStands told p
    pub each : AllUses (IsInOne told) uses

  stands_on : (told : MessagesTold) (p q : PolledPeer I D S M N)
      → ((c s g : ℕ) → StandsIn m.association g c s p.core.channels p.core.sctp → StandsIn m.association g c s q.core.channels q.core.sctp)
      → ToldStands told p → ToldStands told q
  stands_on told p q on f c s g = by (f c s g)
    where
      by : (told c s g ≡ []) ⊎ StandsIn m.association g c s p.core.channels p.core.sctp
          → (told c s g ≡ []) ⊎ StandsIn m.association g c s q.core.channels q.core.sctp
      by (inl none) = inl none
      by (inr h) = inr (on c s g h)

  module _ (laws : PartsLaws m) (v : GenerationLaws m.association) where
    -- calls but polls
    call_early : (wrote : List StreamMessage) (told : MessagesTold) (p q : PolledPeer I D S M N) → AreNumberedChannels p.core.channels
        → CallKeepsStreams m p wrote q → (p.core.phase ≡ ClosedPhase) ⊎ ToldStands told p → (q.core.phase ≡ ClosedPhase) ⊎ ToldStands told q
    call_early wrote told p q numbers keeps (inl closed) = inl (keeps.closed closed)
    call_early wrote told p q numbers keeps (inr f) = by keeps.changed
      where
        by : (q.core.phase ≡ ClosedPhase) ⊎ RowsChanged m.association p.core.channels p.core.sctp q.core.channels q.core.sctp
            → (q.core.phase ≡ ClosedPhase) ⊎ ToldStands told q
        by (inl closed) = inl closed
        by (inr changed) =
            inr
            (stands_on told p q
            (λ c s g k. (rows_go m.association g laws.association v c s p.core.channels p.core.sctp q.core.channels q.core.sctp changed).stands numbers k) f)

    pub one_called : (wrote : List StreamMessage) (told : MessagesTold) (uses : List ChannelUse) (p q : PolledPeer I D S M N)
        → AreNumberedChannels p.core.channels → CallKeepsStreams m p wrote q → SideOne told uses p → SideOne told uses q
    one_called wrote told uses p q numbers keeps h = record { early = call_early wrote told p q numbers keeps h.early; each = h.each }

    pub one_wrote : (wrote : List StreamMessage) (told : MessagesTold) (channel : ℕ) (message : Bool × List ℕ) (uses : List ChannelUse)
        (p q : PolledPeer I D S M N) → AreNumberedChannels p.core.channels → CallKeepsStreams m p wrote q → SideOne told uses p
        → SideOne told (with_sent_message channel message uses) q
    one_wrote wrote told channel message uses p q numbers keeps h = record {
      early = call_early wrote told p q numbers keeps h.early;
      each = all_sent (IsInOne told) (IsInOne told) channel message uses (λ x e k. k) (λ x e k. k) h.each;
    }

    -- an offer is rolled back
    cancelled_early : (told : MessagesTold) (p q : PolledPeer I D S M N) → AreNumberedChannels p.core.channels → RowsCancelled m p q
        → (p.core.phase ≡ ClosedPhase) ⊎ ToldStands told p → (q.core.phase ≡ ClosedPhase) ⊎ ToldStands told q
    cancelled_early told p q numbers rows (inl closed) = inl (rows.phase ∙ closed)
    cancelled_early told p q numbers rows (inr f) = inr (stands_on told p q (λ c s g k. by c s g k) f)
      where
        at : (c s g : ℕ) → StandsIn m.association g c s (all_cancelled rows.channels p.core.channels) p.core.sctp
            → StandsIn m.association g c s q.core.channels q.core.sctp
        at c s g k =
            subst (λ (x : Channels). StandsIn m.association g c s x q.core.sctp) (sym rows.cancelled)
            (subst (λ (y : SctpStreams S). StandsIn m.association g c s (all_cancelled rows.channels p.core.channels) y) (sym rows.sctp) k)

        by : (c s g : ℕ) → StandsIn m.association g c s p.core.channels p.core.sctp → StandsIn m.association g c s q.core.channels q.core.sctp
        by c s g (Went k) = at c s g (Went (cancelled_gone c rows.channels p.core.channels k))
        by c s g (Waits over k) = left (cancelled_over s c rows.channels p.core.channels numbers over)
          where
            left : (channel_over s (all_cancelled rows.channels p.core.channels) ≡ Some c) ⊎ IsGone c (all_cancelled rows.channels p.core.channels)
                → StandsIn m.association g c s q.core.channels q.core.sctp
            left (inl still) = at c s g (Waits still k)
            left (inr gone) = at c s g (Went gone)

    pub one_rolled : (told : MessagesTold) (before after : List Channel) (uses : List ChannelUse) (p q : PolledPeer I D S M N)
        → AreNumberedChannels p.core.channels → RowsCancelled m p q → SideOne told uses p → SideOne told (with_rolled_back before after uses) q
    one_rolled told before after uses p q numbers rows h = record {
      early = cancelled_early told p q numbers rows h.early;
      each = all_rolled (IsInOne told) (IsInOne told) before after uses (λ x e k. k) (λ x e k. k) h.each;
    }

    -- ---- polls

    pub polled_early : (told : MessagesTold) (p : PolledPeer I D S M N) (answer : Result (Output E) RtcError) (q : PolledPeer I D S M N) → PollsPeer m p answer q
        → AreNumberedChannels p.core.channels → UnlessLacking answer (RowsPolled m.association p.core.channels p.core.sctp q.core.channels q.core.sctp)
        → (p.core.phase ≡ ClosedPhase) ⊎ ToldStands told p → (q.core.phase ≡ ClosedPhase) ⊎ ToldStands told q
    polled_early told p answer q h numbers changed (inl closed) = inl (closed_stays m p answer q closed h).1
    polled_early told p (Ok output) q h numbers changed (inr f) =
        inr
        (stands_on told p q
        (λ c s g k. (polled_go m.association g laws.association v c s p.core.channels p.core.sctp q.core.channels q.core.sctp changed).stands numbers k) f)
    polled_early told p (Err Alloc) q h numbers changed (inr f) = inl (poll_lacks m p q h)
    polled_early told p (Err error) q h numbers changed (inr f) =
        inr
        (stands_on told p q
        (λ c s g k. (polled_go m.association g laws.association v c s p.core.channels p.core.sctp q.core.channels q.core.sctp changed).stands numbers k) f)
