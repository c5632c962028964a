-- What a poll leaves of a channel that it announces.
use Rattle.std.proofs.Common.{◌≡◌, ◌∙◌, ◌⊎◌, ◌++◌, ◌∷◌, not, ℕ, Bool, true, false, true≢false, List, [], append-nil, Option, Some, Ok, inl, inr, refl, sym, ap, subst}
use Rattle.std.specs.Prelude.{is_some}
use Rattle.rtc_parts.specs.AssociationLaws.{AssociationLaws}
use Rattle.rtc_sctp_entries.specs.declared.stream_entry.StreamEntry.{StreamEntry}
use Rattle.rtc_sctp_entries.specs.Entries.{config_or_fresh}
use Rattle.rtc_sctp_laws.specs.StreamMessages.{StreamMessage}
use Rattle.rtc_sctp_laws.specs.GenerationLaws.{GenerationLaws}
use Rattle.rtc_sctp_laws.specs.StreamUses.{IsOpened, WereOpened, entries_of, messages_of}
use Rattle.rtc_peer_core.specs.Meanings.{Meanings}
use Rattle.rtc_peer_transport.specs.ChannelCalls.{config_under, stream_under}
use Rattle.rtc_peer_transport.specs.declared.event.Event.TheVariants.{ChannelOpen}
use Rattle.rtc_peer_transport.specs.declared.output.Output.TheVariants as outputs
use Rattle.rtc_peer_transport.specs.declared.polled_peer.PolledPeer.{PolledPeer}
use Rattle.rtc_peer_polling.specs.Walk.{PollsPeer}
use Rattle.rtc_peer_laws.specs.Acts.{PollActs}
use Rattle.rtc_peer_laws.specs.ChannelStreams.{AreNumberedChannels, IsLiveChannel}
use Rattle.rtc_peer_laws.proofs.ChannelsOver.{under_over}
use Rattle.rtc_peer_laws.specs.KeptChannels.{IsSettledStream}
use Rattle.rtc_peer_laws.proofs.OpenedOnce.{opening_live}
use Rattle.rtc_run_laws.specs.ChannelUses.{announced_use, generation_under}
use Rattle.rtc_run_laws.proofs.RowLemmas.{closed_stays, settled_config}
use Rattle.rtc_run_laws.proofs.UsesTold.{InBandTold, Lives, UseTold, UsedUnlessClosed}
use Rattle.rtc_run_laws.proofs.UsesPolled.{all_dcep_none, no_timeout}

were_opened : (es : List StreamEntry) (g : ℕ) (ws hs : List StreamMessage) → WereOpened es g ws hs → IsSettledStream es ⊎ IsOpened ws hs
were_opened [] g ws hs h = absurd h
were_opened (e ∷ es) g ws hs (inl out) = inl out
were_opened (e ∷ es) g ws hs (inr x) = inr x.0

module _ {I D S M E X T W N : Type 0} (m : Meanings I D S M E X T W N) (w : AssociationLaws m.association) (v : GenerationLaws m.association) where
  -- a channel is told to be open
  module _ (p q : PolledPeer I D S M N) (id : ℕ) (label : List ℕ) (h : PollsPeer m p (Ok (outputs.Event (ChannelOpen id label))) q)
      (acts : PollActs m p (Ok (outputs.Event (ChannelOpen id label))) q) (numbers : AreNumberedChannels p.core.channels)
      (written read : List StreamMessage) where
    pub opening_placed : stream_under id q.core.channels ≡ Some acts.streams.opens.stream
    opening_placed = under_over acts.streams.opens.stream id q.core.channels (acts.numbers numbers).0 acts.streams.opens.over

    not_in_band : (b : Bool) → b ≡ true → not b ≡ true → ⊥
    not_in_band true e k = true≢false (sym k)
    not_in_band false e k = true≢false (sym e)

    pub settled_out : IsSettledStream (entries_of acts.streams.opens.stream q.core.sctp.entries) → (announced_use m id q).in_band ≡ true → ⊥
    settled_out out band =
        not_in_band (is_some (config_or_fresh (config_under (stream_under id q.core.channels) q.core.sctp)).negotiated)
        (ap (λ (o : Option ℕ). is_some (config_or_fresh (config_under o q.core.sctp)).negotiated) opening_placed
        ∙ settled_config acts.streams.opens.stream q.core.sctp.entries out)
        band

    opening_is : IsOpened
        (messages_of acts.streams.opens.stream (m.association.generation q.core.sctp.association acts.streams.opens.stream) (written ++ acts.wrote))
        (messages_of acts.streams.opens.stream (m.association.generation q.core.sctp.association acts.streams.opens.stream) (read ++ acts.heard))
        → IsLiveChannel id acts.streams.opens.stream (m.association.generation q.core.sctp.association acts.streams.opens.stream) q
        → UseTold m (written ++ acts.wrote) (read ++ acts.heard) q id (Some acts.streams.opens.stream)
        (m.association.generation q.core.sctp.association acts.streams.opens.stream) [] []
    opening_is o live = record {
      stream = acts.streams.opens.stream;
      stream_is = refl;
      begins = o.begins;
      sent_is =
          all_dcep_none
          (messages_of acts.streams.opens.stream (m.association.generation q.core.sctp.association acts.streams.opens.stream) (written ++ acts.wrote))
          o.dcep;
      before = o.before;
      last = o.last;
      rest = [];
      read_is = o.heard_is ∙ sym (append-nil (o.before ++ o.last ∷ []));
      last_dcep = o.last_dcep;
      none_before = o.none_before;
      stands = Lives live refl;
    }

    -- what holds of its stream and generation, by its opening, holds of what its use says of them
    pub opening_as : (T : Option ℕ → ℕ → Type 0)
        → (IsOpened
        (messages_of acts.streams.opens.stream (m.association.generation q.core.sctp.association acts.streams.opens.stream) (written ++ acts.wrote))
        (messages_of acts.streams.opens.stream (m.association.generation q.core.sctp.association acts.streams.opens.stream) (read ++ acts.heard))
        → IsLiveChannel id acts.streams.opens.stream (m.association.generation q.core.sctp.association acts.streams.opens.stream) q
        → T (Some acts.streams.opens.stream) (m.association.generation q.core.sctp.association acts.streams.opens.stream))
        → UsedUnlessClosed m written read p → (announced_use m id q).in_band ≡ true
        → T (stream_under id q.core.channels) (generation_under m (stream_under id q.core.channels) q)
    opening_as T made (inl closed) = absurd (no_timeout (ChannelOpen id label) _ (Ok (outputs.Event (ChannelOpen id label))) refl (closed_stays m p (Ok (outputs.Event (ChannelOpen id label))) q closed h).0)
    opening_as T made (inr uses) = λ band.
        both band
        (were_opened (entries_of acts.streams.opens.stream q.core.sctp.entries)
        (m.association.generation q.core.sctp.association acts.streams.opens.stream)
        (messages_of acts.streams.opens.stream (m.association.generation q.core.sctp.association acts.streams.opens.stream) (written ++ acts.wrote))
        (messages_of acts.streams.opens.stream (m.association.generation q.core.sctp.association acts.streams.opens.stream) (read ++ acts.heard))
        (acts.streams.opens.opened w v written read (uses acts.streams.opens.stream)))
        (opening_live m w v id p q acts.wrote acts.heard written read (written ++ acts.wrote) (read ++ acts.heard) acts.streams.opens
        (uses acts.streams.opens.stream) (acts.streams.uses w v acts.streams.opens.stream written read (uses acts.streams.opens.stream)))
      where
        both : (announced_use m id q).in_band ≡ true
            → IsSettledStream (entries_of acts.streams.opens.stream q.core.sctp.entries)
            ⊎ IsOpened
            (messages_of acts.streams.opens.stream (m.association.generation q.core.sctp.association acts.streams.opens.stream) (written ++ acts.wrote))
            (messages_of acts.streams.opens.stream (m.association.generation q.core.sctp.association acts.streams.opens.stream) (read ++ acts.heard))
            → IsSettledStream (entries_of acts.streams.opens.stream q.core.sctp.entries)
            ⊎ IsLiveChannel id acts.streams.opens.stream (m.association.generation q.core.sctp.association acts.streams.opens.stream) q
            → T (stream_under id q.core.channels) (generation_under m (stream_under id q.core.channels) q)
        both band (inl out) k = absurd (settled_out out band)
        both band (inr o) (inl out) = absurd (settled_out out band)
        both band (inr o) (inr live) =
            subst (λ (n : Option ℕ). T n (generation_under m n q)) (sym opening_placed) (made o live)

    pub opening_told : UsedUnlessClosed m written read p → InBandTold m (written ++ acts.wrote) (read ++ acts.heard) q (announced_use m id q)
    opening_told used = λ band. record {
      kept = λ e. opening_as (λ of g. UseTold m (written ++ acts.wrote) (read ++ acts.heard) q id of g [] []) opening_is used band;
      undone = λ e. absurd (true≢false (sym e));
    }
