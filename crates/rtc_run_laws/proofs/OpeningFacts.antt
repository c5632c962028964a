-- What is known of the stream of a channel that a poll of a side announces in-band over a generation: the row over it was confirmed before the poll, or nothing
-- that opens a channel was written to the generation.
use Rattle.std.proofs.Common.{◌≡◌, ◌∙◌, ◌⊎◌, inl, inr, not, ℕ, Bool, true, false, true≢false, List, Option, Some, None, Ok, refl, sym, ap, subst}
use Rattle.std.specs.Prelude.{is_some}
use Rattle.rtc_assoc_state.proofs.PlainLaws.{plain_laws}
use Rattle.rtc_assoc_state.specs.Contents.{Contents}
use Rattle.rtc_assoc_state.specs.PlainMeaning.{plain_meaning}
use Rattle.rtc_parts.specs.Draws.{Draws}
use Rattle.rtc_sctp.specs.Polls.{PollsStreams}
use Rattle.rtc_sctp.specs.Streams.{SctpStreams}
use Rattle.rtc_sctp_entries.specs.declared.sctp_event.SctpEvent.TheVariants as event
use Rattle.rtc_sctp_entries.specs.Entries.{config_or_fresh}
use Rattle.rtc_sctp_laws.specs.StreamUses.{HasOpenInBand, any_dcep, entries_of, messages_of}
use Rattle.rtc_sctp_laws.proofs.PlainGenerations.{plain_generations}
use Rattle.rtc_channels.specs.Channels.{Channel}
use Rattle.rtc_peer_transport.specs.ChannelCalls.{config_under, stream_under}
use Rattle.rtc_peer_transport.specs.declared.event.Event.TheVariants.{ChannelOpen}
use Rattle.rtc_peer_transport.specs.declared.met.Met.TheVariants.{Event as MetEvent}
use Rattle.rtc_peer_transport.specs.declared.output.Output.TheVariants as outputs
use Rattle.rtc_peer_polling.proofs.Standing.{poll_stands}
use Rattle.rtc_peer_polling.proofs.StreamStarts.{polled_start, started_same}
use Rattle.rtc_peer_polling.specs.Kept.{KeepsParts}
use Rattle.rtc_peer_polling.specs.StreamStages.{channel_over}
use Rattle.rtc_peer_polling.specs.Walk.{PollsPeer}
use Rattle.rtc_peer_laws.specs.Acts.{PollActs}
use Rattle.rtc_peer_laws.specs.ChannelStreams.{AreNumberedChannels, AreNumbersGiven, IsUsedStream}
use Rattle.rtc_peer_laws.specs.KeptChannels.{IsSettledStream}
use Rattle.rtc_peer_laws.specs.PeerActs.{PeerActs}
use Rattle.rtc_peer_laws.specs.RowsChanged.{RowsChanged}
use Rattle.rtc_peer_laws.proofs.ActedPolls.{poll_acts}
use Rattle.rtc_peer_laws.proofs.ChannelsOver.{under_over}
use Rattle.rtc_peer_laws.proofs.PolledRows.{polled_changes}
use Rattle.rtc_run_history.specs.declared.sent_packet.SentPacket.{SentPacket}
use Rattle.rtc_run_history.specs.declared.side.Side.{Side}
use Rattle.rtc_run_laws.specs.ChannelUses.{ChannelUse, announced_use, generation_under}
use Rattle.rtc_run_laws.specs.OwnOpenings.{HasOpening}
use Rattle.rtc_run_laws.specs.PlainPairs.{PlainPolled, plain_over}
use Rattle.rtc_run_laws.specs.ToldMessages.{MessagesTold}
use Rattle.rtc_run_laws.proofs.AnnouncedStreams.{AnnouncedUnlessClosed, HasUseOver, IsUseOver, found}
use Rattle.rtc_run_laws.proofs.BegunOpenings.{WroteOpening, rows_begun}
use Rattle.rtc_run_laws.proofs.LastOpenings.{waited}
use Rattle.rtc_run_laws.proofs.OwnedChanges.{IsOwned}
use Rattle.rtc_run_laws.proofs.OwnedRows.{HasOwner, IsOwner, ensured_has}
use Rattle.rtc_run_laws.proofs.OwnedRuns.{HasSide, changed_owned}
use Rattle.rtc_run_laws.proofs.PolledUses.{IsGood, Lives}
use Rattle.rtc_run_laws.proofs.RowLemmas.{settled_config}
use Rattle.rtc_run_laws.proofs.ReadOpenings.{NotFull}
use Rattle.rtc_run_laws.proofs.SideChanges.{changed_side}
use Rattle.rtc_run_laws.proofs.StandingSides.{Sent, Stood}
use Rattle.rtc_run_laws.proofs.StepsExchange.{plain_over_laws}
use Rattle.rtc_run_laws.proofs.ToldEvents.{TellsOpen, open_told}
use Rattle.rtc_run_laws.proofs.TracedPolls.{LastPoll, poll_traced}
use Rattle.rtc_run_laws.proofs.UsesTold.{UsedUnlessClosed}

some_is : (a b : ℕ) → Some a ≡ Some b → a ≡ b
some_is a b h = cc

none_some : (a : ℕ) → None ≡ Some a → ⊥
none_some a h = cc

not_both : (b : Bool) → b ≡ true → not b ≡ true → ⊥
not_both true e k = true≢false (sym k)
not_both false e k = true≢false (sym e)

module _ {N : Type 0} (draws : Draws N) (s g : ℕ) (at : Side) (b : PeerActs) (other : PlainPolled N) (sent : Sent) (c : Bool) (p : PlainPolled N) (id : ℕ)
    (label : List ℕ) (q : PlainPolled N) (packets : List SentPacket) (uses : List ChannelUse) (told : MessagesTold)
    (h : PollsPeer (plain_over draws) p (Ok (outputs.Event (ChannelOpen id label))) q) (lives : Lives draws at b other sent c p)
    (good : IsGood draws at b other sent c p) (stood : Stood draws at packets b other uses sent told p) (free : NotFull draws s p) where
  abbrev acts : PollActs (plain_over draws) p (Ok (outputs.Event (ChannelOpen id label))) q
  acts = poll_acts (plain_over draws) (plain_over_laws draws) p (Ok (outputs.Event (ChannelOpen id label))) q h

  pub numbered : AreNumberedChannels q.core.channels
  numbered = acts.numbers stood.side.told.numbers

  -- the poll of the streams that ends it
  last : LastPoll (plain_over draws) p (MetEvent (ChannelOpen id label)) q
  last = poll_traced (plain_over draws) (plain_over_laws draws) (ChannelOpen id label) p q h refl

  opened : TellsOpen (plain_over draws) id last.between last.streams q
  opened = open_told (plain_over draws) last.told id label last.between last.streams q last.polled last.taken

  abbrev near : SctpStreams Contents
  near = last.between.core.sctp

  streams_is : q.core.sctp ≡ last.streams
  streams_is = ap (λ (x : PlainPolled N). x.core.sctp) opened.left

  over_open : channel_over opened.stream q.core.channels ≡ Some id
  over_open = ap (λ (x : PlainPolled N). channel_over opened.stream x.core.channels) opened.left ∙ opened.over

  rows : RowsChanged plain_meaning p.core.channels p.core.sctp last.between.core.channels near
  rows = polled_changes plain_meaning p.core.channels p.core.sctp last.between.core.channels near last.before.rows

  -- it has the side that it had before the poll
  started : plain_meaning.started near.association ≡ true → plain_meaning.started p.core.sctp.association ≡ true
  started e = sym (started_same plain_meaning p.core.sctp q.core.sctp parts.5) ∙ after
    where
      parts : KeepsParts (plain_over draws) p q
      parts =
          poll_stands (plain_over draws) (plain_over_laws draws).ice (plain_over_laws draws).media (plain_over_laws draws).association p
          (Ok (outputs.Event (ChannelOpen id label))) q h

      after : plain_meaning.started q.core.sctp.association ≡ true
      after =
          ap (λ (x : SctpStreams Contents). plain_meaning.started x.association) streams_is
          ∙ (polled_start plain_meaning plain_laws near _ last.streams opened.polled).started e

  side : HasSide plain_meaning plain_laws c near
  side e =
      (changed_side plain_meaning plain_laws p.core.channels p.core.sctp last.between.core.channels near rows).side (started e)
      ∙ lives.side (started e)

  owned : IsOwned c last.between.core.channels near.entries
  owned = changed_owned plain_meaning plain_laws c p.core.channels p.core.sctp last.between.core.channels near rows side good.sound good.owned

  used : UsedUnlessClosed (plain_over draws) stood.side.written stood.side.read p
      → (t : ℕ) → IsUsedStream (plain_over draws) t stood.side.written stood.side.read p
  used (inl closed) = absurd (lives.lives closed)
  used (inr k) = k

  -- no stream is open in-band that keeps no generation
  kept : AnnouncedUnlessClosed (plain_over draws) uses p → HasOpenInBand s None p.core.sctp.entries → ⊥
  kept (inl closed) k = lives.lives closed
  kept (inr announced) k = by (announced s None k)
    where
      by : HasUseOver s None uses ⊎ AreNumbersGiven p.core.channels → ⊥
      by (inl over) = let it = found s None uses over in none_some it.use_over.generation it.is_over.2
      by (inr full) = free full

  begun : any_dcep (messages_of s g stood.side.written) ≡ true → WroteOpening plain_meaning plain_laws plain_generations s g near
  begun e =
      rows_begun plain_meaning plain_laws plain_generations s g p.core.channels p.core.sctp last.between.core.channels near rows
      (record {
        written = stood.side.written;
        read = stood.side.read;
        used = used stood.side.told.used s;
        begun = e;
        kept = kept stood.side.told.announced;
      })

  module _ (over : IsUseOver s (Some g) (announced_use (plain_over draws) id q)) where
    stream_is : opened.stream ≡ s
    stream_is = some_is opened.stream s (sym (under_over opened.stream id q.core.channels numbered.0 over_open) ∙ over.1)

    pub over_is : channel_over s q.core.channels ≡ Some id
    over_is = subst (λ (n : ℕ). channel_over n q.core.channels ≡ Some id) stream_is over_open

    generation_is : plain_meaning.generation last.streams.association s ≡ g
    generation_is =
        ap (λ (x : SctpStreams Contents). plain_meaning.generation x.association s) (sym streams_is)
        ∙ sym (some_is g (plain_meaning.generation q.core.sctp.association s) (over.2 ∙ ap (λ (o : Option ℕ). Some (generation_under (plain_over draws) o q)) over.1))

    in_band : IsSettledStream (entries_of s last.streams.entries) → ⊥
    in_band out =
        not_both (is_some (config_or_fresh (config_under (stream_under id q.core.channels) q.core.sctp)).negotiated)
        (ap (λ (o : Option ℕ). is_some (config_or_fresh (config_under o q.core.sctp)).negotiated) over.1
        ∙ settled_config s q.core.sctp.entries
        (subst (λ (x : SctpStreams Contents). IsSettledStream (entries_of s x.entries)) (sym streams_is) out))
        over.0

    waits : any_dcep (messages_of s g stood.side.written) ≡ true → HasOpening s near.entries
    waits e =
        waited plain_meaning plain_laws plain_generations s g near last.streams opened.label
        (subst (λ (n : ℕ). PollsStreams plain_meaning near (Ok (Some (event.Open n opened.label))) last.streams) stream_is opened.polled)
        generation_is in_band (begun e)

    pub facts : (HasOwner c s p.core.channels.rows × HasOwner c s q.core.channels.rows)
        ⊎ (any_dcep (messages_of s g stood.side.written) ≡ false)
    facts = by (any_dcep (messages_of s g stood.side.written)) refl
      where
        by : (d : Bool) → any_dcep (messages_of s g stood.side.written) ≡ d
            → (HasOwner c s p.core.channels.rows × HasOwner c s q.core.channels.rows)
            ⊎ (any_dcep (messages_of s g stood.side.written) ≡ false)
        by true e =
            let owner = owned.openings s (waits e) in
            inl (
              subst (λ (l : List Channel). HasOwner c s l) last.before.kept owner,
              subst (λ (x : PlainPolled N). HasOwner c s x.core.channels.rows) (sym opened.left)
                  (ensured_has (IsOwner c s) s opened.stream last.between.core.channels owner),
            )
        by false e = inr e

  -- the channel has the stream
  pub placed : stream_under id q.core.channels ≡ Some acts.streams.opens.stream
  placed = under_over acts.streams.opens.stream id q.core.channels numbered.0 acts.streams.opens.over
