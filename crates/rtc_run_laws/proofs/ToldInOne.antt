-- Of a channel that was announced in-band nothing was ever told but while its stream had the generation over which it was announced.
use Rattle.std.proofs.Common.{◌≡◌, ◌∙◌, ◌⊎◌, inl, inr, ◌++◌, ◌∷◌, ◌==◌, ◌&&◌, if◌then◌else◌, ℕ, Bool, true, false, true≢false, List, [], Option, Some, None, Result, Ok, Err, refl, sym, ap, subst}
use Rattle.std.proofs.lemmas.Bool.{eqb-true}
use Rattle.rtc_sctp_entries.specs.declared.stream_entry.StreamEntry.{StreamEntry}
use Rattle.rtc_sctp_entries.specs.declared.sctp_event.SctpEvent.TheVariants as event
use Rattle.rtc_sctp_entries.specs.declared.met.Met.TheVariants.{Output as StreamOutput}
use Rattle.rtc_sctp_laws.specs.GenerationLaws.{GenerationLaws}
use Rattle.rtc_sctp_laws.specs.StreamMessages.{StreamMessage}
use Rattle.rtc_sctp_laws.specs.StreamUses.{entries_of}
use Rattle.rtc_channels.specs.Allocation.{channel_ensured}
use Rattle.rtc_channels.specs.Channels.{Channels, is_of_stream}
use Rattle.rtc_peer_core.specs.declared.phase.Phase.TheVariants.{Closed as ClosedPhase}
use Rattle.rtc_peer_core.specs.declared.rtc_error.RtcError.{RtcError}
use Rattle.rtc_peer_core.specs.Meanings.{Meanings, PartsLaws}
use Rattle.rtc_peer_transport.specs.ChannelCalls.{stream_under}
use Rattle.rtc_peer_transport.specs.declared.channel_data.ChannelData.{ChannelData as ChannelMessage}
use Rattle.rtc_peer_transport.specs.declared.event.Event.TheVariants.{ChannelOpen, ChannelData}
use Rattle.rtc_peer_transport.specs.declared.met.Met.TheVariants.{Event as MetEvent}
use Rattle.rtc_peer_transport.specs.declared.output.Output.{Output}
use Rattle.rtc_peer_transport.specs.declared.output.Output.TheVariants as outputs
use Rattle.rtc_peer_transport.specs.declared.polled_peer.PolledPeer.{PolledPeer}
use Rattle.rtc_peer_polling.specs.StreamStages.{channel_over}
use Rattle.rtc_peer_polling.specs.Walk.{PollsPeer}
use Rattle.rtc_peer_laws.specs.Acts.{PollActs}
use Rattle.rtc_peer_laws.specs.ChannelStreams.{AreNumberedChannels}
use Rattle.rtc_peer_laws.proofs.ChannelsOver.{ensured_gone, ensured_over, none_over, same_stream, under_over}
use Rattle.rtc_run_laws.specs.ChannelUses.{ChannelUse, announced_use, generation_under}
use Rattle.rtc_run_laws.specs.OwnOpenings.{HasEntryOf}
use Rattle.rtc_run_laws.specs.ToldMessages.{MessagesTold, is_told_of, told_event}
use Rattle.rtc_run_laws.proofs.AnnouncedStreams.{uses_answered}
use Rattle.rtc_run_laws.proofs.RowLemmas.{closed_stays}
use Rattle.rtc_run_laws.proofs.SidesTold.{SideTold}
use Rattle.rtc_run_laws.proofs.TracedPolls.{LastPoll, poll_traced}
use Rattle.rtc_run_laws.proofs.ReadVisits.{IsTold, ReadLaws, sound_acts}
use Rattle.rtc_run_laws.proofs.UnendedReads.{poll_reads}
use Rattle.rtc_run_laws.proofs.UnendedRows.{StandsIn, Went, Waits, polled_go}
use Rattle.rtc_run_laws.proofs.UnendedPolls.{poll_says}
use Rattle.rtc_run_laws.proofs.UnendedTours.{HasOwn, HasSaid}
use Rattle.rtc_run_laws.proofs.UseLists.{all_got, all_more}
use Rattle.rtc_run_laws.proofs.UsesOpened.{opening_as}
use Rattle.rtc_run_laws.proofs.UsesPolled.{no_timeout}
use Rattle.rtc_run_laws.proofs.UsesTold.{InBandTold, UsedUnlessClosed, use_opened}
use Rattle.rtc_run_laws.proofs.WholePolled.{told_answered, use_told}
use Rattle.rtc_run_laws.proofs.WholeUses.{all_both, both_true, some_is}
use Rattle.rtc_run_laws.proofs.ToldEntries.{same_own, told_said}
use Rattle.rtc_run_laws.proofs.ToldEvents.{TellsData, TellsOpen, data_told, open_told}
use Rattle.rtc_run_laws.proofs.SidesInOne.{IsInOne, SideOne, ToldStands, polled_early}

module _ {I D S M E X T W N : Type 0} (m : Meanings I D S M E X T W N) where
  module _ (laws : PartsLaws m) (v : GenerationLaws m.association) where
    -- a channel is announced
    module _ (p q : PolledPeer I D S M N) (id : ℕ) (label : List ℕ) (h : PollsPeer m p (Ok (outputs.Event (ChannelOpen id label))) q)
        (acts : PollActs m p (Ok (outputs.Event (ChannelOpen id label))) q) (uses : List ChannelUse) (written read : List StreamMessage)
        (told : MessagesTold) (side : SideTold m uses written read p) where
      last_open : LastPoll m p (MetEvent (ChannelOpen id label)) q
      last_open = poll_traced m laws (ChannelOpen id label) p q h refl

      opened : TellsOpen m id last_open.between last_open.streams q
      opened = open_told m last_open.told id label last_open.between last_open.streams q last_open.polled last_open.taken

      rising_open : AreNumberedChannels q.core.channels
      rising_open = acts.numbers side.numbers

      channels_open : q.core.channels ≡ channel_ensured opened.stream last_open.between.core.channels
      channels_open = ap (λ (x : PolledPeer I D S M N). x.core.channels) opened.left

      over_open : channel_over opened.stream q.core.channels ≡ Some id
      over_open = ap (λ (x : Channels). channel_over opened.stream x) channels_open ∙ opened.over

      kept_generation : (s g : ℕ) → StandsIn m.association g id s last_open.between.core.channels last_open.between.core.sctp
          → HasOwn m.association g s q.core.sctp.entries × (opened.stream ≡ s)
      kept_generation s g (Went gone) =
          absurd
          (none_over opened.stream id (channel_ensured opened.stream last_open.between.core.channels).rows
          (ensured_gone opened.stream id last_open.between.core.channels gone).1 opened.over)
      kept_generation s g (Waits over said) = (
        subst (λ (l : List StreamEntry). HasOwn m.association g s l) (sym (ap (λ (x : PolledPeer I D S M N). x.core.sctp.entries) opened.left))
            ((poll_says m.association g laws.association v s last_open.between.core.sctp (Ok (Some (event.Open opened.stream opened.label))) last_open.streams
            opened.polled said).opens opened.label (ap (λ (n : ℕ). StreamOutput (event.Open n opened.label)) same)),
        same,
      )
        where
          same : opened.stream ≡ s
          same =
              same_stream opened.stream s id q.core.channels rising_open.0 over_open
              (ap (λ (x : Channels). channel_over s x) channels_open ∙ ensured_over opened.stream s id last_open.between.core.channels over)

      announced_one : (s g : ℕ) → StandsIn m.association g id s p.core.channels p.core.sctp → (announced_use m id q).in_band ≡ true
          → (stream_under id q.core.channels ≡ Some s) × (generation_under m (stream_under id q.core.channels) q ≡ g)
      announced_one s g stands band =
          opening_as m laws.association v p q id label h acts side.numbers written read
          (λ of n. (of ≡ Some s) × (n ≡ g))
          (λ o live.
          let kept =
          kept_generation s g
          ((polled_go m.association g laws.association v id s p.core.channels p.core.sctp last_open.between.core.channels last_open.between.core.sctp
          last_open.before.rows).stands side.numbers stands) in
          let same : acts.streams.opens.stream ≡ s =
          same_stream acts.streams.opens.stream opened.stream id q.core.channels rising_open.0 acts.streams.opens.over over_open ∙ kept.1 in (
            ap (λ (n : ℕ). Some n) same,
            same_own g (m.association.generation q.core.sctp.association acts.streams.opens.stream)
                (entries_of acts.streams.opens.stream q.core.sctp.entries)
                (subst (λ (n : ℕ). HasOwn m.association g n q.core.sctp.entries) (sym same) kept.0) live.1,
          ))
          side.used band

      announced_in : (p.core.phase ≡ ClosedPhase) ⊎ ToldStands m told p → IsInOne told (announced_use m id q)
      announced_in (inl closed) =
          absurd
          (no_timeout (ChannelOpen id label) _ (Ok (outputs.Event (ChannelOpen id label))) refl
          (closed_stays m p (Ok (outputs.Event (ChannelOpen id label))) q closed h).0)
      announced_in (inr f) = λ band s g. by s g band (f id s g)
        where
          by : (s g : ℕ) → (announced_use m id q).in_band ≡ true → (told id s g ≡ []) ⊎ StandsIn m.association g id s p.core.channels p.core.sctp
              → (told id s g ≡ [])
              ⊎ ((stream_under id q.core.channels ≡ Some s) × (generation_under m (stream_under id q.core.channels) q ≡ g))
          by s g band (inl none) = inl none
          by s g band (inr stands) = inr (announced_one s g stands band)

    module _ (sound : S → Type 0) (u : ReadLaws m.association sound) where
      -- a message is told
      module _ (p q : PolledPeer I D S M N) (message : ChannelMessage) (h : PollsPeer m p (Ok (outputs.Event (ChannelData message))) q)
          (acts : PollActs m p (Ok (outputs.Event (ChannelData message))) q) (uses : List ChannelUse) (written read : List StreamMessage)
          (told : MessagesTold) (side : SideTold m uses written read p) (k : sound p.core.sctp.association) where
        abbrev told_on : MessagesTold
        told_on = told_event m (ChannelData message) q told

        last_data : LastPoll m p (MetEvent (ChannelData message)) q
        last_data = poll_traced m laws (ChannelData message) p q h refl

        heard : TellsData m message last_data.between last_data.streams q
        heard = data_told m last_data.told message last_data.between last_data.streams q last_data.polled last_data.taken

        rising_data : AreNumberedChannels q.core.channels
        rising_data = acts.numbers side.numbers

        over_data : channel_over heard.stream q.core.channels ≡ Some message.id
        over_data = ap (λ (x : PolledPeer I D S M N). channel_over heard.stream x.core.channels) heard.left ∙ heard.over

        entry_data : HasEntryOf (IsTold m.association heard.stream q.core.sctp.association) heard.stream q.core.sctp.entries
        entry_data =
            subst (λ (x : PolledPeer I D S M N). HasEntryOf (IsTold m.association heard.stream x.core.sctp.association) heard.stream x.core.sctp.entries)
            (sym heard.left)
            (poll_reads m.association laws.association v sound u last_data.between.core.sctp
            (Ok (Some (event.Data heard.stream heard.binary heard.bytes))) last_data.streams
            (sound_acts m.association laws.association v sound u last_data.before.acts p.core.sctp.association last_data.between.core.sctp.association
            last_data.before.went k)
            heard.polled heard.stream heard.binary heard.bytes refl)

        -- the entry of the stream says so of the generation that it has
        said_data : UsedUnlessClosed m written read p
            → HasSaid m.association (m.association.generation q.core.sctp.association heard.stream) heard.stream q.core.sctp.association
            q.core.sctp.entries
        said_data (inl closed) =
            absurd
            (no_timeout (ChannelData message) _ (Ok (outputs.Event (ChannelData message))) refl
            (closed_stays m p (Ok (outputs.Event (ChannelData message))) q closed h).0)
        said_data (inr uses) =
            told_said m.association heard.stream q.core.sctp.association q.core.sctp.entries (written ++ acts.wrote) (read ++ acts.heard) entry_data
            (acts.streams.uses laws.association v heard.stream written read (uses heard.stream)).used

        -- what is told is told of the channel, its stream and the generation of this
        record ToldOf (c s g : ℕ) : Type 0 where
          channel : c ≡ message.id
          under : is_of_stream s (stream_under c q.core.channels) ≡ true
          generation : m.association.generation q.core.sctp.association s ≡ g

        told_of : (c s g : ℕ) → is_told_of m message q c s g ≡ true → ToldOf c s g
        told_of c s g e =
            let two =
            both_true (c == message.id)
            (is_of_stream s (stream_under c q.core.channels) && (m.association.generation q.core.sctp.association s == g)) e in
            let rest =
            both_true (is_of_stream s (stream_under c q.core.channels)) (m.association.generation q.core.sctp.association s == g) two.1 in
            record {
              channel = eqb-true c message.id two.0;
              under = rest.0;
              generation = eqb-true (m.association.generation q.core.sctp.association s) g rest.1;
            }

        under_is : (o : Option ℕ) (t s : ℕ) → o ≡ Some t → is_of_stream s o ≡ true → t ≡ s
        under_is None t s e f = absurd (true≢false (sym f))
        under_is (Some n) t s e f = sym (some_is n t e) ∙ eqb-true n s f

        data_stands : (c s g : ℕ) → ToldOf c s g → StandsIn m.association g c s q.core.channels q.core.sctp
        data_stands c s g of =
            Waits (ap (λ (n : ℕ). channel_over n q.core.channels) (sym same) ∙ over_data ∙ ap (λ (n : ℕ). Some n) (sym of.channel))
            (subst (λ (n : ℕ). HasSaid m.association n s q.core.sctp.association q.core.sctp.entries) of.generation
            (subst (λ (n : ℕ). HasSaid m.association (m.association.generation q.core.sctp.association n) n q.core.sctp.association q.core.sctp.entries)
            same (said_data side.used)))
          where
            same : heard.stream ≡ s
            same =
                under_is (stream_under c q.core.channels) heard.stream s
                (under_over heard.stream c q.core.channels rising_data.0 (over_data ∙ ap (λ (n : ℕ). Some n) (sym of.channel))) of.under

        data_early : (q.core.phase ≡ ClosedPhase) ⊎ ToldStands m told q → (q.core.phase ≡ ClosedPhase) ⊎ ToldStands m told_on q
        data_early (inl closed) = inl closed
        data_early (inr f) = inr (λ c s g. by c s g (is_told_of m message q c s g) refl (f c s g))
          where
            by : (c s g : ℕ) (b : Bool) → is_told_of m message q c s g ≡ b → (told c s g ≡ []) ⊎ StandsIn m.association g c s q.core.channels q.core.sctp
                → ((if b then told c s g ++ (message.binary, message.bytes) ∷ [] else told c s g) ≡ [])
                ⊎ StandsIn m.association g c s q.core.channels q.core.sctp
            by c s g true e x = inr (data_stands c s g (told_of c s g e))
            by c s g false e x = x

        -- of one that was announced it is told where that is
        data_own : (x : ChannelUse) → (x.channel == message.id) ≡ true → InBandTold m written read p x × IsInOne told x → IsInOne told_on x
        data_own x e j = λ band s g.
            let opened = use_opened m written read p x (j.0 band) in
            by s g opened.stream opened.stream_is
            (told_of x.channel opened.stream x.generation
            (use_told m laws.association v p q message h acts side.numbers told written read x e (j.0 band) opened.stream opened.stream_is))
            (is_told_of m message q x.channel s g) refl (j.1 band s g)
          where
            same_place : (s t g : ℕ) → ToldOf x.channel s g → ToldOf x.channel t x.generation → x.stream ≡ Some t
                → (x.stream ≡ Some s) × (x.generation ≡ g)
            same_place s t g one two of =
                let under : stream_under x.channel q.core.channels ≡ Some heard.stream =
                under_over heard.stream x.channel q.core.channels rising_data.0 (over_data ∙ ap (λ (n : ℕ). Some n) (sym one.channel)) in
                let first : heard.stream ≡ s = under_is (stream_under x.channel q.core.channels) heard.stream s under one.under in
                let second : heard.stream ≡ t = under_is (stream_under x.channel q.core.channels) heard.stream t under two.under in
                let same : t ≡ s = sym second ∙ first in (
                  of ∙ ap (λ (n : ℕ). Some n) same,
                  sym two.generation ∙ ap (λ (n : ℕ). m.association.generation q.core.sctp.association n) same ∙ one.generation,
                )

            by : (s g t : ℕ) → x.stream ≡ Some t → ToldOf x.channel t x.generation → (b : Bool) → is_told_of m message q x.channel s g ≡ b
                → (told x.channel s g ≡ []) ⊎ ((x.stream ≡ Some s) × (x.generation ≡ g))
                → ((if b then told x.channel s g ++ (message.binary, message.bytes) ∷ [] else told x.channel s g) ≡ [])
                ⊎ ((x.stream ≡ Some s) × (x.generation ≡ g))
            by s g t of own false f before = before
            by s g t of own true f before = inr (same_place s t g (told_of x.channel s g f) own of)

        -- of another one nothing is
        data_other : (x : ChannelUse) → (x.channel == message.id) ≡ false → InBandTold m written read p x × IsInOne told x → IsInOne told_on x
        data_other x e j = λ band s g.
            by s g (x.channel == message.id) (is_of_stream s (stream_under x.channel q.core.channels) && (m.association.generation q.core.sctp.association s == g))
            e (j.1 band s g)
          where
            by : (s g : ℕ) (a b : Bool) → a ≡ false → (told x.channel s g ≡ []) ⊎ ((x.stream ≡ Some s) × (x.generation ≡ g))
                → ((if a && b then told x.channel s g ++ (message.binary, message.bytes) ∷ [] else told x.channel s g) ≡ [])
                ⊎ ((x.stream ≡ Some s) × (x.generation ≡ g))
            by s g true b f k = absurd (true≢false f)
            by s g false b f k = k

      -- a poll
      pub one_polled : (p : PolledPeer I D S M N) (answer : Result (Output E) RtcError) (q : PolledPeer I D S M N) (h : PollsPeer m p answer q)
          (acts : PollActs m p answer q) (uses : List ChannelUse) (written read : List StreamMessage) (told : MessagesTold)
          → SideTold m uses written read p → sound p.core.sctp.association → SideOne m told uses p
          → SideOne m (told_answered m answer q told) (uses_answered m answer q uses) q
      one_polled p (Ok (outputs.Event (ChannelOpen id label))) q h acts uses written read told side k one = record {
        early = polled_early m laws v told p (Ok (outputs.Event (ChannelOpen id label))) q h side.numbers acts.streams.changed one.early;
        each =
            all_more (IsInOne told) uses (announced_use m id q) one.each
            (announced_in p q id label h acts uses written read told side one.early);
      }
      one_polled p (Ok (outputs.Event (ChannelData message))) q h acts uses written read told side k one = record {
        early =
            data_early p q message h acts uses written read told side k
            (polled_early m laws v told p (Ok (outputs.Event (ChannelData message))) q h side.numbers acts.streams.changed one.early);
        each =
            all_got (λ x. InBandTold m written read p x × IsInOne told x) (IsInOne (told_event m (ChannelData message) q told)) message.id
            (message.binary, message.bytes) uses (λ x e j. data_own p q message h acts uses written read told side k x e j)
            (λ x e j. data_other p q message h acts uses written read told side k x e j)
            (all_both (InBandTold m written read p) (IsInOne told) uses side.each one.each);
      }
      one_polled p (Ok (outputs.Event event)) q h acts uses written read told side k one = record {
        early = polled_early m laws v told p (Ok (outputs.Event event)) q h side.numbers acts.streams.changed one.early;
        each = one.each;
      }
      one_polled p (Ok (outputs.Transmit transmit)) q h acts uses written read told side k one = record {
        early = polled_early m laws v told p (Ok (outputs.Transmit transmit)) q h side.numbers acts.streams.changed one.early;
        each = one.each;
      }
      one_polled p (Ok (outputs.Timeout moment)) q h acts uses written read told side k one = record {
        early = polled_early m laws v told p (Ok (outputs.Timeout moment)) q h side.numbers acts.streams.changed one.early;
        each = one.each;
      }
      one_polled p (Err error) q h acts uses written read told side k one = record {
        early = polled_early m laws v told p (Err error) q h side.numbers acts.streams.changed one.early;
        each = one.each;
      }
