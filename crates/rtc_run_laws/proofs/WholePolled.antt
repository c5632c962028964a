-- What a poll tells of a channel that was announced in-band is what the channel gets, and before it is announced nothing where nothing was
-- read.
use Rattle.std.proofs.Common.{◌≡◌, ◌∙◌, ◌++◌, ◌∷◌, ◌==◌, ◌&&◌, if◌then◌else◌, ℕ, Bool, true, false, true≢false, List, [], append-nil, Option, Some, None, Result, Ok, Err, refl, sym, ap, subst}
use Rattle.std.proofs.lemmas.Bool.{eqb-true, eqb-false}
use Rattle.rtc_parts.specs.AssociationLaws.{AssociationLaws}
use Rattle.rtc_sctp_laws.specs.StreamMessages.{StreamMessage, is_dcep_message}
use Rattle.rtc_sctp_laws.specs.GenerationLaws.{GenerationLaws}
use Rattle.rtc_sctp_laws.specs.StreamUses.{messages_of}
use Rattle.rtc_sctp_laws.specs.Contents.{contents_of}
use Rattle.rtc_sctp_laws.proofs.ContentLemmas.{contents-append}
use Rattle.rtc_channels.specs.Channels.{is_of_stream}
use Rattle.rtc_peer_core.specs.declared.rtc_error.RtcError.{RtcError}
use Rattle.rtc_peer_core.specs.Meanings.{Meanings}
use Rattle.rtc_peer_transport.specs.ChannelCalls.{stream_under}
use Rattle.rtc_peer_transport.specs.declared.channel_data.ChannelData.{ChannelData as ChannelMessage}
use Rattle.rtc_peer_transport.specs.declared.event.Event.TheVariants.{ChannelOpen, ChannelData}
use Rattle.rtc_peer_transport.specs.declared.output.Output.{Output}
use Rattle.rtc_peer_transport.specs.declared.output.Output.TheVariants as outputs
use Rattle.rtc_peer_transport.specs.declared.polled_peer.PolledPeer.{PolledPeer}
use Rattle.rtc_peer_polling.specs.Walk.{PollsPeer}
use Rattle.rtc_peer_laws.specs.Acts.{PollActs}
use Rattle.rtc_peer_laws.specs.ChannelStreams.{AreNumberedChannels, IsLiveChannel}
use Rattle.rtc_peer_laws.proofs.ChannelsOver.{none_over, same_stream, under_over}
use Rattle.rtc_run_laws.specs.ChannelUses.{ChannelUse, announced_use}
use Rattle.rtc_run_laws.specs.ToldMessages.{MessagesTold, is_told_of, told_event}
use Rattle.rtc_run_laws.proofs.RowLemmas.{closed_stays, own_stream}
use Rattle.rtc_run_laws.proofs.AnnouncedStreams.{uses_answered}
use Rattle.rtc_run_laws.proofs.SidesTold.{SideTold}
use Rattle.rtc_run_laws.proofs.UseLists.{all_got, all_more}
use Rattle.rtc_run_laws.proofs.UsesOpened.{opening_as}
use Rattle.rtc_run_laws.proofs.UsesPolled.{all_dcep_none, no_timeout}
use Rattle.rtc_run_laws.proofs.UsesTold.{HasGone, InBandTold, IsOver, Lives, StandsSo, UseStands}
use Rattle.rtc_run_laws.proofs.WholeUses.{WholeTold, InBandWhole, AreSilent, SideWhole, none_last, ends_none, contents_join, of_other, both_true, all_both, some_is, whole_on, unmoved, silent_on, whole_still}

module _ {I D S M E X T W N : Type 0} (m : Meanings I D S M E X T W N) where
  -- what was told behind an answer of a poll
  abbrev pub told_answered : Result (Output E) RtcError → PolledPeer I D S M N → MessagesTold → MessagesTold
  told_answered (Ok (outputs.Event event)) q told = told_event m event q told
  told_answered (Ok (outputs.Transmit transmit)) q told = told
  told_answered (Ok (outputs.Timeout moment)) q told = told
  told_answered (Err error) q told = told

  module _ (w : AssociationLaws m.association) (v : GenerationLaws m.association) where
    -- a channel is announced
    module _ (p q : PolledPeer I D S M N) (id : ℕ) (label : List ℕ) (h : PollsPeer m p (Ok (outputs.Event (ChannelOpen id label))) q)
        (acts : PollActs m p (Ok (outputs.Event (ChannelOpen id label))) q) (uses : List ChannelUse) (written read : List StreamMessage)
        (told : MessagesTold) (side : SideTold m uses written read p) (silent : AreSilent told (read ++ acts.heard)) where
      opening_whole : InBandWhole told (read ++ acts.heard) (announced_use m id q)
      opening_whole = λ band.
          opening_as m w v p q id label h acts side.numbers written read
          (λ of g. WholeTold told (read ++ acts.heard) id of g [])
          (λ o live. record {
            stream = stream;
            stream_is = refl;
            before = o.before;
            last = o.last;
            rest = [];
            read_is = o.heard_is ∙ sym (append-nil (o.before ++ o.last ∷ []));
            last_dcep = o.last_dcep;
            none_before = o.none_before;
            early = told id stream generation;
            told_is = sym (append-nil (told id stream generation));
            silent = λ none.
                silent id stream generation
                (ap contents_of o.heard_is
                ∙ contents-append o.before (o.last ∷ [])
                ∙ ap (λ (l : List (Bool × List ℕ)). l ++ contents_of (o.last ∷ [])) none
                ∙ all_dcep_none (o.last ∷ []) (one_dcep (is_dcep_message o.last) o.last_dcep));
          }) side.used band
        where
          stream : ℕ
          stream = acts.streams.opens.stream

          generation : ℕ
          generation = m.association.generation q.core.sctp.association acts.streams.opens.stream

          one_dcep : (b : Bool) → b ≡ true → (b && true) ≡ true
          one_dcep true e = refl
          one_dcep false e = absurd (true≢false (sym e))

    -- a message is told
    module _ (p q : PolledPeer I D S M N) (message : ChannelMessage) (h : PollsPeer m p (Ok (outputs.Event (ChannelData message))) q)
        (acts : PollActs m p (Ok (outputs.Event (ChannelData message))) q) (numbers : AreNumberedChannels p.core.channels) (told : MessagesTold) where
      abbrev told_on : MessagesTold
      told_on = told_event m (ChannelData message) q told

      rising_after : AreNumberedChannels q.core.channels
      rising_after = acts.numbers numbers

      -- it was read of the stream of its channel, in the generation that this has
      read_there : (s g : ℕ) → (acts.streams.tells v).stream ≡ s → m.association.generation q.core.sctp.association s ≡ g
          → contents_of (messages_of s g acts.heard) ≡ (acts.streams.tells v).before ++ (message.binary, message.bytes) ∷ []
      read_there s g same own =
          ap (λ (n : ℕ). contents_of (messages_of n g acts.heard)) (sym same)
          ∙ ap (λ (n : ℕ). contents_of (messages_of (acts.streams.tells v).stream n acts.heard))
          (sym own ∙ ap (m.association.generation q.core.sctp.association) (sym same))
          ∙ (acts.streams.tells v).read_is

      told_own : (c s g : ℕ) → is_told_of m message q c s g ≡ true
          → contents_of (messages_of s g acts.heard) ≡ (acts.streams.tells v).before ++ (message.binary, message.bytes) ∷ []
      told_own c s g e =
          let two =
          both_true (c == message.id)
          (is_of_stream s (stream_under c q.core.channels) && (m.association.generation q.core.sctp.association s == g)) e in
          let rest =
          both_true (is_of_stream s (stream_under c q.core.channels)) (m.association.generation q.core.sctp.association s == g) two.1 in
          read_there s g (stream_is s c (eqb-true c message.id two.0) rest.0)
          (eqb-true (m.association.generation q.core.sctp.association s) g rest.1)
        where
          own : (o : Option ℕ) (t s : ℕ) → o ≡ Some t → is_of_stream s o ≡ true → t ≡ s
          own None t s e f = absurd (true≢false (sym f))
          own (Some n) t s e f = sym (some_is n t e) ∙ eqb-true n s f

          stream_is : (s c : ℕ) → c ≡ message.id → is_of_stream s (stream_under c q.core.channels) ≡ true → (acts.streams.tells v).stream ≡ s
          stream_is s c same f =
              own (stream_under c q.core.channels) (acts.streams.tells v).stream s
              (under_over (acts.streams.tells v).stream c q.core.channels rising_after.0
              ((acts.streams.tells v).over ∙ ap (λ (n : ℕ). Some n) (sym same))) f

      told_silent : (read : List StreamMessage) → AreSilent told read → AreSilent told_on (read ++ acts.heard)
      told_silent read silent = λ c s g none. by c s g none (is_told_of m message q c s g) refl
        where
          by : (c s g : ℕ) → contents_of (messages_of s g (read ++ acts.heard)) ≡ [] → (b : Bool) → is_told_of m message q c s g ≡ b
              → (if b then told c s g ++ (message.binary, message.bytes) ∷ [] else told c s g) ≡ []
          by c s g none true e =
              absurd
              (ends_none (acts.streams.tells v).before (message.binary, message.bytes)
              (sym (told_own c s g e)
              ∙ none_last (contents_of (messages_of s g read)) (contents_of (messages_of s g acts.heard)) (sym (contents_join s g read acts.heard) ∙ none)))
          by c s g none false e = silent_on told read acts.heard silent c s g none

      -- of a channel that is live it is in the generation of that
      live_told : (c s g : ℕ) → (c == message.id) ≡ true → IsLiveChannel c s g p → is_told_of m message q c s g ≡ true
      live_told c s g e live =
          rw (e, own_stream s (stream_under c q.core.channels) (under_over s c q.core.channels rising_after.0 after.0), generation) refl
        where
          after : IsLiveChannel c s g q
          after = acts.streams.lives c s g numbers.0 live

          stream : (acts.streams.tells v).stream ≡ s
          stream =
              same_stream (acts.streams.tells v).stream s c q.core.channels rising_after.0
              ((acts.streams.tells v).over ∙ ap (λ (n : ℕ). Some n) (sym (eqb-true c message.id e))) after.0

          there : contents_of (messages_of s (m.association.generation q.core.sctp.association s) acts.heard)
              ≡ (acts.streams.tells v).before ++ (message.binary, message.bytes) ∷ []
          there = read_there s (m.association.generation q.core.sctp.association s) stream refl

          generation : (m.association.generation q.core.sctp.association s == g) ≡ true
          generation = by (m.association.generation q.core.sctp.association s == g) refl
            where
              by : (b : Bool) → (m.association.generation q.core.sctp.association s == g) ≡ b → b ≡ true
              by true f = refl
              by false f =
                  absurd
                  (ends_none (acts.streams.tells v).before (message.binary, message.bytes)
                  (sym there
                  ∙ ap contents_of
                  (of_other s g (m.association.generation q.core.sctp.association s) acts.heard (acts.streams.live_heard c s g numbers.0 live)
                  (eqb-false (m.association.generation q.core.sctp.association s) g f))))

      stands_told : (c s g : ℕ) (got : List (Bool × List ℕ)) (rest : List StreamMessage) → (c == message.id) ≡ true → StandsSo m c s g got rest p
          → is_told_of m message q c s g ≡ true
      stands_told c s g got rest e (Lives live is) = live_told c s g e live
      stands_told c s g got rest e (HasGone gone past k) =
          absurd
          (none_over (acts.streams.tells v).stream c q.core.channels.rows (acts.streams.gone c gone).1
          ((acts.streams.tells v).over ∙ ap (λ (n : ℕ). Some n) (sym (eqb-true c message.id e))))
      stands_told c s g got rest e (IsOver closed k) =
          absurd
          (no_timeout (ChannelData message) _ (Ok (outputs.Event (ChannelData message))) refl
          (closed_stays m p (Ok (outputs.Event (ChannelData message))) q closed h).0)

      -- also of one that may have been rolled back: then it has no row, and nothing is told of it
      pub use_told : (written read : List StreamMessage) (x : ChannelUse) → (x.channel == message.id) ≡ true → UseStands m written read p x → (s : ℕ)
          → x.stream ≡ Some s → is_told_of m message q x.channel s x.generation ≡ true
      use_told written read x e u s of = by x.rolled_back refl
        where
          by : (b : Bool) → x.rolled_back ≡ b → is_told_of m message q x.channel s x.generation ≡ true
          by true f =
              absurd
              (none_over (acts.streams.tells v).stream x.channel q.core.channels.rows (acts.streams.gone x.channel (u.undone f).gone).1
              ((acts.streams.tells v).over ∙ ap (λ (n : ℕ). Some n) (sym (eqb-true x.channel message.id e))))
          by false f =
              let t = u.kept f in
              subst (λ (n : ℕ). is_told_of m message q x.channel n x.generation ≡ true) (some_is t.stream s (sym t.stream_is ∙ of))
              (stands_told x.channel t.stream x.generation x.got t.rest e t.stands)

      own_whole : (written read : List StreamMessage) (x : ChannelUse) → (x.channel == message.id) ≡ true
          → InBandTold m written read p x × InBandWhole told read x
          → InBandWhole told_on (read ++ acts.heard) (record x { got = x.got ++ (message.binary, message.bytes) ∷ [] })
      own_whole written read x e k = λ band.
          let whole = k.1 band in
          whole_on told told_on read acts.heard x.channel x.stream x.generation x.got (x.got ++ (message.binary, message.bytes) ∷ [])
          ((message.binary, message.bytes) ∷ []) whole refl
          (taken (is_told_of m message q x.channel whole.stream x.generation) (told x.channel whole.stream x.generation)
          (use_told written read x e (k.0 band) whole.stream whole.stream_is))
        where
          taken : (b : Bool) (l : List (Bool × List ℕ)) → b ≡ true
              → (if b then l ++ (message.binary, message.bytes) ∷ [] else l) ≡ l ++ (message.binary, message.bytes) ∷ []
          taken true l f = refl
          taken false l f = absurd (true≢false (sym f))

      other_whole : (written read : List StreamMessage) (x : ChannelUse) → (x.channel == message.id) ≡ false
          → InBandTold m written read p x × InBandWhole told read x → InBandWhole told_on (read ++ acts.heard) x
      other_whole written read x e k =
          unmoved told told_on read acts.heard x
          (λ s g.
          left (x.channel == message.id)
          (is_of_stream s (stream_under x.channel q.core.channels) && (m.association.generation q.core.sctp.association s == g)) (told x.channel s g) e)
          k.1
        where
          left : (a b : Bool) (l : List (Bool × List ℕ)) → a ≡ false → (if a && b then l ++ (message.binary, message.bytes) ∷ [] else l) ≡ l
          left false b l f = refl
          left true b l f = absurd (true≢false f)

    -- a poll
    pub whole_polled : (p : PolledPeer I D S M N) (answer : Result (Output E) RtcError) (q : PolledPeer I D S M N) (h : PollsPeer m p answer q)
        (acts : PollActs m p answer q) (uses : List ChannelUse) (written read : List StreamMessage) (told : MessagesTold)
        → SideTold m uses written read p → SideWhole told read uses
        → SideWhole (told_answered answer q told) (read ++ acts.heard) (uses_answered m answer q uses)
    whole_polled p (Ok (outputs.Event (ChannelOpen id label))) q h acts uses written read told side whole =
        let still : SideWhole told (read ++ acts.heard) uses = whole_still told read acts.heard uses whole in
        record {
          silent = still.silent;
          each =
              all_more (InBandWhole told (read ++ acts.heard)) uses (announced_use m id q) still.each
              (opening_whole p q id label h acts uses written read told side still.silent);
        }
    whole_polled p (Ok (outputs.Event (ChannelData message))) q h acts uses written read told side whole =
        record {
          silent = told_silent p q message h acts side.numbers told read whole.silent;
          each =
              all_got (λ x. InBandTold m written read p x × InBandWhole told read x)
              (InBandWhole (told_event m (ChannelData message) q told) (read ++ acts.heard)) message.id (message.binary, message.bytes) uses
              (λ x e k. own_whole p q message h acts side.numbers told written read x e k)
              (λ x e k. other_whole p q message h acts side.numbers told written read x e k)
              (all_both (InBandTold m written read p) (InBandWhole told read) uses side.each whole.each);
        }
    whole_polled p (Ok (outputs.Event event)) q h acts uses written read told side whole = whole_still told read acts.heard uses whole
    whole_polled p (Ok (outputs.Transmit transmit)) q h acts uses written read told side whole = whole_still told read acts.heard uses whole
    whole_polled p (Ok (outputs.Timeout moment)) q h acts uses written read told side whole = whole_still told read acts.heard uses whole
    whole_polled p (Err error) q h acts uses written read told side whole = whole_still told read acts.heard uses whole
