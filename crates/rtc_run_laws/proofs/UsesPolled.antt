-- What a poll leaves of the channels that were announced in-band, and of one that it announces.
use Rattle.std.proofs.Common.{◌≡◌, ◌∙◌, ◌++◌, ◌∷◌, ◌<◌, ◌≤◌, ◌==◌, ◌&&◌, if◌then◌else◌, ℕ, Bool, true, false, true≢false, List, [], append-nil, Option, Some, None, Result, Ok, Err, inl, inr, refl, sym, ap, subst, arith}
use Rattle.std.proofs.lemmas.Bool.{eqb-true, eqb-false}
use Rattle.rtc_parts.specs.AssociationLaws.{AssociationLaws}
use Rattle.rtc_assoc.specs.Unread.{IsPrefix}
use Rattle.rtc_parts.specs.declared.ppi.Ppi.{Ppi}
use Rattle.rtc_parts.specs.declared.ppi.Ppi.TheVariants as ppi
use Rattle.rtc_sctp_entries.specs.declared.sctp_event.SctpEvent.{SctpEvent}
use Rattle.rtc_sctp_entries.specs.declared.sctp_event.SctpEvent.TheVariants as event
use Rattle.rtc_sctp_laws.specs.StreamMessages.{StreamMessage, are_dcep, is_dcep}
use Rattle.rtc_sctp_laws.specs.GenerationLaws.{GenerationLaws}
use Rattle.rtc_sctp_laws.specs.StreamUses.{IsShutDown, begins_with_dcep, messages_of}
use Rattle.rtc_sctp_laws.proofs.GenerationMessages.{begins_more, messages-append}
use Rattle.rtc_sctp_laws.specs.Contents.{content_of, contents_of, data_of}
use Rattle.rtc_sctp_laws.proofs.ContentLemmas.{contents-append, dcep_contents, shown_contents}
use Rattle.rtc_sctp_laws.proofs.PastLemmas.{acts_past, shut_past}
use Rattle.rtc_channels.specs.Channels.{Channels}
use Rattle.rtc_peer_core.specs.declared.phase.Phase.TheVariants.{Closed}
use Rattle.rtc_peer_core.specs.declared.rtc_error.RtcError.{RtcError}
use Rattle.rtc_peer_core.specs.declared.rtc_error.RtcError.TheVariants.{Alloc}
use Rattle.rtc_peer_core.specs.Meanings.{Meanings}
use Rattle.rtc_peer_transport.specs.declared.channel_data.ChannelData.{ChannelData as ChannelMessage}
use Rattle.rtc_peer_transport.specs.declared.event.Event.{Event}
use Rattle.rtc_peer_transport.specs.declared.event.Event.TheVariants.{ChannelData, ChannelClose}
use Rattle.rtc_peer_transport.specs.declared.output.Output.{Output}
use Rattle.rtc_peer_transport.specs.declared.output.Output.TheVariants as outputs
use Rattle.rtc_peer_transport.specs.declared.polled_peer.PolledPeer.{PolledPeer}
use Rattle.rtc_peer_polling.specs.StreamStages.{channel_over}
use Rattle.rtc_peer_polling.specs.Walk.{PollsPeer}
use Rattle.rtc_peer_polling.proofs.Lacking.{poll_lacks}
use Rattle.rtc_peer_polling.proofs.Numbering.{poll_numbers}
use Rattle.rtc_peer_laws.specs.Acts.{ArePassed, PollActs}
use Rattle.rtc_peer_laws.specs.ChannelStreams.{AreNumberedChannels, HasNoRow, IsLiveChannel, IsUsedStream, LeavesLiveChannel}
use Rattle.rtc_peer_laws.specs.ChannelStreams.{UnlessLacking}
use Rattle.rtc_peer_laws.proofs.ChannelsOver.{none_over, same_stream}
use Rattle.rtc_run_laws.specs.ChannelUses.{ChannelUse}
use Rattle.rtc_run_laws.proofs.RowLemmas.{closed_stays, over_below}
use Rattle.rtc_run_laws.proofs.UsesTold.{HasGone, InBandTold, IsOver, Lives, StandsSo, UseTold, UsedUnlessClosed, more_read, prefix_of, told_on, undone_on}

some_same : (a b : ℕ) → Some a ≡ Some b → a ≡ b
some_same a b h = cc

-- messages that open channels carry nothing
dcep_none : (i : Ppi) (bytes : List ℕ) → is_dcep i ≡ true → content_of i bytes ≡ []
dcep_none ppi.Dcep bytes h = refl
dcep_none ppi.Text bytes h = absurd (true≢false (sym h))
dcep_none ppi.Binary bytes h = absurd (true≢false (sym h))
dcep_none ppi.EmptyText bytes h = absurd (true≢false (sym h))
dcep_none ppi.EmptyBinary bytes h = absurd (true≢false (sym h))
dcep_none (ppi.Other n) bytes h = absurd (true≢false (sym h))

pub all_dcep_none : (l : List StreamMessage) → are_dcep l ≡ true → contents_of l ≡ []
all_dcep_none [] h = refl
all_dcep_none (x ∷ l) h = by (is_dcep x.ppi) refl h (all_dcep_none l)
  where
    by : (b : Bool) → is_dcep x.ppi ≡ b → (b && are_dcep l) ≡ true → (are_dcep l ≡ true → contents_of l ≡ []) → contents_of (x ∷ l) ≡ []
    by true e k rest = ap (λ (m : List (Bool × List ℕ)). m ++ contents_of l) (dcep_none x.ppi x.bytes e) ∙ rest k
    by false e k rest = absurd (true≢false (sym k))

-- data that is passed over is of no stream that a channel has
data_passed : (s c : ℕ) (held : Channels) (passed told : List SctpEvent) → ArePassed held passed → channel_over s held ≡ Some c
    → data_of s (passed ++ told) ≡ data_of s told
data_passed s c held [] told h over = refl
data_passed s c held (event.Data stream binary bytes ∷ passed) told h over = by (stream == s) refl (data_passed s c held passed told h.1 over)
  where
    none_some : None ≡ Some c → ⊥
    none_some e = cc

    by : (b : Bool) → (stream == s) ≡ b → data_of s (passed ++ told) ≡ data_of s told
        → (if b then (binary, bytes) ∷ data_of s (passed ++ told) else data_of s (passed ++ told)) ≡ data_of s told
    by true e rest = absurd (none_some (sym h.0 ∙ ap (λ (n : ℕ). channel_over n held) (eqb-true stream s e) ∙ over))
    by false e rest = rest
data_passed s c held (_ ∷ passed) told h over = absurd h

data_own : (s stream : ℕ) (binary : Bool) (bytes : List ℕ) → stream ≡ s → data_of s (event.Data stream binary bytes ∷ []) ≡ (binary, bytes) ∷ []
data_own s stream binary bytes same = by (binary, bytes) (stream == s) (grind (arith, same))
  where
    by : (x : Bool × List ℕ) (b : Bool) → b ≡ true → (if b then x ∷ [] else []) ≡ x ∷ []
    by x true e = refl
    by x false e = absurd (true≢false (sym e))

data_other : (s stream : ℕ) (binary : Bool) (bytes : List ℕ) → (stream ≡ s → ⊥) → data_of s (event.Data stream binary bytes ∷ []) ≡ []
data_other s stream binary bytes ne = by (binary, bytes) (stream == s) refl
  where
    none : List (Bool × List ℕ)
    none = []

    by : (x : Bool × List ℕ) (b : Bool) → (stream == s) ≡ b → (if b then x ∷ [] else []) ≡ none
    by x true e = absurd (ne (eqb-true stream s e))
    by x false e = refl

-- an event is no timeout
pub no_timeout : {E : Type 0} (e : Event E) (moment : ℕ) (r : Result (Output E) RtcError) → r ≡ Ok (outputs.Event e) → r ≡ Ok (outputs.Timeout moment) → ⊥
no_timeout e moment r h k = cc

-- what a poll leaves of a channel that was live
data LeftSo {I D S M E N : Type 0} (X : Type 0) (r : Result (Output E) RtcError) (c s g : ℕ) (q : PolledPeer I D S M N) : Type 0 where
  StaysLive : IsLiveChannel c s g q → LeftSo X r c s g q
  Shuts : X → IsShutDown s q.core.sctp.entries → HasNoRow c q.core.channels.rows → LeftSo X r c s g q
  Lacks : r ≡ Err Alloc → LeftSo X r c s g q

left_of : {I D S M E N : Type 0} (X : Type 0) (r : Result (Output E) RtcError) (c s g : ℕ) (q : PolledPeer I D S M N) → UnlessLacking r X
    → LeavesLiveChannel r c s g q → LeftSo X r c s g q
left_of X (Ok (outputs.Event (ChannelClose id))) c s g q x (inl live) = StaysLive live
left_of X (Ok (outputs.Event (ChannelClose id))) c s g q x (inr shut) = Shuts x shut.1 shut.2
left_of X (Ok (outputs.Event event)) c s g q x live = StaysLive live
left_of X (Ok (outputs.Transmit transmit)) c s g q x live = StaysLive live
left_of X (Ok (outputs.Timeout moment)) c s g q x live = StaysLive live
left_of X (Err Alloc) c s g q x live = Lacks refl
left_of X (Err error) c s g q x live = StaysLive live

module _ {I D S M E X T W N : Type 0} (m : Meanings I D S M E X T W N) (w : AssociationLaws m.association) (v : GenerationLaws m.association) where
  module _ (p : PolledPeer I D S M N) (answer : Result (Output E) RtcError) (q : PolledPeer I D S M N) (h : PollsPeer m p answer q)
      (acts : PollActs m p answer q) (numbers : AreNumberedChannels p.core.channels) (written read : List StreamMessage)
      (used : UsedUnlessClosed m written read p) where
    live_contents : (c s g : ℕ) → IsLiveChannel c s g p → contents_of (messages_of s g acts.heard) ≡ data_of s acts.told
    live_contents c s g live =
        sym (shown_contents s g acts.heard (acts.streams.live_heard c s g numbers.0 live))
        ∙ ap (data_of s) acts.data_is
        ∙ data_passed s c p.core.channels acts.passed acts.told acts.passed_over live.0

    over_stays : (c s g : ℕ) (got : List (Bool × List ℕ)) (rest : List StreamMessage) → p.core.phase ≡ Closed → StandsSo m c s g got rest p
        → StandsSo m c s g got (rest ++ messages_of s g acts.heard) q
    over_stays c s g got rest closed stands =
        IsOver (closed_stays m p answer q closed h).1 (more_read m got rest (messages_of s g acts.heard) (prefix_of m c s g got rest p stands))

    live_left : (c s g : ℕ) (got : List (Bool × List ℕ)) (rest : List StreamMessage)
        → ((s : ℕ) → IsUsedStream m s written read p) → begins_with_dcep (messages_of s g (written ++ acts.wrote)) ≡ true
        → IsLiveChannel c s g p → got ≡ contents_of rest → contents_of (messages_of s g acts.heard) ≡ []
        → StandsSo m c s g got (rest ++ messages_of s g acts.heard) q
    live_left c s g got rest uses begun live is none =
        by (left_of (IsUsedStream m s (written ++ acts.wrote) (read ++ acts.heard) q) answer c s g q (acts.streams.uses w v s written read (uses s))
        (acts.streams.lives c s g numbers.0 live))
      where
        more : IsPrefix got (contents_of (rest ++ messages_of s g acts.heard))
        more = more_read m got rest (messages_of s g acts.heard) (prefix_of m c s g got rest p (Lives live is))

        by : LeftSo (IsUsedStream m s (written ++ acts.wrote) (read ++ acts.heard) q) answer c s g q
            → StandsSo m c s g got (rest ++ messages_of s g acts.heard) q
        by (StaysLive after) =
            Lives after
            (is
            ∙ sym (contents-append rest (messages_of s g acts.heard)
            ∙ ap (λ (l : List (Bool × List ℕ)). contents_of rest ++ l) none
            ∙ append-nil (contents_of rest)))
        by (Shuts after shut gone) =
            let low : c < p.core.channels.given = over_below p.core.channels.given s c p.core.channels.rows numbers.1 live.0 in
            let up : p.core.channels.given ≤ q.core.channels.given = (poll_numbers m p answer q h).rises in
            HasGone (omega (arith, low, up), gone)
            (shut_past m.association s g (written ++ acts.wrote) (read ++ acts.heard) q.core.sctp.association q.core.sctp.entries after shut begun) more
        by (Lacks lacks) = IsOver (poll_lacks m p q (subst (λ (r : Result (Output E) RtcError). PollsPeer m p r q) lacks h)) more

    gone_left : (c s g : ℕ) (got : List (Bool × List ℕ)) (rest : List StreamMessage) → StandsSo m c s g got rest p
        → ((live : IsLiveChannel c s g p) → got ≡ contents_of rest → StandsSo m c s g got (rest ++ messages_of s g acts.heard) q)
        → StandsSo m c s g got (rest ++ messages_of s g acts.heard) q
    gone_left c s g got rest (Lives live is) next = next live is
    gone_left c s g got rest (HasGone gone past k) next =
        HasGone (acts.streams.gone c gone)
        (acts_past m.association w v s g acts.did.acts.association p.core.sctp.association q.core.sctp.association acts.did.went.association past).past
        (more_read m got rest (messages_of s g acts.heard) k)
    gone_left c s g got rest (IsOver closed k) next = over_stays c s g got rest closed (IsOver closed k)

    -- where nothing of it was told
    still_stands : (c s g : ℕ) (got : List (Bool × List ℕ)) (rest : List StreamMessage) → begins_with_dcep (messages_of s g (written ++ acts.wrote)) ≡ true
        → ((live : IsLiveChannel c s g p) → data_of s acts.told ≡ []) → StandsSo m c s g got rest p
        → StandsSo m c s g got (rest ++ messages_of s g acts.heard) q
    still_stands c s g got rest begun none stands = by used
      where
        by : UsedUnlessClosed m written read p → StandsSo m c s g got (rest ++ messages_of s g acts.heard) q
        by (inl closed) = over_stays c s g got rest closed stands
        by (inr uses) =
            gone_left c s g got rest stands
            (λ live is. live_left c s g got rest uses begun live is (live_contents c s g live ∙ none live))

    begun_on : (c : ℕ) (of : Option ℕ) (g : ℕ) (sent got : List (Bool × List ℕ)) (t : UseTold m written read p c of g sent got)
        → begins_with_dcep (messages_of t.stream g (written ++ acts.wrote)) ≡ true
    begun_on c of g sent got t =
        ap begins_with_dcep (messages-append t.stream g written acts.wrote)
        ∙ begins_more (messages_of t.stream g written) (messages_of t.stream g acts.wrote) t.begins

    unsent : (s g : ℕ) (sent : List (Bool × List ℕ)) → sent ++ contents_of (messages_of s g acts.wrote) ≡ sent
    unsent s g sent = ap (λ (l : List (Bool × List ℕ)). sent ++ l) (dcep_contents s g acts.wrote acts.dcep) ∙ append-nil sent

    pub still_told : (x : ChannelUse) → ((s g : ℕ) → IsLiveChannel x.channel s g p → data_of s acts.told ≡ []) → InBandTold m written read p x
        → InBandTold m (written ++ acts.wrote) (read ++ acts.heard) q x
    still_told x none told = λ band. record {
      kept = λ e.
          let t = (told band).kept e in
          told_on m written acts.wrote read acts.heard p q x.channel x.stream x.generation x.sent x.sent x.got x.got t (unsent t.stream x.generation x.sent)
          (still_stands x.channel t.stream x.generation x.got t.rest (begun_on x.channel x.stream x.generation x.sent x.got t)
          (λ live. none t.stream x.generation live) t.stands);
      undone = λ e.
          undone_on m written acts.wrote read acts.heard p q x.channel x.stream x.generation x.sent x.got (acts.streams.gone x.channel)
          ((told band).undone e);
    }

    -- nothing is told at all
    pub silent_polled : (x : ChannelUse) → acts.told ≡ [] → InBandTold m written read p x → InBandTold m (written ++ acts.wrote) (read ++ acts.heard) q x
    silent_polled x none told = still_told x (λ s g live. ap (data_of s) none) told

  -- a message is told
  module _ (p q : PolledPeer I D S M N) (message : ChannelMessage) (h : PollsPeer m p (Ok (outputs.Event (ChannelData message))) q)
      (acts : PollActs m p (Ok (outputs.Event (ChannelData message))) q) (numbers : AreNumberedChannels p.core.channels)
      (written read : List StreamMessage) (used : UsedUnlessClosed m written read p) where
    own_stands : (c s g : ℕ) (got : List (Bool × List ℕ)) (rest : List StreamMessage) → c ≡ message.id → StandsSo m c s g got rest p
        → StandsSo m c s g (got ++ (message.binary, message.bytes) ∷ []) (rest ++ messages_of s g acts.heard) q
    own_stands c s g got rest same (Lives live is) =
        let after : IsLiveChannel c s g q = acts.streams.lives c s g numbers.0 live in
        let over : channel_over acts.shows.0 q.core.channels ≡ Some c = acts.shows.1.1 ∙ ap (λ (n : ℕ). Some n) (sym same) in
        let stream : acts.shows.0 ≡ s = same_stream acts.shows.0 s c q.core.channels (acts.numbers numbers).0 over after.0 in
        let carried : contents_of (messages_of s g acts.heard) ≡ (message.binary, message.bytes) ∷ [] =
        live_contents p (Ok (outputs.Event (ChannelData message))) q h acts numbers written read used c s g live
        ∙ ap (data_of s) acts.shows.1.0
        ∙ data_own s acts.shows.0 message.binary message.bytes stream in
        Lives after
        (ap (λ (l : List (Bool × List ℕ)). l ++ (message.binary, message.bytes) ∷ []) is
        ∙ ap (λ (l : List (Bool × List ℕ)). contents_of rest ++ l) (sym carried)
        ∙ sym (contents-append rest (messages_of s g acts.heard)))
    own_stands c s g got rest same (HasGone gone past k) =
        absurd (none_over acts.shows.0 c q.core.channels.rows (acts.streams.gone c gone).1 (acts.shows.1.1 ∙ ap (λ (n : ℕ). Some n) (sym same)))
    own_stands c s g got rest same (IsOver closed k) =
        absurd (no_timeout (ChannelData message) _ (Ok (outputs.Event (ChannelData message))) refl (closed_stays m p (Ok (outputs.Event (ChannelData message))) q closed h).0)

    pub own_got : (x : ChannelUse) → (x.channel == message.id) ≡ true → InBandTold m written read p x
        → InBandTold m (written ++ acts.wrote) (read ++ acts.heard) q (record x { got = x.got ++ (message.binary, message.bytes) ∷ [] })
    own_got x e told = λ band. record {
      kept = λ f.
          let t = (told band).kept f in
          told_on m written acts.wrote read acts.heard p q x.channel x.stream x.generation x.sent x.sent x.got (x.got ++ (message.binary, message.bytes) ∷ []) t
          (unsent p (Ok (outputs.Event (ChannelData message))) q h acts numbers written read used t.stream x.generation x.sent)
          (own_stands x.channel t.stream x.generation x.got t.rest (eqb-true x.channel message.id e) t.stands);
      undone = λ f.
          absurd
          (none_over acts.shows.0 x.channel q.core.channels.rows (acts.streams.gone x.channel ((told band).undone f).gone).1
          (acts.shows.1.1 ∙ ap (λ (n : ℕ). Some n) (sym (eqb-true x.channel message.id e))));
    }

    other_data : (c s g : ℕ) → (c ≡ message.id → ⊥) → IsLiveChannel c s g p → data_of s acts.told ≡ []
    other_data c s g ne live =
        let after : IsLiveChannel c s g q = acts.streams.lives c s g numbers.0 live in
        ap (data_of s) acts.shows.1.0
        ∙ data_other s acts.shows.0 message.binary message.bytes
        (λ same.
        ne (some_same c message.id (sym after.0 ∙ ap (λ (n : ℕ). channel_over n q.core.channels) (sym same) ∙ acts.shows.1.1)))

    pub other_got : (x : ChannelUse) → (x.channel == message.id) ≡ false → InBandTold m written read p x
        → InBandTold m (written ++ acts.wrote) (read ++ acts.heard) q x
    other_got x e told =
        still_told p (Ok (outputs.Event (ChannelData message))) q h acts numbers written read used x
        (λ s g live. other_data x.channel s g (eqb-false x.channel message.id e) live) told
