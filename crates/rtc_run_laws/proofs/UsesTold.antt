-- What holds of a channel that was announced in-band, by all that was written and read of its stream: what was sent over it is what was
-- written of its generation, and what was got is a prefix of what was read of this behind the message that opened it.
use Rattle.std.proofs.Common.{◌≡◌, ◌∙◌, ◌⊎◌, ◌++◌, ◌∷◌, ◌==◌, ℕ, Bool, true, false, List, [], append-nil, append_assoc, Option, Some, None, Ok, refl, sym, ap, subst}
use Rattle.std.proofs.lemmas.Bool.{eqb-true, eqb-false}
use Rattle.rtc_parts.specs.AssociationLaws.{AssociationLaws}
use Rattle.rtc_assoc.specs.Unread.{IsPrefix}
use Rattle.rtc_sctp.specs.Calls.{is_nil, written_ppi}
use Rattle.rtc_sctp_laws.specs.StreamMessages.{StreamMessage, is_dcep_message, stream_message}
use Rattle.rtc_sctp_laws.specs.GenerationLaws.{GenerationLaws}
use Rattle.rtc_sctp_laws.specs.StreamUses.{IsLive, any_dcep, begins_with_dcep, messages_of}
use Rattle.rtc_sctp_laws.proofs.GenerationMessages.{begins_more, messages-append, messages_one, messages_other, own_one}
use Rattle.rtc_sctp_laws.specs.Contents.{contents_of}
use Rattle.rtc_sctp_laws.specs.PastGenerations.{IsPast}
use Rattle.rtc_sctp_laws.proofs.ContentLemmas.{contents-append, written_are}
use Rattle.rtc_sctp_laws.proofs.PastLemmas.{acts_past}
use Rattle.rtc_peer_core.specs.declared.phase.Phase.TheVariants.{Closed}
use Rattle.rtc_peer_core.specs.Meanings.{Meanings}
use Rattle.rtc_peer_transport.specs.ChannelCalls.{WritesChannel, stream_under}
use Rattle.rtc_peer_transport.specs.declared.polled_peer.PolledPeer.{PolledPeer}
use Rattle.rtc_peer_laws.specs.Acts.{PeerDid}
use Rattle.rtc_peer_laws.specs.ChannelStreams.{AreNumberedChannels, IsGone, IsLiveChannel, IsUsedStream}
use Rattle.rtc_peer_laws.specs.PeerActs.{Came}
use Rattle.rtc_peer_laws.proofs.ChannelsOver.{none_under, under_over}
use Rattle.rtc_peer_laws.specs.KeptChannels.{CallKeepsStreams}
use Rattle.rtc_peer_laws.proofs.KeptPeers.{channel_writes_own}
use Rattle.rtc_run_laws.specs.ChannelUses.{ChannelUse}
use Rattle.rtc_run_laws.proofs.RowLemmas.{one_over}
use Rattle.rtc_run_laws.proofs.UseLists.{first_more, none_numbered, prefix_more, prefix_same, written_carries}

-- The message that opened a channel, behind what opens none; what the channel got is a prefix of what was read behind it.
pub record UseOpened (written read : List StreamMessage) (of : Option ℕ) (g : ℕ) (got : List (Bool × List ℕ)) : Type 0 where
  pub stream : ℕ
  pub stream_is : of ≡ Some stream
  pub begins : begins_with_dcep (messages_of stream g written) ≡ true
  pub before : List StreamMessage
  pub last : StreamMessage
  pub rest : List StreamMessage
  pub read_is : messages_of stream g read ≡ (before ++ last ∷ []) ++ rest
  pub last_dcep : is_dcep_message last ≡ true
  pub none_before : any_dcep before ≡ false
  pub prefix : IsPrefix got (contents_of rest)

module _ {I D S M E X T W N : Type 0} (m : Meanings I D S M E X T W N) where
  -- A channel stands so: it is live, and all that it was told is all that was read; or it has gone, and its stream is past the generation;
  -- or the peer is closed.
  pub data StandsSo (c s g : ℕ) (got : List (Bool × List ℕ)) (rest : List StreamMessage) (p : PolledPeer I D S M N) : Type 0 where
    Lives : IsLiveChannel c s g p → got ≡ contents_of rest → StandsSo c s g got rest p
    HasGone : IsGone c p.core.channels → IsPast m.association s g p.core.sctp.association → IsPrefix got (contents_of rest)
        → StandsSo c s g got rest p
    IsOver : p.core.phase ≡ Closed → IsPrefix got (contents_of rest) → StandsSo c s g got rest p

  -- the same with what goes before: the message that opened it, behind what opens no channel
  pub record UseTold (written read : List StreamMessage) (p : PolledPeer I D S M N) (c : ℕ) (of : Option ℕ) (g : ℕ)
      (sent got : List (Bool × List ℕ)) : Type 0 where
    pub stream : ℕ
    pub stream_is : of ≡ Some stream
    pub begins : begins_with_dcep (messages_of stream g written) ≡ true
    pub sent_is : contents_of (messages_of stream g written) ≡ sent
    pub before : List StreamMessage
    pub last : StreamMessage
    pub rest : List StreamMessage
    pub read_is : messages_of stream g read ≡ (before ++ last ∷ []) ++ rest
    pub last_dcep : is_dcep_message last ≡ true
    pub none_before : any_dcep before ≡ false
    pub stands : StandsSo c stream g got rest p

  -- a rollback removed the channel: what was sent over it is the first that was written to its generation
  pub record UndoneTold (written read : List StreamMessage) (p : PolledPeer I D S M N) (c : ℕ) (of : Option ℕ) (g : ℕ)
      (sent got : List (Bool × List ℕ)) : Type 0 where
    pub opened : UseOpened written read of g got
    pub first : (s : ℕ) → of ≡ Some s → IsPrefix sent (contents_of (messages_of s g written))
    pub gone : IsGone c p.core.channels

  -- of a channel that was rolled back, and of one that was not
  pub record UseStands (written read : List StreamMessage) (p : PolledPeer I D S M N) (x : ChannelUse) : Type 0 where
    pub kept : x.rolled_back ≡ false → UseTold written read p x.channel x.stream x.generation x.sent x.got
    pub undone : x.rolled_back ≡ true → UndoneTold written read p x.channel x.stream x.generation x.sent x.got

  -- the use of each stream, unless the peer is closed
  abbrev pub UsedUnlessClosed : (written read : List StreamMessage) → PolledPeer I D S M N → Type 0
  UsedUnlessClosed written read p = (p.core.phase ≡ Closed) ⊎ ((s : ℕ) → IsUsedStream m s written read p)

  -- of a channel that was opened in-band
  abbrev pub InBandTold : (written read : List StreamMessage) → PolledPeer I D S M N → ChannelUse → Type 0
  InBandTold written read p x = x.in_band ≡ true → UseStands written read p x

  pub prefix_of : (c s g : ℕ) (got : List (Bool × List ℕ)) (rest : List StreamMessage) (p : PolledPeer I D S M N) → StandsSo c s g got rest p
      → IsPrefix got (contents_of rest)
  prefix_of c s g got rest p (Lives live is) = prefix_same got (contents_of rest) is
  prefix_of c s g got rest p (HasGone gone past h) = h
  prefix_of c s g got rest p (IsOver closed h) = h

  pub more_read : (got : List (Bool × List ℕ)) (rest more : List StreamMessage) → IsPrefix got (contents_of rest) → IsPrefix got (contents_of (rest ++ more))
  more_read got rest more h =
      subst (λ (l : List (Bool × List ℕ)). IsPrefix got l) (sym (contents-append rest more)) (prefix_more got (contents_of rest) (contents_of more) h)

  abbrev pub opened_of : (written read : List StreamMessage) (p : PolledPeer I D S M N) (c : ℕ) (of : Option ℕ) (g : ℕ) (sent got : List (Bool × List ℕ))
      → UseTold written read p c of g sent got → UseOpened written read of g got
  opened_of written read p c of g sent got t = record {
    stream = t.stream;
    stream_is = t.stream_is;
    begins = t.begins;
    before = t.before;
    last = t.last;
    rest = t.rest;
    read_is = t.read_is;
    last_dcep = t.last_dcep;
    none_before = t.none_before;
    prefix = prefix_of c t.stream g got t.rest p t.stands;
  }

  -- whether it was rolled back or not
  pub use_opened : (written read : List StreamMessage) (p : PolledPeer I D S M N) (x : ChannelUse) → UseStands written read p x
      → UseOpened written read x.stream x.generation x.got
  use_opened written read p x h = by x.rolled_back refl
    where
      by : (b : Bool) → x.rolled_back ≡ b → UseOpened written read x.stream x.generation x.got
      by true e = (h.undone e).opened
      by false e = opened_of written read p x.channel x.stream x.generation x.sent x.got (h.kept e)

  -- more was written, and read
  pub opened_on : (written wrote read heard : List StreamMessage) (of : Option ℕ) (g : ℕ) (got : List (Bool × List ℕ))
      → UseOpened written read of g got → UseOpened (written ++ wrote) (read ++ heard) of g got
  opened_on written wrote read heard of g got t = record {
    stream = t.stream;
    stream_is = t.stream_is;
    begins =
        ap begins_with_dcep (messages-append t.stream g written wrote)
        ∙ begins_more (messages_of t.stream g written) (messages_of t.stream g wrote) t.begins;
    before = t.before;
    last = t.last;
    rest = t.rest ++ messages_of t.stream g heard;
    read_is =
        messages-append t.stream g read heard
        ∙ ap (λ (l : List StreamMessage). l ++ messages_of t.stream g heard) t.read_is
        ∙ append_assoc (t.before ++ t.last ∷ []) t.rest (messages_of t.stream g heard);
    last_dcep = t.last_dcep;
    none_before = t.none_before;
    prefix = more_read got t.rest (messages_of t.stream g heard) t.prefix;
  }

  pub undone_on : (written wrote read heard : List StreamMessage) (p q : PolledPeer I D S M N) (c : ℕ) (of : Option ℕ) (g : ℕ)
      (sent got : List (Bool × List ℕ)) → (IsGone c p.core.channels → IsGone c q.core.channels) → UndoneTold written read p c of g sent got
      → UndoneTold (written ++ wrote) (read ++ heard) q c of g sent got
  undone_on written wrote read heard p q c of g sent got goes t = record {
    opened = opened_on written wrote read heard of g got t.opened;
    first = λ s is. first_more s g sent written wrote (t.first s is);
    gone = goes t.gone;
  }

  pub told_on : (written wrote read heard : List StreamMessage) (p q : PolledPeer I D S M N) (c : ℕ) (of : Option ℕ) (g : ℕ)
      (sent sent' got got' : List (Bool × List ℕ)) (t : UseTold written read p c of g sent got)
      → sent ++ contents_of (messages_of t.stream g wrote) ≡ sent'
      → StandsSo c t.stream g got' (t.rest ++ messages_of t.stream g heard) q
      → UseTold (written ++ wrote) (read ++ heard) q c of g sent' got'
  told_on written wrote read heard p q c of g sent sent' got got' t more stands = record {
    stream = t.stream;
    stream_is = t.stream_is;
    begins =
        ap begins_with_dcep (messages-append t.stream g written wrote)
        ∙ begins_more (messages_of t.stream g written) (messages_of t.stream g wrote) t.begins;
    sent_is =
        ap contents_of (messages-append t.stream g written wrote)
        ∙ contents-append (messages_of t.stream g written) (messages_of t.stream g wrote)
        ∙ ap (λ (l : List (Bool × List ℕ)). l ++ contents_of (messages_of t.stream g wrote)) t.sent_is
        ∙ more;
    before = t.before;
    last = t.last;
    rest = t.rest ++ messages_of t.stream g heard;
    read_is =
        messages-append t.stream g read heard
        ∙ ap (λ (l : List StreamMessage). l ++ messages_of t.stream g heard) t.read_is
        ∙ append_assoc (t.before ++ t.last ∷ []) t.rest (messages_of t.stream g heard);
    last_dcep = t.last_dcep;
    none_before = t.none_before;
    stands = stands;
  }

  pub nothing_more : (sent : List (Bool × List ℕ)) (l : List StreamMessage) → l ≡ [] → sent ++ contents_of l ≡ sent
  nothing_more sent l none = ap (λ (k : List StreamMessage). sent ++ contents_of k) none ∙ append-nil sent

  module _ (w : AssociationLaws m.association) (v : GenerationLaws m.association) (p q : PolledPeer I D S M N) (wrote : List StreamMessage)
      (came : Came) (moments : List ℕ) (shown : List (List ℕ)) (did : PeerDid m came moments shown wrote [] p q) (keeps : CallKeepsStreams m p wrote q)
      (numbers : AreNumberedChannels p.core.channels) where
    -- a call that reads nothing
    call_stands : (c s g : ℕ) (got : List (Bool × List ℕ)) (rest : List StreamMessage) → StandsSo c s g got rest p
        → StandsSo c s g got (rest ++ []) q
    call_stands c s g got rest (Lives live is) = Lives (keeps.lives c s g numbers live) (is ∙ ap contents_of (sym (append-nil rest)))
    call_stands c s g got rest (HasGone gone past h) =
        HasGone (keeps.gone c gone) (acts_past m.association w v s g did.acts.association p.core.sctp.association q.core.sctp.association did.went.association past).past
        (more_read got rest [] h)
    call_stands c s g got rest (IsOver closed h) = IsOver (keeps.closed closed) (more_read got rest [] h)

    call_told : (written read : List StreamMessage) (c : ℕ) (of : Option ℕ) (g : ℕ) (sent sent' got : List (Bool × List ℕ))
        (t : UseTold written read p c of g sent got) → sent ++ contents_of (messages_of t.stream g wrote) ≡ sent'
        → UseTold (written ++ wrote) (read ++ []) q c of g sent' got
    call_told written read c of g sent sent' got t more =
        told_on written wrote read [] p q c of g sent sent' got got t more (call_stands c t.stream g got t.rest t.stands)

    -- one that writes nothing
    pub silent_told : (written read : List StreamMessage) (x : ChannelUse) → wrote ≡ [] → InBandTold written read p x
        → InBandTold (written ++ wrote) (read ++ []) q x
    silent_told written read x none h = λ band. record {
      kept = λ e.
          let t = (h band).kept e in
          call_told written read x.channel x.stream x.generation x.sent x.sent x.got t
          (nothing_more x.sent (messages_of t.stream x.generation wrote) (ap (messages_of t.stream x.generation) none));
      undone = λ e.
          undone_on written wrote read [] p q x.channel x.stream x.generation x.sent x.got (keeps.gone x.channel) ((h band).undone e);
    }

    -- nothing is written to a generation that is past
    past_none : (s g : ℕ) → IsPast m.association s g p.core.sctp.association → messages_of s g wrote ≡ []
    past_none s g past =
        none_numbered (messages_of s g wrote)
        (sym (written_are s g did.acts.association wrote did.wrote_is)
        ∙ (acts_past m.association w v s g did.acts.association p.core.sctp.association q.core.sctp.association did.went.association past).none)

    -- A message of a user is written to the stream of a channel. It is one of this channel alone.
    module _ (stream id : ℕ) (binary : Bool) (bytes : List ℕ) (placed : stream_under id p.core.channels ≡ Some stream)
        (writes : WritesChannel m stream binary bytes p (Ok true) q) (free : p.core.phase ≡ Closed → ⊥)
        (is : wrote ≡ stream_message stream (m.association.generation p.core.sctp.association stream) (written_ppi binary (is_nil bytes)) bytes ∷ [])
      where
        -- it has not gone
        not_gone : (c : ℕ) → (c == id) ≡ true → IsGone c p.core.channels → ⊥
        not_gone c e gone =
            none_some (sym (none_under id p.core.channels.rows (subst (λ (n : ℕ). IsGone n p.core.channels) (eqb-true c id e) gone).1) ∙ placed)
          where
            none_some : None ≡ Some stream → ⊥
            none_some f = cc

        own_written : (c s g : ℕ) (got : List (Bool × List ℕ)) (rest : List StreamMessage) → StandsSo c s g got rest p → (c == id) ≡ true
            → contents_of (messages_of s g wrote) ≡ (binary, bytes) ∷ []
        own_written c s g got rest (Lives live k) e =
            let found : stream_under c p.core.channels ≡ Some s = under_over s c p.core.channels numbers.0 live.0 in
            let same : s ≡ stream = some_is s stream (sym found ∙ ap (λ (n : ℕ). stream_under n p.core.channels) (eqb-true c id e) ∙ placed) in
            let own : m.association.generation p.core.sctp.association stream ≡ g =
            channel_writes_own m stream binary bytes p q g writes (subst (λ (n : ℕ). IsLive n g p.core.sctp.entries) same live.1) in
            written_own s g same own
          where
            some_is : (a b : ℕ) → Some a ≡ Some b → a ≡ b
            some_is a b f = cc

            written_own : (s g : ℕ) → s ≡ stream → m.association.generation p.core.sctp.association stream ≡ g
                → contents_of (messages_of s g wrote) ≡ (binary, bytes) ∷ []
            written_own s g same own =
                ap (λ (l : List StreamMessage). contents_of (messages_of s g l)) is
                ∙ ap (λ (n : ℕ). contents_of (messages_of n g (stream_message stream (m.association.generation p.core.sctp.association stream) (written_ppi binary (is_nil bytes)) bytes ∷ []))) same
                ∙ ap (λ (n : ℕ). contents_of (messages_of stream n (stream_message stream (m.association.generation p.core.sctp.association stream) (written_ppi binary (is_nil bytes)) bytes ∷ []))) (sym own)
                ∙ ap contents_of (messages_one stream (m.association.generation p.core.sctp.association stream) (written_ppi binary (is_nil bytes)) bytes)
                ∙ written_carries stream (m.association.generation p.core.sctp.association stream) binary bytes
        own_written c s g got rest (HasGone gone past k) e = absurd (not_gone c e gone)
        own_written c s g got rest (IsOver closed k) e = absurd (free closed)

        other_written : (c s g : ℕ) (got : List (Bool × List ℕ)) (rest : List StreamMessage) → StandsSo c s g got rest p → (c == id) ≡ false
            → messages_of s g wrote ≡ []
        other_written c s g got rest (Lives live k) e =
            ap (messages_of s g) is
            ∙ messages_other stream s g (stream_message stream (m.association.generation p.core.sctp.association stream) (written_ppi binary (is_nil bytes)) bytes ∷ [])
            (own_one stream (m.association.generation p.core.sctp.association stream) (written_ppi binary (is_nil bytes)) bytes)
            (λ same.
            eqb-false c id e
            (one_over s id c p.core.channels.rows numbers.2 (placed ∙ ap (λ (n : ℕ). Some n) same) live.0))
        other_written c s g got rest (HasGone gone past k) e = past_none s g past
        other_written c s g got rest (IsOver closed k) e = absurd (free closed)

        pub own_told : (written read : List StreamMessage) (x : ChannelUse) → (x.channel == id) ≡ true → InBandTold written read p x
            → InBandTold (written ++ wrote) (read ++ []) q (record x { sent = x.sent ++ (binary, bytes) ∷ [] })
        own_told written read x e h = λ band. record {
          kept = λ f.
              let t = (h band).kept f in
              call_told written read x.channel x.stream x.generation x.sent (x.sent ++ (binary, bytes) ∷ []) x.got t
              (ap (λ (l : List (Bool × List ℕ)). x.sent ++ l) (own_written x.channel t.stream x.generation x.got t.rest t.stands e));
          undone = λ f. absurd (not_gone x.channel e ((h band).undone f).gone);
        }

        pub other_told : (written read : List StreamMessage) (x : ChannelUse) → (x.channel == id) ≡ false → InBandTold written read p x
            → InBandTold (written ++ wrote) (read ++ []) q x
        other_told written read x e h = λ band. record {
          kept = λ f.
              let t = (h band).kept f in
              call_told written read x.channel x.stream x.generation x.sent x.sent x.got t
              (nothing_more x.sent (messages_of t.stream x.generation wrote) (other_written x.channel t.stream x.generation x.got t.rest t.stands e));
          undone = λ f.
              undone_on written wrote read [] p q x.channel x.stream x.generation x.sent x.got (keeps.gone x.channel) ((h band).undone f);
        }
