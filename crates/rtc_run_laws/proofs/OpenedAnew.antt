-- A channel that is announced was not announced before, and neither was the generation of its stream.
use Rattle.std.proofs.Common.{◌≡◌, ◌∙◌, ◌++◌, ◌∷◌, ◌==◌, ◌||◌, if◌then◌else◌, ℕ, Bool, true, false, true≢false, List, [], Option, Some, Ok, inl, inr, refl, sym, ap}
use Rattle.rtc_parts.specs.AssociationLaws.{AssociationLaws}
use Rattle.rtc_sctp_laws.specs.StreamMessages.{StreamMessage, is_dcep_message}
use Rattle.rtc_sctp_laws.specs.GenerationLaws.{GenerationLaws}
use Rattle.rtc_sctp_laws.specs.StreamUses.{any_dcep, messages_of}
use Rattle.rtc_channels.specs.Channels.{Channel}
use Rattle.rtc_peer_core.specs.Meanings.{Meanings}
use Rattle.rtc_peer_transport.specs.ChannelCalls.{stream_under}
use Rattle.rtc_peer_transport.specs.declared.event.Event.TheVariants.{ChannelOpen}
use Rattle.rtc_peer_transport.specs.declared.output.Output.TheVariants as outputs
use Rattle.rtc_peer_transport.specs.declared.polled_peer.PolledPeer.{PolledPeer}
use Rattle.rtc_peer_polling.specs.Walk.{PollsPeer}
use Rattle.rtc_peer_laws.specs.Acts.{PollActs}
use Rattle.rtc_peer_laws.specs.ChannelStreams.{AreNumberedChannels}
use Rattle.rtc_peer_laws.proofs.ChannelsOver.{none_over}
use Rattle.rtc_peer_laws.proofs.OpenedOnce.{not_again, opened_once}
use Rattle.rtc_run_laws.specs.AnnouncedOnce.{AreAnnouncedOnce, AreOthers, IsAnother}
use Rattle.rtc_run_laws.specs.ChannelUses.{ChannelUse, announced_use, generation_under, loses_channel, with_got_message, with_rolled_back, with_sent_message}
use Rattle.rtc_run_laws.proofs.RowLemmas.{closed_stays}
use Rattle.rtc_run_laws.proofs.UseLists.{AllUses}
use Rattle.rtc_run_laws.proofs.UsesOpened.{opening_placed, settled_out}
use Rattle.rtc_run_laws.proofs.UsesPolled.{no_timeout}
use Rattle.rtc_run_laws.proofs.UsesTold.{HasGone, InBandTold, IsOver, Lives, StandsSo, UseOpened, UseStands, UsedUnlessClosed, use_opened}

-- ---- lists of uses

-- what was sent and got tells nothing of it
sent_another : (x y : ChannelUse) (l k : List (Bool × List ℕ)) (a b : Bool) → IsAnother x y
    → IsAnother (if a then record x { sent = l } else x) (if b then record y { sent = k } else y)
sent_another x y l k true true h = h
sent_another x y l k true false h = h
sent_another x y l k false true h = h
sent_another x y l k false false h = h

got_another : (x y : ChannelUse) (l k : List (Bool × List ℕ)) (a b : Bool) → IsAnother x y
    → IsAnother (if a then record x { got = l } else x) (if b then record y { got = k } else y)
got_another x y l k true true h = h
got_another x y l k true false h = h
got_another x y l k false true h = h
got_another x y l k false false h = h

rolled_another : (x y : ChannelUse) (a b : Bool) → IsAnother x y
    → IsAnother (if a then record x { rolled_back = true } else x) (if b then record y { rolled_back = true } else y)
rolled_another x y true true h = h
rolled_another x y true false h = h
rolled_another x y false true h = h
rolled_another x y false false h = h

sent_others : (c : ℕ) (message : Bool × List ℕ) (x : ChannelUse) (uses : List ChannelUse) → AreOthers x uses
    → AreOthers (if x.channel == c then record x { sent = x.sent ++ message ∷ [] } else x) (with_sent_message c message uses)
sent_others c message x [] h = tt
sent_others c message x (y ∷ uses) h = (
  sent_another x y (x.sent ++ message ∷ []) (y.sent ++ message ∷ []) (x.channel == c) (y.channel == c) h.0,
  sent_others c message x uses h.1,
)

got_others : (c : ℕ) (message : Bool × List ℕ) (x : ChannelUse) (uses : List ChannelUse) → AreOthers x uses
    → AreOthers (if x.channel == c then record x { got = x.got ++ message ∷ [] } else x) (with_got_message c message uses)
got_others c message x [] h = tt
got_others c message x (y ∷ uses) h = (
  got_another x y (x.got ++ message ∷ []) (y.got ++ message ∷ []) (x.channel == c) (y.channel == c) h.0,
  got_others c message x uses h.1,
)

rolled_others : (before after : List Channel) (x : ChannelUse) (uses : List ChannelUse) → AreOthers x uses
    → AreOthers (if loses_channel x.channel before after then record x { rolled_back = true } else x) (with_rolled_back before after uses)
rolled_others before after x [] h = tt
rolled_others before after x (y ∷ uses) h = (
  rolled_another x y (loses_channel x.channel before after) (loses_channel y.channel before after) h.0,
  rolled_others before after x uses h.1,
)

pub once_rolled : (before after : List Channel) (uses : List ChannelUse) → AreAnnouncedOnce uses → AreAnnouncedOnce (with_rolled_back before after uses)
once_rolled before after [] h = tt
once_rolled before after (x ∷ uses) h = (rolled_others before after x uses h.0, once_rolled before after uses h.1)

pub once_sent : (c : ℕ) (message : Bool × List ℕ) (uses : List ChannelUse) → AreAnnouncedOnce uses → AreAnnouncedOnce (with_sent_message c message uses)
once_sent c message [] h = tt
once_sent c message (x ∷ uses) h = (sent_others c message x uses h.0, once_sent c message uses h.1)

pub once_got : (c : ℕ) (message : Bool × List ℕ) (uses : List ChannelUse) → AreAnnouncedOnce uses → AreAnnouncedOnce (with_got_message c message uses)
once_got c message [] h = tt
once_got c message (x ∷ uses) h = (got_others c message x uses h.0, once_got c message uses h.1)

others_more : (x y : ChannelUse) (uses : List ChannelUse) → AreOthers x uses → IsAnother x y → AreOthers x (uses ++ y ∷ [])
others_more x y [] h k = (k, tt)
others_more x y (z ∷ uses) h k = (h.0, others_more x y uses h.1 k)

pub once_more : (y : ChannelUse) (uses : List ChannelUse) → AreAnnouncedOnce uses → AllUses (λ x. IsAnother x y) uses
    → AreAnnouncedOnce (uses ++ y ∷ [])
once_more y [] h k = (tt, tt)
once_more y (x ∷ uses) h k = (others_more x y uses h.0 k.0, once_more y uses h.1 k.1)

-- ---- an announcement

pub any_at : (before : List StreamMessage) (last : StreamMessage) (rest : List StreamMessage) → is_dcep_message last ≡ true
    → any_dcep ((before ++ last ∷ []) ++ rest) ≡ true
any_at [] last rest h = by (is_dcep_message last) h
  where
    by : (b : Bool) → b ≡ true → (b || any_dcep rest) ≡ true
    by true e = refl
    by false e = absurd (true≢false (sym e))
any_at (x ∷ before) last rest h = by (is_dcep_message x) (any_at before last rest h)
  where
    by : (b : Bool) → any_dcep ((before ++ last ∷ []) ++ rest) ≡ true → (b || any_dcep ((before ++ last ∷ []) ++ rest)) ≡ true
    by true k = refl
    by false k = k

some_is : (a b : ℕ) → Some a ≡ Some b → a ≡ b
some_is a b h = cc

module _ {I D S M E X T W N : Type 0} (m : Meanings I D S M E X T W N) (w : AssociationLaws m.association) (v : GenerationLaws m.association)
    (p q : PolledPeer I D S M N) (id : ℕ) (label : List ℕ) (h : PollsPeer m p (Ok (outputs.Event (ChannelOpen id label))) q)
    (acts : PollActs m p (Ok (outputs.Event (ChannelOpen id label))) q) (numbers : AreNumberedChannels p.core.channels)
    (written read : List StreamMessage) where
  -- the channel is another
  new_channel : (c s g : ℕ) (got : List (Bool × List ℕ)) (rest : List StreamMessage) → StandsSo m c s g got rest p → c ≡ id → ⊥
  new_channel c s g got rest (Lives live is) e =
      not_again m id c s g p q acts.wrote acts.heard acts.streams.opens numbers (acts.numbers numbers) live (acts.streams.lives c s g numbers.0 live) (sym e)
  new_channel c s g got rest (HasGone gone past k) e =
      none_over acts.streams.opens.stream c q.core.channels.rows (acts.streams.gone c gone).1
      (acts.streams.opens.over ∙ ap (λ (n : ℕ). Some n) (sym e))
  new_channel c s g got rest (IsOver closed k) e =
      no_timeout (ChannelOpen id label) _ (Ok (outputs.Event (ChannelOpen id label))) refl
      (closed_stays m p (Ok (outputs.Event (ChannelOpen id label))) q closed h).0

  -- also than one that was rolled back
  other_channel : (x : ChannelUse) → UseStands m written read p x → x.channel ≡ id → ⊥
  other_channel x u e = by x.rolled_back refl
    where
      by : (b : Bool) → x.rolled_back ≡ b → ⊥
      by true f =
          none_over acts.streams.opens.stream x.channel q.core.channels.rows (acts.streams.gone x.channel (u.undone f).gone).1
          (acts.streams.opens.over ∙ ap (λ (n : ℕ). Some n) (sym e))
      by false f = let t = u.kept f in new_channel x.channel t.stream x.generation x.got t.rest t.stands e

  -- and the generation
  new_generation : (of : Option ℕ) (g : ℕ) (got : List (Bool × List ℕ)) → UseOpened written read of g got → UsedUnlessClosed m written read p → (announced_use m id q).in_band ≡ true → of ≡ stream_under id q.core.channels
      → g ≡ generation_under m (stream_under id q.core.channels) q → ⊥
  new_generation of g got t (inl closed) band same own =
      no_timeout (ChannelOpen id label) _ (Ok (outputs.Event (ChannelOpen id label))) refl
      (closed_stays m p (Ok (outputs.Event (ChannelOpen id label))) q closed h).0
  new_generation of g got t (inr uses) band same own =
      let placed : stream_under id q.core.channels ≡ Some acts.streams.opens.stream = opening_placed m w v p q id label h acts numbers written read in
      let stream : t.stream ≡ acts.streams.opens.stream = some_is t.stream acts.streams.opens.stream (sym t.stream_is ∙ same ∙ placed) in
      let generation : g ≡ m.association.generation q.core.sctp.association acts.streams.opens.stream =
      own ∙ ap (λ (o : Option ℕ). generation_under m o q) placed in
      let heard : any_dcep (messages_of acts.streams.opens.stream (m.association.generation q.core.sctp.association acts.streams.opens.stream) read) ≡ true =
      ap (λ (n : ℕ). any_dcep (messages_of n (m.association.generation q.core.sctp.association acts.streams.opens.stream) read)) (sym stream)
      ∙ ap (λ (n : ℕ). any_dcep (messages_of t.stream n read)) (sym generation)
      ∙ ap any_dcep t.read_is
      ∙ any_at t.before t.last t.rest t.last_dcep in
      settled_out m w v p q id label h acts numbers written read
      (opened_once m w v id p q acts.wrote acts.heard written read acts.streams.opens (uses acts.streams.opens.stream) heard) band

  pub opening_other : (x : ChannelUse) → UsedUnlessClosed m written read p → InBandTold m written read p x → IsAnother x (announced_use m id q)
  opening_other x used told = λ band other.
      let u = told band in (
        λ same. other_channel x u same,
        λ same own. new_generation x.stream x.generation x.got (use_opened m written read p x u) used other same own,
      )
