-- The side of a pair that acts: what was done to it, its exchange with the other one, and what holds of the channels that it announced.
use Rattle.std.proofs.Common.{◌≡◌, ◌∙◌, ◌++◌, ℕ, Bool, List, [], append-nil, map, sym, subst, ap}
use Rattle.std.proofs.lemmas.List.{map-append}
use Rattle.rtc_parts.specs.Among.{Among}
use Rattle.rtc_parts.specs.AssociationActs.{AssociationAct, Moved, moved-append}
use Rattle.rtc_parts.specs.AssociationWords.{given}
use Rattle.rtc_parts.proofs.AssociationLemmas.{given-append}
use Rattle.rtc_parts.specs.DtlsActs.{DtlsMoved, dtls_moved-append}
use Rattle.rtc_parts.specs.DtlsWords.{dtls_got}
use Rattle.rtc_parts.proofs.DtlsLemmas.{dtls_got-append}
use Rattle.rtc_plain_dtls.specs.Contents.{fresh_dtls}
use Rattle.rtc_plain_dtls.specs.PlainMeaning.{plain_dtls}
use Rattle.rtc_assoc_state.proofs.PlainLaws.{plain_laws}
use Rattle.rtc_assoc_state.specs.Contents.{fresh_contents}
use Rattle.rtc_assoc_state.specs.PlainMeaning.{plain_meaning}
use Rattle.rtc_parts.specs.Draws.{Draws}
use Rattle.rtc_sctp_laws.specs.StreamMessages.{StreamMessage, read_act, reads_of, write_act, writes_of}
use Rattle.rtc_sctp_laws.specs.StreamUses.{messages_of}
use Rattle.rtc_sctp_laws.proofs.GenerationMessages.{messages-append}
use Rattle.rtc_sctp_laws.specs.Contents.{contents_of}
use Rattle.rtc_sctp_laws.specs.RunningStreams.{AreRunning}
use Rattle.rtc_sctp_laws.proofs.ContentLemmas.{contents-append}
use Rattle.rtc_sctp_laws.proofs.PlainGenerations.{plain_generations}
use Rattle.rtc_peer_laws.specs.Acts.{PeerDid}
use Rattle.rtc_peer_laws.specs.PeerActs.{Came, PeerActs, acts_with}
use Rattle.rtc_peer_laws.proofs.ActWords.{among_pair, reads_of-append, writes_of-append}
use Rattle.rtc_peer_laws.specs.KeptChannels.{CallKeepsStreams, CallLeavesStreams}
use Rattle.rtc_peer_laws.specs.JoinedPeers.{CarriesData}
use Rattle.rtc_peer_laws.proofs.ExchangeLemmas.{left_exchanges, right_exchanges}
use Rattle.rtc_run_history.specs.declared.sent_packet.SentPacket.{SentPacket}
use Rattle.rtc_run_history.specs.declared.side.Side.{Side}
use Rattle.rtc_run_history.specs.declared.side.Side.TheVariants.{Left, Right}
use Rattle.rtc_run_history.specs.Sides.{other_side}
use Rattle.rtc_run_laws.specs.PlainPairs.{PlainPolled, plain_over}
use Rattle.rtc_run_laws.specs.SentContents.{contents_sent}
use Rattle.rtc_run_laws.proofs.ContentsLemmas.{Shows}
use Rattle.rtc_run_laws.proofs.StandingExchange.{ExchangeBy}
use Rattle.rtc_run_laws.specs.ChannelUses.{ChannelUse, with_rolled_back}
use Rattle.rtc_run_laws.specs.ToldMessages.{MessagesTold}
use Rattle.rtc_run_laws.proofs.SidesTold.{SideTold, side_called, side_rolled}
use Rattle.rtc_run_laws.proofs.UseLists.{AllUses, all_kept, all_rolled}
use Rattle.rtc_run_laws.proofs.StepRows.{RowsCancelled}
use Rattle.rtc_run_laws.proofs.StepsExchange.{plain_over_laws}
use Rattle.rtc_run_laws.proofs.SidesInOne.{SideOne, one_called, one_rolled}
use Rattle.rtc_run_laws.proofs.WholeUses.{SideWhole, whole_rolled, whole_still}

acts_join : (act : StreamMessage → AssociationAct) (all first more : List AssociationAct) (xs ys : List StreamMessage) → all ≡ first ++ more
    → first ≡ map act xs → more ≡ map act ys → all ≡ map act (xs ++ ys)
acts_join act all first more xs ys is h k =
    is
    ∙ ap (λ (l : List AssociationAct). l ++ more) h
    ∙ ap (λ (l : List AssociationAct). map act xs ++ l) k
    ∙ sym (map-append act xs ys)

-- messages, each with whether it is binary, by stream and generation
abbrev pub Sent : Type 0
Sent = ℕ → ℕ → List (Bool × List ℕ)

pub nothing_sent : (sent more : List (Bool × List ℕ)) → more ≡ [] → sent ++ more ≡ sent
nothing_sent sent more none = ap (λ (l : List (Bool × List ℕ)). sent ++ l) none ∙ append-nil sent

module _ {N : Type 0} (draws : Draws N) where
  -- the association of a side that announced a channel runs
  still_running : (uses : List ChannelUse) (p next : PlainPolled N)
      → (AreRunning plain_meaning p.core.sctp → AreRunning plain_meaning next.core.sctp) → AllUses (λ x. AreRunning plain_meaning p.core.sctp) uses
      → AllUses (λ x. AreRunning plain_meaning next.core.sctp) uses
  still_running uses p next keeps h =
      all_kept (λ x. AreRunning plain_meaning p.core.sctp) (λ x. AreRunning plain_meaning next.core.sctp) uses (λ x k. keeps k) h

  -- these acts were done to the side: the messages that they wrote and read, and what holds by them
  pub record SideStood (acts : PeerActs) (uses : List ChannelUse) (p : PlainPolled N) : Type 0 where
    pub written : List StreamMessage
    pub read : List StreamMessage
    pub wrote_is : writes_of acts.association ≡ map write_act written
    pub read_is : reads_of acts.association ≡ map read_act read
    pub told : SideTold (plain_over draws) uses written read p
    pub went : Moved plain_meaning fresh_contents acts.association p.core.sctp.association
    pub dtls : DtlsMoved plain_dtls fresh_dtls acts.dtls p.core.dtls.instance
    pub handed : Among (given acts.association) (dtls_got acts.dtls)

  -- the same with the messages that were sent to each generation of each stream, over whatever channel, and with those that were told of
  -- each channel; the association of a side that announced one runs
  pub record SideSent (acts : PeerActs) (uses : List ChannelUse) (sent : Sent) (told : MessagesTold) (p : PlainPolled N) : Type 0 where
    pub side : SideStood acts uses p
    pub sent_is : (s g : ℕ) → contents_of (messages_of s g side.written) ≡ sent s g
    pub whole : SideWhole told side.read uses
    pub only : SideOne (plain_over draws) told uses p
    pub running : AllUses (λ x. AreRunning plain_meaning p.core.sctp) uses

  pub record Stood (at : Side) (packets : List SentPacket) (b : PeerActs) (q : PlainPolled N) (uses : List ChannelUse) (sent : Sent) (told : MessagesTold)
      (p : PlainPolled N) : Type 0 where
    pub acts : PeerActs
    pub exchange : ExchangeBy at acts (contents_sent at packets) p b (contents_sent (other_side at) packets) q
    pub side : SideStood acts uses p
    pub sent_is : (s g : ℕ) → contents_of (messages_of s g side.written) ≡ sent s g
    pub whole : SideWhole told side.read uses
    pub only : SideOne (plain_over draws) told uses p
    pub running : AllUses (λ x. AreRunning plain_meaning p.core.sctp) uses

  exchanged_on : (at : Side) (a b : PeerActs) (before after others : List (List ℕ)) (p next q : PlainPolled N) (came : Came) (moments : List ℕ)
      (wrote heard : List StreamMessage) → ExchangeBy at a before p b others q → CarriesData came.dtls others
      → (did : PeerDid (plain_over draws) came moments after wrote heard p next)
      → ExchangeBy at (acts_with a did.acts) (before ++ after) next b others q
  exchanged_on Left a b before after others p next q came moments wrote heard x carried did =
      left_exchanges draws a b before after others p next q came moments wrote heard x carried did
  exchanged_on Right a b before after others p next q came moments wrote heard x carried did =
      right_exchanges draws b a before after others q p next came moments wrote heard x carried did

  -- a call of the acting peer
  pub call_stood : (at : Side) (packets packets' : List SentPacket) (b : PeerActs) (q p next : PlainPolled N) (came : Came) (moments : List ℕ)
      (shown : List (List ℕ)) (wrote heard : List StreamMessage) (uses uses' : List ChannelUse) (sent sent' : Sent) (told told' : MessagesTold)
      → CarriesData came.dtls (contents_sent (other_side at) packets) → Shows at packets packets' shown
      → PeerDid (plain_over draws) came moments shown wrote heard p next
      → ((s g : ℕ) → sent s g ++ contents_of (messages_of s g wrote) ≡ sent' s g) → (h : Stood at packets b q uses sent told p)
      → SideTold (plain_over draws) uses' (h.side.written ++ wrote) (h.side.read ++ heard) next → SideWhole told' (h.side.read ++ heard) uses'
      → SideOne (plain_over draws) told' uses' next → AllUses (λ x. AreRunning plain_meaning next.core.sctp) uses' → Stood at packets' b q uses' sent' told' next
  call_stood at packets packets' b q p next came moments shown wrote heard uses uses' sent sent' told told' carried shows did more h side whole only running = record {
    acts = acts_with h.acts did.acts;
    exchange =
        subst (λ (l : List (List ℕ)). ExchangeBy at (acts_with h.acts did.acts) (contents_sent at packets') next b l q) (sym shows.other)
        (subst (λ (l : List (List ℕ)). ExchangeBy at (acts_with h.acts did.acts) l next b (contents_sent (other_side at) packets) q) (sym shows.own)
        (exchanged_on at h.acts b (contents_sent at packets) shown (contents_sent (other_side at) packets) p next q came moments wrote heard
        h.exchange carried did));
    side = record {
      written = h.side.written ++ wrote;
      read = h.side.read ++ heard;
      wrote_is =
          acts_join write_act (writes_of (h.acts.association ++ did.acts.association)) (writes_of h.acts.association) (writes_of did.acts.association)
          h.side.written wrote (writes_of-append h.acts.association did.acts.association) h.side.wrote_is did.wrote_is;
      read_is =
          acts_join read_act (reads_of (h.acts.association ++ did.acts.association)) (reads_of h.acts.association) (reads_of did.acts.association)
          h.side.read heard (reads_of-append h.acts.association did.acts.association) h.side.read_is did.heard_is;
      told = side;
      went =
          moved-append plain_meaning fresh_contents p.core.sctp.association next.core.sctp.association h.acts.association did.acts.association h.side.went
          did.went.association;
      dtls = dtls_moved-append plain_dtls fresh_dtls p.core.dtls.instance next.core.dtls.instance h.acts.dtls did.acts.dtls h.side.dtls did.went.dtls;
      handed =
          among_pair (given (h.acts.association ++ did.acts.association)) (dtls_got (h.acts.dtls ++ did.acts.dtls)) (given h.acts.association)
          (given did.acts.association) (dtls_got h.acts.dtls) (dtls_got did.acts.dtls) (given-append h.acts.association did.acts.association)
          (dtls_got-append h.acts.dtls did.acts.dtls) h.side.handed did.handed;
    };
    sent_is = λ s g.
        ap contents_of (messages-append s g h.side.written wrote)
        ∙ contents-append (messages_of s g h.side.written) (messages_of s g wrote)
        ∙ ap (λ (l : List (Bool × List ℕ)). l ++ contents_of (messages_of s g wrote)) (h.sent_is s g)
        ∙ more s g;
    whole = whole;
    only = only;
    running = running;
  }

  -- one that neither writes nor reads
  pub quiet_stood : (at : Side) (packets packets' : List SentPacket) (b : PeerActs) (q p next : PlainPolled N) (came : Came) (moments : List ℕ)
      (uses : List ChannelUse) (sent : Sent) (told : MessagesTold) → CarriesData came.dtls (contents_sent (other_side at) packets) → Shows at packets packets' []
      → PeerDid (plain_over draws) came moments [] [] [] p next → CallKeepsStreams (plain_over draws) p [] next → Stood at packets b q uses sent told p
      → Stood at packets' b q uses sent told next
  quiet_stood at packets packets' b q p next came moments uses sent told carried shows did keeps h =
      call_stood at packets packets' b q p next came moments [] [] [] uses uses sent sent told told carried shows did (λ s g. append-nil (sent s g)) h
      (side_called (plain_over draws) plain_laws plain_generations came moments [] p next uses h.side.written h.side.read did keeps h.side.told)
      (whole_still told h.side.read [] uses h.whole)
      (one_called (plain_over draws) (plain_over_laws draws) plain_generations [] told uses p next h.side.told.numbers keeps h.only) (still_running uses p next keeps.running h.running)

  -- an offer is rolled back
  pub rolled_stood : (at : Side) (packets packets' : List SentPacket) (b : PeerActs) (q p next : PlainPolled N) (came : Came) (moments : List ℕ)
      (uses : List ChannelUse) (sent : Sent) (told : MessagesTold) → CarriesData came.dtls (contents_sent (other_side at) packets) → Shows at packets packets' []
      → PeerDid (plain_over draws) came moments [] [] [] p next → CallLeavesStreams (plain_over draws) p [] next → RowsCancelled (plain_over draws) p next
      → Stood at packets b q uses sent told p → Stood at packets' b q (with_rolled_back p.core.channels.rows next.core.channels.rows uses) sent told next
  rolled_stood at packets packets' b q p next came moments uses sent told carried shows did leaves rows h =
      call_stood at packets packets' b q p next came moments [] [] [] uses (with_rolled_back p.core.channels.rows next.core.channels.rows uses) sent sent told
      told carried shows did (λ s g. append-nil (sent s g)) h
      (side_rolled (plain_over draws) plain_laws plain_generations came moments [] p next uses h.side.written h.side.read did leaves h.side.told)
      (whole_rolled told h.side.read [] p.core.channels.rows next.core.channels.rows uses h.whole)
      (one_rolled (plain_over draws) (plain_over_laws draws) plain_generations told p.core.channels.rows next.core.channels.rows uses p next
      h.side.told.numbers rows h.only)
      (all_rolled (λ x. AreRunning plain_meaning p.core.sctp) (λ x. AreRunning plain_meaning next.core.sctp) p.core.channels.rows next.core.channels.rows uses
      (λ x e k. leaves.running k) (λ x e k. leaves.running k) h.running)

  -- the same peer, and the same datagrams
  pub same_stood : (at : Side) (packets packets' : List SentPacket) (b : PeerActs) (q : PlainPolled N) (sent : Sent) (told : MessagesTold) (p next : PlainPolled N)
      (uses : List ChannelUse) → next ≡ p → packets' ≡ packets → Stood at packets b q uses sent told p → Stood at packets' b q uses sent told next
  same_stood at packets packets' b q sent told p next uses same kept h =
      subst (λ (l : List SentPacket). Stood at l b q uses sent told next) (sym kept)
      (subst (λ (x : PlainPolled N). Stood at packets b q uses sent told x) (sym same) h)
