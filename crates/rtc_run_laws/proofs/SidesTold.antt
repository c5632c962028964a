-- What holds of a side of a run: of its streams, of its channels, and of those that it announced.
use Rattle.std.proofs.Common.{◌≡◌, ◌++◌, ◌∷◌, ℕ, Bool, true, List, [], append-nil, Some, Result, Ok, Err, inl, inr, refl, sym, subst}
use Rattle.rtc_parts.specs.AssociationLaws.{AssociationLaws}
use Rattle.rtc_sctp.specs.Calls.{is_nil, written_ppi}
use Rattle.rtc_sctp_laws.specs.StreamMessages.{StreamMessage, HaveNamedPpis, NamesReadings, stream_message}
use Rattle.rtc_sctp_laws.specs.GenerationLaws.{GenerationLaws}
use Rattle.rtc_sctp_laws.proofs.ContentLemmas.{dcep_are_named, dcep_contents}
use Rattle.rtc_peer_core.specs.declared.phase.Phase.TheVariants.{Closed}
use Rattle.rtc_peer_core.specs.declared.rtc_error.RtcError.{RtcError}
use Rattle.rtc_peer_core.specs.declared.rtc_error.RtcError.TheVariants.{Alloc}
use Rattle.rtc_peer_core.specs.Meanings.{Meanings, PartsLaws}
use Rattle.rtc_peer_transport.specs.ChannelCalls.{WritesChannel, stream_under}
use Rattle.rtc_peer_transport.specs.declared.event.Event.TheVariants.{ChannelOpen, ChannelData}
use Rattle.rtc_peer_transport.specs.declared.output.Output.{Output}
use Rattle.rtc_peer_transport.specs.declared.output.Output.TheVariants as outputs
use Rattle.rtc_peer_transport.specs.declared.polled_peer.PolledPeer.{PolledPeer}
use Rattle.rtc_peer_polling.specs.Walk.{PollsPeer}
use Rattle.rtc_peer_polling.proofs.Lacking.{poll_lacks}
use Rattle.rtc_peer_laws.specs.Acts.{PeerDid, PollActs}
use Rattle.rtc_peer_laws.specs.ChannelStreams.{AreNumberedChannels, IsUsedStream, UnlessLacking}
use Rattle.rtc_peer_laws.specs.PeerActs.{Came}
use Rattle.rtc_peer_laws.specs.KeptChannels.{CallKeepsStreams, CallLeavesStreams}
use Rattle.rtc_run_laws.specs.AnnouncedOnce.{AreAnnouncedOnce, IsAnother}
use Rattle.rtc_run_laws.specs.ChannelUses.{ChannelUse, announced_use, with_rolled_back, with_sent_message}
use Rattle.rtc_run_laws.proofs.AnnouncedStreams.{AnnouncedUnlessClosed, announced_called, announced_left, announced_polled, over_answered, over_rolled, over_sent, uses_answered}
use Rattle.rtc_run_laws.proofs.BehindSides.{AreBehind, behind_on, behind_wrote}
use Rattle.rtc_run_laws.proofs.OpenedAnew.{once_got, once_more, once_rolled, once_sent, opening_other}
use Rattle.rtc_run_laws.proofs.OutSides.{OutTold, called_out, out_polled, wrote_not}
use Rattle.rtc_run_laws.proofs.RolledUses.{left_told, removed_told}
use Rattle.rtc_run_laws.proofs.RowLemmas.{closed_stays}
use Rattle.rtc_run_laws.proofs.UseLists.{AllUses, all_got, all_kept, all_more, all_rolled, all_sent, named_join}
use Rattle.rtc_run_laws.proofs.UsesOpened.{opening_told}
use Rattle.rtc_run_laws.proofs.UsesPolled.{other_got, own_got, silent_polled}
use Rattle.rtc_run_laws.proofs.UsesTold.{InBandTold, UsedUnlessClosed, other_told, own_told, silent_told}

module _ {I D S M E X T W N : Type 0} (m : Meanings I D S M E X T W N) where
  pub record SideTold (uses : List ChannelUse) (written read : List StreamMessage) (p : PolledPeer I D S M N) : Type 0 where
    pub used : UsedUnlessClosed m written read p
    pub numbers : AreNumberedChannels p.core.channels
    pub named_written : HaveNamedPpis written
    pub named_read : HaveNamedPpis read
    pub each : AllUses (InBandTold m written read p) uses
    pub once : AreAnnouncedOnce uses
    pub announced : AnnouncedUnlessClosed m uses p
    pub behind : AreBehind m written uses p
    pub out : AllUses (OutTold m written p) uses

  module _ (w : AssociationLaws m.association) (v : GenerationLaws m.association) where
    -- calls but polls
    used_called : (p q : PolledPeer I D S M N) (written read wrote : List StreamMessage) → CallKeepsStreams m p wrote q → UsedUnlessClosed m written read p
        → UsedUnlessClosed m (written ++ wrote) (read ++ []) q
    used_called p q written read wrote keeps (inl closed) = inl (keeps.closed closed)
    used_called p q written read wrote keeps (inr uses) =
        inr (λ s. subst (λ (l : List StreamMessage). IsUsedStream m s (written ++ wrote) l q) (sym (append-nil read)) (keeps.uses v s written read (uses s)))

    pub side_called : (came : Came) (moments : List ℕ) (shown : List (List ℕ)) (p q : PolledPeer I D S M N) (uses : List ChannelUse)
        (written read : List StreamMessage) → PeerDid m came moments shown [] [] p q → CallKeepsStreams m p [] q → SideTold uses written read p
        → SideTold uses (written ++ []) (read ++ []) q
    side_called came moments shown p q uses written read did keeps h = record {
      used = used_called p q written read [] keeps h.used;
      numbers = keeps.numbers h.numbers;
      named_written = named_join written [] h.named_written tt;
      named_read = named_join read [] h.named_read tt;
      each =
          all_kept (InBandTold m written read p) (InBandTold m (written ++ []) (read ++ []) q) uses
          (λ x told. silent_told m w v p q [] came moments shown did keeps h.numbers written read x refl told) h.each;
      once = h.once;
      announced = announced_called m p q [] uses uses keeps (λ s own k. k) h.announced;
      behind = behind_on m p q uses uses written [] keeps.given (λ s own k. k) (λ s g. refl) h.behind;
      out =
          all_kept (OutTold m written p) (OutTold m (written ++ []) q) uses
          (λ x k. called_out m w v p q did.acts.association did.went.association keeps.holds written [] refl x k) h.out;
    }

    -- an offer is rolled back
    used_left : (p q : PolledPeer I D S M N) (written read : List StreamMessage) → CallLeavesStreams m p [] q → UsedUnlessClosed m written read p
        → UsedUnlessClosed m (written ++ []) (read ++ []) q
    used_left p q written read leaves (inl closed) = inl (leaves.closed closed)
    used_left p q written read leaves (inr uses) =
        inr (λ s. subst (λ (l : List StreamMessage). IsUsedStream m s (written ++ []) l q) (sym (append-nil read)) (leaves.uses v s written read (uses s)))

    pub side_rolled : (came : Came) (moments : List ℕ) (shown : List (List ℕ)) (p q : PolledPeer I D S M N) (uses : List ChannelUse)
        (written read : List StreamMessage) → PeerDid m came moments shown [] [] p q → CallLeavesStreams m p [] q → SideTold uses written read p
        → SideTold (with_rolled_back p.core.channels.rows q.core.channels.rows uses) (written ++ []) (read ++ []) q
    side_rolled came moments shown p q uses written read did leaves h = record {
      used = used_left p q written read leaves h.used;
      numbers = leaves.numbers h.numbers;
      named_written = named_join written [] h.named_written tt;
      named_read = named_join read [] h.named_read tt;
      each =
          all_rolled (InBandTold m written read p) (InBandTold m (written ++ []) (read ++ []) q) p.core.channels.rows q.core.channels.rows uses
          (λ x lost told. removed_told m w v p q came moments shown did leaves h.numbers written read x told lost)
          (λ x left told. left_told m w v p q came moments shown did leaves h.numbers written read x told left) h.each;
      once = once_rolled p.core.channels.rows q.core.channels.rows uses h.once;
      announced =
          announced_left m p q [] uses (with_rolled_back p.core.channels.rows q.core.channels.rows uses) leaves
          (λ s own k. over_rolled s own p.core.channels.rows q.core.channels.rows uses k) h.announced;
      behind =
          behind_on m p q uses (with_rolled_back p.core.channels.rows q.core.channels.rows uses) written [] leaves.given
          (λ s own k. over_rolled s own p.core.channels.rows q.core.channels.rows uses k) (λ s g. refl) h.behind;
      out =
          all_rolled (OutTold m written p) (OutTold m (written ++ []) q) p.core.channels.rows q.core.channels.rows uses
          (λ x lost k. called_out m w v p q did.acts.association did.went.association leaves.holds written [] refl x k)
          (λ x left k. called_out m w v p q did.acts.association did.went.association leaves.holds written [] refl x k) h.out;
    }

    -- a message is written
    pub side_wrote : (stream id : ℕ) (binary : Bool) (bytes : List ℕ) (wrote : List StreamMessage) (came : Came) (moments : List ℕ)
        (shown : List (List ℕ)) (p q : PolledPeer I D S M N) (uses : List ChannelUse) (written read : List StreamMessage)
        → stream_under id p.core.channels ≡ Some stream → (p.core.phase ≡ Closed → ⊥) → WritesChannel m stream binary bytes p (Ok true) q
        → wrote ≡ stream_message stream (m.association.generation p.core.sctp.association stream) (written_ppi binary (is_nil bytes)) bytes ∷ []
        → HaveNamedPpis wrote → PeerDid m came moments shown wrote [] p q → CallKeepsStreams m p wrote q → SideTold uses written read p
        → SideTold (with_sent_message id (binary, bytes) uses) (written ++ wrote) (read ++ []) q
    side_wrote stream id binary bytes wrote came moments shown p q uses written read placed free writes is named did keeps h = record {
      used = used_called p q written read wrote keeps h.used;
      numbers = keeps.numbers h.numbers;
      named_written = named_join written wrote h.named_written named;
      named_read = named_join read [] h.named_read tt;
      each =
          all_sent (InBandTold m written read p) (InBandTold m (written ++ wrote) (read ++ []) q) id (binary, bytes) uses
          (λ x e told. own_told m w v p q wrote came moments shown did keeps h.numbers stream id binary bytes placed writes free is written read x e told)
          (λ x e told. other_told m w v p q wrote came moments shown did keeps h.numbers stream id binary bytes placed writes free is written read x e told)
          h.each;
      once = once_sent id (binary, bytes) uses h.once;
      announced =
          announced_called m p q wrote uses (with_sent_message id (binary, bytes) uses) keeps (λ s own k. over_sent s own id (binary, bytes) uses k) h.announced;
      behind = behind_wrote m w v stream binary bytes p q writes uses written read id wrote is keeps.given free h.used h.announced h.behind;
      out =
          all_sent (OutTold m written p) (OutTold m (written ++ wrote) q) id (binary, bytes) uses
          (λ x e k. called_out m w v p q did.acts.association did.went.association keeps.holds written wrote (wrote_not m w v stream _ binary bytes wrote is) x k)
          (λ x e k. called_out m w v p q did.acts.association did.went.association keeps.holds written wrote (wrote_not m w v stream _ binary bytes wrote is) x k)
          h.out;
    }

    -- polls
    used_polled : (p : PolledPeer I D S M N) (answer : Result (Output E) RtcError) (q : PolledPeer I D S M N) (written read written' read' : List StreamMessage)
        → PollsPeer m p answer q → ((s : ℕ) → IsUsedStream m s written read p → UnlessLacking answer (IsUsedStream m s written' read' q))
        → UsedUnlessClosed m written read p → UsedUnlessClosed m written' read' q
    used_polled p answer q written read written' read' h keeps (inl closed) = inl (closed_stays m p answer q closed h).1
    used_polled p (Ok output) q written read written' read' h keeps (inr uses) = inr (λ s. keeps s (uses s))
    used_polled p (Err Alloc) q written read written' read' h keeps (inr uses) = inl (poll_lacks m p q h)
    used_polled p (Err error) q written read written' read' h keeps (inr uses) = inr (λ s. keeps s (uses s))

    still_each : (p : PolledPeer I D S M N) (answer : Result (Output E) RtcError) (q : PolledPeer I D S M N) (h : PollsPeer m p answer q)
        (acts : PollActs m p answer q) (uses : List ChannelUse) (written read : List StreamMessage) → acts.told ≡ [] → SideTold uses written read p
        → AllUses (InBandTold m (written ++ acts.wrote) (read ++ acts.heard) q) uses
    still_each p answer q h acts uses written read none told =
        all_kept (InBandTold m written read p) (InBandTold m (written ++ acts.wrote) (read ++ acts.heard) q) uses
        (λ x t. silent_polled m w v p answer q h acts told.numbers written read told.used x none t) told.each

    each_polled : (p : PolledPeer I D S M N) (answer : Result (Output E) RtcError) (q : PolledPeer I D S M N) (h : PollsPeer m p answer q)
        (acts : PollActs m p answer q) (uses : List ChannelUse) (written read : List StreamMessage) → SideTold uses written read p
        → AllUses (InBandTold m (written ++ acts.wrote) (read ++ acts.heard) q) (uses_answered m answer q uses)
    each_polled p (Ok (outputs.Event (ChannelOpen id label))) q h acts uses written read told =
        all_more (InBandTold m (written ++ acts.wrote) (read ++ acts.heard) q) uses (announced_use m id q)
        (still_each p (Ok (outputs.Event (ChannelOpen id label))) q h acts uses written read acts.shows told)
        (opening_told m w v p q id label h acts told.numbers written read told.used)
    each_polled p (Ok (outputs.Event (ChannelData message))) q h acts uses written read told =
        all_got (InBandTold m written read p) (InBandTold m (written ++ acts.wrote) (read ++ acts.heard) q) message.id (message.binary, message.bytes) uses
        (λ x e t. own_got m w v p q message h acts told.numbers written read told.used x e t)
        (λ x e t. other_got m w v p q message h acts told.numbers written read told.used x e t) told.each
    each_polled p (Ok (outputs.Event event)) q h acts uses written read told =
        still_each p (Ok (outputs.Event event)) q h acts uses written read acts.shows told
    each_polled p (Ok (outputs.Transmit transmit)) q h acts uses written read told =
        still_each p (Ok (outputs.Transmit transmit)) q h acts uses written read acts.shows told
    each_polled p (Ok (outputs.Timeout moment)) q h acts uses written read told =
        still_each p (Ok (outputs.Timeout moment)) q h acts uses written read acts.shows told
    each_polled p (Err error) q h acts uses written read told = still_each p (Err error) q h acts uses written read acts.shows told

    once_polled : (p : PolledPeer I D S M N) (answer : Result (Output E) RtcError) (q : PolledPeer I D S M N) (h : PollsPeer m p answer q)
        (acts : PollActs m p answer q) (uses : List ChannelUse) (written read : List StreamMessage) → SideTold uses written read p
        → AreAnnouncedOnce (uses_answered m answer q uses)
    once_polled p (Ok (outputs.Event (ChannelOpen id label))) q h acts uses written read told =
        once_more (announced_use m id q) uses told.once
        (all_kept (InBandTold m written read p) (λ x. IsAnother x (announced_use m id q)) uses
        (λ x t. opening_other m w v p q id label h acts told.numbers written read x told.used t) told.each)
    once_polled p (Ok (outputs.Event (ChannelData message))) q h acts uses written read told =
        once_got message.id (message.binary, message.bytes) uses told.once
    once_polled p (Ok (outputs.Event event)) q h acts uses written read told = told.once
    once_polled p (Ok (outputs.Transmit transmit)) q h acts uses written read told = told.once
    once_polled p (Ok (outputs.Timeout moment)) q h acts uses written read told = told.once
    once_polled p (Err error) q h acts uses written read told = told.once

    pub side_polled : NamesReadings m.association → PartsLaws m → (p : PolledPeer I D S M N) (answer : Result (Output E) RtcError) (q : PolledPeer I D S M N)
        (h : PollsPeer m p answer q) (acts : PollActs m p answer q) (uses : List ChannelUse) (written read : List StreamMessage)
        → SideTold uses written read p → SideTold (uses_answered m answer q uses) (written ++ acts.wrote) (read ++ acts.heard) q
    side_polled names laws p answer q h acts uses written read told = record {
      used =
          used_polled p answer q written read (written ++ acts.wrote) (read ++ acts.heard) h
          (λ s used. acts.streams.uses w v s written read used) told.used;
      numbers = acts.numbers told.numbers;
      named_written = named_join written acts.wrote told.named_written (dcep_are_named acts.wrote acts.dcep);
      named_read = named_join read acts.heard told.named_read (acts.did.named names);
      each = each_polled p answer q h acts uses written read told;
      once = once_polled p answer q h acts uses written read told;
      announced = announced_polled m w v p answer q h acts told.numbers written read told.used uses told.announced;
      behind =
          behind_on m p q uses (uses_answered m answer q uses) written acts.wrote acts.streams.given (λ s own k. over_answered m answer q uses s own k)
          (λ s g. dcep_contents s g acts.wrote acts.dcep) told.behind;
      out = out_polled m w v laws p answer q h acts told.numbers written read told.used uses told.out;
    }
