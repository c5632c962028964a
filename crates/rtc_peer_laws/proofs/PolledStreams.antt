-- What a poll of the streams does to the association, by what of its answer is told and what is passed over.
use Rattle.std.proofs.Common.{◌≡◌, ◌++◌, ◌∷◌, ◌≤◌, ◌⊎◌, inl, inr, ℕ, true, List, [], Option, Some, Result, sym, ap, subst, ◌∙◌}
use Rattle.std.specs.declared.alloc.AllocError.{AllocError}
use Rattle.rtc_sctp_entries.specs.declared.sctp_event.SctpEvent.{SctpEvent}
use Rattle.rtc_sctp.specs.Streams.{SctpStreams, is_established}
use Rattle.rtc_sctp.specs.Polls.{PollsStreams}
use Rattle.rtc_sctp_laws.specs.StreamActs.{AssociationDid}
use Rattle.rtc_sctp_laws.specs.StreamMessages.{StreamMessage, met_of, packets_met, data_met, pushed_packets}
use Rattle.rtc_sctp_laws.specs.GenerationLaws.{GenerationLaws}
use Rattle.rtc_sctp_laws.specs.StreamUses.{HasOpenInBand, IsUsed, LeavesUse, LeavesLive, TellsStreamOpen}
use Rattle.rtc_sctp_laws.specs.MuteGenerations.{StaysMute}
use Rattle.rtc_sctp_laws.specs.UsedCalls.{PollUses}
use Rattle.rtc_sctp_laws.proofs.OpeningEntries.{open_is}
use Rattle.rtc_sctp_laws.proofs.UsedPolls.{poll_uses}
use Rattle.rtc_sctp_entries.specs.declared.stream_entry.StreamEntry.{StreamEntry}
use Rattle.rtc_sctp_laws.proofs.RunningPolls.{polls_stay}
use Rattle.rtc_sctp_laws.proofs.ClosingPolls.{started_moved}
use Rattle.rtc_channels.specs.Channels.{AreRising, Channels}
use Rattle.rtc_peer_core.specs.Meanings.{Meanings, PartsLaws}
use Rattle.rtc_peer_transport.specs.declared.met.Met.{Met}
use Rattle.rtc_peer_transport.specs.declared.polled_peer.PolledPeer.{PolledPeer}
use Rattle.rtc_peer_polling.specs.StreamStages.{channel_over}
use Rattle.rtc_peer_laws.specs.PeerActs.{nothing_came, queue_and_role}
use Rattle.rtc_peer_laws.specs.Acts.{PeerDid, ArePassed}
use Rattle.rtc_peer_laws.specs.ChannelStreams.{IsGone, LeavesLiveChannel, UnlessLacking, OpensByAnswer, TellsByAnswer, WasOpenInBand, Already}
use Rattle.rtc_peer_laws.specs.RowsChanged.{Polled, RowsAnswered, RowsPolled, begun_as}
use Rattle.rtc_peer_laws.proofs.PolledRows.{one_polled}
use Rattle.rtc_peer_laws.proofs.StreamsJoin.{answer_met, unless_map}
use Rattle.rtc_peer_laws.proofs.UnsharedRows.{AreApart}
use Rattle.rtc_peer_laws.proofs.ActJoins.{streams_did}
use Rattle.rtc_peer_laws.proofs.ActedClosing.{BesideStreams}
use Rattle.rtc_peer_laws.proofs.VisitActs.{contents_met, MeetsData, KeepsRows, VisitDid, none_told, visit_is}

-- channels that have gone stay so, and no two get one stream
abbrev pub KeepsHeld : Channels → Channels → Type 0
KeepsHeld held held' = ((c : ℕ) → IsGone c held → IsGone c held') × (AreApart held.rows → AreApart held'.rows) × (held.given ≤ held'.given)

module _ {I D S M E X T W N : Type 0} (m : Meanings I D S M E X T W N) (laws : PartsLaws m) where
  -- what the answer of a poll leaves of the use of each stream, and of live channels
  abbrev pub LeavesUsesBy : Met E → Result (Option SctpEvent) AllocError → SctpStreams S → Type 0
  LeavesUsesBy x answer streams =
      (s : ℕ) (ws hs : List StreamMessage) → LeavesUse m.association (met_of answer) s ws hs streams.association streams.entries
      → UnlessLacking (answer_met x) (IsUsed m.association s ws hs streams.association streams.entries)

  abbrev pub StaysLiveBy : Met E → Result (Option SctpEvent) AllocError → SctpStreams S → PolledPeer I D S M N → PolledPeer I D S M N → Type 0
  StaysLiveBy x answer streams p q =
      (c s g : ℕ) → AreRising 0 p.core.channels.rows → channel_over s p.core.channels ≡ Some c → LeavesLive (met_of answer) s g streams.entries
      → LeavesLiveChannel (answer_met x) c s g q

  -- a stream that is told to be open has its channel announced, unless no number is left
  abbrev pub OpensAnewBy : Met E → Result (Option SctpEvent) AllocError → PolledPeer I D S M N → PolledPeer I D S M N → Type 0
  OpensAnewBy x answer p q =
      UnlessLacking (answer_met x) ((s : ℕ) (own : Option ℕ) → TellsStreamOpen (met_of answer) s → WasOpenInBand s own p (answer_met x) q)

  -- what becomes of the channels
  abbrev pub ChangesBy : Met E → Result (Option SctpEvent) AllocError → PolledPeer I D S M N → PolledPeer I D S M N → Type 0
  ChangesBy x answer p q = UnlessLacking (answer_met x) (RowsAnswered answer p.core.channels q.core.channels)

  opened_anew : (x : Met E) (answer : Result (Option SctpEvent) AllocError) (p q : PolledPeer I D S M N) (s : ℕ) (own : Option ℕ)
      → (TellsStreamOpen (met_of answer) s → WasOpenInBand s own p (answer_met x) q)
      → HasOpenInBand s own p.core.sctp.entries ⊎ TellsStreamOpen (met_of answer) s → WasOpenInBand s own p (answer_met x) q
  opened_anew x answer p q s own anew (inl before) = Already before
  opened_anew x answer p q s own anew (inr told) = anew told

  -- a poll of the streams, by what of its data is passed over and what is told
  pub polled_visit : (x r : Met E) (answer : Result (Option SctpEvent) AllocError) (streams : SctpStreams S) (p q : PolledPeer I D S M N) (passed said : List SctpEvent)
      → (did : PollUses m.association p.core.sctp (met_of answer) streams) → r ≡ x → q.core.sctp.association ≡ streams.association
      → pushed_packets q.core.sctp.pushed ≡ pushed_packets p.core.sctp.pushed ++ did.outs → BesideStreams p q → contents_met x ≡ []
      → data_met (met_of answer) ≡ passed ++ said → ArePassed p.core.channels passed → MeetsData x q.core.channels said
      → KeepsRows x p.core.channels q.core.channels → (q.core.sctp.entries ≡ streams.entries) × (begun_as q.core.sctp ≡ begun_as streams)
      → LeavesUsesBy x answer streams → StaysLiveBy x answer streams p q
      → KeepsHeld p.core.channels q.core.channels → OpensAnewBy x answer p q → ChangesBy x answer p q
      → OpensByAnswer m (answer_met x) p did.wrote did.heard q → (GenerationLaws m.association → TellsByAnswer m (answer_met x) did.heard q)
      → PollsStreams m.association p.core.sctp answer streams → VisitDid m p r q
  polled_visit x r answer streams p q passed said did met is pushed kept none shown over meets rows entries left goes gone anew rowed opens tells polled = visit_is m x r p q met (record {
    wrote = did.wrote;
    heard = did.heard;
    did =
        subst (λ (l : List (List ℕ)). PeerDid m nothing_came (p.core.greatest ∷ []) l did.wrote did.heard p q) (sym none)
        (streams_did m nothing_came (p.core.greatest ∷ []) did.outs did.tells did.wrote did.heard p q
        (subst (λ (a : S). AssociationDid m.association [] did.outs did.tells did.wrote did.heard p.core.sctp.association a) (sym is) did.did)
        pushed kept.0 (ap (λ d. d.instance) kept.1) (ap queue_and_role kept.1) kept.2);
    dcep = did.dcep;
    passed = passed;
    told = said;
    data_is = sym did.shown_is ∙ shown;
    passed_over = over;
    meets = meets;
    greatest = kept.3;
    rows = rows;
    streams = record {
      uses = λ w v s ws hs h.
          subst (λ (a : S). UnlessLacking (answer_met x) (IsUsed m.association s (ws ++ did.wrote) (hs ++ did.heard) a q.core.sctp.entries)) (sym is)
          (subst (λ (l : List StreamEntry). UnlessLacking (answer_met x) (IsUsed m.association s (ws ++ did.wrote) (hs ++ did.heard) streams.association l)) (sym entries.0)
          (left s (ws ++ did.wrote) (hs ++ did.heard) (did.leaves v s ws hs h)));
      lives = λ c s g rising h. goes c s g rising h.0 (did.lives s g h.1);
      live_heard = λ c s g rising h. did.live_heard s g h.1;
      gone = gone.0;
      apart = gone.1;
      given = gone.2;
      fresh =
          unless_map (answer_met x) ((s : ℕ) (own : Option ℕ) → TellsStreamOpen (met_of answer) s → WasOpenInBand s own p (answer_met x) q)
          ((s : ℕ) (own : Option ℕ) → HasOpenInBand s own q.core.sctp.entries → WasOpenInBand s own p (answer_met x) q)
          (λ opening s own h.
          opened_anew x answer p q s own (opening s own) (did.fresh s own (open_is s own streams.entries q.core.sctp.entries entries.0 h))) anew;
      changed =
          unless_map (answer_met x) (RowsAnswered answer p.core.channels q.core.channels)
          (RowsPolled m.association p.core.channels p.core.sctp q.core.channels q.core.sctp)
          (λ after.
          one_polled m.association p.core.channels p.core.sctp q.core.channels q.core.sctp (Polled answer streams polled after is entries.0 (ap (λ b. b.0) entries.1) (ap (λ b. b.1) entries.1)) tt) rowed;
      mute = λ w v s g h.
          subst (λ (a : S). StaysMute m.association s g did.wrote a q.core.sctp.entries) (sym is)
          (subst (λ (l : List StreamEntry). StaysMute m.association s g did.wrote streams.association l) (sym entries.0) (did.mute v s g h));
      opens = opens;
      tells = tells;
      running = λ w k. (
        subst (λ (a : S). m.association.started a ≡ true) (sym is)
            (started_moved m.association w did.did.acts p.core.sctp.association streams.association k.0 did.did.went),
        ap (λ b. is_established b.0) entries.1 ∙ polls_stay m.association p.core.sctp answer streams polled k.1,
      );
    };
  })

  -- a poll that gave no packets, and no data that is told or passed over
  pub silent_visit : (x r : Met E) (answer : Result (Option SctpEvent) AllocError) (streams : SctpStreams S) (p n q : PolledPeer I D S M N)
      → PollsStreams m.association p.core.sctp answer streams → packets_met (met_of answer) ≡ [] → data_met (met_of answer) ≡ [] → r ≡ x → q ≡ n
      → n.core.sctp.association ≡ streams.association → n.core.sctp.pushed ≡ streams.pushed → BesideStreams p n → contents_met x ≡ []
      → ((held : Channels) → MeetsData x held []) → KeepsRows x p.core.channels n.core.channels → (n.core.sctp.entries ≡ streams.entries) × (begun_as n.core.sctp ≡ begun_as streams)
      → LeavesUsesBy x answer streams
      → StaysLiveBy x answer streams p n → KeepsHeld p.core.channels n.core.channels → OpensAnewBy x answer p n → ChangesBy x answer p n → ((did : PollUses m.association p.core.sctp (met_of answer) streams) → OpensByAnswer m (answer_met x) p did.wrote did.heard n)
      → VisitDid m p r q
  silent_visit x r answer streams p n q h packets shown met is same pushed kept none meets rows entries left goes gone anew rowed opens =
      let did = poll_uses m.association laws.association p.core.sctp answer streams h in
      subst (λ (y : PolledPeer I D S M N). VisitDid m p r y) (sym is)
      (polled_visit x r answer streams p n [] [] did met same
      (ap pushed_packets pushed ∙ ap (λ l. l ++ pushed_packets streams.pushed) (sym packets) ∙ did.sent_is) kept none shown tt (meets n.core.channels) rows entries left goes gone anew rowed (opens did)
      (λ v. none_told m x n.core.channels did.heard n (meets n.core.channels)) h)
