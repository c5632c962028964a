-- What a poll leaves of the use of each stream.
use Rattle.std.proofs.Common.{◌≡◌, inl, ℕ, zero, suc, ◌&&◌, Bool, true, false, List, [], ◌∷◌, ◌++◌, append-nil, append_assoc, Option, Some, None, Result, refl, sym, ap, subst, ◌∙◌}
use Rattle.std.specs.Prelude.{is_some, insert, if◌then◌else◌}
use Rattle.std.specs.declared.alloc.AllocError.{AllocError}
use Rattle.rtc_parts.specs.declared.assoc_event.AssocEvent.{AssocEvent}
use Rattle.rtc_parts.specs.declared.assoc_event.AssocEvent.TheVariants as assoc
use Rattle.rtc_parts.specs.AssociationMeaning.{AssociationMeaning}
use Rattle.rtc_parts.specs.AssociationLaws.{AssociationLaws}
use Rattle.rtc_sctp_entries.specs.declared.stream_entry_state.StreamEntryState.{StreamEntryState}
use Rattle.rtc_sctp_entries.specs.declared.stream_entry_state.StreamEntryState.TheVariants.{AwaitOpen, AwaitConfig, AwaitDcepAck, Open, Closed}
use Rattle.rtc_sctp_entries.specs.declared.stream_entry.StreamEntry.{StreamEntry}
use Rattle.rtc_sctp_entries.specs.declared.sctp_event.SctpEvent.{SctpEvent}
use Rattle.rtc_sctp_entries.specs.declared.sctp_event.SctpEvent.TheVariants as event
use Rattle.rtc_sctp_entries.specs.declared.met.Met.{Met}
use Rattle.rtc_sctp_entries.specs.declared.met.Met.TheVariants.{Nothing, Again, Output, OutOfMemory}
use Rattle.rtc_sctp_entries.specs.Entries.{entry_place, new_place, new_entry, is_open_awaited}
use Rattle.rtc_sctp.specs.Streams.{SctpStreams, is_established}
use Rattle.rtc_sctp.specs.Polls.{Book, book_of, AfterEvent, FinishesAt, finished_entry, event_met, Else, ThenBy, unclosed_streams, CompletionOf, TakesPacket, TransmitIf, TransmitOf, TakesEvent, NotStarted, NoRoom, NoEvent, Event, VisitsIf, TakesSteps, RestsBy, PassIf, MakesPass, Over, PollsStreams}
use Rattle.rtc_sctp_laws.specs.StreamMessages.{StreamMessage, shown_messages, data_met, packets_met, pushed_packets, met_of}
use Rattle.rtc_sctp_laws.specs.StreamActs.{AssociationDid}
use Rattle.rtc_sctp_laws.proofs.ActLemmas.{did_join, did_same, gave_did, told_did, packet_polled}
use Rattle.rtc_sctp_laws.proofs.MessageLemmas.{dcep_join, shown-append}
use Rattle.rtc_sctp_laws.proofs.PollActs.{event_sent, met_by}
use Rattle.rtc_sctp_laws.specs.StreamUses.{entries_of, IsUsedIn, IsUsedBy, EntryUsed, NoneUsed, AreUsedIn, IsUsed, HasOpenInBand, IsLive, LeavesLive, OpensRightly, LeavesUse, TellsStreamOpen}
use Rattle.rtc_sctp_laws.specs.MuteGenerations.{IsOpenEntry, HasOneOpen}
use Rattle.rtc_sctp_laws.specs.UsedCalls.{PollUses}
use Rattle.rtc_sctp_laws.proofs.KeptUses.{did_keeps, unclosed_used}
use Rattle.rtc_sctp_laws.proofs.KnownUses.{idle_unused, idle_without}
use Rattle.rtc_sctp_laws.proofs.OneEntry.{one_set, one_insert}
use Rattle.rtc_sctp_laws.proofs.EntriesOf.{used_is, none_placed}
use Rattle.rtc_sctp_laws.proofs.LivingEntries.{TellsNoOpen, none_other, are_join, live_by, live_is, live_unclosed, live_after}
use Rattle.rtc_sctp_laws.proofs.OpeningEntries.{open_after, open_is, open_unclosed, opens_on}
use Rattle.rtc_sctp_laws.proofs.OneOpen.{of_open, one_same, one_after, one_left}
use Rattle.rtc_sctp_laws.proofs.MuteActs.{quiet_mute, mute_on}
use Rattle.rtc_sctp_laws.proofs.UsedTours.{TourUses, tour_uses, leaves_by, used_beside}

module _ {S : Type 0} (m : AssociationMeaning S) where
  opens_none : (met : Met) (s : ℕ) (a : S) (es : List StreamEntry) (ws hs : List StreamMessage) → TellsNoOpen met → OpensRightly m met s a es ws hs
  opens_none Nothing s a es ws hs h = tt
  opens_none Again s a es ws hs h = tt
  opens_none OutOfMemory s a es ws hs h = tt
  opens_none (Output (event.Transmit packets)) s a es ws hs h = tt
  opens_none (Output (event.Open id label)) s a es ws hs h = absurd h
  opens_none (Output (event.Close id pending)) s a es ws hs h = absurd h
  opens_none (Output (event.StreamResetComplete id)) s a es ws hs h = tt
  opens_none (Output (event.Data id binary bytes)) s a es ws hs h = tt
  opens_none (Output (event.BufferedAmountLow id)) s a es ws hs h = tt
  opens_none (Output event.AssociationLost) s a es ws hs h = tt

  -- an entry is put in, for a stream that has none
  used_expected : (s : ℕ) (a : S) (ws hs : List StreamMessage) (o : Option ℕ) (id : ℕ) (es : List StreamEntry) → entry_place id es ≡ o → AreUsedIn m (entries_of s es) s a ws hs
      → AreUsedIn m (entries_of s (if is_some o then es else insert es (new_place id es) (new_entry id AwaitConfig None))) s a ws hs
  used_expected s a ws hs (Some place) id es e h = h
  used_expected s a ws hs None id es e h = one_insert (NoneUsed m s a ws hs) (EntryUsed m s a ws hs) s es (new_place id es) (new_entry id AwaitConfig None) (none_placed id es e) (λ same k. (idle_unused m s a _ _ k, (refl, idle_without m s a _ _ k))) h

  -- an entry is marked
  marked_used : (st : StreamEntryState) (marked : Bool) (own : Option ℕ) (s : ℕ) (a : S) (ws hs : List StreamMessage) → IsUsedIn m st marked own s a ws hs → IsUsedIn m st true own s a ws hs
  marked_used AwaitOpen marked own s a ws hs k = k
  marked_used AwaitConfig marked own s a ws hs k = tt
  marked_used AwaitDcepAck marked own s a ws hs k = tt
  marked_used Open marked own s a ws hs k = tt
  marked_used Closed marked own s a ws hs k = k

  finished_used : (b : Bool) (s : ℕ) (a : S) (ws hs : List StreamMessage) (e : StreamEntry) → IsUsedBy m e s a ws hs → IsUsedBy m (if b then e else record e { marked = true }) s a ws hs
  finished_used true s a ws hs e h = h
  finished_used false s a ws hs e h = (marked_used e.state e.marked e.generation s a _ _ h.0, h.1)

  finished_id : (b : Bool) (e : StreamEntry) → (if b then e else record e { marked = true }).id ≡ e.id
  finished_id true e = refl
  finished_id false e = refl

  used_finished : (s : ℕ) (a : S) (ws hs : List StreamMessage) (o : Option ℕ) (es es' : List StreamEntry) → FinishesAt o es es' → AreUsedIn m (entries_of s es) s a ws hs → AreUsedIn m (entries_of s es') s a ws hs
  used_finished s a ws hs None es es' h k = used_is m _ _ s a ws hs (ap (entries_of s) h) k
  used_finished s a ws hs (Some place) es es' h k =
      used_is m _ _ s a ws hs (ap (entries_of s) h.2)
      (one_set (NoneUsed m s a ws hs) (EntryUsed m s a ws hs) s es place h.0 (finished_entry h.0) h.1 (finished_id (is_open_awaited h.0.state) h.0) (finished_used (is_open_awaited h.0.state) s a ws hs h.0) k)

  used_after : (e : AssocEvent) (b b' : Book) (s : ℕ) (a : S) (ws hs : List StreamMessage) → AfterEvent e b b' → AreUsedIn m (entries_of s b.entries) s a ws hs → AreUsedIn m (entries_of s b'.entries) s a ws hs
  used_after assoc.Connected b b' s a ws hs h k = used_is m _ _ s a ws hs (ap (λ (x : Book). entries_of s x.entries) h) k
  used_after assoc.Lost b b' s a ws hs h k = used_is m _ _ s a ws hs (ap (λ (x : Book). entries_of s x.entries) h) k
  used_after (assoc.Readable id) b b' s a ws hs h k = used_is m _ _ s a ws hs (ap (λ (x : Book). entries_of s x.entries) h) (used_expected s a ws hs (entry_place id b.entries) id b.entries refl k)
  used_after (assoc.Writable id) b b' s a ws hs h k = used_is m _ _ s a ws hs (ap (λ (x : Book). entries_of s x.entries) h) (used_expected s a ws hs (entry_place id b.entries) id b.entries refl k)
  used_after (assoc.Finished id) b b' s a ws hs h k = used_finished s a ws hs (entry_place id b.entries) b.entries b'.entries h.0 k
  used_after (assoc.ResetComplete id) b b' s a ws hs h k = used_is m _ _ s a ws hs (ap (λ (x : Book). entries_of s x.entries) h) k
  used_after (assoc.BufferedAmountLow id) b b' s a ws hs h k = used_is m _ _ s a ws hs (ap (λ (x : Book). entries_of s x.entries) h) k

  -- what was sent, and what stands pushed back behind it
  abbrev Sends : SctpStreams S → Met → SctpStreams S → List (List ℕ) → Type 0
  Sends p met q outs = packets_met met ++ pushed_packets q.pushed ≡ pushed_packets p.pushed ++ outs

  sends_none : (r : Met) (p : SctpStreams S) (met : Met) (q : SctpStreams S) → met ≡ r → packets_met r ≡ [] → q.pushed ≡ p.pushed → Sends p met q []
  sends_none r p met q e none same =
      ap (λ (x : Met). packets_met x ++ pushed_packets q.pushed) e
      ∙ ap (λ (l : List (List ℕ)). l ++ pushed_packets q.pushed) none
      ∙ ap pushed_packets same
      ∙ sym (append-nil (pushed_packets p.pushed))

  module _ (w : AssociationLaws m) where
    -- a step that writes and reads nothing
    quiet : (p : SctpStreams S) (met : Met) (q : SctpStreams S) (outs : List (List ℕ)) (tells : List AssocEvent) → AssociationDid m [] outs tells [] [] p.association q.association → data_met met ≡ [] → TellsNoOpen met
        → ((s : ℕ) (ws hs : List StreamMessage) → AreUsedIn m (entries_of s p.entries) s q.association ws hs → AreUsedIn m (entries_of s q.entries) s q.association ws hs)
        → ((s g : ℕ) → IsLive s g p.entries → IsLive s g q.entries) → ((s : ℕ) (o : Option ℕ) → HasOpenInBand s o q.entries → HasOpenInBand s o p.entries) → ((s : ℕ) → HasOneOpen s p.entries → HasOneOpen s q.entries) → Sends p met q outs → PollUses m p met q
    quiet p met q outs tells d shown untold keeps lives opened holds sent = record {
      outs = outs;
      tells = tells;
      wrote = [];
      heard = [];
      did = d;
      dcep = refl;
      sent_is = sent;
      shown_is = shown;
      leaves = λ v s ws hs h.
          let left = used_beside m s ws hs [] [] p.association q.association p.entries (did_keeps m v s outs tells [] [] p.association q.association d) (λ g. (refl, refl)) h in
          leaves_by m met s (ws ++ []) (hs ++ []) q.association q.entries (record { reached = left.reached; used = keeps s (ws ++ []) (hs ++ []) left.used }) (opens_none met s q.association q.entries _ _ untold);
      lives = λ s g live. live_by met s g q.entries (none_other met s untold) (lives s g live);
      live_heard = λ s g live. refl;
      fresh = λ s o h. inl (opened s o h);
      mute = λ v s g h. quiet_mute m w v s g outs tells p.association q.association p.entries q.entries d (holds s) h;
    }

    -- one that leaves the entries too
    same_entries : (s : ℕ) (p q : SctpStreams S) (ws hs : List StreamMessage) → q.entries ≡ p.entries → AreUsedIn m (entries_of s p.entries) s q.association ws hs → AreUsedIn m (entries_of s q.entries) s q.association ws hs
    same_entries s p q ws hs e h = used_is m _ _ s q.association ws hs (ap (entries_of s) e) h

    same_lives : (p q : SctpStreams S) → q.entries ≡ p.entries → (s g : ℕ) → IsLive s g p.entries → IsLive s g q.entries
    same_lives p q e s g h = live_is s g p.entries q.entries e h

    same_opened : (p q : SctpStreams S) → q.entries ≡ p.entries → (s : ℕ) (o : Option ℕ) → HasOpenInBand s o q.entries → HasOpenInBand s o p.entries
    same_opened p q e s o h = open_is s o p.entries q.entries e h

    unchanged : (r : Met) (u p : SctpStreams S) (met : Met) (q : SctpStreams S) → met ≡ r → q ≡ u → u.association ≡ p.association → u.entries ≡ p.entries → data_met r ≡ [] → TellsNoOpen r → Sends p r u [] → PollUses m p met q
    unchanged r u p met q e f same entries shown untold sent =
        quiet p met q [] [] (did_same m p.association q.association (ap (λ (x : SctpStreams S). x.association) f ∙ same)) (ap data_met e ∙ shown) (subst (λ (x : Met). TellsNoOpen x) (sym e) untold)
        (λ s ws hs. same_entries s p q ws hs (ap (λ (x : SctpStreams S). x.entries) f ∙ entries)) (same_lives p q (ap (λ (x : SctpStreams S). x.entries) f ∙ entries)) (same_opened p q (ap (λ (x : SctpStreams S). x.entries) f ∙ entries)) (λ s. one_same IsOpenEntry of_open s p.entries q.entries (ap (λ (x : SctpStreams S). x.entries) f ∙ entries))
        (ap (λ (x : Met). packets_met x ++ pushed_packets q.pushed) e ∙ ap (λ (x : SctpStreams S). packets_met r ++ pushed_packets x.pushed) f ∙ sent)

    -- packets
    packet_uses : (p : SctpStreams S) (met : Met) (q : SctpStreams S) → p.pushed ≡ None → q.pushed ≡ p.pushed → q.entries ≡ p.entries → TakesPacket m p.association met q.association → PollUses m p met q
    packet_uses p Nothing q none same f h = quiet p Nothing q [] [] (did_same m p.association q.association (w.packet_none p.association q.association h)) refl tt (λ s ws hs. same_entries s p q ws hs f) (same_lives p q f) (same_opened p q f) (λ s. one_same IsOpenEntry of_open s p.entries q.entries f) (sends_none Nothing p Nothing q refl refl same)
    packet_uses p (Output (event.Transmit packets)) q none same f h = quiet p (Output (event.Transmit packets)) q (packet_polled (Some h.0)) [] (gave_did m w p.association q.association (Some h.0) h.1) refl tt (λ s ws hs. same_entries s p q ws hs f) (same_lives p q f) (same_opened p q f) (λ s. one_same IsOpenEntry of_open s p.entries q.entries f)
        (ap (λ (l : List (List ℕ)). l ++ pushed_packets q.pushed) h.2 ∙ ap (λ (o : Option (List (List ℕ))). (h.0 ∷ []) ++ pushed_packets o) (same ∙ none) ∙ ap (λ (o : Option (List (List ℕ))). pushed_packets o ++ (h.0 ∷ [])) (sym none))
    packet_uses p (Output (event.Open id label)) q none same f h = absurd h
    packet_uses p (Output (event.Close id pending)) q none same f h = absurd h
    packet_uses p (Output (event.StreamResetComplete id)) q none same f h = absurd h
    packet_uses p (Output (event.Data id binary bytes)) q none same f h = absurd h
    packet_uses p (Output (event.BufferedAmountLow id)) q none same f h = absurd h
    packet_uses p (Output event.AssociationLost) q none same f h = absurd h
    packet_uses p Again q none same f h = absurd h
    packet_uses p OutOfMemory q none same f h = quiet p OutOfMemory q [] [] (did_same m p.association q.association h) refl tt (λ s ws hs. same_entries s p q ws hs f) (same_lives p q f) (same_opened p q f) (λ s. one_same IsOpenEntry of_open s p.entries q.entries f) (sends_none OutOfMemory p OutOfMemory q refl refl same)

    transmit_if : (b : Bool) (p : SctpStreams S) (met : Met) (q : SctpStreams S) → p.pushed ≡ None → TransmitIf m b p met q → PollUses m p met q
    transmit_if false p met q none h = unchanged Nothing p p met q h.0 h.1 refl refl refl tt (sym (append-nil (pushed_packets p.pushed)))
    transmit_if true p met q none h = packet_uses p met q none (ap (λ (x : SctpStreams S). x.pushed) h.1) (ap (λ (x : SctpStreams S). x.entries) h.1) h.0

    transmit_of : (o : Option (List (List ℕ))) (p : SctpStreams S) (met : Met) (q : SctpStreams S) → p.pushed ≡ o → TransmitOf m o p met q → PollUses m p met q
    transmit_of None p met q is h = transmit_if (m.started p.association) p met q is h
    transmit_of (Some packets) p met q is h =
        unchanged (Output (event.Transmit packets)) (record p { pushed = None }) p met q h.0 h.1 refl refl refl tt
        (ap (λ (o : Option (List (List ℕ))). pushed_packets o ++ []) (sym is))

    -- events
    event_shown : (e : AssocEvent) → data_met (event_met e) ≡ []
    event_shown assoc.Connected = refl
    event_shown assoc.Lost = refl
    event_shown (assoc.Readable id) = refl
    event_shown (assoc.Writable id) = refl
    event_shown (assoc.Finished id) = refl
    event_shown (assoc.ResetComplete id) = refl
    event_shown (assoc.BufferedAmountLow id) = refl

    event_opens : (e : AssocEvent) → TellsNoOpen (event_met e)
    event_opens assoc.Connected = tt
    event_opens assoc.Lost = tt
    event_opens (assoc.Readable id) = tt
    event_opens (assoc.Writable id) = tt
    event_opens (assoc.Finished id) = tt
    event_opens (assoc.ResetComplete id) = tt
    event_opens (assoc.BufferedAmountLow id) = tt

    told_nothing : (r : Met) (p : SctpStreams S) (met : Met) (q : SctpStreams S) → met ≡ r → q.association ≡ p.association → book_of q ≡ book_of p → q.pushed ≡ p.pushed → data_met r ≡ [] → packets_met r ≡ [] → TellsNoOpen r → PollUses m p met q
    told_nothing r p met q e a b same shown unsent untold =
        quiet p met q [] [] (did_same m p.association q.association a) (ap data_met e ∙ shown) (subst (λ (x : Met). TellsNoOpen x) (sym e) untold)
        (λ s ws hs. same_entries s p q ws hs (ap (λ (x : Book). x.entries) b)) (same_lives p q (ap (λ (x : Book). x.entries) b)) (same_opened p q (ap (λ (x : Book). x.entries) b)) (λ s. one_same IsOpenEntry of_open s p.entries q.entries (ap (λ (x : Book). x.entries) b)) (sends_none r p met q e unsent same)

    event_uses : (p : SctpStreams S) (met : Met) (q : SctpStreams S) → q.pushed ≡ p.pushed → TakesEvent m p.association (book_of p) met q.association (book_of q) → PollUses m p met q
    event_uses p met q same (NotStarted s e a b) = told_nothing Nothing p met q e a b same refl refl tt
    event_uses p met q same (NoRoom e a b) = told_nothing OutOfMemory p met q e a b same refl refl tt
    event_uses p met q same (NoEvent begun k e b) = told_nothing Nothing p met q e (w.event_none p.association q.association k) b same refl refl tt
    event_uses p met q same (Event event begun k e b) =
        quiet p met q [] (event ∷ []) (told_did m w p.association q.association event k) (ap data_met e ∙ event_shown event) (subst (λ (x : Met). TellsNoOpen x) (sym e) (event_opens event))
        (λ s ws hs. used_after event (book_of p) (book_of q) s q.association ws hs b) (λ s g. live_after event (book_of p) (book_of q) s g b) (λ s o. open_after event (book_of p) (book_of q) s o b) (λ s. one_after IsOpenEntry of_open s event (book_of p) (book_of q) b)
        (sends_none (event_met event) p met q e (event_sent m w event) same)

    -- visits
    tour_step : (p : SctpStreams S) (met : Met) (q : SctpStreams S) → q.pushed ≡ p.pushed → TourUses m p.association p.entries met q.association q.entries → PollUses m p met q
    tour_step p met q same z = record {
      outs = [];
      tells = [];
      wrote = z.did.wrote;
      heard = z.did.heard;
      did = z.did.did;
      dcep = z.did.dcep;
      sent_is = sends_none met p met q refl z.did.sent_is same;
      shown_is = z.did.shown_is;
      leaves = z.leaves;
      lives = z.lives;
      live_heard = z.live_heard;
      fresh = z.fresh;
      mute = z.mute;
    }

    visits_if : (b : Bool) (p : SctpStreams S) (met : Met) (q : SctpStreams S) → VisitsIf m b p met q → PollUses m p met q
    visits_if false p met q h = unchanged Nothing p p met q h.0 h.1 refl refl refl tt (sym (append-nil (pushed_packets p.pushed)))
    visits_if true p met q h = tour_step p met q (ap (λ (x : SctpStreams S). x.pushed) h.1) (tour_uses m w p.last p.entries p.association p.resets met q.association q.resets q.entries h.0)

    completion_of : (l : List ℕ) (p : SctpStreams S) (met : Met) (q : SctpStreams S) → CompletionOf l p met q → PollUses m p met q
    completion_of [] p met q h = unchanged Nothing (record p { rests = true }) p met q h.0 h.1 refl refl refl tt (sym (append-nil (pushed_packets p.pushed)))
    completion_of (id ∷ rest) p met q h = unchanged (Output (event.StreamResetComplete id)) (record p { completed = rest }) p met q h.0 h.1 refl refl refl tt (sym (append-nil (pushed_packets p.pushed)))

    -- a step that made work, or had nothing to give, and what follows
    joins : (own : Met) (p b : SctpStreams S) (met : Met) (q : SctpStreams S) → data_met own ≡ [] → packets_met own ≡ []
        → ((s : ℕ) (ws hs : List StreamMessage) (a : S) (es : List StreamEntry) → LeavesUse m own s ws hs a es → IsUsed m s ws hs a es) → ((s g : ℕ) (es : List StreamEntry) → LeavesLive own s g es → IsLive s g es) → ((s : ℕ) → TellsStreamOpen own s → ⊥) → PollUses m p own b → PollUses m b met q → PollUses m p met q
    joins own p b met q shown unsent goes on silent y z = record {
      outs = y.outs ++ z.outs;
      tells = y.tells ++ z.tells;
      wrote = y.wrote ++ z.wrote;
      heard = y.heard ++ z.heard;
      did = did_join m [] [] y.outs z.outs y.tells z.tells y.wrote z.wrote y.heard z.heard p.association b.association q.association y.did z.did;
      dcep = dcep_join y.wrote z.wrote y.dcep z.dcep;
      sent_is =
          z.sent_is
          ∙ ap (λ (l : List (List ℕ)). l ++ z.outs) (ap (λ (l : List (List ℕ)). l ++ pushed_packets b.pushed) (sym unsent) ∙ y.sent_is)
          ∙ append_assoc (pushed_packets p.pushed) y.outs z.outs;
      shown_is = z.shown_is ∙ ap (λ l. l ++ shown_messages z.heard) (sym shown ∙ y.shown_is) ∙ sym (shown-append y.heard z.heard);
      leaves = λ v s ws hs h.
          let rest = z.leaves v s (ws ++ y.wrote) (hs ++ y.heard) (goes s (ws ++ y.wrote) (hs ++ y.heard) b.association b.entries (y.leaves v s ws hs h)) in
          subst (λ (l : List StreamMessage). LeavesUse m met s l (hs ++ (y.heard ++ z.heard)) q.association q.entries) (append_assoc ws y.wrote z.wrote)
          (subst (λ (l : List StreamMessage). LeavesUse m met s ((ws ++ y.wrote) ++ z.wrote) l q.association q.entries) (append_assoc hs y.heard z.heard) rest);
      lives = λ s g live. z.lives s g (on s g b.entries (y.lives s g live));
      live_heard = λ s g live. are_join s g y.heard z.heard (y.live_heard s g live) (z.live_heard s g (on s g b.entries (y.lives s g live)));
      fresh = λ s o h. opens_on own met s o p.entries b.entries q.entries (silent s) (y.fresh s o) (z.fresh s o) h;
      mute = λ v s g h. mute_on m s g y.wrote z.wrote b.association q.association b.entries q.entries (y.mute v s g h) (z.mute v s g);
    }

    else_uses : (A B : SctpStreams S → Met → SctpStreams S → Type 0) → ((p : SctpStreams S) (met : Met) (q : SctpStreams S) → A p met q → PollUses m p met q) → ((p : SctpStreams S) (met : Met) (q : SctpStreams S) → B p met q → PollUses m p met q) → (p : SctpStreams S) (met : Met) (q : SctpStreams S) → Else A B p met q → PollUses m p met q
    else_uses A B f g p met q h = then_step h.0 h.1.0 (f p h.0 h.1.0 h.1.1.0) h.1.1.1
      where
        then_step : (own : Met) (between : SctpStreams S) → PollUses m p own between → ThenBy B own between met q → PollUses m p met q
        then_step Nothing between d k = joins Nothing p between met q refl refl (λ s ws hs a es l. l.left) (λ s g es l. l) (λ s k. k) d (g between met q k)
        then_step Again between d k = rw (k.0, k.1) d
        then_step (Output e) between d k = rw (k.0, k.1) d
        then_step OutOfMemory between d k = rw (k.0, k.1) d

    dropped : (p : SctpStreams S) → PollUses m p Nothing (unclosed_streams p)
    dropped p = quiet p Nothing (unclosed_streams p) [] [] (did_same m p.association p.association refl) refl tt (λ s ws hs. unclosed_used m s p.association ws hs p.entries) (λ s g. live_unclosed s g p.entries) (λ s o. open_unclosed s o p.entries) (λ s. one_left IsOpenEntry of_open s p.entries) (sym (append-nil (pushed_packets p.pushed)))

    steps_use : (p : SctpStreams S) (met : Met) (q : SctpStreams S) → TakesSteps m p met q → PollUses m p met q
    unfolding TakesSteps
    steps_use p met q h =
        joins Nothing p (unclosed_streams p) met q refl refl (λ s ws hs a es l. l.left) (λ s g es l. l) (λ s k. k) (dropped p)
        (else_uses _ _ (λ p met q k. transmit_of p.pushed p met q refl k)
        (else_uses _ _ (λ p met q k. event_uses p met q (ap (λ (x : SctpStreams S). x.pushed) k.1) k.0)
        (else_uses _ _ (λ p met q k. visits_if (is_established p.state && m.started p.association) p met q k)
        (λ p met q k. completion_of p.completed p met q k)))
        (unclosed_streams p) met q h)

    pass_uses : (p : SctpStreams S) (met : Met) (q : SctpStreams S) → MakesPass m p met q → PollUses m p met q
    unfolding MakesPass
    pass_uses p met q h = by p.rests h
      where
        rests : (o : Option (List (List ℕ))) → p.pushed ≡ o → RestsBy o p met q → PollUses m p met q
        rests None e t = unchanged Nothing p p met q t.0 t.1 refl refl refl tt (sym (append-nil (pushed_packets p.pushed)))
        rests (Some packets) e t = transmit_of (Some packets) p met q e t

        by : (b : Bool) → PassIf m b p met q → PollUses m p met q
        by true t = rests p.pushed refl t.0
        by false t = steps_use p met q t

    over_uses : (n : ℕ) (p q : SctpStreams S) → Over m n p q → PollUses m p Again q
    over_uses zero p q h = unchanged Again p p Again q refl h refl refl refl tt (sym (append-nil (pushed_packets p.pushed)))
    over_uses (suc n) p q h = joins Again p h.0 Again q refl refl (λ s ws hs a es l. l.left) (λ s g es l. l) (λ s k. k) (over_uses n p h.0 h.1) (pass_uses h.0 Again q h.2)

    pub poll_uses : (p : SctpStreams S) (r : Result (Option SctpEvent) AllocError) (q : SctpStreams S) → PollsStreams m p r q → PollUses m p (met_of r) q
    poll_uses p r q h =
        subst (λ (x : Met). PollUses m p x q) (met_by m w r h.met h.answers)
        (joins Again p h.between h.met q refl refl (λ s ws hs a es l. l.left) (λ s g es l. l) (λ s k. k) (over_uses h.passes p h.between h.over) (pass_uses h.between h.met q h.last))
