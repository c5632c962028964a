-- Data that a poll of streams tells was read of an entry past its opening that is not marked, and that keeps no other generation than its
-- stream has; and the other end did not close that generation.
use Rattle.std.proofs.Common.{◌≡◌, ◌∙◌, inl, inr, ℕ, zero, suc, ◌&&◌, Bool, true, false, true≢false, List, [], ◌∷◌, Option, Some, None, Result, refl, sym, ap, subst}
use Rattle.std.specs.declared.alloc.AllocError.{AllocError}
use Rattle.rtc_parts.specs.declared.assoc_event.AssocEvent.{AssocEvent}
use Rattle.rtc_parts.specs.declared.assoc_event.AssocEvent.TheVariants as assoc
use Rattle.rtc_parts.specs.AssociationLaws.{AssociationLaws}
use Rattle.rtc_parts.specs.AssociationMeaning.{AssociationMeaning}
use Rattle.rtc_sctp_entries.specs.declared.stream_entry.StreamEntry.{StreamEntry}
use Rattle.rtc_sctp_entries.specs.declared.sctp_event.SctpEvent.{SctpEvent}
use Rattle.rtc_sctp_entries.specs.declared.sctp_event.SctpEvent.TheVariants as event
use Rattle.rtc_sctp_entries.specs.declared.met.Met.{Met}
use Rattle.rtc_sctp_entries.specs.declared.met.Met.TheVariants.{Nothing, Again, Output, OutOfMemory}
use Rattle.rtc_sctp_entries.specs.StreamLaws.{is_data_met}
use Rattle.rtc_sctp_entries.specs.Visits.{Turn, turn}
use Rattle.rtc_sctp.specs.Streams.{SctpStreams, is_established}
use Rattle.rtc_sctp.specs.Polls.{book_of, event_met, TakesPacket, Else, ThenBy, unclosed_streams, CompletionOf, GivesCompletion, GivesTransmit, HandlesEvent, VisitsEntries, TransmitIf, TransmitOf, TakesEvent, NotStarted, NoEvent, Event, VisitedThen, VisitsAll, VisitsIf, TakesSteps, RestsBy, PassIf, MakesPass, Over, PollsStreams}
use Rattle.rtc_sctp.specs.Polls.{NoRoom as NoEventRoom}
use Rattle.rtc_sctp_laws.specs.GenerationLaws.{GenerationLaws}
use Rattle.rtc_sctp_laws.specs.StreamMessages.{met_of}
use Rattle.rtc_sctp_laws.proofs.PollActs.{met_by, pass_did}
use Rattle.rtc_sctp_laws.proofs.VisitActs.{visit_did}
use Rattle.rtc_run_laws.specs.OwnOpenings.{HasEntryOf}
use Rattle.rtc_run_laws.proofs.ReadVisits.{IsTold, ReadLaws, Reads, is_data, sound_acts, visits_in}

module _ {S : Type 0} (m : AssociationMeaning S) where
  module _ (w : AssociationLaws m) (v : GenerationLaws m) (sound : S → Type 0) (u : ReadLaws m sound) where
    -- ---- all entries

    abbrev TellsData : Met → S → List StreamEntry → Type 0
    TellsData met a es = (id : ℕ) (binary : Bool) (bytes : List ℕ) → met ≡ Output (event.Data id binary bytes) → HasEntryOf (IsTold m id a) id es

    no_data : (met r : Met) (a : S) (es : List StreamEntry) → met ≡ r → is_data_met r ≡ false → TellsData met a es
    no_data met r a es is dumb = λ id binary bytes e. absurd (true≢false (sym (is_data met id binary bytes e) ∙ ap is_data_met is ∙ dumb))

    data_is : (met : Met) (a a' : S) (es es' : List StreamEntry) → a' ≡ a → es' ≡ es → TellsData met a es → TellsData met a' es'
    data_is met a a' es es' same is h = rw (same, is) h

    data_by : (met r : Met) (a : S) (es : List StreamEntry) → met ≡ r → TellsData r a es → TellsData met a es
    data_by met r a es is h = λ id binary bytes e. h id binary bytes (sym is ∙ e)

    first_data : (own : Met) (b : Turn S) (es : List StreamEntry) → Reads m own b → TellsData own b.association (b.entry ∷ es)
    first_data own b es h = λ id binary bytes e. inl (h id binary bytes e)

    next_data : (met : Met) (a : S) (e : StreamEntry) (es : List StreamEntry) → TellsData met a es → TellsData met a (e ∷ es)
    next_data met a x es h = λ id binary bytes e. inr (h id binary bytes e)

    then_reads : (now : ℕ) (es : List StreamEntry)
        → ((a : S) (rs : List ℕ) (met : Met) (a' : S) (rs' : List ℕ) (es' : List StreamEntry) → sound a → VisitsAll m now es a rs met a' rs' es'
        → TellsData met a' es')
        → (own : Met) (b : Turn S) (met : Met) (a' : S) (rs' : List ℕ) (es' : List StreamEntry) → sound b.association → Reads m own b
        → VisitedThen m (VisitsAll m now es) own es b met a' rs' es' → TellsData met a' es'
    then_reads now es rest Nothing b met a' rs' es' k h t =
        data_is met a' a' (b.entry ∷ t.0) es' refl t.2 (next_data met a' b.entry t.0 (rest b.association b.resets met a' rs' t.0 k t.1))
    then_reads now es rest Again b met a' rs' es' k h t = no_data met Again a' es' t.0 refl
    then_reads now es rest (Output o) b met a' rs' es' k h t =
        data_is met b.association a' (b.entry ∷ es) es' t.1 t.3
        (data_by met (Output o) b.association (b.entry ∷ es) t.0 (first_data (Output o) b es h))
    then_reads now es rest OutOfMemory b met a' rs' es' k h t = no_data met OutOfMemory a' es' t.0 refl

    tour_reads : (now : ℕ) (es : List StreamEntry) (a : S) (rs : List ℕ) (met : Met) (a' : S) (rs' : List ℕ) (es' : List StreamEntry) → sound a
        → VisitsAll m now es a rs met a' rs' es' → TellsData met a' es'
    tour_reads now [] a rs met a' rs' es' k h = no_data met Nothing a' es' h.0 refl
    tour_reads now (e ∷ es) a rs met a' rs' es' k h =
        let did = visit_did m w now (turn a e rs) h.0 h.1 h.2 in
        then_reads now es (tour_reads now es) h.0 h.1 met a' rs' es' (sound_acts m w v sound u did.did.acts a h.1.association did.did.went k)
        (visits_in m w v sound u e.state now (turn a e rs) h.0 h.1 refl k h.2) h.3

    -- ---- passes

    abbrev TellsDataOf : Met → SctpStreams S → Type 0
    TellsDataOf met q = TellsData met q.association q.entries

    output_nothing : (e : SctpEvent) → Nothing ≡ Output e → ⊥
    output_nothing e h = cc

    again_nothing : Nothing ≡ Again → ⊥
    again_nothing h = cc

    packet_quiet : (a : S) (met : Met) (b : S) → TakesPacket m a met b → is_data_met met ≡ false
    packet_quiet a Nothing b h = refl
    packet_quiet a (Output (event.Transmit packets)) b h = refl
    packet_quiet a (Output (event.Open id label)) b h = absurd h
    packet_quiet a (Output (event.Close id pending)) b h = absurd h
    packet_quiet a (Output (event.StreamResetComplete id)) b h = absurd h
    packet_quiet a (Output (event.Data id binary bytes)) b h = absurd h
    packet_quiet a (Output (event.BufferedAmountLow id)) b h = absurd h
    packet_quiet a (Output event.AssociationLost) b h = absurd h
    packet_quiet a Again b h = absurd h
    packet_quiet a OutOfMemory b h = refl

    transmit_quiet : (o : Option (List (List ℕ))) (p : SctpStreams S) (met : Met) (q : SctpStreams S) → TransmitOf m o p met q
        → is_data_met met ≡ false
    transmit_quiet (Some packets) p met q h = ap is_data_met h.0
    transmit_quiet None p met q h = by (m.started p.association) h
      where
        by : (b : Bool) → TransmitIf m b p met q → is_data_met met ≡ false
        by false t = ap is_data_met t.0
        by true t = packet_quiet p.association met q.association t.0

    -- where it gives nothing it leaves the association
    transmit_same : (o : Option (List (List ℕ))) (p q : SctpStreams S) → TransmitOf m o p Nothing q → q.association ≡ p.association
    transmit_same (Some packets) p q h = absurd (output_nothing _ h.0)
    transmit_same None p q h = by (m.started p.association) h
      where
        by : (b : Bool) → TransmitIf m b p Nothing q → q.association ≡ p.association
        by false t = ap (λ (x : SctpStreams S). x.association) t.1
        by true t = w.packet_none p.association q.association t.0

    event_quiet : (e : AssocEvent) → is_data_met (event_met e) ≡ false
    event_quiet assoc.Connected = refl
    event_quiet assoc.Lost = refl
    event_quiet (assoc.Readable id) = refl
    event_quiet (assoc.Writable id) = refl
    event_quiet (assoc.Finished id) = refl
    event_quiet (assoc.ResetComplete id) = refl
    event_quiet (assoc.BufferedAmountLow id) = refl

    event_nothing : (e : AssocEvent) → Nothing ≡ event_met e → ⊥
    event_nothing assoc.Connected h = again_nothing h
    event_nothing assoc.Lost h = output_nothing _ h
    event_nothing (assoc.Readable id) h = again_nothing h
    event_nothing (assoc.Writable id) h = again_nothing h
    event_nothing (assoc.Finished id) h = again_nothing h
    event_nothing (assoc.ResetComplete id) h = again_nothing h
    event_nothing (assoc.BufferedAmountLow id) h = output_nothing _ h

    takes_quiet : (p : SctpStreams S) (met : Met) (q : SctpStreams S) → TakesEvent m p.association (book_of p) met q.association (book_of q)
        → is_data_met met ≡ false
    takes_quiet p met q (NotStarted un e a b) = ap is_data_met e
    takes_quiet p met q (NoEventRoom e a b) = ap is_data_met e
    takes_quiet p met q (NoEvent begun h e b) = ap is_data_met e
    takes_quiet p met q (Event e begun h is after) = ap is_data_met is ∙ event_quiet e

    takes_same : (p q : SctpStreams S) → TakesEvent m p.association (book_of p) Nothing q.association (book_of q) → q.association ≡ p.association
    takes_same p q (NotStarted un e a b) = a
    takes_same p q (NoEventRoom e a b) = a
    takes_same p q (NoEvent begun h e b) = w.event_none p.association q.association h
    takes_same p q (Event e begun h is after) = absurd (event_nothing e is)

    visits_read : (b : Bool) (p : SctpStreams S) (met : Met) (q : SctpStreams S) → sound p.association → VisitsIf m b p met q → TellsDataOf met q
    visits_read false p met q k h = no_data met Nothing q.association q.entries h.0 refl
    visits_read true p met q k h = tour_reads p.last p.entries p.association p.resets met q.association q.resets q.entries k h.0

    completion_quiet : (l : List ℕ) (p : SctpStreams S) (met : Met) (q : SctpStreams S) → CompletionOf l p met q → is_data_met met ≡ false
    completion_quiet [] p met q h = ap is_data_met h.0
    completion_quiet (id ∷ rest) p met q h = ap is_data_met h.0

    stopped : (own met : Met) (b q : SctpStreams S) → met ≡ own → q ≡ b → TellsDataOf own b → TellsDataOf met q
    stopped own met b q is same h =
        subst (λ (x : Met). TellsDataOf x q) (sym is) (subst (λ (x : SctpStreams S). TellsDataOf own x) (sym same) h)

    quiet : (own met : Met) (q : SctpStreams S) → met ≡ own → is_data_met own ≡ false → TellsDataOf met q
    quiet own met q is dumb = no_data met own q.association q.entries is dumb

    visits_then : (p : SctpStreams S) (met : Met) (q : SctpStreams S) → sound p.association → Else (VisitsEntries m) GivesCompletion p met q
        → TellsDataOf met q
    visits_then p met q k h = by h.0 h.1.0 (visits_read (is_established p.state && m.started p.association) p h.0 h.1.0 k h.1.1.0) h.1.1.1
      where
        by : (own : Met) (b : SctpStreams S) → TellsDataOf own b → ThenBy GivesCompletion own b met q → TellsDataOf met q
        by Nothing b x t = quiet met met q refl (completion_quiet b.completed b met q t)
        by Again b x t = stopped Again met b q t.0 t.1 x
        by (Output e) b x t = stopped (Output e) met b q t.0 t.1 x
        by OutOfMemory b x t = stopped OutOfMemory met b q t.0 t.1 x

    events_then : (p : SctpStreams S) (met : Met) (q : SctpStreams S) → sound p.association
        → Else (HandlesEvent m) (Else (VisitsEntries m) GivesCompletion) p met q → TellsDataOf met q
    events_then p met q k h = by h.0 h.1.0 h.1.1.0.0 h.1.1.1
      where
        by : (own : Met) (b : SctpStreams S) → TakesEvent m p.association (book_of p) own b.association (book_of b)
            → ThenBy (Else (VisitsEntries m) GivesCompletion) own b met q → TellsDataOf met q
        by Nothing b x t = visits_then b met q (subst sound (sym (takes_same p b x)) k) t
        by Again b x t = quiet Again met q t.0 refl
        by (Output e) b x t = quiet (Output e) met q t.0 (takes_quiet p (Output e) b x)
        by OutOfMemory b x t = quiet OutOfMemory met q t.0 refl

    steps_read : (p : SctpStreams S) (met : Met) (q : SctpStreams S) → sound p.association
        → Else (GivesTransmit m) (Else (HandlesEvent m) (Else (VisitsEntries m) GivesCompletion)) p met q → TellsDataOf met q
    steps_read p met q k h = by h.0 h.1.0 h.1.1.0 h.1.1.1
      where
        by : (own : Met) (b : SctpStreams S) → GivesTransmit m p own b
            → ThenBy (Else (HandlesEvent m) (Else (VisitsEntries m) GivesCompletion)) own b met q → TellsDataOf met q
        by Nothing b x t = events_then b met q (subst sound (sym (transmit_same p.pushed p b x)) k) t
        by Again b x t = quiet Again met q t.0 refl
        by (Output e) b x t = quiet (Output e) met q t.0 (transmit_quiet p.pushed p (Output e) b x)
        by OutOfMemory b x t = quiet OutOfMemory met q t.0 refl

    rests_quiet : (o : Option (List (List ℕ))) (p : SctpStreams S) (met : Met) (q : SctpStreams S) → RestsBy o p met q → is_data_met met ≡ false
    rests_quiet None p met q h = ap is_data_met h.0
    rests_quiet (Some packets) p met q h = ap is_data_met h.0

    pass_if : (b : Bool) (p : SctpStreams S) (met : Met) (q : SctpStreams S) → sound p.association → PassIf m b p met q → TellsDataOf met q
    unfolding TakesSteps
    pass_if true p met q k h = quiet met met q refl (rests_quiet p.pushed p met q h.0)
    pass_if false p met q k h = steps_read (unclosed_streams p) met q k h

    pass_reads : (p : SctpStreams S) (met : Met) (q : SctpStreams S) → sound p.association → MakesPass m p met q → TellsDataOf met q
    unfolding MakesPass
    pass_reads p met q k h = pass_if p.rests p met q k h

    over_sound : (n : ℕ) (p q : SctpStreams S) → Over m n p q → sound p.association → sound q.association
    over_sound zero p q h k = subst (λ (x : SctpStreams S). sound x.association) (sym h) k
    over_sound (suc n) p q h k =
        let did = pass_did m w h.0 Again q h.2 in
        sound_acts m w v sound u did.did.acts h.0.association q.association did.did.went (over_sound n p h.0 h.1 k)

    pub poll_reads : (p : SctpStreams S) (r : Result (Option SctpEvent) AllocError) (q : SctpStreams S) → sound p.association → PollsStreams m p r q
        → TellsDataOf (met_of r) q
    poll_reads p r q k h =
        subst (λ (x : Met). TellsDataOf x q) (met_by m w r h.met h.answers)
        (pass_reads h.between h.met q (over_sound h.passes p h.between h.over k) h.last)
