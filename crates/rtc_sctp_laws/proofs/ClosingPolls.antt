-- Over polls a stream that is to be closed is told closed before any completed reset.
use Rattle.std.proofs.Common.{◌≡◌, ◌⊎◌, inl, inr, ℕ, zero, suc, ◌&&◌, ◌||◌, Bool, true, false, true≢false, List, [], ◌∷◌, Option, Some, None, Result, refl, sym, ap, subst, ◌∙◌}
use Rattle.std.specs.Prelude.{is_some, insert, if◌then◌else◌}
use Rattle.std.specs.declared.alloc.AllocError.{AllocError}
use Rattle.rtc_parts.specs.declared.assoc_event.AssocEvent.{AssocEvent}
use Rattle.rtc_parts.specs.declared.assoc_event.AssocEvent.TheVariants as assoc
use Rattle.rtc_parts.specs.AssociationMeaning.{AssociationMeaning}
use Rattle.rtc_parts.specs.AssociationLaws.{AssociationLaws}
use Rattle.rtc_parts.specs.AssociationActs.{AssociationAct, Started, Acted, Moved}
use Rattle.rtc_sctp_entries.specs.declared.stream_entry_state.StreamEntryState.TheVariants.{AwaitConfig}
use Rattle.rtc_sctp_entries.specs.declared.stream_entry.StreamEntry.{StreamEntry}
use Rattle.rtc_sctp_entries.specs.declared.sctp_event.SctpEvent.{SctpEvent}
use Rattle.rtc_sctp_entries.specs.declared.sctp_event.SctpEvent.TheVariants as event
use Rattle.rtc_sctp_entries.specs.declared.met.Met.{Met}
use Rattle.rtc_sctp_entries.specs.declared.met.Met.TheVariants.{Nothing, Again, Output, OutOfMemory}
use Rattle.rtc_sctp_entries.specs.Entries.{entry_place, new_place, new_entry, marked_entry, is_open_awaited}
use Rattle.rtc_sctp_entries.specs.Visits.{Turn, turn}
use Rattle.rtc_sctp.specs.Streams.{SctpStreams, is_established}
use Rattle.rtc_sctp.specs.Polls.{Book, book_of, AfterEvent, FinishesAt, finished_entry, Else, ThenBy, unclosed_streams, GivesCompletion, TakesPacket, TransmitIf, TransmitOf, GivesTransmit, TakesEvent, HandlesEvent, NotStarted, NoRoom, NoEvent, Event, VisitedThen, VisitsAll, VisitsIf, VisitsEntries, TakesSteps, RestsBy, PassIf, MakesPass, Over, PollsStreams}
use Rattle.rtc_sctp_laws.specs.StreamMessages.{resets_event, resets_met, met_of}
use Rattle.rtc_sctp_laws.specs.StreamActs.{PollDid}
use Rattle.rtc_sctp_laws.specs.StreamRuns.{is_closing_entry, has_closing_entry}
use Rattle.rtc_sctp_laws.proofs.VisitActs.{visit_did}
use Rattle.rtc_sctp_laws.proofs.PollActs.{transmit_of, events_did, event_reset, visits_if, met_by}
use Rattle.rtc_sctp_laws.proofs.EndingLemmas.{ending_is, ending_id, ending_past, ending_insert, ending_set, ending_unclosed, ending_visit, ClosesOrStarves, Told, Starved, any_more, any_head}

-- an event is the Close of a stream
abbrev pub IsClose : ℕ → SctpEvent → Type 0
IsClose id e = (pending : Bool) × (e ≡ event.Close id pending)

-- a visit of all entries, one of which is to be closed
abbrev TourAfter : ℕ → Met → List StreamEntry → Type 0
TourAfter id Nothing es = ⊥
TourAfter id Again es = has_closing_entry id es ≡ true
TourAfter id (Output e) es = IsClose id e ⊎ ((resets_event e ≡ []) × (has_closing_entry id es ≡ true))
TourAfter id OutOfMemory es = has_closing_entry id es ≡ true

tour_more : (id : ℕ) (met : Met) (e : StreamEntry) (es es' : List StreamEntry) → es' ≡ e ∷ es → TourAfter id met es → TourAfter id met es'
tour_more id Nothing e es es' f h = absurd h
tour_more id Again e es es' f h = ap (has_closing_entry id) f ∙ any_more id e es h
tour_more id (Output o) e es es' f (inl h) = inl h
tour_more id (Output o) e es es' f (inr h) = inr (h.0, ap (has_closing_entry id) f ∙ any_more id e es h.1)
tour_more id OutOfMemory e es es' f h = ap (has_closing_entry id) f ∙ any_more id e es h

or_cases : (a b : Bool) → (a || b) ≡ true → (a ≡ true) ⊎ (b ≡ true)
or_cases true b h = inl refl
or_cases false b h = inr h

module _ {S : Type 0} (m : AssociationMeaning S) (w : AssociationLaws m) where
  -- a started association stays so
  started_act : (act : AssociationAct) (a b : S) → m.started a ≡ true → Acted m a act b → m.started b ≡ true
  started_act Started a b s h = absurd (true≢false (sym s ∙ h.0))
  started_act act a b s h = (w.same_start a b act refl h).0 ∙ s

  pub started_moved : (acts : List AssociationAct) (a b : S) → m.started a ≡ true → Moved m a acts b → m.started b ≡ true
  started_moved [] a b s h = ap m.started h ∙ s
  started_moved (act ∷ acts) a b s h = started_moved acts h.0 b (started_act act a h.0 s h.1.0) h.1.1

  -- a stream is to be closed, over an association that is established
  pub record Waits (id : ℕ) (p : SctpStreams S) : Type 0 where
    pub established : is_established p.state ≡ true
    pub started : m.started p.association ≡ true
    pub ending : has_closing_entry id p.entries ≡ true

  -- what a step leaves: the Close was told, or the stream is still to be closed and no completed reset was told
  abbrev pub After : ℕ → Met → SctpStreams S → Type 0
  After id Nothing q = Waits id q
  After id Again q = Waits id q
  After id (Output e) q = IsClose id e ⊎ ((resets_event e ≡ []) × Waits id q)
  After id OutOfMemory q = Waits id q

  -- the same of a visit of all entries, which gives something
  abbrev VisitAfter : ℕ → Met → SctpStreams S → Type 0
  VisitAfter id Nothing q = ⊥
  VisitAfter id Again q = Waits id q
  VisitAfter id (Output e) q = IsClose id e ⊎ ((resets_event e ≡ []) × Waits id q)
  VisitAfter id OutOfMemory q = Waits id q

  pub waits_is : (id : ℕ) (u q : SctpStreams S) → q ≡ u → Waits id u → Waits id q
  waits_is id u q e h = subst (λ (x : SctpStreams S). Waits id x) (sym e) h

  after_waits : (id : ℕ) (met : Met) (q : SctpStreams S) → resets_met met ≡ [] → Waits id q → After id met q
  after_waits id Nothing q r h = h
  after_waits id Again q r h = h
  after_waits id (Output e) q r h = inr (r, h)
  after_waits id OutOfMemory q r h = h

  -- a step that leaves the entries and the state
  kept_after : (id : ℕ) (p : SctpStreams S) (met : Met) (q : SctpStreams S) → q.entries ≡ p.entries → q.state ≡ p.state → resets_met met ≡ [] → PollDid m p met q → Waits id p → After id met q
  kept_after id p met q e f r d h = after_waits id met q r (record {
    established = ap is_established f ∙ h.established;
    started = started_moved d.did.acts p.association q.association h.started d.did.went;
    ending = ap (has_closing_entry id) e ∙ h.ending;
  })

  -- packets
  packet_reset : (a : S) (met : Met) (b : S) → TakesPacket m a met b → resets_met met ≡ []
  packet_reset a Nothing b h = refl
  packet_reset a Again b h = absurd h
  packet_reset a (Output (event.Transmit packets)) b h = refl
  packet_reset a (Output (event.Open id label)) b h = absurd h
  packet_reset a (Output (event.Close id pending)) b h = absurd h
  packet_reset a (Output (event.StreamResetComplete id)) b h = absurd h
  packet_reset a (Output (event.Data id binary bytes)) b h = absurd h
  packet_reset a (Output (event.BufferedAmountLow id)) b h = absurd h
  packet_reset a (Output event.AssociationLost) b h = absurd h
  packet_reset a OutOfMemory b h = refl

  -- what a transmit leaves as it was
  record Keeps (p : SctpStreams S) (met : Met) (q : SctpStreams S) : Type 0 where
    entries_is : q.entries ≡ p.entries
    state_is : q.state ≡ p.state
    reset_is : resets_met met ≡ []

  keeps : (r : Met) (u p : SctpStreams S) (met : Met) (q : SctpStreams S) → q ≡ u → u.entries ≡ p.entries → u.state ≡ p.state → resets_met met ≡ [] → Keeps p met q
  keeps r u p met q f e s reset = record { entries_is = ap (λ (x : SctpStreams S). x.entries) f ∙ e; state_is = ap (λ (x : SctpStreams S). x.state) f ∙ s; reset_is = reset }

  transmit_if_keeps : (b : Bool) (p : SctpStreams S) (met : Met) (q : SctpStreams S) → TransmitIf m b p met q → Keeps p met q
  transmit_if_keeps false p met q h = keeps Nothing _ p met q h.1 refl refl (ap resets_met h.0)
  transmit_if_keeps true p met q h = keeps Nothing _ p met q h.1 refl refl (packet_reset p.association met q.association h.0)

  transmit_keeps : (o : Option (List (List ℕ))) (p : SctpStreams S) (met : Met) (q : SctpStreams S) → TransmitOf m o p met q → Keeps p met q
  transmit_keeps None p met q h = transmit_if_keeps (m.started p.association) p met q h
  transmit_keeps (Some packets) p met q h = keeps Nothing _ p met q h.1 refl refl (ap resets_met h.0)

  transmits_after : (id : ℕ) (p : SctpStreams S) (met : Met) (q : SctpStreams S) → GivesTransmit m p met q → Waits id p → After id met q
  transmits_after id p met q h k =
      let kept = transmit_keeps p.pushed p met q h in
      kept_after id p met q kept.entries_is kept.state_is kept.reset_is (transmit_of m w p.pushed p met q refl h) k

  -- events
  expected_ending : (b : Bool) (id other i : ℕ) (es : List StreamEntry) → has_closing_entry id es ≡ true → has_closing_entry id (if b then es else insert es i (new_entry other AwaitConfig None)) ≡ true
  expected_ending true id other i es h = h
  expected_ending false id other i es h = ending_insert id es i _ h

  finished_ending : (b : Bool) (id : ℕ) (e : StreamEntry) → is_closing_entry id e ≡ true → is_closing_entry id (if b then e else marked_entry e) ≡ true
  finished_ending true id e h = h
  finished_ending false id e h = ending_is id (marked_entry e) (ending_id id e h) refl (ending_past id e h)

  finishes_ending : (o : Option ℕ) (id : ℕ) (es es' : List StreamEntry) → FinishesAt o es es' → has_closing_entry id es ≡ true → has_closing_entry id es' ≡ true
  finishes_ending None id es es' h k = ap (has_closing_entry id) h ∙ k
  finishes_ending (Some place) id es es' h k =
      ap (has_closing_entry id) h.2 ∙ ending_set id es place h.0 (finished_entry h.0) h.1 (finished_ending (is_open_awaited h.0.state) id h.0) k

  event_ending : (e : AssocEvent) (id : ℕ) (b b' : Book) → AfterEvent e b b' → has_closing_entry id b.entries ≡ true → has_closing_entry id b'.entries ≡ true
  event_ending assoc.Connected id b b' h k = ap (λ (x : Book). has_closing_entry id x.entries) h ∙ k
  event_ending assoc.Lost id b b' h k = ap (λ (x : Book). has_closing_entry id x.entries) h ∙ k
  event_ending (assoc.Readable other) id b b' h k = ap (λ (x : Book). has_closing_entry id x.entries) h ∙ expected_ending (is_some (entry_place other b.entries)) id other (new_place other b.entries) b.entries k
  event_ending (assoc.Writable other) id b b' h k = ap (λ (x : Book). has_closing_entry id x.entries) h ∙ expected_ending (is_some (entry_place other b.entries)) id other (new_place other b.entries) b.entries k
  event_ending (assoc.Finished other) id b b' h k = finishes_ending (entry_place other b.entries) id b.entries b'.entries h.0 k
  event_ending (assoc.ResetComplete other) id b b' h k = ap (λ (x : Book). has_closing_entry id x.entries) h ∙ k
  event_ending (assoc.BufferedAmountLow other) id b b' h k = ap (λ (x : Book). has_closing_entry id x.entries) h ∙ k

  event_established : (e : AssocEvent) (b b' : Book) → AfterEvent e b b' → is_established b.state ≡ true → is_established b'.state ≡ true
  event_established assoc.Connected b b' h k = ap (λ (x : Book). is_established x.state) h
  event_established assoc.Lost b b' h k = ap (λ (x : Book). is_established x.state) h ∙ k
  event_established (assoc.Readable other) b b' h k = ap (λ (x : Book). is_established x.state) h ∙ k
  event_established (assoc.Writable other) b b' h k = ap (λ (x : Book). is_established x.state) h ∙ k
  event_established (assoc.Finished other) b b' h k = ap (λ (x : Book). is_established x.state) h.1 ∙ k
  event_established (assoc.ResetComplete other) b b' h k = ap (λ (x : Book). is_established x.state) h ∙ k
  event_established (assoc.BufferedAmountLow other) b b' h k = ap (λ (x : Book). is_established x.state) h ∙ k

  event_after : (id : ℕ) (p : SctpStreams S) (met : Met) (q : SctpStreams S) → PollDid m p met q → TakesEvent m p.association (book_of p) met q.association (book_of q) → Waits id p → After id met q
  event_after id p met q d (NotStarted s e a b) h = kept_after id p met q (ap (λ (x : Book). x.entries) b) (ap (λ (x : Book). x.state) b) (ap resets_met e) d h
  event_after id p met q d (NoRoom e a b) h = kept_after id p met q (ap (λ (x : Book). x.entries) b) (ap (λ (x : Book). x.state) b) (ap resets_met e) d h
  event_after id p met q d (NoEvent s k e b) h = kept_after id p met q (ap (λ (x : Book). x.entries) b) (ap (λ (x : Book). x.state) b) (ap resets_met e) d h
  event_after id p met q d (Event event s k e b) h = after_waits id met q (ap resets_met e ∙ event_reset m w event) (record {
    established = event_established event (book_of p) (book_of q) b h.established;
    started = started_moved d.did.acts p.association q.association h.started d.did.went;
    ending = event_ending event id (book_of p) (book_of q) b h.ending;
  })

  handles_after : (id : ℕ) (p : SctpStreams S) (met : Met) (q : SctpStreams S) → HandlesEvent m p met q → Waits id p → After id met q
  handles_after id p met q h k = event_after id p met q (events_did m w p met q h) h.0 k

  -- visits
  then_first : (now id : ℕ) (x : StreamEntry) (es : List StreamEntry) (own : Met) (b : Turn S) (met : Met) (a' : S) (rs' : List ℕ) (es' : List StreamEntry) → is_closing_entry id x ≡ true → ClosesOrStarves id x own b.entry → VisitedThen m (VisitsAll m now es) own es b met a' rs' es' → TourAfter id met es'
  then_first now id x es own b met a' rs' es' k (Told pending f) v =
      let told = subst (λ (y : Met). VisitedThen m (VisitsAll m now es) y es b met a' rs' es') f v in
      subst (λ (y : Met). TourAfter id y es') (sym told.0) (inl (pending, refl))
  then_first now id x es own b met a' rs' es' k (Starved f g) v =
      let starved = subst (λ (y : Met). VisitedThen m (VisitsAll m now es) y es b met a' rs' es') f v in
      subst (λ (y : Met). TourAfter id y es') (sym starved.0) (ap (has_closing_entry id) starved.3 ∙ any_head id b.entry es (ap (is_closing_entry id) g ∙ k))

  then_later : (now id : ℕ) (es : List StreamEntry) → ((a : S) (rs : List ℕ) (met : Met) (a' : S) (rs' : List ℕ) (es' : List StreamEntry) → VisitsAll m now es a rs met a' rs' es' → TourAfter id met es')
      → (own : Met) (b : Turn S) (met : Met) (a' : S) (rs' : List ℕ) (es' : List StreamEntry) → resets_met own ≡ [] → has_closing_entry id es ≡ true → VisitedThen m (VisitsAll m now es) own es b met a' rs' es' → TourAfter id met es'
  then_later now id es rest Nothing b met a' rs' es' r k v = tour_more id met b.entry v.0 es' v.2 (rest b.association b.resets met a' rs' v.0 v.1)
  then_later now id es rest Again b met a' rs' es' r k v = subst (λ (y : Met). TourAfter id y es') (sym v.0) (ap (has_closing_entry id) v.3 ∙ any_more id b.entry es k)
  then_later now id es rest (Output o) b met a' rs' es' r k v = subst (λ (y : Met). TourAfter id y es') (sym v.0) (inr (r, ap (has_closing_entry id) v.3 ∙ any_more id b.entry es k))
  then_later now id es rest OutOfMemory b met a' rs' es' r k v = subst (λ (y : Met). TourAfter id y es') (sym v.0) (ap (has_closing_entry id) v.3 ∙ any_more id b.entry es k)

  tour_after : (now id : ℕ) (es : List StreamEntry) (a : S) (rs : List ℕ) (met : Met) (a' : S) (rs' : List ℕ) (es' : List StreamEntry) → has_closing_entry id es ≡ true → VisitsAll m now es a rs met a' rs' es' → TourAfter id met es'
  tour_after now id [] a rs met a' rs' es' k h = absurd (true≢false (sym k))
  tour_after now id (x ∷ es) a rs met a' rs' es' k h = by_head (or_cases (is_closing_entry id x) (has_closing_entry id es) k) (λ j. then_later now id es (λ a rs met a' rs' es' v. tour_after now id es a rs met a' rs' es' j v) h.0 h.1 met a' rs' es' (visit_did m w now (turn a x rs) h.0 h.1 h.2).reset_is j h.3)
    where
      by_head : (is_closing_entry id x ≡ true) ⊎ (has_closing_entry id es ≡ true) → (has_closing_entry id es ≡ true → TourAfter id met es') → TourAfter id met es'
      by_head (inl j) later = then_first now id x es h.0 h.1 met a' rs' es' j (ending_visit m id now (turn a x rs) h.0 h.1 j h.2) h.3
      by_head (inr j) later = later j

  waits_on : (id : ℕ) (p : SctpStreams S) (met : Met) (q : SctpStreams S) → q.state ≡ p.state → PollDid m p met q → Waits id p → has_closing_entry id q.entries ≡ true → Waits id q
  waits_on id p met q s d k h = record {
    established = ap is_established s ∙ k.established;
    started = started_moved d.did.acts p.association q.association k.started d.did.went;
    ending = h;
  }

  -- a visit of all entries gives something
  visited : (id : ℕ) (p : SctpStreams S) (met : Met) (q : SctpStreams S) → q.state ≡ p.state → PollDid m p met q → Waits id p → TourAfter id met q.entries → VisitAfter id met q
  visited id p Nothing q s d k h = h
  visited id p Again q s d k h = waits_on id p Again q s d k h
  visited id p (Output e) q s d k (inl h) = inl h
  visited id p (Output e) q s d k (inr h) = inr (h.0, waits_on id p (Output e) q s d k h.1)
  visited id p OutOfMemory q s d k h = waits_on id p OutOfMemory q s d k h

  both : (a b : Bool) → a ≡ true → b ≡ true → (a && b) ≡ true
  both a b h k = rw (h, k) refl

  visits_after : (id : ℕ) (p : SctpStreams S) (met : Met) (q : SctpStreams S) → VisitsEntries m p met q → Waits id p → VisitAfter id met q
  visits_after id p met q h k =
      let test = is_established p.state && m.started p.association in
      let there = subst (λ (b : Bool). VisitsIf m b p met q) (both _ _ k.established k.started) h in
      visited id p met q (ap (λ (x : SctpStreams S). x.state) there.1) (visits_if m w test p met q h) k (tour_after p.last id p.entries p.association p.resets met q.association q.resets q.entries k.ending there.0)

  -- so no completed reset is answered
  last_after : (id : ℕ) (own : Met) (b : SctpStreams S) (met : Met) (q : SctpStreams S) → VisitAfter id own b → ThenBy GivesCompletion own b met q → After id met q
  last_after id Nothing b met q v h = absurd v
  last_after id Again b met q v h = rw (h.0, h.1) v
  last_after id (Output e) b met q v h = rw (h.0, h.1) v
  last_after id OutOfMemory b met q v h = rw (h.0, h.1) v

  visit_or_complete_after : (id : ℕ) (p : SctpStreams S) (met : Met) (q : SctpStreams S) → Else (VisitsEntries m) GivesCompletion p met q → Waits id p → After id met q
  visit_or_complete_after id p met q h k = last_after id h.0 h.1.0 met q (visits_after id p h.0 h.1.0 h.1.1.0 k) h.1.1.1

  then_after : (id : ℕ) (B : SctpStreams S → Met → SctpStreams S → Type 0) → ((p : SctpStreams S) (met : Met) (q : SctpStreams S) → B p met q → Waits id p → After id met q) → (own : Met) (b : SctpStreams S) (met : Met) (q : SctpStreams S) → After id own b → ThenBy B own b met q → After id met q
  then_after id B g Nothing b met q v h = g b met q h v
  then_after id B g Again b met q v h = rw (h.0, h.1) v
  then_after id B g (Output e) b met q v h = rw (h.0, h.1) v
  then_after id B g OutOfMemory b met q v h = rw (h.0, h.1) v

  else_after : (id : ℕ) (A B : SctpStreams S → Met → SctpStreams S → Type 0) → ((p : SctpStreams S) (met : Met) (q : SctpStreams S) → A p met q → Waits id p → After id met q) → ((p : SctpStreams S) (met : Met) (q : SctpStreams S) → B p met q → Waits id p → After id met q) → (p : SctpStreams S) (met : Met) (q : SctpStreams S) → Else A B p met q → Waits id p → After id met q
  else_after id A B f g p met q h k = then_after id B g h.0 h.1.0 met q (f p h.0 h.1.0 h.1.1.0 k) h.1.1.1

  steps_after : (id : ℕ) (p : SctpStreams S) (met : Met) (q : SctpStreams S) → TakesSteps m p met q → Waits id p → After id met q
  unfolding TakesSteps
  steps_after id p met q h k =
      else_after id _ _ (transmits_after id) (else_after id _ _ (handles_after id) (visit_or_complete_after id)) (unclosed_streams p) met q h
      (record { established = k.established; started = k.started; ending = ending_unclosed id p.entries k.ending })

  pass_after : (id : ℕ) (p : SctpStreams S) (met : Met) (q : SctpStreams S) → MakesPass m p met q → Waits id p → After id met q
  unfolding MakesPass
  pass_after id p met q h k = by p.rests h k
    where
      rests : (o : Option (List (List ℕ))) → p.pushed ≡ o → RestsBy o p met q → Waits id p → After id met q
      rests None e t k = rw (t.0, t.1) k
      rests (Some packets) e t k =
          let kept = transmit_keeps (Some packets) p met q t in
          kept_after id p met q kept.entries_is kept.state_is kept.reset_is (transmit_of m w (Some packets) p met q e t) k

      by : (b : Bool) → PassIf m b p met q → Waits id p → After id met q
      by true t k = rests p.pushed refl t.0 k
      by false t k = steps_after id p met q t k

  over_after : (n id : ℕ) (p q : SctpStreams S) → Over m n p q → Waits id p → Waits id q
  over_after zero id p q h k = waits_is id p q h k
  over_after (suc n) id p q h k = pass_after id h.0 Again q h.2 (over_after n id p h.0 h.1 k)

  -- a poll tells the Close, or no completed reset, and then the stream is still to be closed
  pub poll_after : (id : ℕ) (p : SctpStreams S) (r : Result (Option SctpEvent) AllocError) (q : SctpStreams S) → PollsStreams m p r q → Waits id p → After id (met_of r) q
  poll_after id p r q h k =
      subst (λ (x : Met). After id x q) (met_by m w r h.met h.answers) (pass_after id h.between h.met q h.last (over_after h.passes id p h.between h.over k))
