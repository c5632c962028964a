-- What an event of the association leaves of an entry that says of a generation that data of it was told.
use Rattle.std.proofs.Common.{◌≡◌, ◌∙◌, ◌⊎◌, inl, inr, ℕ, ◌==◌, Bool, true, false, true≢false, List, [], Option, Some, None, refl, sym, ap}
use Rattle.std.specs.Prelude.{if◌then◌else◌, insert, is_some, not}
use Rattle.std.proofs.lemmas.Bool.{eqb-true, eqb-false}
use Rattle.rtc_parts.specs.declared.assoc_event.AssocEvent.{AssocEvent}
use Rattle.rtc_parts.specs.declared.assoc_event.AssocEvent.TheVariants as assoc
use Rattle.rtc_parts.specs.AssociationMeaning.{AssociationMeaning}
use Rattle.rtc_sctp_entries.specs.declared.stream_entry_state.StreamEntryState.{StreamEntryState}
use Rattle.rtc_sctp_entries.specs.declared.stream_entry_state.StreamEntryState.TheVariants.{AwaitOpen, AwaitConfig, AwaitDcepAck, Open, Closed}
use Rattle.rtc_sctp_entries.specs.declared.stream_entry.StreamEntry.{StreamEntry}
use Rattle.rtc_sctp_entries.specs.declared.sctp_event.SctpEvent.TheVariants as event
use Rattle.rtc_sctp_entries.specs.declared.met.Met.TheVariants.{Nothing, Again, Output}
use Rattle.rtc_sctp_entries.specs.Entries.{entry_place, marked_entry, new_entry, new_place, is_closed_state, is_open_awaited, unclosed}
use Rattle.rtc_sctp.specs.Polls.{Book, event_met, AfterEvent, FinishesAt, finished_entry, with_expected}
use Rattle.rtc_sctp_laws.specs.StreamUses.{entries_of}
use Rattle.rtc_sctp_laws.proofs.EntriesOf.{none_placed}
use Rattle.rtc_sctp_laws.proofs.OneEntry.{one_insert, one_is, one_set_to, one_unclosed}
use Rattle.rtc_run_laws.proofs.PlacedEntries.{place_number}
use Rattle.rtc_run_laws.proofs.UnendedStreams.{IsUnended}
use Rattle.rtc_run_laws.proofs.UnendedEntries.{Says, SaysIn, says_on}
use Rattle.rtc_run_laws.proofs.UnendedTours.{HasSaid, said_is, said_on}

finished_id : (b : Bool) (e : StreamEntry) → (if b then e else marked_entry e).id ≡ e.id
finished_id true e = refl
finished_id false e = refl

module _ {S : Type 0} (m : AssociationMeaning S) (g : ℕ) where
  -- an entry that says so is not dropped
  pub said_unclosed : (s : ℕ) (a : S) (es : List StreamEntry) → HasSaid m g s a es → HasSaid m g s a (unclosed es)
  said_unclosed s a es h = one_unclosed ⊥ (Says m g s a) s es (λ e c k. closed_not e.state e.marked e.generation c k) h
    where
      closed_not : (st : StreamEntryState) (marked : Bool) (own : Option ℕ) → not (is_closed_state st) ≡ false → SaysIn m g st marked own s a → ⊥
      closed_not AwaitOpen marked own c k = k
      closed_not AwaitConfig marked own c k = true≢false c
      closed_not AwaitDcepAck marked own c k = true≢false c
      closed_not Open marked own c k = true≢false c
      closed_not Closed marked own c k = k

  -- ---- events

  -- the entry of the stream, where the close of the other end is reported
  finished_in : (b : Bool) (st : StreamEntryState) (marked : Bool) (own : Option ℕ) (s : ℕ) (a c : S) → is_open_awaited st ≡ b
      → SaysIn m g st marked own s a → SaysIn m g st (if b then marked else true) own s c
  finished_in true AwaitOpen marked own s a c is h = h
  finished_in true AwaitConfig marked own s a c is h = absurd (true≢false (sym is))
  finished_in true AwaitDcepAck marked own s a c is h = absurd (true≢false (sym is))
  finished_in true Open marked own s a c is h = absurd (true≢false (sym is))
  finished_in true Closed marked own s a c is h = h
  finished_in false AwaitOpen marked own s a c is h = absurd h
  finished_in false AwaitConfig marked own s a c is h = tt
  finished_in false AwaitDcepAck marked own s a c is h = tt
  finished_in false Open marked own s a c is h = tt
  finished_in false Closed marked own s a c is h = absurd h

  finished_says : (b : Bool) (e : StreamEntry) (s : ℕ) (a c : S) → is_open_awaited e.state ≡ b → Says m g s a e
      → Says m g s c (if b then e else marked_entry e)
  finished_says true e s a c is h = finished_in true e.state e.marked e.generation s a c is h
  finished_says false e s a c is h = finished_in false e.state e.marked e.generation s a c is h

  no_place : (s : ℕ) (a : S) (es : List StreamEntry) → entry_place s es ≡ None → HasSaid m g s a es → ⊥
  no_place s a es none h = one_is ⊥ (Says m g s a) (entries_of s es) [] (sym (none_placed s es none)) h

  finished_left : (place : Option ℕ) (id s : ℕ) (a b : S) (es es' : List StreamEntry) → entry_place id es ≡ place
      → (id ≡ s) ⊎ (IsUnended m s g a → IsUnended m s g b) → FinishesAt place es es' → HasSaid m g s a es → HasSaid m g s b es'
  finished_left None id s a b es es' at (inl same) h said =
      absurd (no_place s a es (ap (λ (n : ℕ). entry_place n es) (sym same) ∙ at) said)
  finished_left None id s a b es es' at (inr on) h said = said_is m g s b es es' h (said_on m g s a b es on said)
  finished_left (Some place) id s a b es es' at goes h said =
      said_is m g s b _ es' h.2
      (one_set_to ⊥ ⊥ (Says m g s a) (Says m g s b) s es place h.0 (finished_entry h.0) h.1 (finished_id (is_open_awaited h.0.state) h.0) (λ x. x)
      (λ x other k. others goes x other k)
      (λ own k. finished_says (is_open_awaited h.0.state) h.0 s a b refl k) said)
    where
      others : (id ≡ s) ⊎ (IsUnended m s g a → IsUnended m s g b) → (x : StreamEntry) → (h.0.id ≡ s → ⊥) → Says m g s a x → Says m g s b x
      others (inl same) x other k = absurd (other (place_number id place es h.0 at h.1 ∙ same))
      others (inr on) x other k = says_on m g s a b x on k

  expected_left : (place : Option ℕ) (id s : ℕ) (a : S) (es : List StreamEntry) → entry_place id es ≡ place → HasSaid m g s a es
      → HasSaid m g s a (if is_some place then es else insert es (new_place id es) (new_entry id AwaitConfig None))
  expected_left (Some place) id s a es at h = h
  expected_left None id s a es at h =
      one_insert ⊥ (Says m g s a) s es (new_place id es) (new_entry id AwaitConfig None) (none_placed id es at) (λ same k. absurd k) h

  -- what becomes of the stream by a report
  abbrev Told : AssocEvent → ℕ → S → S → Type 0
  Told e s a b = IsUnended m s g a → (e ≡ assoc.Finished s) ⊎ IsUnended m s g b

  other_event : (e : AssocEvent) (s : ℕ) (a b : S) → (e ≡ assoc.Finished s → ⊥) → Told e s a b → IsUnended m s g a → IsUnended m s g b
  other_event e s a b ne told h = by (told h)
    where
      by : (e ≡ assoc.Finished s) ⊎ IsUnended m s g b → IsUnended m s g b
      by (inl is) = absurd (ne is)
      by (inr k) = k

  finish_event : (id s : ℕ) (a b : S) → Told (assoc.Finished id) s a b → (id ≡ s) ⊎ (IsUnended m s g a → IsUnended m s g b)
  finish_event id s a b told = by (id == s) refl
    where
      number : assoc.Finished id ≡ assoc.Finished s → id ≡ s
      number h = cc

      by : (c : Bool) → (id == s) ≡ c → (id ≡ s) ⊎ (IsUnended m s g a → IsUnended m s g b)
      by true c = inl (let same : id ≡ s = eqb-true id s c in same)
      by false c = inr (other_event (assoc.Finished id) s a b (λ e. eqb-false id s c (number e)) told)

  pub after_event : (e : AssocEvent) (s : ℕ) (a a' : S) (b b' : Book) → Told e s a a' → AfterEvent e b b' → HasSaid m g s a b.entries
      → HasSaid m g s a' b'.entries
  after_event assoc.Connected s a a' b b' told h k =
      said_is m g s a' b.entries b'.entries (ap (λ (x : Book). x.entries) h)
      (said_on m g s a a' b.entries (other_event assoc.Connected s a a' (λ e. let c : assoc.Connected ≡ assoc.Finished s = e in cc) told) k)
  after_event assoc.Lost s a a' b b' told h k =
      said_is m g s a' b.entries b'.entries (ap (λ (x : Book). x.entries) h)
      (said_on m g s a a' b.entries (other_event assoc.Lost s a a' (λ e. let c : assoc.Lost ≡ assoc.Finished s = e in cc) told) k)
  after_event (assoc.Readable id) s a a' b b' told h k =
      said_is m g s a' (with_expected id b.entries) b'.entries (ap (λ (x : Book). x.entries) h)
      (expected_left (entry_place id b.entries) id s a' b.entries refl
      (said_on m g s a a' b.entries (other_event (assoc.Readable id) s a a' (λ e. let c : assoc.Readable id ≡ assoc.Finished s = e in cc) told) k))
  after_event (assoc.Writable id) s a a' b b' told h k =
      said_is m g s a' (with_expected id b.entries) b'.entries (ap (λ (x : Book). x.entries) h)
      (expected_left (entry_place id b.entries) id s a' b.entries refl
      (said_on m g s a a' b.entries (other_event (assoc.Writable id) s a a' (λ e. let c : assoc.Writable id ≡ assoc.Finished s = e in cc) told) k))
  after_event (assoc.Finished id) s a a' b b' told h k =
      finished_left (entry_place id b.entries) id s a a' b.entries b'.entries refl (finish_event id s a a' told) h.0 k
  after_event (assoc.ResetComplete id) s a a' b b' told h k =
      said_is m g s a' b.entries b'.entries (ap (λ (x : Book). x.entries) h)
      (said_on m g s a a' b.entries (other_event (assoc.ResetComplete id) s a a' (λ e. let c : assoc.ResetComplete id ≡ assoc.Finished s = e in cc) told) k)
  after_event (assoc.BufferedAmountLow id) s a a' b b' told h k =
      said_is m g s a' b.entries b'.entries (ap (λ (x : Book). x.entries) h)
      (said_on m g s a a' b.entries (other_event (assoc.BufferedAmountLow id) s a a' (λ e. let c : assoc.BufferedAmountLow id ≡ assoc.Finished s = e in cc) told) k)

  pub event_open : (e : AssocEvent) (s : ℕ) (label : List ℕ) → event_met e ≡ Output (event.Open s label) → ⊥
  event_open assoc.Connected s label h = let c : Again ≡ Output (event.Open s label) = h in cc
  event_open assoc.Lost s label h = let c : Output event.AssociationLost ≡ Output (event.Open s label) = h in cc
  event_open (assoc.Readable id) s label h = let c : Again ≡ Output (event.Open s label) = h in cc
  event_open (assoc.Writable id) s label h = let c : Again ≡ Output (event.Open s label) = h in cc
  event_open (assoc.Finished id) s label h = let c : Again ≡ Output (event.Open s label) = h in cc
  event_open (assoc.ResetComplete id) s label h = let c : Again ≡ Output (event.Open s label) = h in cc
  event_open (assoc.BufferedAmountLow id) s label h = let c : Output (event.BufferedAmountLow id) ≡ Output (event.Open s label) = h in cc

  pub event_nothing : (e : AssocEvent) → event_met e ≡ Nothing → ⊥
  event_nothing assoc.Connected h = let c : Again ≡ Nothing = h in cc
  event_nothing assoc.Lost h = let c : Output event.AssociationLost ≡ Nothing = h in cc
  event_nothing (assoc.Readable id) h = let c : Again ≡ Nothing = h in cc
  event_nothing (assoc.Writable id) h = let c : Again ≡ Nothing = h in cc
  event_nothing (assoc.Finished id) h = let c : Again ≡ Nothing = h in cc
  event_nothing (assoc.ResetComplete id) h = let c : Again ≡ Nothing = h in cc
  event_nothing (assoc.BufferedAmountLow id) h = let c : Output (event.BufferedAmountLow id) ≡ Nothing = h in cc
