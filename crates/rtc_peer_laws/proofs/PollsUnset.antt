-- A poll of streams sets no threshold where none is asked for.
use Rattle.std.proofs.Common.{◌≡◌, ℕ, zero, suc, ◌<◌, Bool, true, false, not, List, [], ◌∷◌, length, Option, Some, None, Result, get_or, insert, refl, sym, ◌∙◌, ap, subst, arith}
use Rattle.std.specs.Prelude.{slice_get, is_some, ◌&&◌, if◌then◌else◌}
use Rattle.std.specs.List.{sum_by}
use Rattle.std.specs.declared.alloc.AllocError.{AllocError}
use Rattle.std.proofs.lemmas.List.Sums.{sum_by-insert, sum_by-set, sum_by-cons}
use Rattle.std.proofs.lemmas.Option.{slice_get_within, get_or_from_slice_get}
use Rattle.std.proofs.lemmas.List.Filters.{sum_by-filter_both}
use Rattle.rtc_parts.specs.declared.assoc_event.AssocEvent.{AssocEvent}
use Rattle.rtc_parts.specs.declared.assoc_event.AssocEvent.TheVariants as assoc
use Rattle.rtc_parts.specs.AssociationMeaning.{AssociationMeaning}
use Rattle.rtc_parts.specs.AssociationLaws.{AssociationLaws}
use Rattle.rtc_sctp_entries.specs.declared.stream_entry_state.StreamEntryState.TheVariants.{AwaitConfig}
use Rattle.rtc_sctp_entries.specs.declared.stream_entry.StreamEntry.{StreamEntry}
use Rattle.rtc_sctp_entries.specs.declared.sctp_event.SctpEvent.{SctpEvent}
use Rattle.rtc_sctp_entries.specs.declared.sctp_event.SctpEvent.TheVariants as event
use Rattle.rtc_sctp_entries.specs.declared.met.Met.{Met}
use Rattle.rtc_sctp_entries.specs.declared.met.Met.TheVariants.{Nothing, Again, Output, OutOfMemory}
use Rattle.rtc_sctp_entries.specs.Entries.{entry_place, new_entry, new_place, threshold_credit, is_open_awaited, marked_entry, unclosed, is_closed_state}
use Rattle.rtc_sctp_entries.specs.Visits.{Turn, turn}
use Rattle.rtc_sctp.specs.Streams.{SctpStreams, is_established}
use Rattle.rtc_sctp.specs.Polls.{finished_entry, FinishesAt, Book, book_of, AfterEvent, Else, ThenBy, unclosed_streams, CompletionOf, TakesPacket, TransmitIf, TransmitOf, TakesEvent, HandlesEvent, NotStarted, NoRoom, NoEvent, Event, VisitedThen, VisitsAll, VisitsIf, TakesSteps, RestsBy, PassIf, MakesPass, Over, PollsStreams}
use Rattle.rtc_peer_laws.proofs.UnsetThresholds.{IsUnset, packet_unset, event_unset, visits_unset}

-- the threshold that an entry asks for
abbrev pub entry_threshold : StreamEntry → ℕ
entry_threshold e = threshold_credit e.threshold

abbrev pub thresholds : List StreamEntry → ℕ
thresholds es = sum_by entry_threshold es

pub got : (es : List StreamEntry) (place : ℕ) (e : StreamEntry) → slice_get es place ≡ Some e → (place < length es) × (get_or es place e ≡ e)
got es place e h = (slice_get_within es place e h, get_or_from_slice_get es place e e h)

expected_unset : (b : Bool) (i id : ℕ) (es : List StreamEntry) → thresholds es ≡ 0 → thresholds (if b then es else insert es i (new_entry id AwaitConfig None)) ≡ 0
expected_unset true i id es h = h
expected_unset false i id es h = omega (arith, h, sum_by-insert entry_threshold es i (new_entry id AwaitConfig None))

finished_same : (b : Bool) (e : StreamEntry) → entry_threshold (if b then e else marked_entry e) ≡ entry_threshold e
finished_same true e = refl
finished_same false e = refl

finished_unset : (o : Option ℕ) (es es' : List StreamEntry) → FinishesAt o es es' → thresholds es ≡ 0 → thresholds es' ≡ 0
finished_unset None es es' h k = ap thresholds h ∙ k
finished_unset (Some place) es es' h k =
    let there = got es place h.0 h.1 in
    let is = sum_by-set entry_threshold es place (finished_entry h.0) h.0 there.0 in
    omega (arith, ap thresholds h.2, is, ap entry_threshold there.1, finished_same (is_open_awaited h.0.state) h.0, k)

pub dropped_unset : (es : List StreamEntry) → thresholds es ≡ 0 → thresholds (unclosed es) ≡ 0
dropped_unset es h =
    let both = sum_by-filter_both (λ e. not (is_closed_state e.state)) (λ e. not (not (is_closed_state e.state))) (λ e. refl) entry_threshold es in
    omega (arith, both, h)

after_event : (e : AssocEvent) (b b' : Book) → AfterEvent e b b' → thresholds b.entries ≡ 0 → thresholds b'.entries ≡ 0
after_event assoc.Connected b b' h k = ap (λ (x : Book). thresholds x.entries) h ∙ k
after_event assoc.Lost b b' h k = ap (λ (x : Book). thresholds x.entries) h ∙ k
after_event (assoc.Readable id) b b' h k = ap (λ (x : Book). thresholds x.entries) h ∙ expected_unset (is_some (entry_place id b.entries)) (new_place id b.entries) id b.entries k
after_event (assoc.Writable id) b b' h k = ap (λ (x : Book). thresholds x.entries) h ∙ expected_unset (is_some (entry_place id b.entries)) (new_place id b.entries) id b.entries k
after_event (assoc.Finished id) b b' h k = finished_unset (entry_place id b.entries) b.entries b'.entries h.0 k
after_event (assoc.ResetComplete id) b b' h k = ap (λ (x : Book). thresholds x.entries) h ∙ k
after_event (assoc.BufferedAmountLow id) b b' h k = ap (λ (x : Book). thresholds x.entries) h ∙ k

module _ {S : Type 0} (m : AssociationMeaning S) (w : AssociationLaws m) where
  -- no threshold stands at the association, and no entry asks for one
  abbrev pub AreUnset : SctpStreams S → Type 0
  AreUnset p = IsUnset m w p.association × (thresholds p.entries ≡ 0)

  pub unset_is : (u q : SctpStreams S) → q ≡ u → AreUnset u → AreUnset q
  unset_is u q is h = subst (λ (x : SctpStreams S). AreUnset x) (sym is) h

  packets_unset : (a : S) (met : Met) (b : S) → TakesPacket m a met b → IsUnset m w a → IsUnset m w b
  packets_unset a Nothing b h k = packet_unset m w a b None h k
  packets_unset a Again b h k = absurd h
  packets_unset a (Output (event.Transmit packets)) b h k = packet_unset m w a b (Some h.0) h.1 k
  packets_unset a (Output (event.Open id label)) b h k = absurd h
  packets_unset a (Output (event.Close id pending)) b h k = absurd h
  packets_unset a (Output (event.StreamResetComplete id)) b h k = absurd h
  packets_unset a (Output (event.Data id binary bytes)) b h k = absurd h
  packets_unset a (Output (event.BufferedAmountLow id)) b h k = absurd h
  packets_unset a (Output event.AssociationLost) b h k = absurd h
  packets_unset a OutOfMemory b h k = ap m.has_threshold h ∙ k

  abbrev StaysUnset : (SctpStreams S → Met → SctpStreams S → Type 0) → Type 0
  StaysUnset step = (p : SctpStreams S) (met : Met) (q : SctpStreams S) → step p met q → AreUnset p → AreUnset q

  transmit_if : (b : Bool) (p : SctpStreams S) (met : Met) (q : SctpStreams S) → TransmitIf m b p met q → AreUnset p → AreUnset q
  transmit_if false p met q h k = unset_is p q h.1 k
  transmit_if true p met q h k = (packets_unset p.association met q.association h.0 k.0, ap (λ (x : SctpStreams S). thresholds x.entries) h.1 ∙ k.1)

  transmit_of : (o : Option (List (List ℕ))) (p : SctpStreams S) (met : Met) (q : SctpStreams S) → TransmitOf m o p met q → AreUnset p → AreUnset q
  transmit_of None p met q h k = transmit_if (m.started p.association) p met q h k
  transmit_of (Some packets) p met q h k = unset_is _ q h.1 (k.0, k.1)

  taken_unset : (a : S) (b : Book) (met : Met) (a' : S) (b' : Book) → TakesEvent m a b met a' b' → IsUnset m w a × (thresholds b.entries ≡ 0)
      → IsUnset m w a' × (thresholds b'.entries ≡ 0)
  taken_unset a b met a' b' (NotStarted s e f g) k = (ap m.has_threshold f ∙ k.0, ap (λ (x : Book). thresholds x.entries) g ∙ k.1)
  taken_unset a b met a' b' (NoRoom e f g) k = (ap m.has_threshold f ∙ k.0, ap (λ (x : Book). thresholds x.entries) g ∙ k.1)
  taken_unset a b met a' b' (NoEvent s h e g) k = (event_unset m w a a' None h k.0, ap (λ (x : Book). thresholds x.entries) g ∙ k.1)
  taken_unset a b met a' b' (Event event s h e f) k = (event_unset m w a a' (Some event) h k.0, after_event event b b' f k.1)

  handled_unset : StaysUnset (HandlesEvent m)
  handled_unset p met q h k = taken_unset p.association (book_of p) met q.association (book_of q) h.0 k

  completion_of : (l : List ℕ) (p : SctpStreams S) (met : Met) (q : SctpStreams S) → CompletionOf l p met q → AreUnset p → AreUnset q
  completion_of [] p met q h k = unset_is _ q h.1 (k.0, k.1)
  completion_of (id ∷ rest) p met q h k = unset_is _ q h.1 (k.0, k.1)

  abbrev pub IsSet : S → List StreamEntry → Type 0
  IsSet a es = IsUnset m w a × (thresholds es ≡ 0)

  joined : (e : StreamEntry) (es es' : List StreamEntry) → es' ≡ e ∷ es → entry_threshold e ≡ 0 → thresholds es ≡ 0 → thresholds es' ≡ 0
  joined e es es' is one all = let sum = sum_by-cons entry_threshold e es in omega (arith, ap thresholds is, sum, one, all)

  then_all : (now : ℕ) (es : List StreamEntry) (met : Met) (a' : S) (rs' : List ℕ) (es' : List StreamEntry)
      → ((c : S) (rs : List ℕ) (met : Met) (a' : S) (rs' : List ℕ) (es' : List StreamEntry) → VisitsAll m now es c rs met a' rs' es' → IsSet c es → IsSet a' es')
      → (own : Met) (b : Turn S) → IsUnset m w b.association × (entry_threshold b.entry ≡ 0) → thresholds es ≡ 0
      → VisitedThen m (VisitsAll m now es) own es b met a' rs' es' → IsSet a' es'
  then_all now es met a' rs' es' rec Nothing b g z k =
      let rest = rec b.association b.resets met a' rs' k.0 k.1 (g.0, z) in
      (rest.0, joined b.entry k.0 es' k.2 g.1 rest.1)
  then_all now es met a' rs' es' rec Again b g z k = (ap m.has_threshold k.1 ∙ g.0, joined b.entry es es' k.3 g.1 z)
  then_all now es met a' rs' es' rec (Output o) b g z k = (ap m.has_threshold k.1 ∙ g.0, joined b.entry es es' k.3 g.1 z)
  then_all now es met a' rs' es' rec OutOfMemory b g z k = (ap m.has_threshold k.1 ∙ g.0, joined b.entry es es' k.3 g.1 z)

  all_unset : (now : ℕ) (es : List StreamEntry) (a : S) (rs : List ℕ) (met : Met) (a' : S) (rs' : List ℕ) (es' : List StreamEntry)
      → VisitsAll m now es a rs met a' rs' es' → IsSet a es → IsSet a' es'
  all_unset now [] a rs met a' rs' es' h k = (ap m.has_threshold h.1 ∙ k.0, ap thresholds h.3)
  all_unset now (e ∷ es) a rs met a' rs' es' h k =
      let sum = sum_by-cons entry_threshold e es in
      let own : entry_threshold e ≡ 0 = omega (arith, sum, k.1) in
      let rest : thresholds es ≡ 0 = omega (arith, sum, k.1) in
      then_all now es met a' rs' es' (all_unset now es) h.0 h.1 (visits_unset m w now (turn a e rs) h.0 h.1 h.2 (k.0, own)) rest h.3

  visits_if : (b : Bool) (p : SctpStreams S) (met : Met) (q : SctpStreams S) → VisitsIf m b p met q → AreUnset p → AreUnset q
  visits_if false p met q h k = unset_is p q h.1 k
  visits_if true p met q h k = all_unset p.last p.entries p.association p.resets met q.association q.resets q.entries h.0 k

  then_unset : (rest : SctpStreams S → Met → SctpStreams S → Type 0) → StaysUnset rest → (own : Met) (between : SctpStreams S) (met : Met) (q : SctpStreams S)
      → AreUnset between → ThenBy rest own between met q → AreUnset q
  then_unset rest g Nothing between met q k h = g between met q h k
  then_unset rest g Again between met q k h = unset_is between q h.1 k
  then_unset rest g (Output e) between met q k h = unset_is between q h.1 k
  then_unset rest g OutOfMemory between met q k h = unset_is between q h.1 k

  else_unset : (first rest : SctpStreams S → Met → SctpStreams S → Type 0) → StaysUnset first → StaysUnset rest → StaysUnset (Else first rest)
  else_unset first rest f g p met q h k = then_unset rest g h.0 h.1.0 met q (f p h.0 h.1.0 h.1.1.0 k) h.1.1.1

  steps_unset : (p : SctpStreams S) (met : Met) (q : SctpStreams S) → TakesSteps m p met q → AreUnset p → AreUnset q
  unfolding TakesSteps
  steps_unset p met q h k =
      else_unset _ _ (λ p met q h k. transmit_of p.pushed p met q h k)
      (else_unset _ _ handled_unset
      (else_unset _ _ (λ p met q h k. visits_if (is_established p.state && m.started p.association) p met q h k)
      (λ p met q h k. completion_of p.completed p met q h k)))
      (unclosed_streams p) met q h (k.0, dropped_unset p.entries k.1)

  pass_unset : (p : SctpStreams S) (met : Met) (q : SctpStreams S) → MakesPass m p met q → AreUnset p → AreUnset q
  unfolding MakesPass
  pass_unset p met q h k = by p.rests h k
    where
      rests : (o : Option (List (List ℕ))) → RestsBy o p met q → AreUnset p → AreUnset q
      rests None t k = unset_is p q t.1 k
      rests (Some packets) t k = transmit_of (Some packets) p met q t k

      by : (b : Bool) → PassIf m b p met q → AreUnset p → AreUnset q
      by true t k = rests p.pushed t.0 k
      by false t k = steps_unset p met q t k

  over_unset : (n : ℕ) (p q : SctpStreams S) → Over m n p q → AreUnset p → AreUnset q
  over_unset zero p q h k = unset_is p q h k
  over_unset (suc n) p q h k = pass_unset h.0 Again q h.2 (over_unset n p h.0 h.1 k)

  pub poll_unset : (p : SctpStreams S) (r : Result (Option SctpEvent) AllocError) (q : SctpStreams S) → PollsStreams m p r q → AreUnset p → AreUnset q
  poll_unset p r q h k = pass_unset h.between h.met q h.last (over_unset h.passes p h.between h.over k)
