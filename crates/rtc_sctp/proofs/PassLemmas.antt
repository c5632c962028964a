-- A pass takes work away.
use Rattle.std.proofs.Common.{◌≡◌, ℕ, ◌+◌, ◌<◌, ◌≤◌, Bool, true, false, not, List, [], ◌∷◌, length, length-append, Option, Some, None, get_or, insert, refl, sym, ap, subst, arith}
use Rattle.std.specs.Prelude.{slice_get, is_some, ◌&&◌, if◌then◌else◌}
use Rattle.std.proofs.lemmas.List.Sums.{sum_by-insert, sum_by-set, sum_by-cons}
use Rattle.std.proofs.lemmas.Option.{slice_get_within, get_or_from_slice_get}
use Rattle.std.proofs.lemmas.List.Filters.{sum_by-filter_both}
use Rattle.rtc_parts.specs.declared.assoc_event.AssocEvent.{AssocEvent}
use Rattle.rtc_parts.specs.declared.assoc_event.AssocEvent.TheVariants as assoc
use Rattle.rtc_parts.specs.AssociationMeaning.{AssociationMeaning}
use Rattle.rtc_parts.specs.AssociationLaws.{AssociationLaws}
use Rattle.rtc_sctp_entries.specs.declared.stream_entry_state.StreamEntryState.TheVariants.{AwaitConfig}
use Rattle.rtc_sctp_entries.specs.declared.stream_entry.StreamEntry.{StreamEntry}
use Rattle.rtc_sctp_entries.specs.declared.sctp_event.SctpEvent.TheVariants as event
use Rattle.rtc_sctp_entries.specs.declared.met.Met.{Met}
use Rattle.rtc_sctp_entries.specs.declared.met.Met.TheVariants.{Nothing, Again, Output, OutOfMemory}
use Rattle.rtc_sctp_entries.specs.Entries.{entry_place, new_entry, new_place, entry_credit, is_open_awaited, marked_entry}
use Rattle.rtc_sctp.specs.Streams.{SctpStreams, is_established}
use Rattle.rtc_sctp_entries.specs.Visits.{Turn, turn}
use Rattle.rtc_sctp_entries.specs.Entries.{unclosed, is_closed_state}
use Rattle.rtc_sctp.specs.Polls.{finished_entry, FinishesAt, Book, book_of, AfterEvent, event_met, Else, ThenBy, unclosed_streams, CompletionOf, TakesPacket, TransmitIf, TransmitOf, TakesEvent, HandlesEvent, NotStarted, NoRoom, NoEvent, Event, VisitedThen, VisitsAll, VisitsIf, TakesSteps, RestsBy, PassIf, MakesPass, credits, pushed_count, streams_work}
use Rattle.rtc_sctp_entries.proofs.GainLemmas.{Gains, gains_from, visits_gain}

-- what stands at a place
got : (es : List StreamEntry) (place : ℕ) (e : StreamEntry) → slice_get es place ≡ Some e → (place < length es) × (get_or es place e ≡ e)
got es place e h = (slice_get_within es place e h, get_or_from_slice_get es place e e h)

module _ {S : Type 0} (m : AssociationMeaning S) (w : AssociationLaws m) where
  met_is : (r : Met) (k old : ℕ) (u : SctpStreams S) (met : Met) (q : SctpStreams S) → met ≡ r → q ≡ u → Gains r k old (streams_work m u) → Gains met k old (streams_work m q)
  met_is r k old u met q e f g = subst (λ (x : Met). Gains x k old (streams_work m q)) (sym e) (subst (λ (x : SctpStreams S). Gains r k old (streams_work m x)) (sym f) g)

  -- packets are given
  packet_gain : (a : S) (met : Met) (b : S) → TakesPacket m a met b → Gains met 1 (m.units a) (m.units b)
  packet_gain a Nothing b h = let e = ap m.units (w.packet_none a b h) in omega (arith, e)
  packet_gain a Again b h = absurd h
  packet_gain a (Output (event.Transmit packets)) b h = w.packet_units a b h.0 h.1
  packet_gain a (Output (event.Open id label)) b h = absurd h
  packet_gain a (Output (event.Close id pending)) b h = absurd h
  packet_gain a (Output (event.StreamResetComplete id)) b h = absurd h
  packet_gain a (Output (event.Data id binary bytes)) b h = absurd h
  packet_gain a (Output (event.BufferedAmountLow id)) b h = absurd h
  packet_gain a (Output event.AssociationLost) b h = absurd h
  packet_gain a OutOfMemory b h = tt

  -- the same with what else is held
  more_gain : (met : Met) (more old new : ℕ) → Gains met 1 old new → Gains met 1 (old + more) (new + more)
  more_gain Nothing more old new h = omega (arith, h)
  more_gain Again more old new h = omega (arith, h)
  more_gain (Output e) more old new h = omega (arith, h)
  more_gain OutOfMemory more old new h = tt

  same_sum : (met : Met) (k a b old new : ℕ) → old ≡ a → new ≡ b → Gains met k a b → Gains met k old new
  same_sum met k a b old new e f h = rw (e, f) h

  transmit_if : (b : Bool) (p : SctpStreams S) (met : Met) (q : SctpStreams S) → TransmitIf m b p met q → Gains met 1 (streams_work m p) (streams_work m q)
  transmit_if false p met q h = met_is Nothing 1 _ p met q h.0 h.1 (omega arith)
  transmit_if true p met q h =
      let rest = credits p.entries + length p.completed + pushed_count p.pushed in
      let is = ap (streams_work m) h.1 in
      same_sum met 1 (m.units p.association + rest) (m.units q.association + rest) _ _ (omega arith) (omega (arith, is))
      (more_gain met rest (m.units p.association) (m.units q.association) (packet_gain p.association met q.association h.0))

  transmit_of : (o : Option (List (List ℕ))) (p : SctpStreams S) (met : Met) (q : SctpStreams S) → p.pushed ≡ o → TransmitOf m o p met q → Gains met 1 (streams_work m p) (streams_work m q)
  transmit_of None p met q e h = transmit_if (m.started p.association) p met q h
  transmit_of (Some packets) p met q e h = met_is (Output _) 1 _ _ met q h.0 h.1 (omega (arith, ap pushed_count e))

  -- entries that are put in, marked or dropped
  expected_credits : (b : Bool) (i id : ℕ) (es : List StreamEntry) → credits (if b then es else insert es i (new_entry id AwaitConfig None)) ≤ credits es + 7
  expected_credits true i id es = omega arith
  expected_credits false i id es = omega (arith, sum_by-insert entry_credit es i (new_entry id AwaitConfig None))

  finished_credit : (b : Bool) (e : StreamEntry) → entry_credit (if b then e else marked_entry e) ≤ entry_credit e
  finished_credit true e = omega arith
  finished_credit false e = omega arith

  finished_credits : (o : Option ℕ) (es es' : List StreamEntry) → FinishesAt o es es' → credits es' ≤ credits es
  finished_credits None es es' h = omega (arith, ap credits h)
  finished_credits (Some place) es es' h =
      let there = got es place h.0 h.1 in
      let is = sum_by-set entry_credit es place (finished_entry h.0) h.0 there.0 in
      omega (arith, ap credits h.2, is, ap entry_credit there.1, finished_credit (is_open_awaited h.0.state) h.0)

  dropped_credits : (es : List StreamEntry) → credits (unclosed es) ≤ credits es
  dropped_credits es = let both = sum_by-filter_both (λ e. not (is_closed_state e.state)) (λ e. not (not (is_closed_state e.state))) (λ e. refl) entry_credit es in omega (arith, both)

  completion_of : (l : List ℕ) (p : SctpStreams S) (met : Met) (q : SctpStreams S) → p.completed ≡ l → CompletionOf l p met q → Gains met 1 (streams_work m p) (streams_work m q)
  completion_of [] p met q e h = met_is Nothing 1 _ (record p { rests = true }) met q h.0 h.1 (omega arith)
  completion_of (id ∷ rest) p met q e h = met_is (Output _) 1 _ _ met q h.0 h.1 (omega (arith, ap length e))

  else_gain : (A B : SctpStreams S → Met → SctpStreams S → Type 0) → ((p : SctpStreams S) (met : Met) (q : SctpStreams S) → A p met q → Gains met 1 (streams_work m p) (streams_work m q)) → ((p : SctpStreams S) (met : Met) (q : SctpStreams S) → B p met q → Gains met 1 (streams_work m p) (streams_work m q)) → (p : SctpStreams S) (met : Met) (q : SctpStreams S) → Else A B p met q → Gains met 1 (streams_work m p) (streams_work m q)
  else_gain A B f g p met q h = then_gain h.0 h.1.0 (f p h.0 h.1.0 h.1.1.0) h.1.1.1
    where
      then_gain : (own : Met) (between : SctpStreams S) → Gains own 1 (streams_work m p) (streams_work m between) → ThenBy B own between met q → Gains met 1 (streams_work m p) (streams_work m q)
      then_gain Nothing between le k = gains_from met 1 1 (streams_work m p) (streams_work m between) (streams_work m q) le (omega (arith, le)) (g between met q k)
      then_gain Again between le k = met_is Again 1 _ between met q k.0 k.1 le
      then_gain (Output e) between le k = met_is (Output e) 1 _ between met q k.0 k.1 le
      then_gain OutOfMemory between le k = met_is OutOfMemory 1 _ between met q k.0 k.1 tt

  credits_of : (b b' : Book) → b' ≡ b → credits b'.entries ≡ credits b.entries
  credits_of b b' e = ap (λ (x : Book). credits x.entries) e

  completed_of : (b b' : Book) → b' ≡ b → length b'.completed ≡ length b.completed
  completed_of b b' e = ap (λ (x : Book). length x.completed) e

  after_event : (e : AssocEvent) (b b' : Book) → AfterEvent e b b' → credits b'.entries + length b'.completed ≤ credits b.entries + length b.completed + 7
  after_event assoc.Connected b b' h = omega (arith, credits_of _ b' h, completed_of _ b' h)
  after_event assoc.Lost b b' h = omega (arith, credits_of _ b' h, completed_of _ b' h)
  after_event (assoc.Readable id) b b' h = omega (arith, credits_of _ b' h, completed_of _ b' h, expected_credits (is_some (entry_place id b.entries)) (new_place id b.entries) id b.entries)
  after_event (assoc.Writable id) b b' h = omega (arith, credits_of _ b' h, completed_of _ b' h, expected_credits (is_some (entry_place id b.entries)) (new_place id b.entries) id b.entries)
  after_event (assoc.Finished id) b b' h = omega (arith, completed_of _ b' h.1, finished_credits (entry_place id b.entries) b.entries b'.entries h.0)
  after_event (assoc.ResetComplete id) b b' h = omega (arith, credits_of _ b' h, completed_of _ b' h, length-append b.completed (id ∷ []))
  after_event (assoc.BufferedAmountLow id) b b' h = omega (arith, credits_of _ b' h, completed_of _ b' h)

  event_falls : (e : AssocEvent) (old new : ℕ) → new + 1 ≤ old → Gains (event_met e) 1 old new
  event_falls assoc.Connected old new h = h
  event_falls assoc.Lost old new h = h
  event_falls (assoc.Readable id) old new h = h
  event_falls (assoc.Writable id) old new h = h
  event_falls (assoc.Finished id) old new h = h
  event_falls (assoc.ResetComplete id) old new h = h
  event_falls (assoc.BufferedAmountLow id) old new h = h

  event_work : (a : S) (b : Book) (met : Met) (a' : S) (b' : Book) → TakesEvent m a b met a' b' → Gains met 1 (m.units a + (credits b.entries + length b.completed)) (m.units a' + (credits b'.entries + length b'.completed))
  event_work a b met a' b' (NotStarted s e f g) = rw (e, f, g) (omega arith)
  event_work a b met a' b' (NoRoom e f g) = rw e tt
  event_work a b met a' b' (NoEvent s k e g) = rw (e, g) (omega (arith, ap m.units (w.event_none a a' k)))
  event_work a b met a' b' (Event event s k e f) =
      let units = w.event_units a a' event k in
      let booked = after_event event b b' f in
      rw e (event_falls event _ _ (omega (arith, units, booked)))

  event_gain : (p : SctpStreams S) (met : Met) (q : SctpStreams S) → HandlesEvent m p met q → Gains met 1 (streams_work m p) (streams_work m q)
  event_gain p met q h =
      let more = pushed_count p.pushed in
      let is = ap (streams_work m) h.1 in
      same_sum met 1 (m.units p.association + (credits p.entries + length p.completed) + more) (m.units q.association + (credits q.entries + length q.completed) + more) _ _ (omega arith) (omega (arith, is))
      (more_gain met more (m.units p.association + (credits p.entries + length p.completed)) (m.units q.association + (credits q.entries + length q.completed))
      (event_work p.association (book_of p) met q.association (book_of q) h.0))

  -- the entries that are visited
  then_all : (now : ℕ) (e : StreamEntry) (es : List StreamEntry) (a : S) (met : Met) (a' : S) (rs' : List ℕ) (es' : List StreamEntry)
      → ((c : S) (rs : List ℕ) (met : Met) (a' : S) (rs' : List ℕ) (es' : List StreamEntry) → VisitsAll m now es c rs met a' rs' es' → Gains met 1 (m.units c + credits es) (m.units a' + credits es'))
      → (own : Met) (b : Turn S) → Gains own 1 (m.units a + entry_credit e) (m.units b.association + entry_credit b.entry)
      → VisitedThen m (VisitsAll m now es) own es b met a' rs' es' → Gains met 1 (m.units a + credits (e ∷ es)) (m.units a' + credits es')
  then_all now e es a met a' rs' es' rec Nothing b g k =
      let own = sum_by-cons entry_credit e es in
      let made = sum_by-cons entry_credit b.entry k.0 in
      let is = ap credits k.2 in
      same_sum met 1 (m.units a + credits (e ∷ es)) (m.units a' + credits k.0 + entry_credit b.entry) _ _ refl (omega (arith, made, is))
      (gains_from met 1 1 _ (m.units b.association + credits es + entry_credit b.entry) _ (omega (arith, own, g)) (omega (arith, own, g))
      (more_gain met (entry_credit b.entry) _ _ (rec b.association b.resets met a' rs' k.0 k.1)))
  then_all now e es a met a' rs' es' rec Again b g k =
      rw (k.0, k.1, k.3) (omega (arith, g, sum_by-cons entry_credit e es, sum_by-cons entry_credit b.entry es))
  then_all now e es a met a' rs' es' rec (Output o) b g k =
      rw (k.0, k.1, k.3) (omega (arith, g, sum_by-cons entry_credit e es, sum_by-cons entry_credit b.entry es))
  then_all now e es a met a' rs' es' rec OutOfMemory b g k = rw k.0 tt

  all_gain : (now : ℕ) (es : List StreamEntry) (a : S) (rs : List ℕ) (met : Met) (a' : S) (rs' : List ℕ) (es' : List StreamEntry) → VisitsAll m now es a rs met a' rs' es' → Gains met 1 (m.units a + credits es) (m.units a' + credits es')
  all_gain now [] a rs met a' rs' es' h = rw (h.0, h.1, h.3) (omega arith)
  all_gain now (e ∷ es) a rs met a' rs' es' h = then_all now e es a met a' rs' es' (all_gain now es) h.0 h.1 (visits_gain m w now (turn a e rs) h.0 h.1 h.2) h.3

  visits_if : (b : Bool) (p : SctpStreams S) (met : Met) (q : SctpStreams S) → VisitsIf m b p met q → Gains met 1 (streams_work m p) (streams_work m q)
  visits_if false p met q h = met_is Nothing 1 _ p met q h.0 h.1 (omega arith)
  visits_if true p met q h =
      let more = length p.completed + pushed_count p.pushed in
      let is = ap (streams_work m) h.1 in
      same_sum met 1 (m.units p.association + credits p.entries + more) (m.units q.association + credits q.entries + more) _ _ (omega arith) (omega (arith, is))
      (more_gain met more (m.units p.association + credits p.entries) (m.units q.association + credits q.entries)
      (all_gain p.last p.entries p.association p.resets met q.association q.resets q.entries h.0))

  steps_gain : (p : SctpStreams S) (met : Met) (q : SctpStreams S) → TakesSteps m p met q → Gains met 1 (streams_work m p) (streams_work m q)
  unfolding TakesSteps
  steps_gain p met q h =
      let dropped = dropped_credits p.entries in
      gains_from met 1 1 (streams_work m p) (streams_work m (unclosed_streams p)) (streams_work m q) (omega (arith, dropped)) (omega (arith, dropped))
      (else_gain _ _ (λ p met q k. transmit_of p.pushed p met q refl k)
      (else_gain _ _ event_gain
      (else_gain _ _ (λ p met q k. visits_if (is_established p.state && m.started p.association) p met q k)
      (λ p met q k. completion_of p.completed p met q refl k)))
      (unclosed_streams p) met q h)

  -- each pass that meets something takes work away
  pub passes_gain : (p : SctpStreams S) (met : Met) (q : SctpStreams S) → MakesPass m p met q → Gains met 1 (streams_work m p) (streams_work m q)
  unfolding MakesPass
  passes_gain p met q h = by p.rests h
    where
      rests : (o : Option (List (List ℕ))) → p.pushed ≡ o → RestsBy o p met q → Gains met 1 (streams_work m p) (streams_work m q)
      rests None e k = met_is Nothing 1 _ p met q k.0 k.1 (omega arith)
      rests (Some packets) e k = transmit_of (Some packets) p met q e k

      by : (b : Bool) → PassIf m b p met q → Gains met 1 (streams_work m p) (streams_work m q)
      by true k = rests p.pushed refl k.0
      by false k = steps_gain p met q k
