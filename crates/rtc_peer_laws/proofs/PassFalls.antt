-- A pass takes work away: as much as the datagrams that it gives, or one for another event that is told.
use Rattle.std.proofs.Common.{◌≡◌, ℕ, zero, suc, ◌+◌, ◌<◌, ◌≤◌, Bool, true, false, not, List, [], ◌∷◌, length, Option, Some, None, Ok, get_or, insert, refl, sym, ap, subst, arith}
use Rattle.std.specs.Prelude.{slice_get, is_some, ◌&&◌, if◌then◌else◌}
use Rattle.std.proofs.lemmas.List.Sums.{sum_by-insert, sum_by-set, sum_by-cons}
use Rattle.std.proofs.lemmas.Option.{slice_get_within, get_or_from_slice_get}
use Rattle.std.proofs.lemmas.List.Filters.{sum_by-filter_both}
use Rattle.rtc_parts.specs.declared.assoc_event.AssocEvent.{AssocEvent}
use Rattle.rtc_parts.specs.declared.assoc_event.AssocEvent.TheVariants as assoc
use Rattle.rtc_parts.specs.AssociationMeaning.{AssociationMeaning}
use Rattle.rtc_parts.specs.AssociationLaws.{AssociationLaws}
use Rattle.rtc_sctp_entries.specs.declared.stream_entry_state.StreamEntryState.TheVariants.{AwaitConfig}
use Rattle.rtc_sctp_entries.specs.declared.stream_entry.StreamEntry.{StreamEntry}
use Rattle.rtc_sctp_entries.specs.declared.sctp_event.SctpEvent.{SctpEvent}
use Rattle.rtc_sctp_entries.specs.declared.sctp_event.SctpEvent.TheVariants as event
use Rattle.rtc_sctp_entries.specs.declared.met.Met.{Met}
use Rattle.rtc_sctp_entries.specs.declared.met.Met.TheVariants.{Nothing, Again, Output, OutOfMemory}
use Rattle.rtc_sctp_entries.specs.Entries.{entry_place, new_entry, new_place, entry_credit, is_open_awaited, marked_entry, unclosed, is_closed_state}
use Rattle.rtc_sctp_entries.specs.Visits.{Turn, turn}
use Rattle.rtc_sctp.specs.Streams.{SctpStreams, is_established}
use Rattle.rtc_sctp.specs.Polls.{finished_entry, FinishesAt, Book, book_of, AfterEvent, event_met, Else, ThenBy, unclosed_streams, CompletionOf, TakesPacket, TransmitIf, TransmitOf, TakesEvent, HandlesEvent, NotStarted, NoRoom, NoEvent, Event, VisitedThen, VisitsAll, VisitsIf, TakesSteps, RestsBy, PassIf, MakesPass, Over, PollsStreams, credits}
use Rattle.rtc_sctp_entries.proofs.GainLemmas.{Gains, gains_from, visits_gain}
use Rattle.rtc_sctp_laws.specs.StreamMessages.{packets_met, packets_event}
use Rattle.rtc_sctp_laws.proofs.PollActs.{tour_did}
use Rattle.rtc_peer_laws.specs.Weight.{packets_pushed}

-- what an event of the streams costs: its packets, or one where it may be told
abbrev pub told_cost : SctpEvent → ℕ
told_cost (event.Transmit packets) = length packets
told_cost (event.Open id label) = 1
told_cost (event.Close id pending) = 1
told_cost (event.StreamResetComplete id) = 0
told_cost (event.Data id binary bytes) = 1
told_cost (event.BufferedAmountLow id) = 1
told_cost event.AssociationLost = 1

-- how much a pass takes away by what it met
abbrev pub Falls : Met → (old new : ℕ) → Type 0
Falls Nothing old new = new ≤ old
Falls Again old new = new ≤ old
Falls (Output e) old new = new + told_cost e ≤ old
Falls OutOfMemory old new = Unit {0}

pub falls_from : (met : Met) (old mid new : ℕ) → mid ≤ old → Falls met mid new → Falls met old new
falls_from Nothing old mid new le h = omega (arith, le, h)
falls_from Again old mid new le h = omega (arith, le, h)
falls_from (Output e) old mid new le h = omega (arith, le, h)
falls_from OutOfMemory old mid new le h = tt

more_falls : (met : Met) (more old new : ℕ) → Falls met old new → Falls met (old + more) (new + more)
more_falls Nothing more old new h = omega (arith, h)
more_falls Again more old new h = omega (arith, h)
more_falls (Output e) more old new h = omega (arith, h)
more_falls OutOfMemory more old new h = tt

same_falls : (met : Met) (a b old new : ℕ) → old ≡ a → new ≡ b → Falls met a b → Falls met old new
same_falls met a b old new e f h = rw (e, f) h

-- what an event that has no packets costs
cost_of : (e : SctpEvent) → packets_event e ≡ [] → told_cost e ≤ 1
cost_of (event.Transmit packets) none = omega (arith, ap (λ (l : List (List ℕ)). length l) none)
cost_of (event.Open id label) none = omega arith
cost_of (event.Close id pending) none = omega arith
cost_of (event.StreamResetComplete id) none = omega arith
cost_of (event.Data id binary bytes) none = omega arith
cost_of (event.BufferedAmountLow id) none = omega arith
cost_of event.AssociationLost none = omega arith

gained_falls : (met : Met) (old new : ℕ) → packets_met met ≡ [] → Gains met 1 old new → Falls met old new
gained_falls Nothing old new none h = h
gained_falls Again old new none h = omega (arith, h)
gained_falls (Output e) old new none h = let cost = cost_of e none in omega (arith, h, cost)
gained_falls OutOfMemory old new none h = tt

-- what stands at a place
got : (es : List StreamEntry) (place : ℕ) (e : StreamEntry) → slice_get es place ≡ Some e → (place < length es) × (get_or es place e ≡ e)
got es place e h = (slice_get_within es place e h, get_or_from_slice_get es place e e h)

module _ {S : Type 0} (m : AssociationMeaning S) (w : AssociationLaws m) where
  -- what streams weigh: their association, the credits of entries that are not closed, and packets that came back
  abbrev pub streams_live : SctpStreams S → ℕ
  streams_live p = m.units p.association + credits (unclosed p.entries) + packets_pushed p.pushed

  -- the same with every entry
  abbrev streams_held : SctpStreams S → ℕ
  streams_held p = m.units p.association + credits p.entries + packets_pushed p.pushed

  met_is : (r : Met) (old : ℕ) (u : SctpStreams S) (met : Met) (q : SctpStreams S) → met ≡ r → q ≡ u → Falls r old (streams_held u) → Falls met old (streams_held q)
  met_is r old u met q e f g = subst (λ (x : Met). Falls x old (streams_held q)) (sym e) (subst (λ (x : SctpStreams S). Falls r old (streams_held x)) (sym f) g)

  -- packets are given
  packet_falls : (a : S) (met : Met) (b : S) → TakesPacket m a met b → Falls met (m.units a) (m.units b)
  packet_falls a Nothing b h = let e = ap m.units (w.packet_none a b h) in omega (arith, e)
  packet_falls a Again b h = absurd h
  packet_falls a (Output (event.Transmit packets)) b h = let units = w.packet_units a b h.0 h.1 in omega (arith, units, ap (λ (l : List (List ℕ)). length l) h.2)
  packet_falls a (Output (event.Open id label)) b h = absurd h
  packet_falls a (Output (event.Close id pending)) b h = absurd h
  packet_falls a (Output (event.StreamResetComplete id)) b h = absurd h
  packet_falls a (Output (event.Data id binary bytes)) b h = absurd h
  packet_falls a (Output (event.BufferedAmountLow id)) b h = absurd h
  packet_falls a (Output event.AssociationLost) b h = absurd h
  packet_falls a OutOfMemory b h = tt

  transmit_if : (b : Bool) (p : SctpStreams S) (met : Met) (q : SctpStreams S) → TransmitIf m b p met q → Falls met (streams_held p) (streams_held q)
  transmit_if false p met q h = met_is Nothing _ p met q h.0 h.1 (omega arith)
  transmit_if true p met q h =
      let rest = credits p.entries + packets_pushed p.pushed in
      let is = ap streams_held h.1 in
      same_falls met (m.units p.association + rest) (m.units q.association + rest) _ _ (omega arith) (omega (arith, is))
      (more_falls met rest (m.units p.association) (m.units q.association) (packet_falls p.association met q.association h.0))

  transmit_of : (o : Option (List (List ℕ))) (p : SctpStreams S) (met : Met) (q : SctpStreams S) → p.pushed ≡ o → TransmitOf m o p met q → Falls met (streams_held p) (streams_held q)
  transmit_of None p met q e h = transmit_if (m.started p.association) p met q h
  transmit_of (Some packets) p met q e h = met_is (Output (event.Transmit packets)) _ _ met q h.0 h.1 (omega (arith, ap packets_pushed e))

  -- entries that are put in, marked or dropped
  expected_credits : (b : Bool) (i id : ℕ) (es : List StreamEntry) → credits (if b then es else insert es i (new_entry id AwaitConfig None)) ≤ credits es + 7
  expected_credits true i id es = omega arith
  expected_credits false i id es = omega (arith, sum_by-insert entry_credit es i (new_entry id AwaitConfig None))

  finished_credit : (b : Bool) (e : StreamEntry) → entry_credit (if b then e else marked_entry e) ≤ entry_credit e
  finished_credit true e = omega arith
  finished_credit false e = omega arith

  finished_credits : (o : Option ℕ) (es es' : List StreamEntry) → FinishesAt o es es' → credits es' ≤ credits es
  finished_credits None es es' h = omega (arith, ap credits h)
  finished_credits (Some place) es es' h =
      let there = got es place h.0 h.1 in
      let is = sum_by-set entry_credit es place (finished_entry h.0) h.0 there.0 in
      omega (arith, ap credits h.2, is, ap entry_credit there.1, finished_credit (is_open_awaited h.0.state) h.0)

  dropped_credits : (es : List StreamEntry) → credits (unclosed es) ≤ credits es
  dropped_credits es = let both = sum_by-filter_both (λ e. not (is_closed_state e.state)) (λ e. not (not (is_closed_state e.state))) (λ e. refl) entry_credit es in omega (arith, both)

  completion_of : (l : List ℕ) (p : SctpStreams S) (met : Met) (q : SctpStreams S) → CompletionOf l p met q → Falls met (streams_held p) (streams_held q)
  completion_of [] p met q h = met_is Nothing _ (record p { rests = true }) met q h.0 h.1 (omega arith)
  completion_of (id ∷ rest) p met q h = met_is (Output (event.StreamResetComplete id)) _ _ met q h.0 h.1 (omega arith)

  abbrev TakesAway : (SctpStreams S → Met → SctpStreams S → Type 0) → Type 0
  TakesAway step = (p : SctpStreams S) (met : Met) (q : SctpStreams S) → step p met q → Falls met (streams_held p) (streams_held q)

  then_falls : (rest : SctpStreams S → Met → SctpStreams S → Type 0) → TakesAway rest → (own : Met) (p between : SctpStreams S) (met : Met) (q : SctpStreams S)
      → Falls own (streams_held p) (streams_held between) → ThenBy rest own between met q → Falls met (streams_held p) (streams_held q)
  then_falls rest g Nothing p between met q le k = falls_from met (streams_held p) (streams_held between) (streams_held q) le (g between met q k)
  then_falls rest g Again p between met q le k = met_is Again _ between met q k.0 k.1 le
  then_falls rest g (Output e) p between met q le k = met_is (Output e) _ between met q k.0 k.1 le
  then_falls rest g OutOfMemory p between met q le k = met_is OutOfMemory _ between met q k.0 k.1 tt

  else_falls : (first rest : SctpStreams S → Met → SctpStreams S → Type 0) → TakesAway first → TakesAway rest → TakesAway (Else first rest)
  else_falls first rest f g p met q h = then_falls rest g h.0 p h.1.0 met q (f p h.0 h.1.0 h.1.1.0) h.1.1.1

  after_event : (e : AssocEvent) (b b' : Book) → AfterEvent e b b' → credits b'.entries ≤ credits b.entries + 7
  after_event assoc.Connected b b' h = omega (arith, ap (λ (x : Book). credits x.entries) h)
  after_event assoc.Lost b b' h = omega (arith, ap (λ (x : Book). credits x.entries) h)
  after_event (assoc.Readable id) b b' h = omega (arith, ap (λ (x : Book). credits x.entries) h, expected_credits (is_some (entry_place id b.entries)) (new_place id b.entries) id b.entries)
  after_event (assoc.Writable id) b b' h = omega (arith, ap (λ (x : Book). credits x.entries) h, expected_credits (is_some (entry_place id b.entries)) (new_place id b.entries) id b.entries)
  after_event (assoc.Finished id) b b' h = omega (arith, finished_credits (entry_place id b.entries) b.entries b'.entries h.0)
  after_event (assoc.ResetComplete id) b b' h = omega (arith, ap (λ (x : Book). credits x.entries) h)
  after_event (assoc.BufferedAmountLow id) b b' h = omega (arith, ap (λ (x : Book). credits x.entries) h)

  event_falls : (e : AssocEvent) (old new : ℕ) → new + 1 ≤ old → Falls (event_met e) old new
  event_falls assoc.Connected old new h = omega (arith, h)
  event_falls assoc.Lost old new h = h
  event_falls (assoc.Readable id) old new h = omega (arith, h)
  event_falls (assoc.Writable id) old new h = omega (arith, h)
  event_falls (assoc.Finished id) old new h = omega (arith, h)
  event_falls (assoc.ResetComplete id) old new h = omega (arith, h)
  event_falls (assoc.BufferedAmountLow id) old new h = h

  event_work : (a : S) (b : Book) (met : Met) (a' : S) (b' : Book) → TakesEvent m a b met a' b' → Falls met (m.units a + credits b.entries) (m.units a' + credits b'.entries)
  event_work a b met a' b' (NotStarted s e f g) = rw (e, f, g) (omega arith)
  event_work a b met a' b' (NoRoom e f g) = rw e tt
  event_work a b met a' b' (NoEvent s k e g) = rw (e, g) (omega (arith, ap m.units (w.event_none a a' k)))
  event_work a b met a' b' (Event event s k e f) =
      let units = w.event_units a a' event k in
      let booked = after_event event b b' f in
      rw e (event_falls event _ _ (omega (arith, units, booked)))

  handled_falls : TakesAway (HandlesEvent m)
  handled_falls p met q h =
      let more = packets_pushed p.pushed in
      let is = ap streams_held h.1 in
      same_falls met (m.units p.association + credits p.entries + more) (m.units q.association + credits q.entries + more) _ _ (omega arith) (omega (arith, is))
      (more_falls met more (m.units p.association + credits p.entries) (m.units q.association + credits q.entries)
      (event_work p.association (book_of p) met q.association (book_of q) h.0))

  -- the entries that are visited
  more_gain : (met : Met) (more old new : ℕ) → Gains met 1 old new → Gains met 1 (old + more) (new + more)
  more_gain Nothing more old new h = omega (arith, h)
  more_gain Again more old new h = omega (arith, h)
  more_gain (Output e) more old new h = omega (arith, h)
  more_gain OutOfMemory more old new h = tt

  same_sum : (met : Met) (a b old new : ℕ) → old ≡ a → new ≡ b → Gains met 1 a b → Gains met 1 old new
  same_sum met a b old new e f h = rw (e, f) h

  then_all : (now : ℕ) (e : StreamEntry) (es : List StreamEntry) (a : S) (met : Met) (a' : S) (rs' : List ℕ) (es' : List StreamEntry)
      → ((c : S) (rs : List ℕ) (met : Met) (a' : S) (rs' : List ℕ) (es' : List StreamEntry) → VisitsAll m now es c rs met a' rs' es' → Gains met 1 (m.units c + credits es) (m.units a' + credits es'))
      → (own : Met) (b : Turn S) → Gains own 1 (m.units a + entry_credit e) (m.units b.association + entry_credit b.entry)
      → VisitedThen m (VisitsAll m now es) own es b met a' rs' es' → Gains met 1 (m.units a + credits (e ∷ es)) (m.units a' + credits es')
  then_all now e es a met a' rs' es' rec Nothing b g k =
      let own = sum_by-cons entry_credit e es in
      let made = sum_by-cons entry_credit b.entry k.0 in
      let is = ap credits k.2 in
      same_sum met (m.units a + credits (e ∷ es)) (m.units a' + credits k.0 + entry_credit b.entry) _ _ refl (omega (arith, made, is))
      (gains_from met 1 1 _ (m.units b.association + credits es + entry_credit b.entry) _ (omega (arith, own, g)) (omega (arith, own, g))
      (more_gain met (entry_credit b.entry) _ _ (rec b.association b.resets met a' rs' k.0 k.1)))
  then_all now e es a met a' rs' es' rec Again b g k =
      rw (k.0, k.1, k.3) (omega (arith, g, sum_by-cons entry_credit e es, sum_by-cons entry_credit b.entry es))
  then_all now e es a met a' rs' es' rec (Output o) b g k =
      rw (k.0, k.1, k.3) (omega (arith, g, sum_by-cons entry_credit e es, sum_by-cons entry_credit b.entry es))
  then_all now e es a met a' rs' es' rec OutOfMemory b g k = rw k.0 tt

  all_gain : (now : ℕ) (es : List StreamEntry) (a : S) (rs : List ℕ) (met : Met) (a' : S) (rs' : List ℕ) (es' : List StreamEntry) → VisitsAll m now es a rs met a' rs' es' → Gains met 1 (m.units a + credits es) (m.units a' + credits es')
  all_gain now [] a rs met a' rs' es' h = rw (h.0, h.1, h.3) (omega arith)
  all_gain now (e ∷ es) a rs met a' rs' es' h = then_all now e es a met a' rs' es' (all_gain now es) h.0 h.1 (visits_gain m w now (turn a e rs) h.0 h.1 h.2) h.3

  visits_if : (b : Bool) (p : SctpStreams S) (met : Met) (q : SctpStreams S) → VisitsIf m b p met q → Falls met (streams_held p) (streams_held q)
  visits_if false p met q h = met_is Nothing _ p met q h.0 h.1 (omega arith)
  visits_if true p met q h =
      let more = packets_pushed p.pushed in
      let is = ap streams_held h.1 in
      let none = (tour_did m w p.last p.entries p.association p.resets met q.association q.resets q.entries h.0).sent_is in
      same_falls met (m.units p.association + credits p.entries + more) (m.units q.association + credits q.entries + more) _ _ (omega arith) (omega (arith, is))
      (more_falls met more (m.units p.association + credits p.entries) (m.units q.association + credits q.entries)
      (gained_falls met _ _ none (all_gain p.last p.entries p.association p.resets met q.association q.resets q.entries h.0)))

  lesser : (met : Met) (old mid new : ℕ) → new ≤ mid → Falls met old mid → Falls met old new
  lesser Nothing old mid new le h = omega (arith, le, h)
  lesser Again old mid new le h = omega (arith, le, h)
  lesser (Output e) old mid new le h = omega (arith, le, h)
  lesser OutOfMemory old mid new le h = tt

  steps_fall : (p : SctpStreams S) (met : Met) (q : SctpStreams S) → TakesSteps m p met q → Falls met (streams_live p) (streams_live q)
  unfolding TakesSteps
  steps_fall p met q h =
      let left = dropped_credits q.entries in
      lesser met (streams_live p) (streams_held q) (streams_live q) (omega (arith, left))
      (else_falls _ _ (λ p met q k. transmit_of p.pushed p met q refl k)
      (else_falls _ _ handled_falls
      (else_falls _ _ (λ p met q k. visits_if (is_established p.state && m.started p.association) p met q k)
      (λ p met q k. completion_of p.completed p met q k)))
      (unclosed_streams p) met q h)

  pub passes_fall : (p : SctpStreams S) (met : Met) (q : SctpStreams S) → MakesPass m p met q → Falls met (streams_live p) (streams_live q)
  unfolding MakesPass
  passes_fall p met q h = by p.rests h
    where
      rests : (o : Option (List (List ℕ))) → p.pushed ≡ o → RestsBy o p met q → Falls met (streams_live p) (streams_live q)
      rests None e t = met_is Nothing _ (unclosed_streams p) met (unclosed_streams q) t.0 (ap unclosed_streams t.1) (omega arith)
      rests (Some packets) e t = transmit_of (Some packets) (unclosed_streams p) met (unclosed_streams q) e (t.0, ap unclosed_streams t.1)

      by : (b : Bool) → PassIf m b p met q → Falls met (streams_live p) (streams_live q)
      by true t = rests p.pushed refl t.0
      by false t = steps_fall p met q t

  -- the cost of what a poll answers
  abbrev pub poll_cost : Option SctpEvent → ℕ
  poll_cost None = 0
  poll_cost (Some e) = told_cost e

  over_falls : (n : ℕ) (p q : SctpStreams S) → Over m n p q → streams_live q ≤ streams_live p
  over_falls zero p q h = omega (arith, ap streams_live h)
  over_falls (suc n) p q h =
      let more = over_falls n p h.0 h.1 in
      let pass = passes_fall h.0 Again q h.2 in
      omega (arith, more, pass)

  pub poll_costs : (p : SctpStreams S) (told : Option SctpEvent) (q : SctpStreams S) → PollsStreams m p (Ok told) q
      → streams_live q + poll_cost told ≤ streams_live p
  poll_costs p None q h =
      let over = over_falls h.passes p h.between h.over in
      let last = subst (λ (x : Met). Falls x (streams_live h.between) (streams_live q)) h.answers (passes_fall h.between h.met q h.last) in
      omega (arith, over, last)
  poll_costs p (Some e) q h =
      let over = over_falls h.passes p h.between h.over in
      let last = subst (λ (x : Met). Falls x (streams_live h.between) (streams_live q)) h.answers (passes_fall h.between h.met q h.last) in
      omega (arith, over, last)
