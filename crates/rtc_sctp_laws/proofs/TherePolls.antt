-- Polls of streams keep that each stream which is there has an entry past its opening, or is held.
use Rattle.std.proofs.Common.{◌≡◌, ◌∙◌, ◌⊎◌, inl, inr, ℕ, zero, suc, ◌&&◌, ◌==◌, Bool, true, false, List, [], ◌∷◌, Option, Some, None, Ok, refl, sym, ap, subst}
use Rattle.std.proofs.lemmas.Bool.{eqb-true, eqb-false}
use Rattle.rtc_parts.specs.AssociationActs.{Taken, Told}
use Rattle.rtc_parts.specs.AssociationLaws.{AssociationLaws}
use Rattle.rtc_parts.specs.AssociationMeaning.{AssociationMeaning}
use Rattle.rtc_sctp_entries.specs.declared.stream_entry.StreamEntry.{StreamEntry}
use Rattle.rtc_sctp_entries.specs.declared.sctp_event.SctpEvent.{SctpEvent}
use Rattle.rtc_sctp_entries.specs.declared.sctp_event.SctpEvent.TheVariants as event
use Rattle.rtc_sctp_entries.specs.declared.met.Met.{Met}
use Rattle.rtc_sctp_entries.specs.declared.met.Met.TheVariants.{Nothing, Again, Output, OutOfMemory}
use Rattle.rtc_sctp_entries.specs.Visits.{Turn, turn}
use Rattle.rtc_sctp.specs.Streams.{SctpStreams, is_established}
use Rattle.rtc_sctp.specs.Polls.{Book, book_of, Else, ThenBy, unclosed_streams, CompletionOf, TakesPacket, TransmitIf, TransmitOf, TakesEvent, NotStarted, NoRoom, NoEvent, Event, VisitedThen, VisitsAll, VisitsIf, TakesSteps, RestsBy, PassIf, MakesPass, Over, PollsStreams}
use Rattle.rtc_sctp_laws.specs.StreamRuns.{is_past_opening}
use Rattle.rtc_sctp_laws.specs.GenerationLaws.{GenerationLaws}
use Rattle.rtc_sctp_laws.proofs.ThereStreams.{AreBegunStreams, Goes, HasPast, IsBegunStream, IsFine, KeepingLaws, fine_on, goes_act, goes_none, goes_same}
use Rattle.rtc_sctp_laws.proofs.ThereEntries.{past_after, past_is, past_unclosed}
use Rattle.rtc_sctp_laws.proofs.ThereVisits.{IsReady, LeavesReady, visit_ready}

module _ {S : Type 0} (m : AssociationMeaning S) (keeps : S → ℕ → Type 0) (w : AssociationLaws m) (v : GenerationLaws m) (u : KeepingLaws m keeps) where
  -- unless memory was wanting, streams are begun
  abbrev pub LeavesBegun : Met → SctpStreams S → Type 0
  LeavesBegun OutOfMemory p = Unit {0}
  LeavesBegun Nothing p = AreBegunStreams m keeps p
  LeavesBegun Again p = AreBegunStreams m keeps p
  LeavesBegun (Output e) p = AreBegunStreams m keeps p

  begun_left : (met : Met) (p : SctpStreams S) → AreBegunStreams m keeps p → LeavesBegun met p
  begun_left Nothing p k = k
  begun_left Again p k = k
  begun_left (Output e) p k = k
  begun_left OutOfMemory p k = tt

  -- entries past their opening stay so, and the association goes on
  pub begun_over : (p q : SctpStreams S) → ((s : ℕ) → Goes m keeps s p.association q.association)
      → ((s : ℕ) → HasPast s p.entries → HasPast s q.entries) → AreBegunStreams m keeps p → AreBegunStreams m keeps q
  begun_over p q goes past k = λ s. by s (k s)
    where
      by : (s : ℕ) → IsBegunStream m keeps s p.association p.entries → IsBegunStream m keeps s q.association q.entries
      by s (inl h) = inl (past s h)
      by s (inr h) = inr (fine_on m keeps s p.association q.association (goes s) h)

  pub begun_same : (p q : SctpStreams S) → q ≡ p → AreBegunStreams m keeps p → AreBegunStreams m keeps q
  begun_same p q is k = subst (λ (x : SctpStreams S). AreBegunStreams m keeps x) (sym is) k

  -- over the same association and entries
  begun_still : (p n q : SctpStreams S) → q ≡ n → n.entries ≡ p.entries → n.association ≡ p.association → AreBegunStreams m keeps p
      → AreBegunStreams m keeps q
  begun_still p n q is entries same k =
      begun_over p q (λ s. goes_same m keeps s p.association q.association (ap (λ (x : SctpStreams S). x.association) is ∙ same))
      (λ s h. past_is s p.entries q.entries (ap (λ (x : SctpStreams S). x.entries) is ∙ entries) h) k

  -- ---- packets and completions

  packet_begun : (p : SctpStreams S) (met : Met) (q : SctpStreams S) → q ≡ record p { association = q.association }
      → TakesPacket m p.association met q.association → AreBegunStreams m keeps p → AreBegunStreams m keeps q
  packet_begun p met q is h k =
      begun_over p q (goes met h) (λ s x. past_is s p.entries q.entries (ap (λ (y : SctpStreams S). y.entries) is) x) k
    where
      goes : (met : Met) → TakesPacket m p.association met q.association → (s : ℕ) → Goes m keeps s p.association q.association
      goes Nothing t = λ s. goes_same m keeps s p.association q.association (w.packet_none p.association q.association t)
      goes (Output (event.Transmit packets)) t = λ s. goes_act m keeps w v u s p.association q.association (Taken t.0) t.1 refl
      goes (Output (event.Open id label)) t = absurd t
      goes (Output (event.Close id pending)) t = absurd t
      goes (Output (event.StreamResetComplete id)) t = absurd t
      goes (Output (event.Data id binary bytes)) t = absurd t
      goes (Output (event.BufferedAmountLow id)) t = absurd t
      goes (Output event.AssociationLost) t = absurd t
      goes Again t = absurd t
      goes OutOfMemory t = λ s. goes_same m keeps s p.association q.association t

  transmit_if : (b : Bool) (p : SctpStreams S) (met : Met) (q : SctpStreams S) → TransmitIf m b p met q → AreBegunStreams m keeps p
      → AreBegunStreams m keeps q
  transmit_if false p met q h k = begun_same p q h.1 k
  transmit_if true p met q h k = packet_begun p met q h.1 h.0 k

  transmit_of : (o : Option (List (List ℕ))) (p : SctpStreams S) (met : Met) (q : SctpStreams S) → TransmitOf m o p met q → AreBegunStreams m keeps p
      → AreBegunStreams m keeps q
  transmit_of None p met q h k = transmit_if (m.started p.association) p met q h k
  transmit_of (Some packets) p met q h k = begun_still p _ q h.1 refl refl k

  completion_of : (l : List ℕ) (p : SctpStreams S) (met : Met) (q : SctpStreams S) → CompletionOf l p met q → AreBegunStreams m keeps p
      → AreBegunStreams m keeps q
  completion_of [] p met q h k = begun_still p _ q h.1 refl refl k
  completion_of (id ∷ rest) p met q h k = begun_still p _ q h.1 refl refl k

  -- ---- visits

  -- unless memory was wanting, a stream is begun
  abbrev LeavesOne : Met → ℕ → S → List StreamEntry → Type 0
  LeavesOne OutOfMemory s a es = Unit {0}
  LeavesOne Nothing s a es = IsBegunStream m keeps s a es
  LeavesOne Again s a es = IsBegunStream m keeps s a es
  LeavesOne (Output e) s a es = IsBegunStream m keeps s a es

  one_left : (met : Met) (s : ℕ) (a : S) (es : List StreamEntry) → IsBegunStream m keeps s a es → LeavesOne met s a es
  one_left Nothing s a es k = k
  one_left Again s a es k = k
  one_left (Output e) s a es k = k
  one_left OutOfMemory s a es k = tt

  behind_first : (s : ℕ) (a : S) (x : StreamEntry) (es : List StreamEntry) → IsBegunStream m keeps s a es → IsBegunStream m keeps s a (x ∷ es)
  behind_first s a x es (inl h) = inl (inr h)
  behind_first s a x es (inr h) = inr h

  one_behind : (met : Met) (s : ℕ) (a : S) (x : StreamEntry) (es : List StreamEntry) → LeavesOne met s a es → LeavesOne met s a (x ∷ es)
  one_behind Nothing s a x es k = behind_first s a x es k
  one_behind Again s a x es k = behind_first s a x es k
  one_behind (Output e) s a x es k = behind_first s a x es k
  one_behind OutOfMemory s a x es k = tt

  one_as : (r met : Met) (s : ℕ) (a a' : S) (es es' : List StreamEntry) → met ≡ r → a' ≡ a → es' ≡ es → LeavesOne r s a es → LeavesOne met s a' es'
  one_as r met s a a' es es' e f g h =
      subst (λ (x : Met). LeavesOne x s a' es') (sym e)
      (subst (λ (x : S). LeavesOne r s x es') (sym f) (subst (λ (l : List StreamEntry). LeavesOne r s a l) (sym g) h))

  -- behind the visit of the first entry
  first_begun : (s : ℕ) (a : S) (e : StreamEntry) (es : List StreamEntry) (rs : List ℕ) (b : Turn S)
      → (IsReady m keeps w v u s a e.id (turn a e rs) → IsReady m keeps w v u s a e.id b) → IsBegunStream m keeps s a (e ∷ es)
      → IsBegunStream m keeps s b.association (b.entry ∷ es)
  first_begun s a e es rs b leaves k = by k
    where
      behind : (e.id ≡ s → (is_past_opening e.state ≡ true) ⊎ IsFine m keeps s a) → IsReady m keeps w v u s a e.id b
      behind own = leaves (record { midway = record { id_is = refl; other = λ ne. goes_none m keeps s a }; own = own })

      of_own : IsReady m keeps w v u s a e.id b → e.id ≡ s → (is_past_opening b.entry.state ≡ true) ⊎ IsFine m keeps s b.association
          → IsBegunStream m keeps s b.association (b.entry ∷ es)
      of_own r same (inl up) = inl (inl (r.midway.id_is ∙ same, up))
      of_own r same (inr fine) = inr fine

      fine_by : (c : Bool) → (e.id == s) ≡ c → IsFine m keeps s a → IsBegunStream m keeps s b.association (b.entry ∷ es)
      fine_by true f fine =
          let r = behind (λ x. inr fine) in
          let same = eqb-true e.id s f in
          of_own r same (r.own same)
      fine_by false f fine =
          let r = behind (λ x. inr fine) in
          inr (fine_on m keeps s a b.association (r.midway.other (eqb-false e.id s f)) fine)

      by : IsBegunStream m keeps s a (e ∷ es) → IsBegunStream m keeps s b.association (b.entry ∷ es)
      by (inl (inl here)) = let r = behind (λ x. inl here.1) in of_own r here.0 (r.own here.0)
      by (inl (inr later)) = inl (inr later)
      by (inr fine) = fine_by (e.id == s) refl fine

  -- the others are visited
  then_behind : (s : ℕ) (b : Turn S) (es : List StreamEntry) (met : Met) (a' : S) (tail : List StreamEntry)
      → (IsBegunStream m keeps s b.association es → LeavesOne met s a' tail) → IsBegunStream m keeps s b.association (b.entry ∷ es)
      → LeavesOne met s a' (b.entry ∷ tail)
  then_behind s b es met a' tail rest (inl (inl here)) = one_left met s a' (b.entry ∷ tail) (inl (inl here))
  then_behind s b es met a' tail rest (inl (inr later)) = one_behind met s a' b.entry tail (rest (inl later))
  then_behind s b es met a' tail rest (inr fine) = one_behind met s a' b.entry tail (rest (inr fine))

  then_begun : (s now : ℕ) (es : List StreamEntry)
      → ((a : S) (rs : List ℕ) (met : Met) (a' : S) (rs' : List ℕ) (es' : List StreamEntry) → VisitsAll m now es a rs met a' rs' es'
      → IsBegunStream m keeps s a es → LeavesOne met s a' es')
      → (own : Met) (e : StreamEntry) (a : S) (rs : List ℕ) (b : Turn S) (met : Met) (a' : S) (rs' : List ℕ) (es' : List StreamEntry)
      → (IsReady m keeps w v u s a e.id (turn a e rs) → LeavesReady m keeps w v u s a e.id own b)
      → VisitedThen m (VisitsAll m now es) own es b met a' rs' es' → IsBegunStream m keeps s a (e ∷ es) → LeavesOne met s a' es'
  then_begun s now es rest Nothing e a rs b met a' rs' es' h t k =
      one_as met met s a' a' (b.entry ∷ t.0) es' refl refl t.2
      (then_behind s b es met a' t.0 (rest b.association b.resets met a' rs' t.0 t.1) (first_begun s a e es rs b h k))
  then_begun s now es rest Again e a rs b met a' rs' es' h t k =
      one_as Again met s b.association a' (b.entry ∷ es) es' t.0 t.1 t.3 (first_begun s a e es rs b h k)
  then_begun s now es rest (Output o) e a rs b met a' rs' es' h t k =
      one_as (Output o) met s b.association a' (b.entry ∷ es) es' t.0 t.1 t.3 (first_begun s a e es rs b h k)
  then_begun s now es rest OutOfMemory e a rs b met a' rs' es' h t k = one_as OutOfMemory met s b.association a' (b.entry ∷ es) es' t.0 t.1 t.3 tt

  tour_begun : (s now : ℕ) (es : List StreamEntry) (a : S) (rs : List ℕ) (met : Met) (a' : S) (rs' : List ℕ) (es' : List StreamEntry)
      → VisitsAll m now es a rs met a' rs' es' → IsBegunStream m keeps s a es → LeavesOne met s a' es'
  tour_begun s now [] a rs met a' rs' es' h k = one_as Nothing met s a a' [] es' h.0 h.1 h.3 k
  tour_begun s now (e ∷ es) a rs met a' rs' es' h k =
      then_begun s now es (tour_begun s now es) h.0 e a rs h.1 met a' rs' es'
      (λ r. visit_ready m keeps w v u s a e.id now (turn a e rs) h.0 h.1 h.2 r) h.3 k

  all_left : (met : Met) (q : SctpStreams S) → ((s : ℕ) → LeavesOne met s q.association q.entries) → LeavesBegun met q
  all_left Nothing q h = h
  all_left Again q h = h
  all_left (Output e) q h = h
  all_left OutOfMemory q h = tt

  visits_if : (b : Bool) (p : SctpStreams S) (met : Met) (q : SctpStreams S) → VisitsIf m b p met q → AreBegunStreams m keeps p → LeavesBegun met q
  visits_if false p met q h k = begun_left met q (begun_same p q h.1 k)
  visits_if true p met q h k =
      all_left met q (λ s. tour_begun s p.last p.entries p.association p.resets met q.association q.resets q.entries h.0 (k s))

  -- ---- events

  same_book : (p q : SctpStreams S) → q.association ≡ p.association → book_of q ≡ book_of p → AreBegunStreams m keeps p → AreBegunStreams m keeps q
  same_book p q same is k =
      begun_over p q (λ s. goes_same m keeps s p.association q.association same)
      (λ s h. past_is s p.entries q.entries (ap (λ (x : Book). x.entries) is) h) k

  event_begun : (p : SctpStreams S) (met : Met) (q : SctpStreams S) → TakesEvent m p.association (book_of p) met q.association (book_of q)
      → AreBegunStreams m keeps p → AreBegunStreams m keeps q
  event_begun p met q (NotStarted s e a b) k = same_book p q a b k
  event_begun p met q (NoRoom e a b) k = same_book p q a b k
  event_begun p met q (NoEvent begun h e b) k = same_book p q (w.event_none p.association q.association h) b k
  event_begun p met q (Event e begun h f b) k =
      begun_over p q (λ s. goes_act m keeps w v u s p.association q.association (Told e) h refl)
      (λ s x. past_after e s (book_of p) (book_of q) b x) k

  -- ---- passes

  else_begun : (A B : SctpStreams S → Met → SctpStreams S → Type 0)
      → ((p : SctpStreams S) (met : Met) (q : SctpStreams S) → A p met q → AreBegunStreams m keeps p → LeavesBegun met q)
      → ((p : SctpStreams S) (met : Met) (q : SctpStreams S) → B p met q → AreBegunStreams m keeps p → LeavesBegun met q)
      → (p : SctpStreams S) (met : Met) (q : SctpStreams S) → Else A B p met q → AreBegunStreams m keeps p → LeavesBegun met q
  else_begun A B f g p met q h k = then_step h.0 h.1.0 (f p h.0 h.1.0 h.1.1.0 k) h.1.1.1
    where
      at : (r : Met) (between : SctpStreams S) → LeavesBegun r between → met ≡ r → q ≡ between → LeavesBegun met q
      at r between d e is =
          subst (λ (x : Met). LeavesBegun x q) (sym e) (subst (λ (x : SctpStreams S). LeavesBegun r x) (sym is) d)

      then_step : (own : Met) (between : SctpStreams S) → LeavesBegun own between → ThenBy B own between met q → LeavesBegun met q
      then_step Nothing between d t = g between met q t d
      then_step Again between d t = at Again between d t.0 t.1
      then_step (Output e) between d t = at (Output e) between d t.0 t.1
      then_step OutOfMemory between d t = at OutOfMemory between d t.0 t.1

  steps_begun : (p : SctpStreams S) (met : Met) (q : SctpStreams S) → TakesSteps m p met q → AreBegunStreams m keeps p → LeavesBegun met q
  unfolding TakesSteps
  steps_begun p met q h k =
      else_begun _ _ (λ p met q t d. begun_left met q (transmit_of p.pushed p met q t d))
      (else_begun _ _ (λ p met q t d. begun_left met q (event_begun p met q t.0 d))
      (else_begun _ _ (λ p met q t d. visits_if (is_established p.state && m.started p.association) p met q t d)
      (λ p met q t d. begun_left met q (completion_of p.completed p met q t d))))
      (unclosed_streams p) met q h
      (begun_over p (unclosed_streams p) (λ s. goes_none m keeps s p.association) (λ s x. past_unclosed s p.entries x) k)

  pass_begun : (p : SctpStreams S) (met : Met) (q : SctpStreams S) → MakesPass m p met q → AreBegunStreams m keeps p → LeavesBegun met q
  unfolding MakesPass
  pass_begun p met q h k = by p.rests h k
    where
      rests : (o : Option (List (List ℕ))) → RestsBy o p met q → AreBegunStreams m keeps p → AreBegunStreams m keeps q
      rests None t k = begun_same p q t.1 k
      rests (Some packets) t k = transmit_of (Some packets) p met q t k

      by : (b : Bool) → PassIf m b p met q → AreBegunStreams m keeps p → LeavesBegun met q
      by true t k = begun_left met q (rests p.pushed t.0 k)
      by false t k = steps_begun p met q t k

  over_begun : (n : ℕ) (p q : SctpStreams S) → Over m n p q → AreBegunStreams m keeps p → AreBegunStreams m keeps q
  over_begun zero p q h k = begun_same p q h k
  over_begun (suc n) p q h k = pass_begun h.0 Again q h.2 (over_begun n p h.0 h.1 k)

  pub poll_begun : (p : SctpStreams S) (answer : Option SctpEvent) (q : SctpStreams S) → PollsStreams m p (Ok answer) q → AreBegunStreams m keeps p
      → AreBegunStreams m keeps q
  poll_begun p None q h k =
      subst (λ (x : Met). LeavesBegun x q) h.answers (pass_begun h.between h.met q h.last (over_begun h.passes p h.between h.over k))
  poll_begun p (Some e) q h k =
      subst (λ (x : Met). LeavesBegun x q) h.answers (pass_begun h.between h.met q h.last (over_begun h.passes p h.between h.over k))
