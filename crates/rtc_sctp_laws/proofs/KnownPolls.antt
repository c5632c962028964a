-- Polls of streams keep that each stream of which a message stands unread has an entry, or is to be told of.
use Rattle.std.proofs.Common.{◌≡◌, ◌∙◌, ◌⊎◌, inl, inr, ℕ, zero, suc, ◌&&◌, Bool, true, false, List, [], ◌∷◌, Option, Some, None, Result, refl, sym, ap, subst}
use Rattle.std.specs.declared.alloc.AllocError.{AllocError}
use Rattle.rtc_parts.specs.declared.assoc_event.AssocEvent.{AssocEvent}
use Rattle.rtc_parts.specs.declared.assoc_event.AssocEvent.TheVariants as assoc
use Rattle.rtc_parts.specs.AssociationActs.{AssociationAct, Moved}
use Rattle.rtc_parts.specs.AssociationLaws.{AssociationLaws}
use Rattle.rtc_parts.specs.AssociationMeaning.{AssociationMeaning}
use Rattle.rtc_parts.specs.AssociationWords.{given, told}
use Rattle.rtc_parts.specs.Among.{Member}
use Rattle.rtc_sctp_entries.specs.declared.stream_entry.StreamEntry.{StreamEntry}
use Rattle.rtc_sctp_entries.specs.declared.sctp_event.SctpEvent.{SctpEvent}
use Rattle.rtc_sctp_entries.specs.declared.sctp_event.SctpEvent.TheVariants as event
use Rattle.rtc_sctp_entries.specs.declared.met.Met.{Met}
use Rattle.rtc_sctp_entries.specs.declared.met.Met.TheVariants.{Nothing, Again, Output, OutOfMemory}
use Rattle.rtc_sctp_entries.specs.Entries.{is_closed_state}
use Rattle.rtc_sctp_entries.specs.Visits.{Turn, turn, Visits}
use Rattle.rtc_sctp.specs.Streams.{SctpStreams, is_established}
use Rattle.rtc_sctp.specs.Polls.{Book, book_of, AfterEvent, with_expected, Else, ThenBy, unclosed_streams, CompletionOf, TakesPacket, TransmitIf, TransmitOf, GivesTransmit, TakesEvent, NotStarted, NoRoom, NoEvent, Event, VisitedThen, VisitsAll, VisitsIf, TakesSteps, RestsBy, PassIf, MakesPass, Over, PollsStreams}
use Rattle.rtc_sctp_laws.specs.StreamActs.{AssociationDid, VisitDid}
use Rattle.rtc_sctp_laws.proofs.ActLemmas.{did_same, gave_did, told_did, packet_polled}
use Rattle.rtc_sctp_laws.proofs.ClosingPolls.{started_moved}
use Rattle.rtc_sctp_laws.proofs.PollActs.{tour_did}
use Rattle.rtc_sctp_laws.proofs.VisitActs.{visit_did}
use Rattle.rtc_sctp_laws.specs.GenerationLaws.{GenerationLaws}
use Rattle.rtc_sctp_laws.specs.StreamUses.{is_spent_stream}
use Rattle.rtc_sctp_laws.proofs.KeptUses.{acts_keep, spent_kept}
use Rattle.rtc_sctp_laws.proofs.KnownStreams.{AreBacked, AreKnown, HasEntry, IsKnown, IsSilent, NoneClosed, UnreadLaws, known_quiet, moved_backed, moved_before, silent_on, unread_before}
use Rattle.rtc_sctp_laws.proofs.KnownEntries.{has_after, expected_own, has_is, has_unclosed, none_unclosed}
use Rattle.rtc_sctp_laws.proofs.KnownVisits.{visit_left}

module _ {S : Type 0} (m : AssociationMeaning S) (sound : S → Type 0) (w : AssociationLaws m) (v : GenerationLaws m) (u : UnreadLaws m sound) where
  -- what gave no packet and told nothing, and what became of the entries
  pub record QuietGoes (p q : SctpStreams S) : Type 0 where
    pub acts : List AssociationAct
    pub went : Moved m p.association acts q.association
    pub given_is : given acts ≡ []
    pub told_is : told acts ≡ []
    pub entries : (s : ℕ) → HasEntry s p.entries → HasEntry s q.entries ⊎ IsSilent m sound s q.association
    pub lasts : is_established q.state ≡ true → (is_established p.state ≡ true) ⊎ (m.started q.association ≡ true)

  pub quiet_known : (p q : SctpStreams S) → QuietGoes p q → AreKnown m sound p → AreKnown m sound q
  quiet_known p q h k = record {
    backed = moved_backed m sound w v u h.acts p.association q.association h.went k.backed;
    known = λ s.
        known_quiet m sound w v u h.acts p.association q.association p.entries q.entries s h.given_is h.told_is h.went (h.entries s) (k.known s);
    begun = λ e. by (h.lasts e);
  }
    where
      by : (is_established p.state ≡ true) ⊎ (m.started q.association ≡ true) → m.started q.association ≡ true
      by (inl e) = started_moved m w h.acts p.association q.association (k.begun e) h.went
      by (inr s) = s

  pub quiet_by : (outs : List (List ℕ)) (p q : SctpStreams S) → AssociationDid m [] outs [] [] [] p.association q.association
      → ((s : ℕ) → HasEntry s p.entries → HasEntry s q.entries) → (is_established q.state ≡ true → is_established p.state ≡ true) → QuietGoes p q
  quiet_by outs p q d entries lasts = record {
    acts = d.acts;
    went = d.went;
    given_is = d.given_is;
    told_is = d.told_is;
    entries = λ s h. inl (entries s h);
    lasts = λ e. inl (lasts e);
  }

  -- a step over the same entries and state
  quiet_over : (outs : List (List ℕ)) (p n q : SctpStreams S) → q ≡ n → n.entries ≡ p.entries → n.state ≡ p.state → AssociationDid m [] outs [] [] [] p.association q.association → QuietGoes p q
  quiet_over outs p n q is entries state d =
      quiet_by outs p q d (λ s h. has_is s p.entries q.entries (ap (λ (x : SctpStreams S). x.entries) is ∙ entries) h)
      (λ e. ap is_established (sym (ap (λ (x : SctpStreams S). x.state) is ∙ state)) ∙ e)

  quiet_still : (p n q : SctpStreams S) → q ≡ n → n.entries ≡ p.entries → n.state ≡ p.state → n.association ≡ p.association → QuietGoes p q
  quiet_still p n q is entries state same =
      quiet_over [] p n q is entries state
      (did_same m p.association q.association (ap (λ (x : SctpStreams S). x.association) is ∙ same))

  -- ---- the steps

  dropped : (p : SctpStreams S) → QuietGoes p (unclosed_streams p)
  dropped p = quiet_by [] p (unclosed_streams p) (did_same m p.association p.association refl) (λ s h. has_unclosed s p.entries h) (λ e. e)

  packet_quiet : (p : SctpStreams S) (met : Met) (q : SctpStreams S) → q ≡ record p { association = q.association } → TakesPacket m p.association met q.association → QuietGoes p q
  packet_quiet p Nothing q is h = quiet_over (packet_polled None) p _ q is refl refl (gave_did m w p.association q.association None h)
  packet_quiet p (Output (event.Transmit packets)) q is h =
      quiet_over (packet_polled (Some h.0)) p _ q is refl refl (gave_did m w p.association q.association (Some h.0) h.1)
  packet_quiet p (Output (event.Open id label)) q is h = absurd h
  packet_quiet p (Output (event.Close id pending)) q is h = absurd h
  packet_quiet p (Output (event.StreamResetComplete id)) q is h = absurd h
  packet_quiet p (Output (event.Data id binary bytes)) q is h = absurd h
  packet_quiet p (Output (event.BufferedAmountLow id)) q is h = absurd h
  packet_quiet p (Output event.AssociationLost) q is h = absurd h
  packet_quiet p Again q is h = absurd h
  packet_quiet p OutOfMemory q is h = quiet_still p _ q is refl refl h

  transmit_if : (b : Bool) (p : SctpStreams S) (met : Met) (q : SctpStreams S) → TransmitIf m b p met q → QuietGoes p q
  transmit_if false p met q h = quiet_still p p q h.1 refl refl refl
  transmit_if true p met q h = packet_quiet p met q h.1 h.0

  transmit_of : (o : Option (List (List ℕ))) (p : SctpStreams S) (met : Met) (q : SctpStreams S) → TransmitOf m o p met q → QuietGoes p q
  transmit_of None p met q h = transmit_if (m.started p.association) p met q h
  transmit_of (Some packets) p met q h = quiet_still p _ q h.1 refl refl refl

  completion_of : (l : List ℕ) (p : SctpStreams S) (met : Met) (q : SctpStreams S) → CompletionOf l p met q → QuietGoes p q
  completion_of [] p met q h = quiet_still p _ q h.1 refl refl refl
  completion_of (id ∷ rest) p met q h = quiet_still p _ q h.1 refl refl refl

  -- visits
  abbrev Tour : List StreamEntry → S → List StreamEntry → Type 0
  Tour es a es' = (s : ℕ) → HasEntry s es → HasEntry s es' ⊎ IsSilent m sound s a

  visited_first : (s : ℕ) (e e' : StreamEntry) (a : S) (es : List StreamEntry) → (e'.id ≡ s) × ((is_closed_state e'.state ≡ false) ⊎ IsSilent m sound s a) → HasEntry s (e' ∷ es) ⊎ IsSilent m sound s a
  visited_first s e e' a es (id, inl free) = inl (inl (id, free))
  visited_first s e e' a es (id, inr silent) = inr silent

  silent_by : (s : ℕ) (a b : S) (met : Met) → VisitDid m a met b → IsSilent m sound s a → IsSilent m sound s b
  silent_by s a b met d h = silent_on m sound w v u d.did.acts a b s d.did.given_is d.did.went h

  backed_by : (a b : S) (met : Met) → VisitDid m a met b → AreBacked m sound a → AreBacked m sound b
  backed_by a b met d h = moved_backed m sound w v u d.did.acts a b d.did.went h

  -- the first gives something
  stopped : (now : ℕ) (e : StreamEntry) (es : List StreamEntry) (a : S) (rs : List ℕ) (own : Met) (b : Turn S) → AreBacked m sound a → Visits m now (turn a e rs) own b → Tour (e ∷ es) b.association (b.entry ∷ es)
  stopped now e es a rs own b k h s (inl here) =
      visited_first s e b.entry b.association es
      (visit_left m sound w v u s now (turn a e rs) own b h (record { id_is = here.0; unclosed = here.1; backed = k }))
  stopped now e es a rs own b k h s (inr later) = inl (inr later)

  tour_is : (es : List StreamEntry) (a a' : S) (fs es' : List StreamEntry) → a' ≡ a → es' ≡ fs → Tour es a fs → Tour es a' es'
  tour_is es a a' fs es' same is h = rw (same, is) h

  -- it gives nothing, and the others are visited
  went_on : (now : ℕ) (e : StreamEntry) (es : List StreamEntry) (a : S) (rs : List ℕ) (own : Met) (b : Turn S) (met : Met) (a' : S)
      (tail : List StreamEntry) → AreBacked m sound a → Visits m now (turn a e rs) own b → VisitDid m b.association met a' → Tour es a' tail → Tour (e ∷ es) a' (b.entry ∷ tail)
  went_on now e es a rs own b met a' tail k h d rest = by
    where
      first : (s : ℕ) → HasEntry s (b.entry ∷ es) ⊎ IsSilent m sound s b.association → HasEntry s es ⊎ (IsSilent m sound s a' ⊎ HasEntry s (b.entry ∷ tail))
      first s (inl (inl here)) = inr (inr (inl here))
      first s (inl (inr later)) = inl later
      first s (inr silent) = inr (inl (silent_by s b.association a' met d silent))

      later : (s : ℕ) → HasEntry s tail ⊎ IsSilent m sound s a' → HasEntry s (b.entry ∷ tail) ⊎ IsSilent m sound s a'
      later s (inl x) = inl (inr x)
      later s (inr x) = inr x

      join : (s : ℕ) → HasEntry s es ⊎ (IsSilent m sound s a' ⊎ HasEntry s (b.entry ∷ tail)) → HasEntry s (b.entry ∷ tail) ⊎ IsSilent m sound s a'
      join s (inl x) = later s (rest s x)
      join s (inr (inl x)) = inr x
      join s (inr (inr x)) = inl x

      by : Tour (e ∷ es) a' (b.entry ∷ tail)
      by s x = join s (first s (stopped now e es a rs own b k h s x))

  then_goes : (now : ℕ) (es : List StreamEntry) → ((a : S) (rs : List ℕ) (met : Met) (a' : S) (rs' : List ℕ) (es' : List StreamEntry) → AreBacked m sound a → VisitsAll m now es a rs met a' rs' es' → Tour es a' es')
      → (own : Met) (e : StreamEntry) (a : S) (rs : List ℕ) (b : Turn S) (met : Met) (a' : S) (rs' : List ℕ) (es' : List StreamEntry) → AreBacked m sound a
      → Visits m now (turn a e rs) own b → VisitedThen m (VisitsAll m now es) own es b met a' rs' es' → Tour (e ∷ es) a' es'
  then_goes now es rest Nothing e a rs b met a' rs' es' k h t =
      let d = tour_did m w now es b.association b.resets met a' rs' t.0 t.1 in
      tour_is (e ∷ es) a' a' (b.entry ∷ t.0) es' refl t.2
      (went_on now e es a rs Nothing b met a' t.0 k h d
      (rest b.association b.resets met a' rs' t.0 (backed_by a b.association Nothing (visit_did m w now (turn a e rs) Nothing b h) k) t.1))
  then_goes now es rest Again e a rs b met a' rs' es' k h t =
      tour_is (e ∷ es) b.association a' (b.entry ∷ es) es' t.1 t.3 (stopped now e es a rs Again b k h)
  then_goes now es rest (Output o) e a rs b met a' rs' es' k h t =
      tour_is (e ∷ es) b.association a' (b.entry ∷ es) es' t.1 t.3 (stopped now e es a rs (Output o) b k h)
  then_goes now es rest OutOfMemory e a rs b met a' rs' es' k h t =
      tour_is (e ∷ es) b.association a' (b.entry ∷ es) es' t.1 t.3 (stopped now e es a rs OutOfMemory b k h)

  tour_goes : (now : ℕ) (es : List StreamEntry) (a : S) (rs : List ℕ) (met : Met) (a' : S) (rs' : List ℕ) (es' : List StreamEntry) → AreBacked m sound a → VisitsAll m now es a rs met a' rs' es' → Tour es a' es'
  tour_goes now [] a rs met a' rs' es' k h = λ s x. absurd x
  tour_goes now (e ∷ es) a rs met a' rs' es' k h = then_goes now es (tour_goes now es) h.0 e a rs h.1 met a' rs' es' k h.2 h.3

  visits_if : (b : Bool) (p : SctpStreams S) (met : Met) (q : SctpStreams S) → VisitsIf m b p met q → AreKnown m sound p → AreKnown m sound q
  visits_if false p met q h k = quiet_known p q (quiet_still p p q h.1 refl refl refl) k
  visits_if true p met q h k =
      let d = tour_did m w p.last p.entries p.association p.resets met q.association q.resets q.entries h.0 in
      quiet_known p q
      (record {
        acts = d.did.acts;
        went = d.did.went;
        given_is = d.did.given_is;
        told_is = d.did.told_is;
        entries = tour_goes p.last p.entries p.association p.resets met q.association q.resets q.entries k.backed h.0;
        lasts = λ e. inl (ap is_established (sym (ap (λ (x : SctpStreams S). x.state) h.1)) ∙ e);
      })
      k

  -- events
  event_state : (e : AssocEvent) (b b' : Book) → AfterEvent e b b' → (e ≡ assoc.Connected) ⊎ (b'.state ≡ b.state)
  event_state assoc.Connected b b' h = inl refl
  event_state assoc.Lost b b' h = inr (ap (λ (x : Book). x.state) h)
  event_state (assoc.Readable id) b b' h = inr (ap (λ (x : Book). x.state) h)
  event_state (assoc.Writable id) b b' h = inr (ap (λ (x : Book). x.state) h)
  event_state (assoc.Finished id) b b' h = inr (ap (λ (x : Book). x.state) h.1)
  event_state (assoc.ResetComplete id) b b' h = inr (ap (λ (x : Book). x.state) h)
  event_state (assoc.BufferedAmountLow id) b b' h = inr (ap (λ (x : Book). x.state) h)

  taken_known : (e : AssocEvent) (p q : SctpStreams S) → NoneClosed p.entries → m.started p.association ≡ true
      → m.polled p.association (Some e) q.association → AfterEvent e (book_of p) (book_of q) → AreKnown m sound p → AreKnown m sound q
  taken_known e p q free begun h after k =
      record { backed = moved_backed m sound w v u d.acts a b d.went k.backed; known = known; begun = λ x. started_moved m w d.acts a b begun d.went }
    where
      a : S
      a = p.association

      b : S
      b = q.association

      d : AssociationDid m [] [] (e ∷ []) [] [] a b
      d = told_did m w a b e h

      expected : (s : ℕ) → assoc.Readable s ≡ e → HasEntry s q.entries
      expected s is =
          let told = subst (λ (x : AssocEvent). AfterEvent x (book_of p) (book_of q)) (sym is) after in
          has_is s (with_expected s p.entries) q.entries (ap (λ (x : Book). x.entries) told) (expected_own s p.entries free)

      of_due : (s : ℕ) → Member (assoc.Readable s) (e ∷ m.due b) → HasEntry s q.entries ⊎ (Member (assoc.Readable s) (m.due b) ⊎ (is_spent_stream m s b ≡ true))
      of_due s (inl is) = inl (expected s is)
      of_due s (inr due) = inr (inl due)

      by : (s : ℕ) → HasEntry s p.entries ⊎ (Member (assoc.Readable s) (m.due a) ⊎ (is_spent_stream m s a ≡ true)) → HasEntry s q.entries ⊎ (Member (assoc.Readable s) (m.due b) ⊎ (is_spent_stream m s b ≡ true))
      by s (inl there) = inl (has_after e s (book_of p) (book_of q) after there)
      by s (inr (inl due)) = of_due s (subst (λ (l : List AssocEvent). Member (assoc.Readable s) l) (w.poll_head a b e h) due)
      by s (inr (inr spent)) = inr (inr (spent_kept m s a b (acts_keep m v s d.acts a b d.given_is d.went) spent))

      known : (s : ℕ) → IsKnown m sound s b q.entries
      known s ok stands = by s (k.known s (moved_before m sound w v u d.acts a b d.went ok) (unread_before m sound w v u d.acts a b s d.given_is d.went stands))

  same_book : (p q : SctpStreams S) → q.association ≡ p.association → book_of q ≡ book_of p → QuietGoes p q
  same_book p q same is =
      quiet_by [] p q (did_same m p.association q.association same)
      (λ s h. has_is s p.entries q.entries (ap (λ (x : Book). x.entries) is) h)
      (λ e. ap is_established (sym (ap (λ (x : Book). x.state) is)) ∙ e)

  event_known : (p : SctpStreams S) (met : Met) (q : SctpStreams S) → TakesEvent m p.association (book_of p) met q.association (book_of q) → (NoneClosed p.entries) × AreKnown m sound p → AreKnown m sound q
  event_known p met q (NotStarted s e a b) k = quiet_known p q (same_book p q a b) k.1
  event_known p met q (NoRoom e a b) k = quiet_known p q (same_book p q a b) k.1
  event_known p met q (NoEvent begun h e b) k = quiet_known p q (same_book p q (w.event_none p.association q.association h) b) k.1
  event_known p met q (Event e begun h f b) k = taken_known e p q k.0 begun h b k.1

  -- ---- passes

  else_by : (P Q R : SctpStreams S → Type 0) (A B : SctpStreams S → Met → SctpStreams S → Type 0) → ((q : SctpStreams S) → Q q → R q) → ((p : SctpStreams S) (met : Met) (q : SctpStreams S) → A p met q → P p → Q q)
      → ((p : SctpStreams S) (met : Met) (q : SctpStreams S) → B p met q → Q p → R q) → (p : SctpStreams S) (met : Met) (q : SctpStreams S) → Else A B p met q → P p → R q
  else_by P Q R A B weak f g p met q h k = then_step h.0 h.1.0 (f p h.0 h.1.0 h.1.1.0 k) h.1.1.1
    where
      at : (between : SctpStreams S) → Q between → q ≡ between → R q
      at between d is = subst (λ (x : SctpStreams S). R x) (sym is) (weak between d)

      then_step : (own : Met) (between : SctpStreams S) → Q between → ThenBy B own between met q → R q
      then_step Nothing between d t = g between met q t d
      then_step Again between d t = at between d t.1
      then_step (Output e) between d t = at between d t.1
      then_step OutOfMemory between d t = at between d t.1

  abbrev IsDropped : SctpStreams S → Type 0
  IsDropped p = NoneClosed p.entries × AreKnown m sound p

  -- packets leave the entries
  packet_kept : (b : Bool) (p : SctpStreams S) (met : Met) (q : SctpStreams S) → TransmitIf m b p met q → q.entries ≡ p.entries
  packet_kept false p met q h = ap (λ (x : SctpStreams S). x.entries) h.1
  packet_kept true p met q h = ap (λ (x : SctpStreams S). x.entries) h.1

  transmit_kept : (o : Option (List (List ℕ))) (p : SctpStreams S) (met : Met) (q : SctpStreams S) → TransmitOf m o p met q → q.entries ≡ p.entries
  transmit_kept (Some packets) p met q h = ap (λ (x : SctpStreams S). x.entries) h.1
  transmit_kept None p met q h = packet_kept (m.started p.association) p met q h

  transmit_dropped : (p : SctpStreams S) (met : Met) (q : SctpStreams S) → GivesTransmit m p met q → IsDropped p → IsDropped q
  transmit_dropped p met q h k = (
    subst (λ (l : List StreamEntry). NoneClosed l) (sym (transmit_kept p.pushed p met q h)) k.0,
    quiet_known p q (transmit_of p.pushed p met q h) k.1,
  )

  steps_know : (p : SctpStreams S) (met : Met) (q : SctpStreams S) → TakesSteps m p met q → AreKnown m sound p → AreKnown m sound q
  unfolding TakesSteps
  steps_know p met q h k =
      else_by IsDropped IsDropped (AreKnown m sound) _ _ (λ q d. d.1) transmit_dropped
      (else_by IsDropped (AreKnown m sound) (AreKnown m sound) _ _ (λ q d. d) (λ p met q t d. event_known p met q t.0 d)
      (else_by (AreKnown m sound) (AreKnown m sound) (AreKnown m sound) _ _ (λ q d. d)
      (λ p met q t d. visits_if (is_established p.state && m.started p.association) p met q t d)
      (λ p met q t d. quiet_known p q (completion_of p.completed p met q t) d)))
      (unclosed_streams p) met q h
      (none_unclosed p.entries, quiet_known p (unclosed_streams p) (dropped p) k)

  pass_known : (p : SctpStreams S) (met : Met) (q : SctpStreams S) → MakesPass m p met q → AreKnown m sound p → AreKnown m sound q
  unfolding MakesPass
  pass_known p met q h k = by p.rests h k
    where
      rests : (o : Option (List (List ℕ))) → RestsBy o p met q → QuietGoes p q
      rests None t = quiet_still p p q t.1 refl refl refl
      rests (Some packets) t = transmit_of (Some packets) p met q t

      by : (b : Bool) → PassIf m b p met q → AreKnown m sound p → AreKnown m sound q
      by true t k = quiet_known p q (rests p.pushed t.0) k
      by false t k = steps_know p met q t k

  over_known : (n : ℕ) (p q : SctpStreams S) → Over m n p q → AreKnown m sound p → AreKnown m sound q
  over_known zero p q h k = subst (λ (x : SctpStreams S). AreKnown m sound x) (sym h) k
  over_known (suc n) p q h k = pass_known h.0 Again q h.2 (over_known n p h.0 h.1 k)

  pub poll_known : (p : SctpStreams S) (r : Result (Option SctpEvent) AllocError) (q : SctpStreams S) → PollsStreams m p r q → AreKnown m sound p → AreKnown m sound q
  poll_known p r q h k = pass_known h.between h.met q h.last (over_known h.passes p h.between h.over k)
