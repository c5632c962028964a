-- Polls of streams leave a stream shut that is there, until the association reports that more was received.
use Rattle.std.proofs.Common.{◌≡◌, ◌∙◌, ℕ, zero, suc, ◌&&◌, Bool, true, false, List, [], ◌∷◌, Option, Some, None, Result, Ok, refl, sym, ap, subst}
use Rattle.std.specs.declared.alloc.AllocError.{AllocError}
use Rattle.rtc_parts.specs.declared.assoc_event.AssocEvent.{AssocEvent}
use Rattle.rtc_parts.specs.AssociationActs.{AssociationAct, Acted, Given, Moved}
use Rattle.rtc_parts.specs.AssociationLaws.{AssociationLaws}
use Rattle.rtc_parts.specs.AssociationMeaning.{AssociationMeaning}
use Rattle.rtc_parts.specs.AssociationWords.{given}
use Rattle.rtc_sctp_entries.specs.declared.stream_entry.StreamEntry.{StreamEntry}
use Rattle.rtc_sctp_entries.specs.declared.sctp_event.SctpEvent.{SctpEvent}
use Rattle.rtc_sctp_entries.specs.declared.sctp_event.SctpEvent.TheVariants as event
use Rattle.rtc_sctp_entries.specs.declared.met.Met.{Met}
use Rattle.rtc_sctp_entries.specs.declared.met.Met.TheVariants.{Nothing, Again, Output, OutOfMemory}
use Rattle.rtc_sctp_entries.specs.Visits.{Turn, turn, Visits}
use Rattle.rtc_sctp.specs.Streams.{SctpStreams, is_established}
use Rattle.rtc_sctp.specs.Polls.{Book, book_of, Else, ThenBy, unclosed_streams, CompletionOf, TakesPacket, TransmitIf, TransmitOf, TakesEvent, NotStarted, NoRoom, NoEvent, Event, VisitedThen, VisitsAll, VisitsIf, TakesSteps, RestsBy, PassIf, MakesPass, Over, PollsStreams}
use Rattle.rtc_sctp_laws.specs.StreamActs.{AssociationDid, VisitDid}
use Rattle.rtc_sctp_laws.specs.GenerationLaws.{GenerationLaws, gives_packet}
use Rattle.rtc_sctp_laws.proofs.ActLemmas.{did_same, gave_did, told_did, packet_polled}
use Rattle.rtc_sctp_laws.proofs.KeptUses.{acts_keep}
use Rattle.rtc_sctp_laws.proofs.UsedReadings.{VisitUses, visit_uses}
use Rattle.rtc_sctp_laws.proofs.VisitActs.{visit_did}
use Rattle.rtc_run_laws.proofs.ShutEntries.{AreShut, IsShutEntry, ReadsNothing, shut_after, shut_is, shut_unclosed}
use Rattle.rtc_run_laws.proofs.ShutVisits.{visit_shut}

no_packet : (p : List ℕ) (l : List (List ℕ)) → p ∷ l ≡ [] → ⊥
no_packet p l h = cc

-- What holds of associations that report what was received as it is given, and of a stream that is there.
pub record ShutLaws {S : Type 0} (m : AssociationMeaning S) (quiet : S → Type 0) : Type 0 where
  pub exists : (a b : S) (s : ℕ) → m.has_stream a s ≡ true → m.opened a s (Ok tt) b → ⊥
  pub acts : (a b : S) (act : AssociationAct) → gives_packet act ≡ false → Acted m a act b → quiet a → quiet b
  pub tells : (a b : S) (e : AssocEvent) → m.polled a (Some e) b → quiet a → ReadsNothing e

module _ {S : Type 0} (m : AssociationMeaning S) (quiet : S → Type 0) (w : AssociationLaws m) (v : GenerationLaws m) (u : ShutLaws m quiet) (s : ℕ) where
  -- the stream is there, and nothing is to be reported that was received
  abbrev pub IsCalm : S → Type 0
  IsCalm a = (m.has_stream a s ≡ true) × quiet a

  -- and it is shut
  abbrev pub IsShutStream : SctpStreams S → Type 0
  IsShutStream p = IsCalm p.association × AreShut s p.entries

  quiet_acts : (acts : List AssociationAct) (a b : S) → given acts ≡ [] → Moved m a acts b → quiet a → quiet b
  quiet_acts [] a b none h k = subst quiet (sym h) k
  quiet_acts (Given p ∷ acts) a b none h k = absurd (no_packet p (given acts) none)
  quiet_acts (act ∷ acts) a b none h k = quiet_acts acts h.0 b none h.1.1 (u.acts a h.0 act refl h.1.0 k)

  pub calm_acts : (acts : List AssociationAct) (a b : S) → given acts ≡ [] → Moved m a acts b → IsCalm a → IsCalm b
  calm_acts acts a b none h k = ((acts_keep m v s acts a b none h).there k.0, quiet_acts acts a b none h k.1)

  pub shut_over : (acts : List AssociationAct) (p q : SctpStreams S) → given acts ≡ [] → Moved m p.association acts q.association
      → (AreShut s p.entries → AreShut s q.entries) → IsShutStream p → IsShutStream q
  shut_over acts p q none went entries k = (calm_acts acts p.association q.association none went k.0, entries k.1)

  -- over the same entries
  shut_by : (outs : List (List ℕ)) (p n q : SctpStreams S) → q ≡ n → n.entries ≡ p.entries
      → AssociationDid m [] outs [] [] [] p.association q.association → IsShutStream p → IsShutStream q
  shut_by outs p n q is entries d k =
      shut_over d.acts p q d.given_is d.went (λ x. shut_is s p.entries q.entries (ap (λ (y : SctpStreams S). y.entries) is ∙ entries) x) k

  pub shut_still : (p n q : SctpStreams S) → q ≡ n → n.entries ≡ p.entries → n.association ≡ p.association → IsShutStream p → IsShutStream q
  shut_still p n q is entries same k =
      shut_by [] p n q is entries (did_same m p.association q.association (ap (λ (x : SctpStreams S). x.association) is ∙ same)) k

  -- ---- the steps

  packet_shut : (p : SctpStreams S) (met : Met) (q : SctpStreams S) → q ≡ record p { association = q.association }
      → TakesPacket m p.association met q.association → IsShutStream p → IsShutStream q
  packet_shut p Nothing q is h k = shut_by (packet_polled None) p _ q is refl (gave_did m w p.association q.association None h) k
  packet_shut p (Output (event.Transmit packets)) q is h k =
      shut_by (packet_polled (Some h.0)) p _ q is refl (gave_did m w p.association q.association (Some h.0) h.1) k
  packet_shut p (Output (event.Open id label)) q is h k = absurd h
  packet_shut p (Output (event.Close id pending)) q is h k = absurd h
  packet_shut p (Output (event.StreamResetComplete id)) q is h k = absurd h
  packet_shut p (Output (event.Data id binary bytes)) q is h k = absurd h
  packet_shut p (Output (event.BufferedAmountLow id)) q is h k = absurd h
  packet_shut p (Output event.AssociationLost) q is h k = absurd h
  packet_shut p Again q is h k = absurd h
  packet_shut p OutOfMemory q is h k = shut_still p _ q is refl h k

  transmit_if : (b : Bool) (p : SctpStreams S) (met : Met) (q : SctpStreams S) → TransmitIf m b p met q → IsShutStream p → IsShutStream q
  transmit_if false p met q h k = shut_still p p q h.1 refl refl k
  transmit_if true p met q h k = packet_shut p met q h.1 h.0 k

  transmit_of : (o : Option (List (List ℕ))) (p : SctpStreams S) (met : Met) (q : SctpStreams S) → TransmitOf m o p met q → IsShutStream p
      → IsShutStream q
  transmit_of None p met q h k = transmit_if (m.started p.association) p met q h k
  transmit_of (Some packets) p met q h k = shut_still p _ q h.1 refl refl k

  completion_of : (l : List ℕ) (p : SctpStreams S) (met : Met) (q : SctpStreams S) → CompletionOf l p met q → IsShutStream p → IsShutStream q
  completion_of [] p met q h k = shut_still p _ q h.1 refl refl k
  completion_of (id ∷ rest) p met q h k = shut_still p _ q h.1 refl refl k

  -- ---- visits

  calm_by : (a : S) (met : Met) (b : S) → VisitDid m a met b → IsCalm a → IsCalm b
  calm_by a met b d k = calm_acts d.did.acts a b d.did.given_is d.did.went k

  -- the first entry is visited
  visited : (now : ℕ) (e : StreamEntry) (a : S) (rs : List ℕ) (own : Met) (b : Turn S) → Visits m now (turn a e rs) own b → IsCalm a
      → (e.id ≡ s → IsShutEntry e) → b.entry.id ≡ s → IsShutEntry b.entry
  visited now e a rs own b h k shut is = visit_shut m u.exists now (turn a e rs) own b h (shut own_is) (ap (λ (n : ℕ). m.has_stream a n) own_is ∙ k.0)
    where
      own_is : e.id ≡ s
      own_is = sym (VisitUses.id_is (visit_uses m w now (turn a e rs) own b h)) ∙ is

  tour_is : (a a' : S) (es es' : List StreamEntry) → a' ≡ a → es' ≡ es → IsCalm a × AreShut s es → IsCalm a' × AreShut s es'
  tour_is a a' es es' same is h = rw (same, is) h

  then_shut : (now : ℕ) (es : List StreamEntry)
      → ((a : S) (rs : List ℕ) (met : Met) (a' : S) (rs' : List ℕ) (es' : List StreamEntry) → VisitsAll m now es a rs met a' rs' es' → IsCalm a
      → AreShut s es → IsCalm a' × AreShut s es')
      → (own : Met) (b : Turn S) (met : Met) (a' : S) (rs' : List ℕ) (es' : List StreamEntry)
      → VisitedThen m (VisitsAll m now es) own es b met a' rs' es' → IsCalm b.association → (b.entry.id ≡ s → IsShutEntry b.entry) → AreShut s es
      → IsCalm a' × AreShut s es'
  then_shut now es rest Nothing b met a' rs' es' t calm first k =
      let others = rest b.association b.resets met a' rs' t.0 t.1 calm k in
      tour_is a' a' (b.entry ∷ t.0) es' refl t.2 (others.0, (first, others.1))
  then_shut now es rest Again b met a' rs' es' t calm first k = tour_is b.association a' (b.entry ∷ es) es' t.1 t.3 (calm, (first, k))
  then_shut now es rest (Output o) b met a' rs' es' t calm first k = tour_is b.association a' (b.entry ∷ es) es' t.1 t.3 (calm, (first, k))
  then_shut now es rest OutOfMemory b met a' rs' es' t calm first k = tour_is b.association a' (b.entry ∷ es) es' t.1 t.3 (calm, (first, k))

  tour_shut : (now : ℕ) (es : List StreamEntry) (a : S) (rs : List ℕ) (met : Met) (a' : S) (rs' : List ℕ) (es' : List StreamEntry)
      → VisitsAll m now es a rs met a' rs' es' → IsCalm a → AreShut s es → IsCalm a' × AreShut s es'
  tour_shut now [] a rs met a' rs' es' h calm k = tour_is a a' [] es' h.1 h.3 (calm, k)
  tour_shut now (e ∷ es) a rs met a' rs' es' h calm k =
      then_shut now es (tour_shut now es) h.0 h.1 met a' rs' es' h.3
      (calm_by a h.0 (Turn.association h.1) (visit_did m w now (turn a e rs) h.0 h.1 h.2) calm)
      (λ own. visited now e a rs h.0 h.1 h.2 calm k.0 own) k.1

  visits_if : (b : Bool) (p : SctpStreams S) (met : Met) (q : SctpStreams S) → VisitsIf m b p met q → IsShutStream p → IsShutStream q
  visits_if false p met q h k = shut_still p p q h.1 refl refl k
  visits_if true p met q h k = tour_shut p.last p.entries p.association p.resets met q.association q.resets q.entries h.0 k.0 k.1

  -- ---- events

  same_book : (p q : SctpStreams S) → q.association ≡ p.association → book_of q ≡ book_of p → IsShutStream p → IsShutStream q
  same_book p q same is k =
      shut_over [] p q refl same (λ x. shut_is s p.entries q.entries (ap (λ (y : Book). y.entries) is) x) k

  event_shut : (p : SctpStreams S) (met : Met) (q : SctpStreams S) → TakesEvent m p.association (book_of p) met q.association (book_of q)
      → IsShutStream p → IsShutStream q
  event_shut p met q (NotStarted unstarted e a b) k = same_book p q a b k
  event_shut p met q (NoRoom e a b) k = same_book p q a b k
  event_shut p met q (NoEvent begun h e b) k = same_book p q (w.event_none p.association q.association h) b k
  event_shut p met q (Event e begun h f b) k =
      let d = told_did m w p.association q.association e h in
      shut_over d.acts p q d.given_is d.went (λ x. shut_after e s (book_of p) (book_of q) (u.tells p.association q.association e h k.0.1) b x) k

  -- ---- passes

  else_shut : (A B : SctpStreams S → Met → SctpStreams S → Type 0)
      → ((p : SctpStreams S) (met : Met) (q : SctpStreams S) → A p met q → IsShutStream p → IsShutStream q)
      → ((p : SctpStreams S) (met : Met) (q : SctpStreams S) → B p met q → IsShutStream p → IsShutStream q)
      → (p : SctpStreams S) (met : Met) (q : SctpStreams S) → Else A B p met q → IsShutStream p → IsShutStream q
  else_shut A B f g p met q h k = then_step h.0 h.1.0 (f p h.0 h.1.0 h.1.1.0 k) h.1.1.1
    where
      at : (between : SctpStreams S) → IsShutStream between → q ≡ between → IsShutStream q
      at between d is = subst (λ (x : SctpStreams S). IsShutStream x) (sym is) d

      then_step : (own : Met) (between : SctpStreams S) → IsShutStream between → ThenBy B own between met q → IsShutStream q
      then_step Nothing between d t = g between met q t d
      then_step Again between d t = at between d t.1
      then_step (Output e) between d t = at between d t.1
      then_step OutOfMemory between d t = at between d t.1

  steps_shut : (p : SctpStreams S) (met : Met) (q : SctpStreams S) → TakesSteps m p met q → IsShutStream p → IsShutStream q
  unfolding TakesSteps
  steps_shut p met q h k =
      else_shut _ _ (λ p met q t d. transmit_of p.pushed p met q t d)
      (else_shut _ _ (λ p met q t d. event_shut p met q t.0 d)
      (else_shut _ _ (λ p met q t d. visits_if (is_established p.state && m.started p.association) p met q t d)
      (λ p met q t d. completion_of p.completed p met q t d)))
      (unclosed_streams p) met q h (k.0, shut_unclosed s p.entries k.1)

  pass_shut : (p : SctpStreams S) (met : Met) (q : SctpStreams S) → MakesPass m p met q → IsShutStream p → IsShutStream q
  unfolding MakesPass
  pass_shut p met q h k = by p.rests h k
    where
      rests : (o : Option (List (List ℕ))) → RestsBy o p met q → IsShutStream p → IsShutStream q
      rests None t k = shut_still p p q t.1 refl refl k
      rests (Some packets) t k = transmit_of (Some packets) p met q t k

      by : (b : Bool) → PassIf m b p met q → IsShutStream p → IsShutStream q
      by true t k = rests p.pushed t.0 k
      by false t k = steps_shut p met q t k

  over_shut : (n : ℕ) (p q : SctpStreams S) → Over m n p q → IsShutStream p → IsShutStream q
  over_shut zero p q h k = subst (λ (x : SctpStreams S). IsShutStream x) (sym h) k
  over_shut (suc n) p q h k = pass_shut h.0 Again q h.2 (over_shut n p h.0 h.1 k)

  pub poll_shut : (p : SctpStreams S) (r : Result (Option SctpEvent) AllocError) (q : SctpStreams S) → PollsStreams m p r q → IsShutStream p
      → IsShutStream q
  poll_shut p r q h k = pass_shut h.between h.met q h.last (over_shut h.passes p h.between h.over k)
