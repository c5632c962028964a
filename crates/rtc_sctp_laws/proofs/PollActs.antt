-- What a poll of streams does to the association.
use Rattle.std.proofs.Common.{◌≡◌, ℕ, zero, suc, Bool, true, false, List, [], ◌∷◌, ◌++◌, append-nil, append_assoc, Option, Some, None, Result, Ok, Err, refl, sym, ap, subst, ◌∙◌}
use Rattle.std.specs.Prelude.{◌&&◌}
use Rattle.std.specs.declared.alloc.AllocError.{AllocError}
use Rattle.rtc_parts.specs.declared.assoc_event.AssocEvent.{AssocEvent}
use Rattle.rtc_parts.specs.declared.assoc_event.AssocEvent.TheVariants as assoc
use Rattle.rtc_parts.specs.AssociationMeaning.{AssociationMeaning}
use Rattle.rtc_parts.specs.AssociationLaws.{AssociationLaws}
use Rattle.rtc_sctp_entries.specs.declared.stream_entry.StreamEntry.{StreamEntry}
use Rattle.rtc_sctp_entries.specs.declared.sctp_event.SctpEvent.{SctpEvent}
use Rattle.rtc_sctp_entries.specs.declared.sctp_event.SctpEvent.TheVariants as event
use Rattle.rtc_sctp_entries.specs.declared.met.Met.{Met}
use Rattle.rtc_sctp_entries.specs.declared.met.Met.TheVariants.{Nothing, Again, Output, OutOfMemory}
use Rattle.rtc_sctp_entries.specs.Visits.{Turn, turn}
use Rattle.rtc_sctp.specs.Streams.{SctpStreams, is_established}
use Rattle.rtc_sctp.specs.Polls.{
  Book,
  AfterEvent,
  book_of,
  event_met,
  Else,
  ThenBy,
  unclosed_streams,
  CompletionOf,
  TakesPacket,
  TransmitIf,
  TransmitOf,
  TakesEvent,
  HandlesEvent,
  NotStarted,
  NoRoom,
  NoEvent,
  Event,
  VisitedThen,
  VisitsAll,
  VisitsIf,
  TakesSteps,
  RestsBy,
  PassIf,
  MakesPass,
  Over,
  PollsStreams,
  Answers,
}
use Rattle.rtc_sctp_laws.specs.StreamMessages.{shown_messages, data_met, packets_met, resets_met, pushed_packets, met_of}
use Rattle.rtc_sctp_laws.specs.StreamActs.{AssociationDid, VisitDid, PollDid, completed_after}
use Rattle.rtc_sctp_laws.proofs.ActLemmas.{did_join, did_same, gave_did, told_did, packet_polled}
use Rattle.rtc_sctp_laws.proofs.MessageLemmas.{dcep_join, shown-append}
use Rattle.rtc_sctp_laws.proofs.VisitActs.{visit_did, visit_none, visit_join}

completed-append : (completed : List ℕ) (xs ys : List AssocEvent) → completed_after completed (xs ++ ys) ≡ completed_after (completed_after completed xs) ys
completed-append completed [] ys = refl
completed-append completed (assoc.ResetComplete id ∷ xs) ys = completed-append (completed ++ id ∷ []) xs ys
completed-append completed (assoc.Lost ∷ xs) ys = completed-append [] xs ys
completed-append completed (_ ∷ xs) ys = completed-append completed xs ys

module _ {S : Type 0} (m : AssociationMeaning S) (w : AssociationLaws m) where
  -- the entries in order
  then_did : (now : ℕ) (es : List StreamEntry) → ((a : S) (rs : List ℕ) (met : Met) (a' : S) (rs' : List ℕ) (es' : List StreamEntry) → VisitsAll m now es a rs met a' rs' es' → VisitDid m a met a')
      → (own : Met) (a : S) (b : Turn S) (met : Met) (a' : S) (rs' : List ℕ) (es' : List StreamEntry) → VisitDid m a own b.association → VisitedThen m (VisitsAll m now es) own es b met a' rs' es' → VisitDid m a met a'
  then_did now es rest Nothing a b met a' rs' es' v k = visit_join m w a b.association met a' v (rest b.association b.resets met a' rs' k.0 k.1)
  then_did now es rest Again a b met a' rs' es' v k = rw (k.0, k.1) v
  then_did now es rest (Output o) a b met a' rs' es' v k = rw (k.0, k.1) v
  then_did now es rest OutOfMemory a b met a' rs' es' v k = rw (k.0, k.1) v

  pub tour_did : (now : ℕ) (es : List StreamEntry) (a : S) (rs : List ℕ) (met : Met) (a' : S) (rs' : List ℕ) (es' : List StreamEntry) → VisitsAll m now es a rs met a' rs' es' → VisitDid m a met a'
  tour_did now [] a rs met a' rs' es' h = visit_none m w a met a' h.0 h.1
  tour_did now (e ∷ es) a rs met a' rs' es' h = then_did now es (tour_did now es) h.0 a h.1 met a' rs' es' (visit_did m w now (turn a e rs) h.0 h.1 h.2) h.3

  -- a step that changed nothing of the association and of what stands pushed back, and gave no data and no packets
  kept_did : (r : Met) (u : SctpStreams S) (p : SctpStreams S) (met : Met) (q : SctpStreams S) → met ≡ r → q ≡ u → u.association ≡ p.association → u.pushed ≡ p.pushed → p.completed ≡ resets_met r ++ u.completed → packets_met r ≡ [] → data_met r ≡ [] → PollDid m p met q
  kept_did r u p met q e f same pushed completed sent shown = record {
    outs = [];
    tells = [];
    wrote = [];
    heard = [];
    did = did_same m p.association q.association (ap (λ (x : SctpStreams S). x.association) f ∙ same);
    dcep = refl;
    sent_is = ap (λ l. l ++ pushed_packets q.pushed) (ap packets_met e ∙ sent) ∙ ap pushed_packets (ap (λ (x : SctpStreams S). x.pushed) f ∙ pushed) ∙ sym (append-nil (pushed_packets p.pushed));
    shown_is = ap data_met e ∙ shown;
    completed_is = completed ∙ ap (λ l. l ++ u.completed) (sym (ap resets_met e)) ∙ ap (λ (x : SctpStreams S). resets_met met ++ x.completed) (sym f);
  }

  -- a step that made work, or had nothing to give, and what follows
  poll_join : (own : Met) (p b : SctpStreams S) (met : Met) (q : SctpStreams S) → packets_met own ≡ [] → resets_met own ≡ [] → data_met own ≡ [] → PollDid m p own b → PollDid m b met q → PollDid m p met q
  poll_join own p b met q sent reset shown u v = record {
    outs = u.outs ++ v.outs;
    tells = u.tells ++ v.tells;
    wrote = u.wrote ++ v.wrote;
    heard = u.heard ++ v.heard;
    did = did_join m [] [] u.outs v.outs u.tells v.tells u.wrote v.wrote u.heard v.heard p.association b.association q.association u.did v.did;
    dcep = dcep_join u.wrote v.wrote u.dcep v.dcep;
    sent_is =
        v.sent_is
        ∙ ap (λ l. l ++ v.outs) (sym (ap (λ l. l ++ pushed_packets b.pushed) sent) ∙ u.sent_is)
        ∙ append_assoc (pushed_packets p.pushed) u.outs v.outs;
    shown_is = v.shown_is ∙ ap (λ l. l ++ shown_messages v.heard) (sym shown ∙ u.shown_is) ∙ sym (shown-append u.heard v.heard);
    completed_is =
        completed-append p.completed u.tells v.tells
        ∙ ap (λ l. completed_after l v.tells) (u.completed_is ∙ ap (λ l. l ++ b.completed) reset)
        ∙ v.completed_is;
  }

  -- packets
  packet_did : (p : SctpStreams S) (met : Met) (q : SctpStreams S) → p.pushed ≡ None → q ≡ record p { association = q.association } → TakesPacket m p.association met q.association → PollDid m p met q
  packet_did p Nothing q e f h = kept_did Nothing (record p { association = q.association }) p Nothing q refl f (w.packet_none p.association q.association h) refl refl refl refl
  packet_did p (Output (event.Transmit packets)) q e f h = record {
    outs = packet_polled (Some h.0);
    tells = [];
    wrote = [];
    heard = [];
    did = gave_did m w p.association q.association (Some h.0) h.1;
    dcep = refl;
    sent_is =
        ap (λ l. packets ++ l) (ap pushed_packets (ap (λ (x : SctpStreams S). x.pushed) f ∙ e)) ∙ append-nil packets ∙ h.2 ∙ ap (λ l. l ++ h.0 ∷ []) (sym (ap pushed_packets e));
    shown_is = refl;
    completed_is = ap (λ (x : SctpStreams S). x.completed) (sym f);
  }
  packet_did p (Output (event.Open id label)) q e f h = absurd h
  packet_did p (Output (event.Close id pending)) q e f h = absurd h
  packet_did p (Output (event.StreamResetComplete id)) q e f h = absurd h
  packet_did p (Output (event.Data id binary bytes)) q e f h = absurd h
  packet_did p (Output (event.BufferedAmountLow id)) q e f h = absurd h
  packet_did p (Output event.AssociationLost) q e f h = absurd h
  packet_did p Again q e f h = absurd h
  packet_did p OutOfMemory q e f h = kept_did OutOfMemory (record p { association = q.association }) p OutOfMemory q refl f h refl refl refl refl

  transmit_if : (b : Bool) (p : SctpStreams S) (met : Met) (q : SctpStreams S) → p.pushed ≡ None → TransmitIf m b p met q → PollDid m p met q
  transmit_if false p met q e h = kept_did _ _ p met q h.0 h.1 refl refl refl refl refl
  transmit_if true p met q e h = packet_did p met q e h.1 h.0

  back_did : (packets : List (List ℕ)) (p : SctpStreams S) (met : Met) (q : SctpStreams S) → p.pushed ≡ Some packets → met ≡ Output (event.Transmit packets) → q ≡ record p { pushed = None } → PollDid m p met q
  back_did packets p met q e f k = record {
    outs = [];
    tells = [];
    wrote = [];
    heard = [];
    did = did_same m p.association q.association (ap (λ (x : SctpStreams S). x.association) k);
    dcep = refl;
    sent_is = ap (λ l. l ++ pushed_packets q.pushed) (ap packets_met f) ∙ ap (λ l. packets ++ l) (ap pushed_packets (ap (λ (x : SctpStreams S). x.pushed) k)) ∙ ap (λ l. l ++ []) (sym (ap pushed_packets e));
    shown_is = ap data_met f;
    completed_is = ap (λ (x : SctpStreams S). x.completed) (sym k) ∙ ap (λ l. l ++ q.completed) (sym (ap resets_met f));
  }

  pub transmit_of : (o : Option (List (List ℕ))) (p : SctpStreams S) (met : Met) (q : SctpStreams S) → p.pushed ≡ o → TransmitOf m o p met q → PollDid m p met q
  transmit_of None p met q e h = transmit_if (m.started p.association) p met q e h
  transmit_of (Some packets) p met q e h = back_did packets p met q e h.0 h.1

  -- events
  pub event_sent : (e : AssocEvent) → packets_met (event_met e) ≡ []
  event_sent assoc.Connected = refl
  event_sent assoc.Lost = refl
  event_sent (assoc.Readable id) = refl
  event_sent (assoc.Writable id) = refl
  event_sent (assoc.Finished id) = refl
  event_sent (assoc.ResetComplete id) = refl
  event_sent (assoc.BufferedAmountLow id) = refl

  event_shown : (e : AssocEvent) → data_met (event_met e) ≡ []
  event_shown assoc.Connected = refl
  event_shown assoc.Lost = refl
  event_shown (assoc.Readable id) = refl
  event_shown (assoc.Writable id) = refl
  event_shown (assoc.Finished id) = refl
  event_shown (assoc.ResetComplete id) = refl
  event_shown (assoc.BufferedAmountLow id) = refl

  pub event_reset : (e : AssocEvent) → resets_met (event_met e) ≡ []
  event_reset assoc.Connected = refl
  event_reset assoc.Lost = refl
  event_reset (assoc.Readable id) = refl
  event_reset (assoc.Writable id) = refl
  event_reset (assoc.Finished id) = refl
  event_reset (assoc.ResetComplete id) = refl
  event_reset (assoc.BufferedAmountLow id) = refl

  event_completed : (e : AssocEvent) (b b' : Book) → AfterEvent e b b' → completed_after b.completed (e ∷ []) ≡ b'.completed
  event_completed assoc.Connected b b' h = ap (λ (x : Book). x.completed) (sym h)
  event_completed assoc.Lost b b' h = ap (λ (x : Book). x.completed) (sym h)
  event_completed (assoc.Readable id) b b' h = ap (λ (x : Book). x.completed) (sym h)
  event_completed (assoc.Writable id) b b' h = ap (λ (x : Book). x.completed) (sym h)
  event_completed (assoc.Finished id) b b' h = ap (λ (x : Book). x.completed) (sym h.1)
  event_completed (assoc.ResetComplete id) b b' h = ap (λ (x : Book). x.completed) (sym h)
  event_completed (assoc.BufferedAmountLow id) b b' h = ap (λ (x : Book). x.completed) (sym h)

  -- a step that was told these events
  told_step : (tells : List AssocEvent) (p : SctpStreams S) (met : Met) (q : SctpStreams S) → AssociationDid m [] [] tells [] [] p.association q.association → q.pushed ≡ p.pushed → packets_met met ≡ [] → resets_met met ≡ [] → data_met met ≡ [] → completed_after p.completed tells ≡ q.completed → PollDid m p met q
  told_step tells p met q d pushed sent reset shown completed = record {
    outs = [];
    tells = tells;
    wrote = [];
    heard = [];
    did = d;
    dcep = refl;
    sent_is = ap (λ l. l ++ pushed_packets q.pushed) sent ∙ ap pushed_packets pushed ∙ sym (append-nil (pushed_packets p.pushed));
    shown_is = shown;
    completed_is = completed ∙ ap (λ l. l ++ q.completed) (sym reset);
  }

  event_did : (p : SctpStreams S) (met : Met) (q : SctpStreams S) → q.pushed ≡ p.pushed → TakesEvent m p.association (book_of p) met q.association (book_of q) → PollDid m p met q
  event_did p met q f (NotStarted s e a b) = told_step [] p met q (did_same m p.association q.association a) f (ap packets_met e) (ap resets_met e) (ap data_met e) (ap (λ (x : Book). x.completed) (sym b))
  event_did p met q f (NoRoom e a b) = told_step [] p met q (did_same m p.association q.association a) f (ap packets_met e) (ap resets_met e) (ap data_met e) (ap (λ (x : Book). x.completed) (sym b))
  event_did p met q f (NoEvent s k e b) = told_step [] p met q (did_same m p.association q.association (w.event_none p.association q.association k)) f (ap packets_met e) (ap resets_met e) (ap data_met e) (ap (λ (x : Book). x.completed) (sym b))
  event_did p met q f (Event event s k e b) =
      told_step (event ∷ []) p met q (told_did m w p.association q.association event k) f (ap packets_met e ∙ event_sent event) (ap resets_met e ∙ event_reset event) (ap data_met e ∙ event_shown event) (event_completed event (book_of p) (book_of q) b)

  pub events_did : (p : SctpStreams S) (met : Met) (q : SctpStreams S) → HandlesEvent m p met q → PollDid m p met q
  events_did p met q h = event_did p met q (ap (λ (x : SctpStreams S). x.pushed) h.1) h.0

  -- visits
  visits_step : (p : SctpStreams S) (met : Met) (q : SctpStreams S) → q.pushed ≡ p.pushed → q.completed ≡ p.completed → VisitDid m p.association met q.association → PollDid m p met q
  visits_step p met q f k v = record {
    outs = [];
    tells = [];
    wrote = v.wrote;
    heard = v.heard;
    did = v.did;
    dcep = v.dcep;
    sent_is = ap (λ l. l ++ pushed_packets q.pushed) v.sent_is ∙ ap pushed_packets f ∙ sym (append-nil (pushed_packets p.pushed));
    shown_is = v.shown_is;
    completed_is = sym k ∙ ap (λ l. l ++ q.completed) (sym v.reset_is);
  }

  pub visits_if : (b : Bool) (p : SctpStreams S) (met : Met) (q : SctpStreams S) → VisitsIf m b p met q → PollDid m p met q
  visits_if false p met q h = kept_did _ _ p met q h.0 h.1 refl refl refl refl refl
  visits_if true p met q h = visits_step p met q (ap (λ (x : SctpStreams S). x.pushed) h.1) (ap (λ (x : SctpStreams S). x.completed) h.1) (tour_did p.last p.entries p.association p.resets met q.association q.resets q.entries h.0)

  completion_of : (l : List ℕ) (p : SctpStreams S) (met : Met) (q : SctpStreams S) → p.completed ≡ l → CompletionOf l p met q → PollDid m p met q
  completion_of [] p met q e h = kept_did _ _ p met q h.0 h.1 refl refl refl refl refl
  completion_of (id ∷ rest) p met q e h = kept_did _ _ p met q h.0 h.1 refl refl e refl refl

  else_did : (A B : SctpStreams S → Met → SctpStreams S → Type 0) → ((p : SctpStreams S) (met : Met) (q : SctpStreams S) → A p met q → PollDid m p met q) → ((p : SctpStreams S) (met : Met) (q : SctpStreams S) → B p met q → PollDid m p met q) → (p : SctpStreams S) (met : Met) (q : SctpStreams S) → Else A B p met q → PollDid m p met q
  else_did A B f g p met q h = then_step h.0 h.1.0 (f p h.0 h.1.0 h.1.1.0) h.1.1.1
    where
      then_step : (own : Met) (between : SctpStreams S) → PollDid m p own between → ThenBy B own between met q → PollDid m p met q
      then_step Nothing between d k = poll_join Nothing p between met q refl refl refl d (g between met q k)
      then_step Again between d k = rw (k.0, k.1) d
      then_step (Output e) between d k = rw (k.0, k.1) d
      then_step OutOfMemory between d k = rw (k.0, k.1) d

  steps_did : (p : SctpStreams S) (met : Met) (q : SctpStreams S) → TakesSteps m p met q → PollDid m p met q
  unfolding TakesSteps
  steps_did p met q h =
      poll_join Nothing p (unclosed_streams p) met q refl refl refl (kept_did Nothing (unclosed_streams p) p Nothing (unclosed_streams p) refl refl refl refl refl refl refl)
      (else_did _ _ (λ p met q k. transmit_of p.pushed p met q refl k)
      (else_did _ _ events_did
      (else_did _ _ (λ p met q k. visits_if (is_established p.state && m.started p.association) p met q k)
      (λ p met q k. completion_of p.completed p met q refl k)))
      (unclosed_streams p) met q h)

  pub pass_did : (p : SctpStreams S) (met : Met) (q : SctpStreams S) → MakesPass m p met q → PollDid m p met q
  unfolding MakesPass
  pass_did p met q h = by p.rests h
    where
      rests : (o : Option (List (List ℕ))) → p.pushed ≡ o → RestsBy o p met q → PollDid m p met q
      rests None e t = kept_did Nothing p p met q t.0 t.1 refl refl refl refl refl
      rests (Some packets) e t = transmit_of (Some packets) p met q e t

      by : (b : Bool) → PassIf m b p met q → PollDid m p met q
      by true t = rests p.pushed refl t.0
      by false t = steps_did p met q t

  over_did : (n : ℕ) (p q : SctpStreams S) → Over m n p q → PollDid m p Again q
  over_did zero p q h = kept_did Again p p Again q refl h refl refl refl refl refl
  over_did (suc n) p q h = poll_join Again p h.0 Again q refl refl refl (over_did n p h.0 h.1) (pass_did h.0 Again q h.2)

  pub met_by : (r : Result (Option SctpEvent) AllocError) (met : Met) → Answers r met → met ≡ met_of r
  met_by (Ok None) met h = h
  met_by (Ok (Some e)) met h = h
  met_by (Err x) met h = h

  pub poll_did : (p : SctpStreams S) (r : Result (Option SctpEvent) AllocError) (q : SctpStreams S) → PollsStreams m p r q → PollDid m p (met_of r) q
  poll_did p r q h =
      subst (λ (x : Met). PollDid m p x q) (met_by r h.met h.answers)
      (poll_join Again p h.between h.met q refl refl refl (over_did h.passes p h.between h.over) (pass_did h.between h.met q h.last))
