-- A stream that a poll of streams tells to be open has an open entry then, and is there.
use Rattle.std.proofs.Common.{◌≡◌, ◌∙◌, inl, inr, ℕ, ◌&&◌, not, Bool, true, false, true≢false, List, [], ◌∷◌, Option, Some, None, Result, Ok, Err, refl, sym, ap, subst}
use Rattle.rtc_wire.specs.declared.reliability_type.ReliabilityType.{ReliabilityType}
use Rattle.rtc_parts.specs.declared.assoc_error.AssocError.{AssocError}
use Rattle.rtc_parts.specs.declared.assoc_error.AssocError.TheVariants.{StreamExists, ResetPending, NoStream, TooLong, Closing, Fault, Alloc}
use Rattle.rtc_parts.specs.declared.assoc_event.AssocEvent.{AssocEvent}
use Rattle.rtc_parts.specs.declared.assoc_event.AssocEvent.TheVariants as assoc
use Rattle.rtc_parts.specs.AssociationLaws.{AssociationLaws}
use Rattle.rtc_parts.specs.AssociationMeaning.{AssociationMeaning}
use Rattle.rtc_parts.specs.AssociationNeeds.{need}
use Rattle.rtc_sctp_entries.specs.declared.asked.Asked.{Asked}
use Rattle.rtc_sctp_entries.specs.declared.asked.Asked.TheVariants as did
use Rattle.rtc_sctp_entries.specs.declared.opening.Opening.{Opening}
use Rattle.rtc_sctp_entries.specs.declared.opening.Opening.TheVariants as opened
use Rattle.rtc_sctp_entries.specs.declared.stream_entry_state.StreamEntryState.{StreamEntryState}
use Rattle.rtc_sctp_entries.specs.declared.stream_entry_state.StreamEntryState.TheVariants.{AwaitOpen, AwaitConfig, AwaitDcepAck, Open, Closed}
use Rattle.rtc_sctp_entries.specs.declared.stream_entry.StreamEntry.{StreamEntry}
use Rattle.rtc_sctp_entries.specs.declared.sctp_event.SctpEvent.TheVariants as event
use Rattle.rtc_sctp_entries.specs.declared.met.Met.{Met}
use Rattle.rtc_sctp_entries.specs.declared.met.Met.TheVariants.{Nothing, Again, Output, OutOfMemory}
use Rattle.rtc_sctp_entries.specs.Answers.{asked_of}
use Rattle.rtc_sctp_entries.specs.Entries.{fits_generation, is_out_of_band, is_short_entry}
use Rattle.rtc_sctp_entries.specs.Visits.{Turn, turn, is_opening_over, ClosedBy, Closes, NoRoom, Ended, AnnouncedBy, Announces, NoMessage, Written, AnnouncesIf, BegunAs, BegunBy, Begins, RetriedIf, RetriedAt, is_adopted, AdoptedIf, OpenedBy, AttendsIf, is_entry_there, VisitsIn, Visits}
use Rattle.rtc_sctp.specs.Polls.{CompletionOf, Else, Event, GivesCompletion, GivesTransmit, HandlesEvent, TakesSteps, RestsBy, PassIf, MakesPass, NoEvent, NoRoom as NoRoomLeft, NotStarted, PollsStreams, TakesEvent, TakesPacket, ThenBy, TransmitIf, TransmitOf, VisitedThen, VisitsAll, VisitsEntries, VisitsIf, book_of, event_met, unclosed_streams}
use Rattle.rtc_sctp.specs.Streams.{SctpStreams, is_established}
use Rattle.rtc_sctp_laws.specs.GenerationLaws.{GenerationLaws}
use Rattle.rtc_sctp_laws.specs.MuteGenerations.{IsOpenEntry}
use Rattle.rtc_sctp_laws.specs.StreamUses.{TellsStreamOpen}
use Rattle.rtc_sctp_laws.proofs.ActLemmas.{reliability_did}
use Rattle.rtc_sctp_laws.proofs.KeptUses.{did_keeps}
use Rattle.rtc_sctp_laws.proofs.UsedReadings.{visit_uses}
use Rattle.rtc_run_laws.specs.OwnOpenings.{HasEntryOf}
use Rattle.rtc_run_laws.proofs.StandingReadings.{visit_goes}

no_cause : (e : AssocError) → Some e ≡ None → ⊥
no_cause e h = cc

refused_done : did.Refused ≡ did.Done → ⊥
refused_done h = cc

starved_done : did.OutOfMemory ≡ did.Done → ⊥
starved_done h = cc

-- what is refused only where the stream is not there
need_there : (there : Bool) → need (not there) NoStream None ≡ None → there ≡ true
need_there true h = refl
need_there false h = absurd (no_cause NoStream h)

and_left : (a b : Bool) → (a && b) ≡ true → a ≡ true
and_left true b h = refl
and_left false b h = absurd (true≢false (sym h))

-- a stream is there, and has an open entry
abbrev pub IsOpenedThere : {S : Type 0} → AssociationMeaning S → (stream : ℕ) → S → List StreamEntry → Type 0
IsOpenedThere m s a es = (m.has_stream a s ≡ true) × HasEntryOf IsOpenEntry s es

module _ {S : Type 0} (m : AssociationMeaning S) (w : AssociationLaws m) (v : GenerationLaws m) (s : ℕ) where
  -- what is met tells no stream to be open
  untold : (met r : Met) → met ≡ r → (TellsStreamOpen r s → ⊥) → TellsStreamOpen met s → ⊥
  untold met r is none told = none (subst (λ (x : Met). TellsStreamOpen x s) is told)

  closed_not : (answer : Asked) (t : Turn S) (met : Met) (t' : Turn S) → ClosedBy m answer t met t' → TellsStreamOpen met s → ⊥
  closed_not did.Done t met t' h told = untold met _ h.0 (λ k. k) told
  closed_not did.Refused t met t' h told = untold met _ h.0 (λ k. k) told
  closed_not did.OutOfMemory t met t' h told = untold met _ h.0 (λ k. k) told

  closes_not : (t : Turn S) (met : Met) (t' : Turn S) → Closes m t met t' → TellsStreamOpen met s → ⊥
  closes_not t met t' (NoRoom h) told = untold met _ h.0 (λ k. k) told
  closes_not t met t' (Ended answer q k h) told = closed_not answer (record t { association = q }) met t' h told

  announced_not : (answer : Asked) (t : Turn S) (met : Met) (t' : Turn S) → AnnouncedBy m answer t met t' → TellsStreamOpen met s → ⊥
  announced_not did.Done t met t' h told = untold met _ h.0 (λ k. k) told
  announced_not did.Refused t met t' h told = closes_not t met t' h told
  announced_not did.OutOfMemory t met t' h told = untold met _ h.0 (λ k. k) told

  announces_not : (b : Bool) (t : Turn S) (met : Met) (t' : Turn S) → AnnouncesIf m b t met t' → TellsStreamOpen met s → ⊥
  announces_not false t met t' h told = closes_not t met t' h told
  announces_not true t met t' h told = by h
    where
      by : Announces m t met t' → ⊥
      by (NoMessage k) = untold met _ k.0 (λ x. x) told
      by (Written answer q k x) = announced_not answer (record t { association = q }) met t' x told

  -- a stream gets its reliability where it is there
  reliable_there : (a b : S) (n : ℕ) (unordered : Bool) (kind : ReliabilityType) (value : ℕ) (r : Result (Unit {0}) AssocError) → m.reliability_set a n unordered kind value r b
      → asked_of r ≡ did.Done → m.has_stream b n ≡ true
  reliable_there a b n unordered kind value (Ok x) h is =
      (did_keeps m v n [] [] [] [] a b (reliability_did m a b n unordered kind value (Ok x) h)).there
      (need_there (m.has_stream a n) (w.reliability_answer a b n unordered kind value (Ok x) h).0)
  reliable_there a b n unordered kind value (Err StreamExists) h is = absurd (refused_done is)
  reliable_there a b n unordered kind value (Err ResetPending) h is = absurd (refused_done is)
  reliable_there a b n unordered kind value (Err NoStream) h is = absurd (refused_done is)
  reliable_there a b n unordered kind value (Err TooLong) h is = absurd (refused_done is)
  reliable_there a b n unordered kind value (Err Closing) h is = absurd (refused_done is)
  reliable_there a b n unordered kind value (Err Fault) h is = absurd (refused_done is)
  reliable_there a b n unordered kind value (Err Alloc) h is = absurd (starved_done is)

  begun_as_there : (b : Bool) (t : Turn S) (met : Met) (t' : Turn S) → BegunAs m b t met t' → m.has_stream t.association t.entry.id ≡ true → TellsStreamOpen met s
      → m.has_stream t'.association t.entry.id ≡ true
  begun_as_there true t met t' h there told = ap (λ (x : Turn S). m.has_stream x.association t.entry.id) h.1 ∙ there
  begun_as_there false t met t' h there told = absurd (announces_not (is_short_entry t.entry) t met t' h told)

  begins_there : (t : Turn S) (met : Met) (t' : Turn S) → Begins m t met t' → TellsStreamOpen met s → m.has_stream t'.association t.entry.id ≡ true
  begins_there t met t' h told = by h.answer h.asks.is h.then
    where
      by : (answer : Asked) → asked_of h.asks.result ≡ answer → BegunBy m answer (record t { association = h.between }) met t' → m.has_stream t'.association t.entry.id ≡ true
      by did.Done is next =
          begun_as_there (is_out_of_band t.entry) (record t { association = h.between }) met t' next
          (reliable_there t.association h.between t.entry.id _ _ _ h.asks.result h.asks.called is) told
      by did.Refused is next = absurd (closes_not (record t { association = h.between }) met t' next told)
      by did.OutOfMemory is next = absurd (untold met _ next.0 (λ k. k) told)

  retried_not : (now : ℕ) (first : Option ℕ) (t : Turn S) (met : Met) (t' : Turn S) → RetriedAt m now first t met t' → TellsStreamOpen met s → ⊥
  retried_not now None t met t' h told = untold met _ h.0 (λ k. k) told
  retried_not now (Some first) t met t' h told = by (is_opening_over first now) h
    where
      by : (b : Bool) → RetriedIf m b t met t' → ⊥
      by true k = closes_not t met t' k told
      by false k = untold met _ k.0 (λ x. x) told

  adopted_there : (b : Bool) (now : ℕ) (t : Turn S) (met : Met) (t' : Turn S) → AdoptedIf m b now t met t' → TellsStreamOpen met s → m.has_stream t'.association t.entry.id ≡ true
  adopted_there true now t met t' h told = begins_there t met t' h told
  adopted_there false now t met t' h told = absurd (retried_not now t.entry.refused t met t' h told)

  opened_there : (answer : Opening) (now : ℕ) (t : Turn S) (met : Met) (t' : Turn S) → OpenedBy m answer now t met t' → TellsStreamOpen met s → m.has_stream t'.association t.entry.id ≡ true
  opened_there opened.Done now t met t' h told = begins_there t met t' h told
  opened_there opened.Exists now t met t' h told = adopted_there (is_adopted m t) now t met t' h told
  opened_there opened.Pending now t met t' h told = absurd (retried_not now t.entry.refused t met t' h told)
  opened_there opened.Refused now t met t' h told = absurd (closes_not t met t' h told)
  opened_there opened.OutOfMemory now t met t' h told = absurd (untold met _ h.0 (λ k. k) told)

  -- an entry past its opening is attended where its stream is there
  attends_there : (marked there : Bool) (t : Turn S) (met : Met) (t' : Turn S) → is_entry_there m t.association t.entry ≡ there → AttendsIf m marked there t met t'
      → TellsStreamOpen met s → m.has_stream t.association t.entry.id ≡ true
  attends_there true there t met t' is h told = absurd (closes_not t met t' h told)
  attends_there false false t met t' is h told = absurd (untold met _ h.0 (λ k. k) told)
  attends_there false true t met t' is h told =
      and_left (m.has_stream t.association t.entry.id) (fits_generation t.entry.generation (m.generation t.association t.entry.id)) is

  visit_there : (now : ℕ) (t : Turn S) (met : Met) (t' : Turn S) → Visits m now t met t' → TellsStreamOpen met s → m.has_stream t'.association t.entry.id ≡ true
  visit_there now t met t' h told = by t.entry.state h
    where
      kept : m.has_stream t.association t.entry.id ≡ true → m.has_stream t'.association t.entry.id ≡ true
      kept there =
          let used = visit_uses m w now t met t' h in
          (did_keeps m v t.entry.id [] [] used.did.wrote used.did.heard t.association t'.association used.did.did).there there

      attended : AttendsIf m t.entry.marked (is_entry_there m t.association t.entry) t met t' → m.has_stream t'.association t.entry.id ≡ true
      attended k = kept (attends_there t.entry.marked (is_entry_there m t.association t.entry) t met t' refl k told)

      by : (st : StreamEntryState) → VisitsIn m st now t met t' → m.has_stream t'.association t.entry.id ≡ true
      by AwaitOpen k = opened_there k.answer now (record t { association = k.between }) met t' k.then told
      by AwaitConfig k = attended k
      by AwaitDcepAck k = attended k
      by Open k = attended k
      by Closed k = absurd (untold met _ k.0 (λ x. x) told)

  there_is : (a a' : S) (es es' : List StreamEntry) → a' ≡ a → es' ≡ es → IsOpenedThere m s a es → IsOpenedThere m s a' es'
  there_is a a' es es' same is h = rw (same, is) h

  tour_there : (now : ℕ) (es : List StreamEntry) (a : S) (rs : List ℕ) (met : Met) (a' : S) (rs' : List ℕ) (es' : List StreamEntry)
      → VisitsAll m now es a rs met a' rs' es' → TellsStreamOpen met s → IsOpenedThere m s a' es'
  tour_there now [] a rs met a' rs' es' h told = absurd (untold met _ h.0 (λ k. k) told)
  tour_there now (e ∷ es) a rs met a' rs' es' h told = by h.0 h.2 h.3 (tour_there now es)
    where
      by : (own : Met) → Visits m now (turn a e rs) own h.1 → VisitedThen m (VisitsAll m now es) own es h.1 met a' rs' es'
          → ((a : S) (rs : List ℕ) (met : Met) (a' : S) (rs' : List ℕ) (es' : List StreamEntry) → VisitsAll m now es a rs met a' rs' es' → TellsStreamOpen met s → IsOpenedThere m s a' es')
          → IsOpenedThere m s a' es'
      by Nothing visit k rest =
          let more = rest h.1.association h.1.resets met a' rs' k.0 k.1 told in
          there_is a' a' (h.1.entry ∷ k.0) es' refl k.2 (more.0, inr more.1)
      by Again visit k rest = absurd (untold met _ k.0 (λ x. x) told)
      by OutOfMemory visit k rest = absurd (untold met _ k.0 (λ x. x) told)
      by (Output o) visit k rest =
          let mine : TellsStreamOpen (Output o) s = subst (λ (x : Met). TellsStreamOpen x s) k.0 told in
          let goes = visit_goes m now (turn a e rs) (Output o) h.1 visit in
          let open_now = goes.tells_open s mine in
          there_is h.1.association a' (h.1.entry ∷ es) es' k.1 k.3
          (subst (λ (n : ℕ). m.has_stream h.1.association n ≡ true) (sym goes.id_is ∙ open_now.0) (visit_there now (turn a e rs) (Output o) h.1 visit mine), inl open_now)

  -- ---- a poll

  abbrev Tells : (SctpStreams S → Met → SctpStreams S → Type 0) → Type 0
  Tells step = (p : SctpStreams S) (met : Met) (q : SctpStreams S) → step p met q → TellsStreamOpen met s → IsOpenedThere m s q.association q.entries

  then_tells : (first next : SctpStreams S → Met → SctpStreams S → Type 0) → Tells first → Tells next → (own : Met) (p between : SctpStreams S)
      (met : Met) (q : SctpStreams S) → first p own between → ThenBy next own between met q → TellsStreamOpen met s → IsOpenedThere m s q.association q.entries
  then_tells first next one other Nothing p between met q h k told = other between met q k told
  then_tells first next one other Again p between met q h k told = absurd (untold met _ k.0 (λ x. x) told)
  then_tells first next one other (Output e) p between met q h k told =
      subst (λ (x : SctpStreams S). IsOpenedThere m s x.association x.entries) (sym k.1)
      (one p (Output e) between h (subst (λ (x : Met). TellsStreamOpen x s) k.0 told))
  then_tells first next one other OutOfMemory p between met q h k told = absurd (untold met _ k.0 (λ x. x) told)

  else_tells : (first next : SctpStreams S → Met → SctpStreams S → Type 0) → Tells first → Tells next → Tells (Else first next)
  else_tells first next one other p met q h told = then_tells first next one other h.0 p h.1.0 met q h.1.1.0 h.1.1.1 told

  packet_tells : (a : S) (met : Met) (b : S) → TakesPacket m a met b → TellsStreamOpen met s → ⊥
  packet_tells a Nothing b h told = told
  packet_tells a Again b h told = told
  packet_tells a OutOfMemory b h told = told
  packet_tells a (Output (event.Transmit packets)) b h told = told
  packet_tells a (Output (event.Open id label)) b h told = h
  packet_tells a (Output (event.Close id pending)) b h told = told
  packet_tells a (Output (event.StreamResetComplete id)) b h told = told
  packet_tells a (Output (event.Data id binary bytes)) b h told = told
  packet_tells a (Output (event.BufferedAmountLow id)) b h told = told
  packet_tells a (Output event.AssociationLost) b h told = told

  event_tells : (e : AssocEvent) → TellsStreamOpen (event_met e) s → ⊥
  event_tells assoc.Connected h = h
  event_tells assoc.Lost h = h
  event_tells (assoc.Readable id) h = h
  event_tells (assoc.Writable id) h = h
  event_tells (assoc.Finished id) h = h
  event_tells (assoc.ResetComplete id) h = h
  event_tells (assoc.BufferedAmountLow id) h = h

  transmit_tells : (pushed : Option (List (List ℕ))) (p : SctpStreams S) (met : Met) (q : SctpStreams S) → TransmitOf m pushed p met q
      → TellsStreamOpen met s → ⊥
  transmit_tells (Some packets) p met q h told = untold met _ h.0 (λ x. x) told
  transmit_tells None p met q h told = by (m.started p.association) h
    where
      by : (b : Bool) → TransmitIf m b p met q → ⊥
      by false k = untold met _ k.0 (λ x. x) told
      by true k = packet_tells p.association met q.association k.0 told

  handled_tells : (p : SctpStreams S) (met : Met) (q : SctpStreams S) → TakesEvent m p.association (book_of p) met q.association (book_of q)
      → TellsStreamOpen met s → ⊥
  handled_tells p met q (NotStarted fresh is same book) told = untold met _ is (λ x. x) told
  handled_tells p met q (NoRoomLeft is same book) told = untold met _ is (λ x. x) told
  handled_tells p met q (NoEvent started polled is book) told = untold met _ is (λ x. x) told
  handled_tells p met q (Event e started polled is after) told = untold met _ is (event_tells e) told

  visits_tell : (b : Bool) (p : SctpStreams S) (met : Met) (q : SctpStreams S) → VisitsIf m b p met q → TellsStreamOpen met s → IsOpenedThere m s q.association q.entries
  visits_tell false p met q h told = absurd (untold met _ h.0 (λ x. x) told)
  visits_tell true p met q h told = tour_there p.last p.entries p.association p.resets met q.association q.resets q.entries h.0 told

  completion_tells : (completed : List ℕ) (p : SctpStreams S) (met : Met) (q : SctpStreams S) → CompletionOf completed p met q → TellsStreamOpen met s → ⊥
  completion_tells [] p met q h told = untold met _ h.0 (λ x. x) told
  completion_tells (id ∷ rest) p met q h told = untold met _ h.0 (λ x. x) told

  steps_tell : (p : SctpStreams S) (met : Met) (q : SctpStreams S) → TakesSteps m p met q → TellsStreamOpen met s → IsOpenedThere m s q.association q.entries
  unfolding TakesSteps
  steps_tell p met q h told =
      else_tells (GivesTransmit m) _ (λ p met q k o. absurd (transmit_tells p.pushed p met q k o))
      (else_tells (HandlesEvent m) _ (λ p met q k o. absurd (handled_tells p met q k.0 o))
      (else_tells (VisitsEntries m) GivesCompletion (λ p met q k o. visits_tell (is_established p.state && m.started p.association) p met q k o)
      (λ p met q k o. absurd (completion_tells p.completed p met q k o)))) (unclosed_streams p) met q h told

  pass_tells : (p : SctpStreams S) (met : Met) (q : SctpStreams S) → MakesPass m p met q → TellsStreamOpen met s → IsOpenedThere m s q.association q.entries
  unfolding MakesPass
  pass_tells p met q h told = by p.rests h
    where
      rests : (o : Option (List (List ℕ))) → RestsBy o p met q → IsOpenedThere m s q.association q.entries
      rests None t = absurd (untold met _ t.0 (λ x. x) told)
      rests (Some packets) t = absurd (transmit_tells (Some packets) p met q t told)

      by : (b : Bool) → PassIf m b p met q → IsOpenedThere m s q.association q.entries
      by true t = rests p.pushed t.0
      by false t = steps_tell p met q t told

  pub poll_there : (p : SctpStreams S) (label : List ℕ) (q : SctpStreams S) → PollsStreams m p (Ok (Some (event.Open s label))) q
      → IsOpenedThere m s q.association q.entries
  poll_there p label q h = pass_tells h.between h.met q h.last (subst (λ (x : Met). TellsStreamOpen x s) (sym h.answers) refl)
