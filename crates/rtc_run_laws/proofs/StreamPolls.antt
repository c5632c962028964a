-- What a poll of streams leaves of entries whose opening is begun.
use Rattle.std.proofs.Common.{◌≡◌, ◌⊎◌, inl, inr, ℕ, zero, suc, ◌&&◌, Bool, true, false, true≢false, List, [], ◌∷◌, Option, Some, None, Result, refl, sym, ap, subst, ◌∙◌}
use Rattle.std.specs.declared.alloc.AllocError.{AllocError}
use Rattle.rtc_parts.specs.declared.assoc_event.AssocEvent.{AssocEvent}
use Rattle.rtc_parts.specs.declared.assoc_event.AssocEvent.TheVariants as assoc
use Rattle.rtc_parts.specs.AssociationMeaning.{AssociationMeaning}
use Rattle.rtc_parts.specs.AssociationLaws.{AssociationLaws}
use Rattle.rtc_sctp_entries.specs.declared.stream_entry.StreamEntry.{StreamEntry}
use Rattle.rtc_sctp_entries.specs.declared.sctp_event.SctpEvent.{SctpEvent}
use Rattle.rtc_sctp_entries.specs.declared.sctp_event.SctpEvent.TheVariants as event
use Rattle.rtc_sctp_entries.specs.declared.met.Met.{Met}
use Rattle.rtc_sctp_entries.specs.declared.met.Met.TheVariants.{Nothing, Again, Output, OutOfMemory}
use Rattle.rtc_sctp_entries.specs.Entries.{Ascend}
use Rattle.rtc_sctp.specs.declared.rtc_sctp_state.RtcSctpState.TheVariants.{Uninited, Established}
use Rattle.rtc_sctp.specs.Streams.{SctpStreams, is_established}
use Rattle.rtc_sctp.specs.Polls.{Book, book_of, event_met, AfterEvent, TakesPacket, Else, ThenBy, unclosed_streams, CompletionOf, TransmitIf, TransmitOf, TakesEvent, NotStarted, NoRoom, NoEvent, Event, VisitsIf, TakesSteps, RestsBy, PassIf, MakesPass, Over, PollsStreams}
use Rattle.rtc_sctp.proofs.OrderKept.{tour_ascend}
use Rattle.rtc_sctp_laws.specs.StreamMessages.{met_of}
use Rattle.rtc_sctp_laws.specs.StreamUses.{TellsStreamOpen}
use Rattle.rtc_sctp_laws.proofs.PollActs.{met_by}
use Rattle.rtc_run_laws.specs.OwnOpenings.{HasEntryOf, HasOpening}
use Rattle.rtc_run_laws.proofs.StandingVisits.{IsSilent, IsStanding, TellsStreamClosed, resting, starving}
use Rattle.rtc_run_laws.proofs.StandingEntries.{HasOutStanding, HasStanding, IsOutStanding, NoneClosed, AreBanded, Kept, kept_is, kept_after, kept_unclosed}
use Rattle.rtc_run_laws.proofs.StandingTours.{tour_goes}

-- no entry is closed before the association is begun
abbrev pub IsShutBefore : {S : Type 0} → SctpStreams S → Type 0
IsShutBefore p = p.state ≡ Uninited → NoneClosed p.entries

pub record StreamsGo {S : Type 0} (met : Met) (p q : SctpStreams S) : Type 0 where
  pub stands : (s : ℕ) → HasStanding s p.entries → HasStanding s q.entries ⊎ TellsStreamClosed met s
  pub outs : (s : ℕ) → HasOutStanding s p.entries → HasOutStanding s q.entries ⊎ TellsStreamClosed met s
  pub before : IsShutBefore p → IsShutBefore q
  pub banded : (s : ℕ) → AreBanded s p.entries → AreBanded s q.entries
  pub openings : (s : ℕ) → HasOpening s q.entries → HasOpening s p.entries
  pub ordered : Ascend p.entries → Ascend q.entries
  pub tells_open : (s : ℕ) → TellsStreamOpen met s → HasStanding s q.entries
  pub shut : (s : ℕ) → TellsStreamClosed met s → Ascend p.entries → HasOpening s q.entries → ⊥
  pub side : q.client ≡ p.client

pub go_kept : {S : Type 0} (met : Met) (p q : SctpStreams S) → IsSilent met → Kept p.entries q.entries → (q.state ≡ Uninited → p.state ≡ Uninited)
    → q.client ≡ p.client → StreamsGo met p q
go_kept met p q silent k back side = record {
  stands = λ s h. inl (k.stands s h);
  outs = λ s h. inl (k.outs s h);
  before = λ h e. k.shut (h (back e));
  banded = k.banded;
  openings = k.openings;
  ordered = k.ordered;
  tells_open = λ s told. absurd (silent.opens s told);
  shut = λ s told h opening. silent.closes s told;
  side = side;
}

go_same : {S : Type 0} (met : Met) (p n q : SctpStreams S) → IsSilent met → q ≡ n → n.entries ≡ p.entries → n.state ≡ p.state
    → n.client ≡ p.client → StreamsGo met p q
go_same {S} met p n q silent is entries state side =
    go_kept met p q silent (kept_is p.entries q.entries (ap (λ (x : SctpStreams S). x.entries) is ∙ entries))
    (λ e. sym (ap (λ (x : SctpStreams S). x.state) is ∙ state) ∙ e) (ap (λ (x : SctpStreams S). x.client) is ∙ side)

pub go_on : {S : Type 0} (own met : Met) (p b q : SctpStreams S) → ((s : ℕ) → TellsStreamClosed own s → ⊥) → StreamsGo own p b → StreamsGo met b q
    → StreamsGo met p q
go_on own met p b q silent h k = record {
  stands = λ s x. by IsStanding k.stands s (h.stands s x);
  outs = λ s x. by IsOutStanding k.outs s (h.outs s x);
  before = λ x. k.before (h.before x);
  banded = λ s x. k.banded s (h.banded s x);
  openings = λ s x. h.openings s (k.openings s x);
  ordered = λ x. k.ordered (h.ordered x);
  tells_open = k.tells_open;
  shut = λ s told x opening. k.shut s told (h.ordered x) opening;
  side = k.side ∙ h.side;
}
  where
    by : (P : StreamEntry → Type 0) → ((s : ℕ) → HasEntryOf P s b.entries → HasEntryOf P s q.entries ⊎ TellsStreamClosed met s) → (s : ℕ)
        → HasEntryOf P s b.entries ⊎ TellsStreamClosed own s → HasEntryOf P s q.entries ⊎ TellsStreamClosed met s
    by P goes s (inl x) = goes s x
    by P goes s (inr told) = absurd (silent s told)

-- an event
after_begun : (e : AssocEvent) (b b' : Book) → AfterEvent e b b' → b'.state ≡ Uninited → b.state ≡ Uninited
after_begun assoc.Connected b b' h e =
    let clash : Established ≡ Uninited = sym (ap (λ (x : Book). x.state) h) ∙ e in absurd (established_not clash)
  where
    established_not : Established ≡ Uninited → ⊥
    established_not k = cc
after_begun assoc.Lost b b' h e = sym (ap (λ (x : Book). x.state) h) ∙ e
after_begun (assoc.Readable id) b b' h e = sym (ap (λ (x : Book). x.state) h) ∙ e
after_begun (assoc.Writable id) b b' h e = sym (ap (λ (x : Book). x.state) h) ∙ e
after_begun (assoc.Finished id) b b' h e = sym (ap (λ (x : Book). x.state) h.1) ∙ e
after_begun (assoc.ResetComplete id) b b' h e = sym (ap (λ (x : Book). x.state) h) ∙ e
after_begun (assoc.BufferedAmountLow id) b b' h e = sym (ap (λ (x : Book). x.state) h) ∙ e

silent_again : IsSilent Again
silent_again = record { opens = λ s told. told; closes = λ s told. told }

-- events tell of no stream
silent_event : (e : AssocEvent) → IsSilent (event_met e)
silent_event assoc.Connected = silent_again
silent_event assoc.Lost = record { opens = λ s told. told; closes = λ s told. told }
silent_event (assoc.Readable id) = silent_again
silent_event (assoc.Writable id) = silent_again
silent_event (assoc.Finished id) = silent_again
silent_event (assoc.ResetComplete id) = silent_again
silent_event (assoc.BufferedAmountLow id) = record { opens = λ s told. told; closes = λ s told. told }

silent_is : (met r : Met) → met ≡ r → IsSilent r → IsSilent met
silent_is met r is h = subst (λ (x : Met). IsSilent x) (sym is) h

module _ {S : Type 0} (m : AssociationMeaning S) where
  -- a packet tells of none either
  silent_packet : (p : S) (met : Met) (q : S) → TakesPacket m p met q → IsSilent met
  silent_packet p Nothing q h = resting
  silent_packet p (Output (event.Transmit packets)) q h = record { opens = λ s told. told; closes = λ s told. told }
  silent_packet p (Output e) q h = absurd h
  silent_packet p Again q h = absurd h
  silent_packet p OutOfMemory q h = starving

  same_book : (met : Met) (p q : SctpStreams S) → IsSilent met → book_of q ≡ book_of p → q.client ≡ p.client → StreamsGo met p q
  same_book met p q silent is side =
      go_kept met p q silent (kept_is p.entries q.entries (ap (λ (x : Book). x.entries) is)) (λ e. sym (ap (λ (x : Book). x.state) is) ∙ e) side

  event_goes : (p : SctpStreams S) (met : Met) (q : SctpStreams S) → TakesEvent m p.association (book_of p) met q.association (book_of q)
      → q.client ≡ p.client → StreamsGo met p q
  event_goes p met q (NotStarted s e a b) side = same_book met p q (silent_is met Nothing e resting) b side
  event_goes p met q (NoRoom e a b) side = same_book met p q (silent_is met OutOfMemory e starving) b side
  event_goes p met q (NoEvent begun k e b) side = same_book met p q (silent_is met Nothing e resting) b side
  event_goes p met q (Event event begun k e b) side =
      go_kept met p q (silent_is met (event_met event) e (silent_event event)) (kept_after event (book_of p) (book_of q) b)
      (after_begun event (book_of p) (book_of q) b) side

  transmit_goes : (o : Option (List (List ℕ))) (p : SctpStreams S) (met : Met) (q : SctpStreams S) → TransmitOf m o p met q → StreamsGo met p q
  transmit_goes (Some packets) p met q h =
      go_same met p (record p { pushed = None }) q
      (silent_is met (Output (event.Transmit packets)) h.0 (record { opens = λ s told. told; closes = λ s told. told })) h.1 refl refl refl
  transmit_goes None p met q h = by (m.started p.association) h
    where
      by : (b : Bool) → TransmitIf m b p met q → StreamsGo met p q
      by false k = go_same met p p q (silent_is met Nothing k.0 resting) k.1 refl refl refl
      by true k =
          go_same met p (record p { association = q.association }) q (silent_packet p.association met q.association k.0) k.1 refl refl refl

  completion_goes : (l : List ℕ) (p : SctpStreams S) (met : Met) (q : SctpStreams S) → CompletionOf l p met q → StreamsGo met p q
  completion_goes [] p met q h = go_same met p (record p { rests = true }) q (silent_is met Nothing h.0 resting) h.1 refl refl refl
  completion_goes (id ∷ rest) p met q h =
      go_same met p (record p { completed = rest }) q
      (silent_is met (Output (event.StreamResetComplete id)) h.0 (record { opens = λ s told. told; closes = λ s told. told })) h.1 refl refl refl

  -- entries are visited where the association is established
  not_before : (a b : Bool) → (a && b) ≡ true → a ≡ false → ⊥
  not_before true b h e = true≢false e
  not_before false b h e = true≢false (sym h)

  visits_go : (b : Bool) (p : SctpStreams S) (met : Met) (q : SctpStreams S) → (is_established p.state && m.started p.association) ≡ b
      → VisitsIf m b p met q → StreamsGo met p q
  visits_go false p met q is h = go_same met p p q (silent_is met Nothing h.0 resting) h.1 refl refl refl
  visits_go true p met q is h =
      let tour = tour_goes m p.last p.entries p.association p.resets met q.association q.resets q.entries h.0 in
      record {
        stands = tour.stands;
        outs = tour.outs;
        before = λ x e.
            absurd
            (not_before (is_established p.state) (m.started p.association) is
            (ap is_established (sym (ap (λ (y : SctpStreams S). y.state) h.1) ∙ e)));
        banded = tour.banded;
        openings = tour.openings;
        ordered = λ x. tour_ascend m p.last 0 p.entries p.association p.resets met q.association q.resets q.entries h.0 x;
        tells_open = tour.tells_open;
        shut = λ s told x opening. tour.shut s 0 told x opening;
        side = ap (λ (y : SctpStreams S). y.client) h.1;
      }

  else_goes : (A B : SctpStreams S → Met → SctpStreams S → Type 0) → ((p : SctpStreams S) (met : Met) (q : SctpStreams S) → A p met q → StreamsGo met p q)
      → ((p : SctpStreams S) (met : Met) (q : SctpStreams S) → B p met q → StreamsGo met p q) → (p : SctpStreams S) (met : Met) (q : SctpStreams S)
      → Else A B p met q → StreamsGo met p q
  else_goes A B f g p met q h = then_step h.0 h.1.0 (f p h.0 h.1.0 h.1.1.0) h.1.1.1
    where
      then_step : (own : Met) (between : SctpStreams S) → StreamsGo own p between → ThenBy B own between met q → StreamsGo met p q
      then_step Nothing between d k = go_on Nothing met p between q (λ s told. told) d (g between met q k)
      then_step Again between d k = rw (k.0, k.1) d
      then_step (Output e) between d k = rw (k.0, k.1) d
      then_step OutOfMemory between d k = rw (k.0, k.1) d

  dropped : (p : SctpStreams S) → StreamsGo Nothing p (unclosed_streams p)
  dropped p = go_kept Nothing p (unclosed_streams p) resting (kept_unclosed p.entries) (λ e. e) refl

  -- streams at rest
  rests_go : (o : Option (List (List ℕ))) (p : SctpStreams S) (met : Met) (q : SctpStreams S) → RestsBy o p met q → StreamsGo met p q
  rests_go None p met q h = go_same met p p q (silent_is met Nothing h.0 resting) h.1 refl refl refl
  rests_go (Some packets) p met q h = transmit_goes (Some packets) p met q h

  pass_if : (b : Bool) (p : SctpStreams S) (met : Met) (q : SctpStreams S) → PassIf m b p met q → StreamsGo met p q
  unfolding TakesSteps
  pass_if true p met q h = rests_go p.pushed p met q h.0
  pass_if false p met q h =
      go_on Nothing met p (unclosed_streams p) q (λ s told. told) (dropped p)
      (else_goes _ _ (λ p met q k. transmit_goes p.pushed p met q k)
      (else_goes _ _ (λ p met q k. event_goes p met q k.0 (ap (λ (y : SctpStreams S). y.client) k.1))
      (else_goes _ _ (λ p met q k. visits_go (is_established p.state && m.started p.association) p met q refl k)
      (λ p met q k. completion_goes p.completed p met q k)))
      (unclosed_streams p) met q h)

  pass_goes : (p : SctpStreams S) (met : Met) (q : SctpStreams S) → MakesPass m p met q → StreamsGo met p q
  unfolding MakesPass
  pass_goes p met q h = pass_if p.rests p met q h

  over_goes : (n : ℕ) (p q : SctpStreams S) → Over m n p q → StreamsGo Again p q
  over_goes zero p q h = go_same Again p p q silent_again h refl refl refl
  over_goes (suc n) p q h = go_on Again Again p h.0 q (λ s told. told) (over_goes n p h.0 h.1) (pass_goes h.0 Again q h.2)

  pub poll_goes : AssociationLaws m → (p : SctpStreams S) (r : Result (Option SctpEvent) AllocError) (q : SctpStreams S) → PollsStreams m p r q
      → StreamsGo (met_of r) p q
  poll_goes w p r q h =
      subst (λ (x : Met). StreamsGo x p q) (met_by m w r h.met h.answers)
      (go_on Again h.met p h.between q (λ s told. told) (over_goes h.passes p h.between h.over) (pass_goes h.between h.met q h.last))
