-- What a poll of streams leaves of one whose entry says of a generation that data of it was told.
use Rattle.std.proofs.Common.{◌≡◌, ◌∙◌, ◌⊎◌, inl, inr, ℕ, zero, suc, ◌&&◌, Bool, true, false, true≢false, List, [], ◌∷◌, Option, Some, None, Result, refl, sym, ap, subst}
use Rattle.std.specs.declared.alloc.AllocError.{AllocError}
use Rattle.rtc_parts.specs.AssociationLaws.{AssociationLaws}
use Rattle.rtc_parts.specs.AssociationMeaning.{AssociationMeaning}
use Rattle.rtc_sctp_entries.specs.declared.sctp_event.SctpEvent.{SctpEvent}
use Rattle.rtc_sctp_entries.specs.declared.sctp_event.SctpEvent.TheVariants as event
use Rattle.rtc_sctp_entries.specs.declared.met.Met.{Met}
use Rattle.rtc_sctp_entries.specs.declared.met.Met.TheVariants.{Nothing, Again, Output, OutOfMemory}
use Rattle.rtc_sctp.specs.Streams.{SctpStreams, is_established}
use Rattle.rtc_sctp.specs.Polls.{Book, book_of, TakesPacket, Else, ThenBy, unclosed_streams, CompletionOf, GivesCompletion, GivesTransmit, HandlesEvent, VisitsEntries, TransmitIf, TransmitOf, TakesEvent, NotStarted, NoRoom, NoEvent, Event, VisitsIf, TakesSteps, RestsBy, PassIf, MakesPass, Over, PollsStreams}
use Rattle.rtc_sctp_laws.specs.GenerationLaws.{GenerationLaws}
use Rattle.rtc_sctp_laws.specs.StreamMessages.{met_of}
use Rattle.rtc_sctp_laws.proofs.ActLemmas.{gave_did}
use Rattle.rtc_sctp_laws.proofs.PollActs.{met_by}
use Rattle.rtc_run_laws.proofs.CompletingVisits.{TellsClose}
use Rattle.rtc_run_laws.proofs.UnendedStreams.{unended_did, unended_told}
use Rattle.rtc_run_laws.proofs.UnendedTours.{HasSaid, Leaves, said_is, said_now, said_on, tour_says}
use Rattle.rtc_run_laws.proofs.UnendedEvents.{after_event, event_nothing, event_open, said_unclosed}

module _ {S : Type 0} (m : AssociationMeaning S) (g : ℕ) where
  module _ (w : AssociationLaws m) (v : GenerationLaws m) (s : ℕ) where
    abbrev IsSaid : SctpStreams S → Type 0
    IsSaid p = HasSaid m g s p.association p.entries

    abbrev pub LeavesSaid : Met → SctpStreams S → Type 0
    LeavesSaid met q = Leaves m g s met q.association q.entries

    -- a step that tells nothing of the stream
    quiet : (met : Met) (q : SctpStreams S) → ((label : List ℕ) → met ≡ Output (event.Open s label) → ⊥) → IsSaid q → LeavesSaid met q
    quiet met q none h = record { left = inr h; opens = λ label e. absurd (none label e) }

    said_at : (p q : SctpStreams S) → q ≡ p → IsSaid p → IsSaid q
    said_at p q is h = subst (λ (x : SctpStreams S). IsSaid x) (sym is) h

    still : (r met : Met) (u q : SctpStreams S) → met ≡ r → q ≡ u → ((label : List ℕ) → r ≡ Output (event.Open s label) → ⊥) → IsSaid u → LeavesSaid met q
    still r met u q is same none h = quiet met q (λ label e. none label (sym is ∙ e)) (said_at u q same h)

    nothing_open : (label : List ℕ) → Nothing ≡ Output (event.Open s label) → ⊥
    nothing_open label h = cc

    memory_open : (label : List ℕ) → OutOfMemory ≡ Output (event.Open s label) → ⊥
    memory_open label h = cc

    packets_open : (packets : List (List ℕ)) (label : List ℕ) → Output (event.Transmit packets) ≡ Output (event.Open s label) → ⊥
    packets_open packets label h = cc

    complete_open : (id : ℕ) (label : List ℕ) → Output (event.StreamResetComplete id) ≡ Output (event.Open s label) → ⊥
    complete_open id label h = cc

    -- ---- packets

    gave_said : (p : SctpStreams S) (o : Option (List ℕ)) (b : S) → m.gave p.association o b → IsSaid p → HasSaid m g s b p.entries
    gave_said p o b h k =
        said_on m g s p.association b p.entries
        (unended_did m w s g [] _ [] [] p.association b (gave_did m w p.association b o h)) k

    packet_says : (p : SctpStreams S) (met : Met) (q : SctpStreams S) → q ≡ record p { association = q.association }
        → TakesPacket m p.association met q.association → IsSaid p → LeavesSaid met q
    packet_says p Nothing q is h k = still Nothing Nothing (record p { association = q.association }) q refl is nothing_open (gave_said p None q.association h k)
    packet_says p (Output (event.Transmit packets)) q is h k =
        still (Output (event.Transmit packets)) (Output (event.Transmit packets)) (record p { association = q.association }) q refl is
        (packets_open packets) (gave_said p (Some h.0) q.association h.1 k)
    packet_says p (Output (event.Open id label)) q is h k = absurd h
    packet_says p (Output (event.Close id pending)) q is h k = absurd h
    packet_says p (Output (event.StreamResetComplete id)) q is h k = absurd h
    packet_says p (Output (event.Data id binary bytes)) q is h k = absurd h
    packet_says p (Output (event.BufferedAmountLow id)) q is h k = absurd h
    packet_says p (Output event.AssociationLost) q is h k = absurd h
    packet_says p Again q is h k = absurd h
    packet_says p OutOfMemory q is h k =
        still OutOfMemory OutOfMemory (record p { association = q.association }) q refl is memory_open
        (subst (λ (x : S). HasSaid m g s x p.entries) (sym h) k)

    transmit_says : (o : Option (List (List ℕ))) (p : SctpStreams S) (met : Met) (q : SctpStreams S) → TransmitOf m o p met q → IsSaid p → LeavesSaid met q
    transmit_says (Some packets) p met q h k = still _ met (record p { pushed = None }) q h.0 h.1 (packets_open packets) k
    transmit_says None p met q h k = by (m.started p.association) h
      where
        by : (b : Bool) → TransmitIf m b p met q → LeavesSaid met q
        by false t = still Nothing met p q t.0 t.1 nothing_open k
        by true t = packet_says p met q t.1 t.0 k

    completion_says : (l : List ℕ) (p : SctpStreams S) (met : Met) (q : SctpStreams S) → CompletionOf l p met q → IsSaid p → LeavesSaid met q
    completion_says [] p met q h k = still Nothing met (record p { rests = true }) q h.0 h.1 nothing_open k
    completion_says (id ∷ rest) p met q h k = still _ met (record p { completed = rest }) q h.0 h.1 (complete_open id) k

    -- ---- events, behind which none is due, or the association is not started

    abbrev IsFree : SctpStreams S → Type 0
    IsFree q = (m.due q.association ≡ []) ⊎ (m.started q.association ≡ false)

    record AfterAll (met : Met) (q : SctpStreams S) : Type 0 where
      says : LeavesSaid met q
      free : met ≡ Nothing → IsFree q

    same_book : (met r : Met) (p q : SctpStreams S) → met ≡ r → ((label : List ℕ) → r ≡ Output (event.Open s label) → ⊥) → q.association ≡ p.association
        → book_of q ≡ book_of p → IsSaid p → LeavesSaid met q
    same_book met r p q is none same book k =
        quiet met q (λ label e. none label (sym is ∙ e))
        (subst (λ (a : S). HasSaid m g s a q.entries) (sym same)
        (said_is m g s p.association p.entries q.entries (ap (λ (x : Book). x.entries) book) k))

    no_memory : OutOfMemory ≡ Nothing → ⊥
    no_memory h = cc

    event_says : (p : SctpStreams S) (met : Met) (q : SctpStreams S) → TakesEvent m p.association (book_of p) met q.association (book_of q)
        → IsSaid p → AfterAll met q
    event_says p met q (NotStarted un e a b) k = record {
      says = same_book met Nothing p q e nothing_open a b k;
      free = λ x. inr (ap m.started a ∙ un);
    }
    event_says p met q (NoRoom e a b) k = record {
      says = same_book met OutOfMemory p q e memory_open a b k;
      free = λ x. absurd (no_memory (sym e ∙ x));
    }
    event_says p met q (NoEvent begun h e b) k =
        let same = w.event_none p.association q.association h in
        record {
          says = same_book met Nothing p q e nothing_open same b k;
          free = λ x. inl (ap m.due same ∙ w.poll_none p.association q.association h);
        }
    event_says p met q (Event e begun h is after) k = record {
      says =
          quiet met q (λ label f. event_open m g e s label (sym is ∙ f))
          (after_event m g e s p.association q.association (book_of p) (book_of q) (λ x. unended_told m w s g e p.association q.association h x) after k);
      free = λ x. absurd (event_nothing m g e (sym is ∙ x));
    }

    -- ---- visits

    not_started : (a b : Bool) → b ≡ false → (a && b) ≡ true → ⊥
    not_started true b e h = true≢false (sym h ∙ e)
    not_started false b e h = true≢false (sym h)

    visits_say : (b : Bool) (p : SctpStreams S) (met : Met) (q : SctpStreams S) → (is_established p.state && m.started p.association) ≡ b
        → VisitsIf m b p met q → IsFree p → IsSaid p → LeavesSaid met q
    visits_say false p met q is h free k = still Nothing met p q h.0 h.1 nothing_open k
    visits_say true p met q is h (inr un) k = absurd (not_started (is_established p.state) (m.started p.association) un is)
    visits_say true p met q is h (inl due) k =
        tour_says m g w v p.last p.entries s p.association p.resets met q.association q.resets q.entries
        (said_now m g s p.association p.entries due k) h.0

    -- ---- passes

    left_on : (own : Met) (b : SctpStreams S) → own ≡ Nothing → LeavesSaid own b → IsSaid b
    left_on own b is h = by h.left
      where
        no_close : (e : SctpEvent) → own ≡ Output e → ⊥
        no_close e f = let c : Nothing ≡ Output e = sym is ∙ f in cc

        by : TellsClose s own ⊎ HasSaid m g s b.association b.entries → IsSaid b
        by (inl x) = absurd (no_close _ x.1)
        by (inr x) = x

    stopped : (own met : Met) (b q : SctpStreams S) → met ≡ own → q ≡ b → LeavesSaid own b → LeavesSaid met q
    stopped own met b q is same h =
        subst (λ (x : Met). LeavesSaid x q) (sym is) (subst (λ (x : SctpStreams S). LeavesSaid own x) (sym same) h)

    visits_then : (p : SctpStreams S) (met : Met) (q : SctpStreams S) → Else (VisitsEntries m) GivesCompletion p met q → IsFree p → IsSaid p
        → LeavesSaid met q
    visits_then p met q h free k =
        by h.0 h.1.0 (visits_say (is_established p.state && m.started p.association) p h.0 h.1.0 refl h.1.1.0 free k) h.1.1.1
      where
        by : (own : Met) (b : SctpStreams S) → LeavesSaid own b → ThenBy GivesCompletion own b met q → LeavesSaid met q
        by Nothing b x t = completion_says b.completed b met q t (left_on Nothing b refl x)
        by Again b x t = stopped Again met b q t.0 t.1 x
        by (Output e) b x t = stopped (Output e) met b q t.0 t.1 x
        by OutOfMemory b x t = stopped OutOfMemory met b q t.0 t.1 x

    events_then : (p : SctpStreams S) (met : Met) (q : SctpStreams S) → Else (HandlesEvent m) (Else (VisitsEntries m) GivesCompletion) p met q → IsSaid p
        → LeavesSaid met q
    events_then p met q h k = by h.0 h.1.0 (event_says p h.0 h.1.0 h.1.1.0.0 k) h.1.1.1
      where
        by : (own : Met) (b : SctpStreams S) → AfterAll own b → ThenBy (Else (VisitsEntries m) GivesCompletion) own b met q → LeavesSaid met q
        by Nothing b x t = visits_then b met q t (x.free refl) (left_on Nothing b refl x.says)
        by Again b x t = stopped Again met b q t.0 t.1 x.says
        by (Output e) b x t = stopped (Output e) met b q t.0 t.1 x.says
        by OutOfMemory b x t = stopped OutOfMemory met b q t.0 t.1 x.says

    steps_say : (p : SctpStreams S) (met : Met) (q : SctpStreams S)
        → Else (GivesTransmit m) (Else (HandlesEvent m) (Else (VisitsEntries m) GivesCompletion)) p met q → IsSaid p → LeavesSaid met q
    steps_say p met q h k = by h.0 h.1.0 (transmit_says p.pushed p h.0 h.1.0 h.1.1.0 k) h.1.1.1
      where
        by : (own : Met) (b : SctpStreams S) → LeavesSaid own b → ThenBy (Else (HandlesEvent m) (Else (VisitsEntries m) GivesCompletion)) own b met q
            → LeavesSaid met q
        by Nothing b x t = events_then b met q t (left_on Nothing b refl x)
        by Again b x t = stopped Again met b q t.0 t.1 x
        by (Output e) b x t = stopped (Output e) met b q t.0 t.1 x
        by OutOfMemory b x t = stopped OutOfMemory met b q t.0 t.1 x

    rests_say : (o : Option (List (List ℕ))) (p : SctpStreams S) (met : Met) (q : SctpStreams S) → RestsBy o p met q → IsSaid p → LeavesSaid met q
    rests_say None p met q h k = still Nothing met p q h.0 h.1 nothing_open k
    rests_say (Some packets) p met q h k = still _ met (record p { pushed = None }) q h.0 h.1 (packets_open packets) k

    pass_if : (b : Bool) (p : SctpStreams S) (met : Met) (q : SctpStreams S) → PassIf m b p met q → IsSaid p → LeavesSaid met q
    unfolding TakesSteps
    pass_if true p met q h k = rests_say p.pushed p met q h.0 k
    pass_if false p met q h k = steps_say (unclosed_streams p) met q h (said_unclosed m g s p.association p.entries k)

    pass_says : (p : SctpStreams S) (met : Met) (q : SctpStreams S) → MakesPass m p met q → IsSaid p → LeavesSaid met q
    unfolding MakesPass
    pass_says p met q h k = pass_if p.rests p met q h k

    again_said : (q : SctpStreams S) → LeavesSaid Again q → IsSaid q
    again_said q h = by h.left
      where
        no_close : (e : SctpEvent) → Again ≡ Output e → ⊥
        no_close e f = cc

        by : TellsClose s Again ⊎ HasSaid m g s q.association q.entries → IsSaid q
        by (inl x) = absurd (no_close _ x.1)
        by (inr x) = x

    over_said : (n : ℕ) (p q : SctpStreams S) → Over m n p q → IsSaid p → IsSaid q
    over_said zero p q h k = said_at p q h k
    over_said (suc n) p q h k = again_said q (pass_says h.0 Again q h.2 (over_said n p h.0 h.1 k))

    pub poll_says : (p : SctpStreams S) (r : Result (Option SctpEvent) AllocError) (q : SctpStreams S) → PollsStreams m p r q → IsSaid p
        → LeavesSaid (met_of r) q
    poll_says p r q h k =
        subst (λ (x : Met). LeavesSaid x q) (met_by m w r h.met h.answers)
        (pass_says h.between h.met q h.last (over_said h.passes p h.between h.over k))
