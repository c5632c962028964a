-- One step of a pass, and the next where it meets nothing.
use Rattle.std.proofs.Common.{◌≡◌, Bool, true, false, refl, sym, subst, ap, Option, Some}
use Rattle.rtc_parts.specs.declared.assoc_event.AssocEvent.{AssocEvent}
use Rattle.rtc_parts.specs.AssociationMeaning.{AssociationMeaning}
use Rattle.rtc_sctp_entries.specs.declared.met.Met.{Met}
use Rattle.rtc_sctp_entries.specs.declared.met.Met.TheVariants.{Nothing, Again, Output, OutOfMemory}
use Rattle.rtc_sctp.specs.Streams.{SctpStreams}
use Rattle.rtc_sctp.specs.Polls.{Book, book_of, with_book, event_met, AfterEvent, TakesEvent, Event, Else, GivesTransmit}
use Rattle.rtc_sctp.specs.Polls.{HandlesEvent, VisitsEntries, GivesCompletion, AreResting, TakesSteps, RestsBy, PassIf, MakesPass, unclosed_streams}

pub else_go : {S : Type 0} (A B : SctpStreams S → Met → SctpStreams S → Type 0) (p : SctpStreams S) (own : Met) (q : SctpStreams S) (met : Met) (r : SctpStreams S)
    → A p own q → own ≡ Nothing → B q met r → Else A B p met r
else_go A B p own q met r a e b = (Nothing, (q, (subst (λ (x : Met). A p x q) e a, b)))

pub else_stop : {S : Type 0} (A B : SctpStreams S → Met → SctpStreams S → Type 0) (p : SctpStreams S) (own : Met) (q : SctpStreams S)
    → A p own q → (own ≡ Nothing → ⊥) → Else A B p own q
else_stop A B p Nothing q a n = absurd (n refl)
else_stop A B p Again q a n = (Again, (q, (a, (refl, refl))))
else_stop A B p (Output o) q a n = (Output o, (q, (a, (refl, refl))))
else_stop A B p OutOfMemory q a n = (OutOfMemory, (q, (a, (refl, refl))))

module _ {S : Type 0} (m : AssociationMeaning S) where
  -- an event that was polled is taken
  pub event_taken : (e : AssocEvent) (o : Option AssocEvent) (a a' : S) (b c b' : Book) (met : Met)
      → m.started a ≡ true → o ≡ Some e → m.polled a o a' → c ≡ b → met ≡ event_met e → AfterEvent e c b' → TakesEvent m a b met a' b'
  event_taken e o a a' b c b' met started is k same told after =
      Event e started (subst (λ (x : Option AssocEvent). m.polled a x a') is k) told (subst (λ (x : Book). AfterEvent e x b') same after)

  -- what is known of the fields of streams is known of the streams
  pub event_handled : (p0 p : SctpStreams S) (met : Met) (a' : S) (b' : Book) → p0 ≡ p → TakesEvent m p0.association (book_of p0) met a' b'
      → TakesEvent m p.association (book_of p) met a' b' × (with_book b' a' p0 ≡ with_book b' a' p)
  event_handled p0 p met a' b' e h =
      (subst (λ (x : SctpStreams S). TakesEvent m x.association (book_of x) met a' b') e h, ap (with_book b' a') e)

  -- closed entries are dropped, and the steps are taken
  pub passed : (p u : SctpStreams S) (met : Met) (q : SctpStreams S) → u ≡ unclosed_streams p
      → Else (GivesTransmit m) (Else (HandlesEvent m) (Else (VisitsEntries m) GivesCompletion)) u met q → TakesSteps m p met q
  unfolding TakesSteps
  passed p u met q e h =
      subst (λ (x : SctpStreams S). Else (GivesTransmit m) (Else (HandlesEvent m) (Else (VisitsEntries m) GivesCompletion)) x met q) e h

  -- a pass of streams at rest, and of others
  pub stays : (p : SctpStreams S) (met : Met) (q : SctpStreams S) → p.rests ≡ true → RestsBy p.pushed p met q
      → AreResting m p.association p.state p.last p.entries → MakesPass m p met q
  unfolding MakesPass
  stays p met q is by h = subst (λ (b : Bool). PassIf m b p met q) (sym is) (by, h)

  pub stirs : (p : SctpStreams S) (met : Met) (q : SctpStreams S) → p.rests ≡ false → TakesSteps m p met q → MakesPass m p met q
  unfolding MakesPass
  stirs p met q is h = subst (λ (b : Bool). PassIf m b p met q) (sym is) h
