-- An event keeps the entries tended, and where none is met none is due.
use Rattle.std.proofs.Common.{◌≡◌, ℕ, true, false, true≢false, List, [], Some, refl, sym, ap, subst, ◌∙◌, arith}
use Rattle.rtc_parts.specs.declared.assoc_event.AssocEvent.{AssocEvent}
use Rattle.rtc_parts.specs.declared.assoc_event.AssocEvent.TheVariants as assoc
use Rattle.rtc_parts.specs.AssociationMeaning.{AssociationMeaning}
use Rattle.rtc_parts.specs.AssociationLaws.{AssociationLaws}
use Rattle.rtc_parts.specs.AssociationActs.{Told}
use Rattle.rtc_sctp_values.specs.StreamIds.{has_id}
use Rattle.rtc_sctp_entries.specs.declared.stream_entry.StreamEntry.{StreamEntry}
use Rattle.rtc_sctp_entries.specs.declared.met.Met.{Met}
use Rattle.rtc_sctp_entries.specs.declared.met.Met.TheVariants.{Nothing, OutOfMemory}
use Rattle.rtc_sctp_entries.specs.Entries.{entry_place}
use Rattle.rtc_sctp.specs.declared.agenda.Agenda.{Agenda}
use Rattle.rtc_sctp.specs.Polls.{Book, event_met, AfterEvent, TakesEvent, NotStarted, NoRoom, NoEvent, Event}
use Rattle.rtc_sctp.specs.Rest.{IsTouched, AreTended}
use Rattle.rtc_sctp.proofs.RestLemmas.{others_event}
use Rattle.rtc_sctp.proofs.StreamsTended.{tended_expected, tended_finished}

-- an event is never met as nothing
pub event_meets : (e : AssocEvent) → Nothing ≡ event_met e → ⊥
event_meets assoc.Connected h = cc (h)
event_meets assoc.Lost h = cc (h)
event_meets (assoc.Readable id) h = cc (h)
event_meets (assoc.Writable id) h = cc (h)
event_meets (assoc.Finished id) h = cc (h)
event_meets (assoc.ResetComplete id) h = cc (h)
event_meets (assoc.BufferedAmountLow id) h = cc (h)

module _ {S : Type 0} (m : AssociationMeaning S) (w : AssociationLaws m) where
  -- over the association that gave the event, before the event is followed
  polled_tended : (a b : S) (event : AssocEvent) (es : List StreamEntry) (agenda agenda' : Agenda) → m.polled a (Some event) b → AreTended m a es agenda
      → ((id : ℕ) → IsTouched id event → has_id id agenda'.streams ≡ true) → ((id : ℕ) → has_id id agenda'.streams ≡ false → has_id id agenda.streams ≡ false)
      → ((id : ℕ) → has_id id agenda'.buffered ≡ false → has_id id agenda.buffered ≡ false) → agenda'.closed ≡ agenda.closed → AreTended m b es agenda'
  polled_tended a b event es agenda agenda' polled h notes keeps kept closed = record {
    ascend = h.ascend;
    rest = others_event m w a b event agenda.streams agenda'.streams es polled notes keeps h.rest;
    unclosed_all = λ none. h.unclosed_all (sym closed ∙ none);
    counted = λ id has out. omega (arith, w.unacknowledged_falls a b (Told event) id refl polled, h.counted id has (kept id out));
  }

  tended_is : (b : S) (es es' : List StreamEntry) (agenda : Agenda) → es' ≡ es → AreTended m b es agenda → AreTended m b es' agenda
  tended_is b es es' agenda is h = subst (λ (l : List StreamEntry). AreTended m b l agenda) (sym is) h

  after_tended : (event : AssocEvent) (b : S) (k k' : Book) (agenda : Agenda) → AreTended m b k.entries agenda
      → ((id : ℕ) → IsTouched id event → has_id id agenda.streams ≡ true) → ((id : ℕ) → IsTouched id event → has_id id agenda.buffered ≡ true) → AfterEvent event k k' → AreTended m b k'.entries agenda
  after_tended assoc.Connected b k k' agenda h notes counts after = tended_is b k.entries k'.entries agenda (ap (λ (x : Book). x.entries) after) h
  after_tended assoc.Lost b k k' agenda h notes counts after = tended_is b k.entries k'.entries agenda (ap (λ (x : Book). x.entries) after) h
  after_tended (assoc.Readable id) b k k' agenda h notes counts after =
      tended_is b _ k'.entries agenda (ap (λ (x : Book). x.entries) after)
      (tended_expected m (entry_place id k.entries) b id k.entries agenda h (notes id refl) (counts id refl) refl)
  after_tended (assoc.Writable id) b k k' agenda h notes counts after =
      tended_is b _ k'.entries agenda (ap (λ (x : Book). x.entries) after)
      (tended_expected m (entry_place id k.entries) b id k.entries agenda h (notes id refl) (counts id refl) refl)
  after_tended (assoc.Finished id) b k k' agenda h notes counts after =
      tended_finished m (entry_place id k.entries) b id k.entries k'.entries agenda h (notes id refl) refl after.0
  after_tended (assoc.ResetComplete id) b k k' agenda h notes counts after = tended_is b k.entries k'.entries agenda (ap (λ (x : Book). x.entries) after) h
  after_tended (assoc.BufferedAmountLow id) b k k' agenda h notes counts after = tended_is b k.entries k'.entries agenda (ap (λ (x : Book). x.entries) after) h

  pub tended_event : (event : AssocEvent) (a b : S) (k k' : Book) (agenda agenda' : Agenda) → m.polled a (Some event) b → AreTended m a k.entries agenda
      → ((id : ℕ) → IsTouched id event → has_id id agenda'.streams ≡ true) → ((id : ℕ) → has_id id agenda'.streams ≡ false → has_id id agenda.streams ≡ false)
      → ((id : ℕ) → IsTouched id event → has_id id agenda'.buffered ≡ true) → ((id : ℕ) → has_id id agenda'.buffered ≡ false → has_id id agenda.buffered ≡ false)
      → agenda'.closed ≡ agenda.closed → AfterEvent event k k' → AreTended m b k'.entries agenda'
  tended_event event a b k k' agenda agenda' polled h notes keeps counts kept closed after =
      after_tended event b k k' agenda' (polled_tended a b event k.entries agenda agenda' polled h notes keeps kept closed) notes counts after

  -- where no event was met none is due
  pub none_due : (a : S) (k : Book) (met : Met) (b : S) (k' : Book) → TakesEvent m a k met b k' → met ≡ Nothing → m.started b ≡ true → m.due b ≡ []
  none_due a k met b k' (NotStarted fresh is same book) nothing started = absurd (true≢false (sym started ∙ ap m.started same ∙ fresh))
  none_due a k met b k' (NoRoom is same book) nothing started = absurd (let e : OutOfMemory ≡ Nothing = sym is ∙ nothing in cc)
  none_due a k met b k' (NoEvent was polled is book) nothing started = ap m.due (w.event_none a b polled) ∙ w.poll_none a b polled
  none_due a k met b k' (Event e was polled is after) nothing started = absurd (event_meets e (sym nothing ∙ is))
