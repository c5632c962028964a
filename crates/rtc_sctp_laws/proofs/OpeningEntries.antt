-- The entry of a stream that is open in-band, where entries are visited, set, put in and dropped.
use Rattle.std.proofs.Common.{◌≡◌, ◌⊎◌, inl, inr, ℕ, zero, suc, not, cond, Bool, true, false, List, [], ◌∷◌, ◌++◌, take, drop, insert, Option, Some, None, refl, sym, ap, subst, ◌∙◌}
use Rattle.std.specs.Prelude.{is_some, slice_get, slice_set, if◌then◌else◌}
use Rattle.std.proofs.lemmas.List.{take-append-drop}
use Rattle.std.proofs.lemmas.Option.{same_Some}
use Rattle.rtc_parts.specs.declared.assoc_event.AssocEvent.{AssocEvent}
use Rattle.rtc_parts.specs.declared.assoc_event.AssocEvent.TheVariants as assoc
use Rattle.rtc_sctp_entries.specs.declared.stream_entry_state.StreamEntryState.TheVariants.{AwaitConfig, Open}
use Rattle.rtc_sctp_entries.specs.declared.stream_entry.StreamEntry.{StreamEntry}
use Rattle.rtc_sctp_entries.specs.declared.met.Met.{Met}
use Rattle.rtc_sctp_entries.specs.declared.met.Met.TheVariants.{Nothing}
use Rattle.rtc_sctp_entries.specs.Entries.{entry_place, new_place, new_entry, is_open_awaited, is_closed_state, unclosed}
use Rattle.rtc_sctp.specs.Polls.{Book, AfterEvent, FinishesAt, finished_entry, with_expected}
use Rattle.rtc_sctp_laws.specs.StreamUses.{HasOpenInBand, IsOpenInBand, TellsStreamOpen}
use Rattle.rtc_sctp_laws.proofs.OpeningVisits.{OpensTold}

no_entry : (e : StreamEntry) → None ≡ Some e → ⊥
no_entry e h = cc

pub open_is : (s : ℕ) (o : Option ℕ) (es es' : List StreamEntry) → es' ≡ es → HasOpenInBand s o es' → HasOpenInBand s o es
open_is s o es es' e h = subst (λ (l : List StreamEntry). HasOpenInBand s o l) e h

-- an entry is set
pub open_set : (s : ℕ) (o : Option ℕ) (es : List StreamEntry) (i : ℕ) (e e' : StreamEntry) → slice_get es i ≡ Some e → e'.id ≡ e.id
    → (IsOpenInBand o e' → IsOpenInBand o e) → HasOpenInBand s o (slice_set es i e') → HasOpenInBand s o es
open_set s o [] i e e' at same back h = absurd (no_entry e at)
open_set s o (x ∷ xs) zero e e' at same back (inl h) =
    inl (subst (λ (y : StreamEntry). (y.id ≡ s) × IsOpenInBand o y) (sym (same_Some x e at)) (sym same ∙ h.0, back h.1))
open_set s o (x ∷ xs) zero e e' at same back (inr h) = inr h
open_set s o (x ∷ xs) (suc i) e e' at same back (inl h) = inl h
open_set s o (x ∷ xs) (suc i) e e' at same back (inr h) = inr (open_set s o xs i e e' at same back h)

-- one that is not open is put in
open_between : (s : ℕ) (o : Option ℕ) (xs : List StreamEntry) (e : StreamEntry) (ys : List StreamEntry) → (IsOpenInBand o e → ⊥)
    → HasOpenInBand s o (xs ++ e ∷ ys) → HasOpenInBand s o (xs ++ ys)
open_between s o [] e ys none (inl h) = absurd (none h.1)
open_between s o [] e ys none (inr h) = h
open_between s o (x ∷ xs) e ys none (inl h) = inl h
open_between s o (x ∷ xs) e ys none (inr h) = inr (open_between s o xs e ys none h)

pub open_insert : (s : ℕ) (o : Option ℕ) (es : List StreamEntry) (i : ℕ) (e : StreamEntry) → (IsOpenInBand o e → ⊥)
    → HasOpenInBand s o (insert es i e) → HasOpenInBand s o es
open_insert s o es i e none h = open_is s o es (take i es ++ drop i es) (take-append-drop i es) (open_between s o (take i es) e (drop i es) none h)

-- closed ones are dropped
pub open_unclosed : (s : ℕ) (o : Option ℕ) (es : List StreamEntry) → HasOpenInBand s o (unclosed es) → HasOpenInBand s o es
open_unclosed s o [] h = absurd h
open_unclosed s o (x ∷ xs) h = by (not (is_closed_state x.state)) h (λ k. open_unclosed s o xs k)
  where
    by : (b : Bool) → HasOpenInBand s o (cond b (x ∷ unclosed xs) (unclosed xs)) → (HasOpenInBand s o (unclosed xs) → HasOpenInBand s o xs)
        → HasOpenInBand s o (x ∷ xs)
    by true (inl k) rest = inl k
    by true (inr k) rest = inr (rest k)
    by false k rest = inr (rest k)

-- events
new_open : (o : Option ℕ) (id : ℕ) → IsOpenInBand o (new_entry id AwaitConfig None) → ⊥
new_open o id h = config_open h.0
  where
    config_open : AwaitConfig ≡ Open → ⊥
    config_open k = cc

open_expected : (s : ℕ) (o place : Option ℕ) (id : ℕ) (es : List StreamEntry)
    → HasOpenInBand s o (if is_some place then es else insert es (new_place id es) (new_entry id AwaitConfig None)) → HasOpenInBand s o es
open_expected s o (Some place) id es h = h
open_expected s o None id es h = open_insert s o es (new_place id es) (new_entry id AwaitConfig None) (new_open o id) h

finished_open : (b : Bool) (o : Option ℕ) (e : StreamEntry) → IsOpenInBand o (if b then e else record e { marked = true }) → IsOpenInBand o e
finished_open true o e h = h
finished_open false o e h = h

finished_id : (b : Bool) (e : StreamEntry) → (if b then e else record e { marked = true }).id ≡ e.id
finished_id true e = refl
finished_id false e = refl

open_finished : (s : ℕ) (o place : Option ℕ) (es es' : List StreamEntry) → FinishesAt place es es' → HasOpenInBand s o es' → HasOpenInBand s o es
open_finished s o None es es' h k = open_is s o es es' h k
open_finished s o (Some place) es es' h k =
    open_set s o es place h.0 (finished_entry h.0) h.1 (finished_id (is_open_awaited h.0.state) h.0)
    (finished_open (is_open_awaited h.0.state) o h.0) (open_is s o (slice_set es place (finished_entry h.0)) es' h.2 k)

pub open_after : (e : AssocEvent) (b b' : Book) (s : ℕ) (o : Option ℕ) → AfterEvent e b b' → HasOpenInBand s o b'.entries → HasOpenInBand s o b.entries
open_after assoc.Connected b b' s o h k = open_is s o b.entries b'.entries (ap (λ (x : Book). x.entries) h) k
open_after assoc.Lost b b' s o h k = open_is s o b.entries b'.entries (ap (λ (x : Book). x.entries) h) k
open_after (assoc.Readable id) b b' s o h k =
    open_expected s o (entry_place id b.entries) id b.entries
    (open_is s o (with_expected id b.entries) b'.entries (ap (λ (x : Book). x.entries) h) k)
open_after (assoc.Writable id) b b' s o h k =
    open_expected s o (entry_place id b.entries) id b.entries
    (open_is s o (with_expected id b.entries) b'.entries (ap (λ (x : Book). x.entries) h) k)
open_after (assoc.Finished id) b b' s o h k = open_finished s o (entry_place id b.entries) b.entries b'.entries h.0 k
open_after (assoc.ResetComplete id) b b' s o h k = open_is s o b.entries b'.entries (ap (λ (x : Book). x.entries) h) k
open_after (assoc.BufferedAmountLow id) b b' s o h k = open_is s o b.entries b'.entries (ap (λ (x : Book). x.entries) h) k

-- the first entry gives something
pub first_opens : (met : Met) (s : ℕ) (o : Option ℕ) (e e' : StreamEntry) (es : List StreamEntry) → e'.id ≡ e.id → OpensTold met e e'
    → HasOpenInBand s o (e' ∷ es) → HasOpenInBand s o (e ∷ es) ⊎ TellsStreamOpen met s
first_opens met s o e e' es same goes (inr h) = inl (inr h)
first_opens met s o e e' es same goes (inl h) = by (goes o h.1)
  where
    by : IsOpenInBand o e ⊎ TellsStreamOpen met e.id → HasOpenInBand s o (e ∷ es) ⊎ TellsStreamOpen met s
    by (inl k) = inl (inl (sym same ∙ h.0, k))
    by (inr told) = inr (subst (λ (n : ℕ). TellsStreamOpen met n) (sym same ∙ h.0) told)

-- the first entry gives nothing, and the others are visited
pub next_opens : (met : Met) (s : ℕ) (o : Option ℕ) (e e' : StreamEntry) (es tail : List StreamEntry) → e'.id ≡ e.id → OpensTold Nothing e e'
    → (HasOpenInBand s o tail → HasOpenInBand s o es ⊎ TellsStreamOpen met s) → HasOpenInBand s o (e' ∷ tail)
    → HasOpenInBand s o (e ∷ es) ⊎ TellsStreamOpen met s
next_opens met s o e e' es tail same goes rest (inl h) = by (goes o h.1)
  where
    by : IsOpenInBand o e ⊎ TellsStreamOpen Nothing e.id → HasOpenInBand s o (e ∷ es) ⊎ TellsStreamOpen met s
    by (inl k) = inl (inl (sym same ∙ h.0, k))
    by (inr told) = absurd told
next_opens met s o e e' es tail same goes rest (inr h) = by (rest h)
  where
    by : HasOpenInBand s o es ⊎ TellsStreamOpen met s → HasOpenInBand s o (e ∷ es) ⊎ TellsStreamOpen met s
    by (inl k) = inl (inr k)
    by (inr told) = inr told

-- a step that made work, or had nothing to give, and what follows
pub opens_on : (own met : Met) (s : ℕ) (o : Option ℕ) (es between es' : List StreamEntry) → (TellsStreamOpen own s → ⊥)
    → (HasOpenInBand s o between → HasOpenInBand s o es ⊎ TellsStreamOpen own s)
    → (HasOpenInBand s o es' → HasOpenInBand s o between ⊎ TellsStreamOpen met s) → HasOpenInBand s o es' → HasOpenInBand s o es ⊎ TellsStreamOpen met s
opens_on own met s o es between es' silent first rest h = by (rest h)
  where
    before : HasOpenInBand s o es ⊎ TellsStreamOpen own s → HasOpenInBand s o es ⊎ TellsStreamOpen met s
    before (inl k) = inl k
    before (inr told) = absurd (silent told)

    by : HasOpenInBand s o between ⊎ TellsStreamOpen met s → HasOpenInBand s o es ⊎ TellsStreamOpen met s
    by (inl k) = before (first k)
    by (inr told) = inr told
