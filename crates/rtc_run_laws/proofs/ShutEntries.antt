-- Streams without an entry past its opening but one that was negotiated out-of-band, where entries are set, put in and dropped.
use Rattle.std.proofs.Common.{◌≡◌, ◌∙◌, ◌⊎◌, ℕ, zero, suc, not, cond, Bool, true, false, List, [], ◌∷◌, ◌++◌, take, drop, insert, Option, Some, None, refl, sym, ap, subst}
use Rattle.std.specs.Prelude.{slice_get, slice_set, if◌then◌else◌}
use Rattle.std.proofs.lemmas.List.{take-append-drop}
use Rattle.std.proofs.lemmas.Option.{same_Some}
use Rattle.rtc_parts.specs.declared.assoc_event.AssocEvent.{AssocEvent}
use Rattle.rtc_parts.specs.declared.assoc_event.AssocEvent.TheVariants as assoc
use Rattle.rtc_sctp_entries.specs.declared.stream_entry_state.StreamEntryState.TheVariants.{AwaitOpen, Open, Closed}
use Rattle.rtc_sctp_entries.specs.declared.stream_entry.StreamEntry.{StreamEntry}
use Rattle.rtc_sctp_entries.specs.Entries.{entry_place, is_closed_state, is_open_awaited, is_out_of_band, unclosed}
use Rattle.rtc_sctp.specs.Polls.{Book, AfterEvent, FinishesAt, finished_entry}

-- an entry waits to be opened, or is closed, or it is open and was negotiated out-of-band
abbrev pub IsShutEntry : StreamEntry → Type 0
IsShutEntry entry = (entry.state ≡ AwaitOpen) ⊎ ((entry.state ≡ Closed) ⊎ ((entry.state ≡ Open) × (is_out_of_band entry ≡ true)))

-- each entry of a stream is so
abbrev pub AreShut : ℕ → List StreamEntry → Type 0
AreShut s [] = Unit {0}
AreShut s (entry ∷ entries) = (entry.id ≡ s → IsShutEntry entry) × AreShut s entries

-- an event reports no message, and no room
abbrev pub ReadsNothing : AssocEvent → Type 0
ReadsNothing (assoc.Readable id) = ⊥
ReadsNothing (assoc.Writable id) = ⊥
ReadsNothing e = Unit {0}

no_entry : (e : StreamEntry) → None ≡ Some e → ⊥
no_entry e h = cc

pub shut_is : (s : ℕ) (es fs : List StreamEntry) → fs ≡ es → AreShut s es → AreShut s fs
shut_is s es fs is h = subst (λ (l : List StreamEntry). AreShut s l) (sym is) h

-- an entry is set
pub shut_set : (s : ℕ) (es : List StreamEntry) (i : ℕ) (e e' : StreamEntry) → slice_get es i ≡ Some e → e'.id ≡ e.id
    → (e.id ≡ s → IsShutEntry e → IsShutEntry e') → AreShut s es → AreShut s (slice_set es i e')
shut_set s [] i e e' at same goes h = absurd (no_entry e at)
shut_set s (x ∷ xs) zero e e' at same goes h =
    let is : x ≡ e = same_Some x e at in
    ((λ own. goes (sym same ∙ own) (subst (λ (y : StreamEntry). IsShutEntry y) is (h.0 (ap (λ (y : StreamEntry). y.id) is ∙ sym same ∙ own)))), h.1)
shut_set s (x ∷ xs) (suc i) e e' at same goes h = (h.0, shut_set s xs i e e' at same goes h.1)

-- one is put in
shut_between : (s : ℕ) (xs : List StreamEntry) (e : StreamEntry) (ys : List StreamEntry) → (e.id ≡ s → IsShutEntry e) → AreShut s (xs ++ ys)
    → AreShut s (xs ++ e ∷ ys)
shut_between s [] e ys own h = (own, h)
shut_between s (x ∷ xs) e ys own h = (h.0, shut_between s xs e ys own h.1)

pub shut_insert : (s : ℕ) (es : List StreamEntry) (i : ℕ) (e : StreamEntry) → (e.id ≡ s → IsShutEntry e) → AreShut s es → AreShut s (insert es i e)
shut_insert s es i e own h =
    shut_between s (take i es) e (drop i es) own (subst (λ (l : List StreamEntry). AreShut s l) (sym (take-append-drop i es)) h)

-- closed ones are dropped
pub shut_unclosed : (s : ℕ) (es : List StreamEntry) → AreShut s es → AreShut s (unclosed es)
shut_unclosed s [] h = tt
shut_unclosed s (x ∷ xs) h = by (not (is_closed_state x.state)) (shut_unclosed s xs h.1)
  where
    by : (b : Bool) → AreShut s (unclosed xs) → AreShut s (cond b (x ∷ unclosed xs) (unclosed xs))
    by true k = (h.0, k)
    by false k = k

-- ---- events

finished_shut : (b : Bool) (e : StreamEntry) → IsShutEntry e → IsShutEntry (if b then e else record e { marked = true })
finished_shut true e h = h
finished_shut false e h = h

finished_id : (b : Bool) (e : StreamEntry) → (if b then e else record e { marked = true }).id ≡ e.id
finished_id true e = refl
finished_id false e = refl

shut_finished : (s : ℕ) (place : Option ℕ) (es es' : List StreamEntry) → FinishesAt place es es' → AreShut s es → AreShut s es'
shut_finished s None es es' h k = shut_is s es es' h k
shut_finished s (Some place) es es' h k =
    shut_is s (slice_set es place (finished_entry h.0)) es' h.2
    (shut_set s es place h.0 (finished_entry h.0) h.1 (finished_id (is_open_awaited h.0.state) h.0)
    (λ own x. finished_shut (is_open_awaited h.0.state) h.0 x) k)

pub shut_after : (e : AssocEvent) (s : ℕ) (b b' : Book) → ReadsNothing e → AfterEvent e b b' → AreShut s b.entries → AreShut s b'.entries
shut_after assoc.Connected s b b' none h k = shut_is s b.entries b'.entries (ap (λ (x : Book). x.entries) h) k
shut_after assoc.Lost s b b' none h k = shut_is s b.entries b'.entries (ap (λ (x : Book). x.entries) h) k
shut_after (assoc.Readable id) s b b' none h k = absurd none
shut_after (assoc.Writable id) s b b' none h k = absurd none
shut_after (assoc.Finished id) s b b' none h k = shut_finished s (entry_place id b.entries) b.entries b'.entries h.0 k
shut_after (assoc.ResetComplete id) s b b' none h k = shut_is s b.entries b'.entries (ap (λ (x : Book). x.entries) h) k
shut_after (assoc.BufferedAmountLow id) s b b' none h k = shut_is s b.entries b'.entries (ap (λ (x : Book). x.entries) h) k
