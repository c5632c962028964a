-- Streams that have an entry past its opening, where entries are set, put in and dropped.
use Rattle.std.proofs.Common.{◌≡◌, ◌∙◌, inl, inr, ℕ, zero, suc, not, cond, Bool, true, false, true≢false, List, [], ◌∷◌, ◌++◌, take, drop, insert, Option, Some, None, refl, sym, ap, subst}
use Rattle.std.specs.Prelude.{is_some, slice_get, slice_set, if◌then◌else◌}
use Rattle.std.proofs.lemmas.List.{take-append-drop}
use Rattle.std.proofs.lemmas.Option.{same_Some}
use Rattle.rtc_parts.specs.declared.assoc_event.AssocEvent.{AssocEvent}
use Rattle.rtc_parts.specs.declared.assoc_event.AssocEvent.TheVariants as assoc
use Rattle.rtc_sctp_entries.specs.declared.stream_entry_state.StreamEntryState.{StreamEntryState}
use Rattle.rtc_sctp_entries.specs.declared.stream_entry_state.StreamEntryState.TheVariants.{AwaitOpen, AwaitConfig, AwaitDcepAck, Open, Closed}
use Rattle.rtc_sctp_entries.specs.declared.stream_entry.StreamEntry.{StreamEntry}
use Rattle.rtc_sctp_entries.specs.Entries.{entry_place, new_place, new_entry, is_closed_state, is_open_awaited, unclosed}
use Rattle.rtc_sctp.specs.Polls.{Book, AfterEvent, FinishesAt, finished_entry, with_expected}
use Rattle.rtc_sctp_laws.specs.StreamRuns.{is_past_opening}
use Rattle.rtc_sctp_laws.proofs.ThereStreams.{HasPast}

-- an entry set in the place of another is of the same stream, and is past its opening where that is
abbrev pub StaysPastOpening : StreamEntry → StreamEntry → Type 0
StaysPastOpening e e' = (e'.id ≡ e.id) × (is_past_opening e.state ≡ true → is_past_opening e'.state ≡ true)

pub past_is : (s : ℕ) (es fs : List StreamEntry) → fs ≡ es → HasPast s es → HasPast s fs
past_is s es fs is h = subst (λ (l : List StreamEntry). HasPast s l) (sym is) h

pub past_set : (s : ℕ) (es : List StreamEntry) (i : ℕ) (e e' : StreamEntry) → slice_get es i ≡ Some e → StaysPastOpening e e' → HasPast s es
    → HasPast s (slice_set es i e')
past_set s [] i e e' at k h = absurd h
past_set s (x ∷ xs) zero e e' at k (inl h) =
    let same = same_Some x e at in
    inl
    (k.0 ∙ (ap (λ (y : StreamEntry). y.id) (sym same) ∙ h.0), k.1 (subst (λ (y : StreamEntry). is_past_opening y.state ≡ true) same h.1))
past_set s (x ∷ xs) zero e e' at k (inr h) = inr h
past_set s (x ∷ xs) (suc i) e e' at k (inl h) = inl h
past_set s (x ∷ xs) (suc i) e e' at k (inr h) = inr (past_set s xs i e e' at k h)

past_between : (s : ℕ) (xs : List StreamEntry) (e : StreamEntry) (ys : List StreamEntry) → HasPast s (xs ++ ys) → HasPast s (xs ++ e ∷ ys)
past_between s [] e ys h = inr h
past_between s (x ∷ xs) e ys (inl h) = inl h
past_between s (x ∷ xs) e ys (inr h) = inr (past_between s xs e ys h)

pub past_insert : (s : ℕ) (es : List StreamEntry) (i : ℕ) (e : StreamEntry) → HasPast s es → HasPast s (insert es i e)
past_insert s es i e h =
    past_between s (take i es) e (drop i es) (subst (λ (l : List StreamEntry). HasPast s l) (sym (take-append-drop i es)) h)

open_now : (st : StreamEntryState) → is_past_opening st ≡ true → is_closed_state st ≡ false
open_now AwaitOpen h = absurd (true≢false (sym h))
open_now AwaitConfig h = refl
open_now AwaitDcepAck h = refl
open_now Open h = refl
open_now Closed h = absurd (true≢false (sym h))

pub past_unclosed : (s : ℕ) (es : List StreamEntry) → HasPast s es → HasPast s (unclosed es)
past_unclosed s [] h = absurd h
past_unclosed s (x ∷ xs) (inl h) = by (not (is_closed_state x.state)) (ap not (open_now x.state h.1))
  where
    by : (b : Bool) → b ≡ true → HasPast s (cond b (x ∷ unclosed xs) (unclosed xs))
    by true e = inl h
    by false e = absurd (true≢false (sym e))
past_unclosed s (x ∷ xs) (inr h) = by (not (is_closed_state x.state)) (past_unclosed s xs h)
  where
    by : (b : Bool) → HasPast s (unclosed xs) → HasPast s (cond b (x ∷ unclosed xs) (unclosed xs))
    by true k = inr k
    by false k = k

-- ---- events

past_expected : (s : ℕ) (place : Option ℕ) (id : ℕ) (es : List StreamEntry) → HasPast s es
    → HasPast s (if is_some place then es else insert es (new_place id es) (new_entry id AwaitConfig None))
past_expected s (Some place) id es h = h
past_expected s None id es h = past_insert s es (new_place id es) (new_entry id AwaitConfig None) h

finished_past : (b : Bool) (e : StreamEntry) → StaysPastOpening e (if b then e else record e { marked = true })
finished_past true e = (refl, λ h. h)
finished_past false e = (refl, λ h. h)

past_finished : (s : ℕ) (place : Option ℕ) (es es' : List StreamEntry) → FinishesAt place es es' → HasPast s es → HasPast s es'
past_finished s None es es' h k = past_is s es es' h k
past_finished s (Some place) es es' h k =
    past_is s (slice_set es place (finished_entry h.0)) es' h.2
    (past_set s es place h.0 (finished_entry h.0) h.1 (finished_past (is_open_awaited h.0.state) h.0) k)

pub past_after : (e : AssocEvent) (s : ℕ) (b b' : Book) → AfterEvent e b b' → HasPast s b.entries → HasPast s b'.entries
past_after assoc.Connected s b b' h k = past_is s b.entries b'.entries (ap (λ (x : Book). x.entries) h) k
past_after assoc.Lost s b b' h k = past_is s b.entries b'.entries (ap (λ (x : Book). x.entries) h) k
past_after (assoc.Readable id) s b b' h k =
    past_is s (with_expected id b.entries) b'.entries (ap (λ (x : Book). x.entries) h) (past_expected s (entry_place id b.entries) id b.entries k)
past_after (assoc.Writable id) s b b' h k =
    past_is s (with_expected id b.entries) b'.entries (ap (λ (x : Book). x.entries) h) (past_expected s (entry_place id b.entries) id b.entries k)
past_after (assoc.Finished id) s b b' h k = past_finished s (entry_place id b.entries) b.entries b'.entries h.0 k
past_after (assoc.ResetComplete id) s b b' h k = past_is s b.entries b'.entries (ap (λ (x : Book). x.entries) h) k
past_after (assoc.BufferedAmountLow id) s b b' h k = past_is s b.entries b'.entries (ap (λ (x : Book). x.entries) h) k
