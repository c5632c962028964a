-- Streams that have an entry, where entries are set, put in and dropped.
use Rattle.std.proofs.Common.{◌≡◌, ◌∙◌, inl, inr, ℕ, zero, suc, ◌+◌, ◌==◌, not, cond, Bool, true, false, true≢false, List, [], ◌∷◌, ◌++◌, length, take, drop, insert, Option, Some, None, refl, sym, ap, subst, arith}
use Rattle.std.specs.Prelude.{is_some, nat_lt, slice_get, slice_set, if◌then◌else◌}
use Rattle.std.specs.List.{prefix_len}
use Rattle.std.proofs.lemmas.Bool.{eqb-true}
use Rattle.std.proofs.lemmas.List.{take-append-drop}
use Rattle.std.proofs.lemmas.Option.{same_Some}
use Rattle.rtc_parts.specs.declared.assoc_event.AssocEvent.{AssocEvent}
use Rattle.rtc_parts.specs.declared.assoc_event.AssocEvent.TheVariants as assoc
use Rattle.rtc_sctp_entries.specs.declared.stream_entry_state.StreamEntryState.TheVariants.{AwaitConfig}
use Rattle.rtc_sctp_entries.specs.declared.stream_entry.StreamEntry.{StreamEntry}
use Rattle.rtc_sctp_entries.specs.Entries.{entry_place, is_entry_of, new_place, new_entry, is_closed_state, is_open_awaited, unclosed}
use Rattle.rtc_sctp.specs.Polls.{Book, AfterEvent, FinishesAt, finished_entry, with_expected}
use Rattle.rtc_sctp_laws.proofs.KnownStreams.{HasEntry, NoneClosed}

-- an entry set in the place of another is of the same stream, and is not closed where that is not
abbrev pub StaysFree : StreamEntry → StreamEntry → Type 0
StaysFree e e' = (e'.id ≡ e.id) × (is_closed_state e.state ≡ false → is_closed_state e'.state ≡ false)

pub has_is : (s : ℕ) (es fs : List StreamEntry) → fs ≡ es → HasEntry s es → HasEntry s fs
has_is s es fs is h = subst (λ (l : List StreamEntry). HasEntry s l) (sym is) h

pub has_set : (s : ℕ) (es : List StreamEntry) (i : ℕ) (e e' : StreamEntry) → slice_get es i ≡ Some e → StaysFree e e' → HasEntry s es
    → HasEntry s (slice_set es i e')
has_set s [] i e e' at k h = absurd h
has_set s (x ∷ xs) zero e e' at k (inl h) =
    let same = same_Some x e at in
    inl
    (k.0 ∙ (ap (λ (y : StreamEntry). y.id) (sym same) ∙ h.0), k.1 (subst (λ (y : StreamEntry). is_closed_state y.state ≡ false) same h.1))
has_set s (x ∷ xs) zero e e' at k (inr h) = inr h
has_set s (x ∷ xs) (suc i) e e' at k (inl h) = inl h
has_set s (x ∷ xs) (suc i) e e' at k (inr h) = inr (has_set s xs i e e' at k h)

has_between : (s : ℕ) (xs : List StreamEntry) (e : StreamEntry) (ys : List StreamEntry) → HasEntry s (xs ++ ys) → HasEntry s (xs ++ e ∷ ys)
has_between s [] e ys h = inr h
has_between s (x ∷ xs) e ys (inl h) = inl h
has_between s (x ∷ xs) e ys (inr h) = inr (has_between s xs e ys h)

pub has_insert : (s : ℕ) (es : List StreamEntry) (i : ℕ) (e : StreamEntry) → HasEntry s es → HasEntry s (insert es i e)
has_insert s es i e h = has_between s (take i es) e (drop i es) (subst (λ (l : List StreamEntry). HasEntry s l) (sym (take-append-drop i es)) h)

own_between : (s : ℕ) (xs : List StreamEntry) (e : StreamEntry) (ys : List StreamEntry) → e.id ≡ s → is_closed_state e.state ≡ false
    → HasEntry s (xs ++ e ∷ ys)
own_between s [] e ys same h = inl (same, h)
own_between s (x ∷ xs) e ys same h = inr (own_between s xs e ys same h)

own_insert : (s : ℕ) (es : List StreamEntry) (i : ℕ) (e : StreamEntry) → e.id ≡ s → is_closed_state e.state ≡ false → HasEntry s (insert es i e)
own_insert s es i e same h = own_between s (take i es) e (drop i es) same h

pub has_unclosed : (s : ℕ) (es : List StreamEntry) → HasEntry s es → HasEntry s (unclosed es)
has_unclosed s [] h = absurd h
has_unclosed s (x ∷ xs) (inl h) = by (not (is_closed_state x.state)) (ap not h.1)
  where
    by : (b : Bool) → b ≡ true → HasEntry s (cond b (x ∷ unclosed xs) (unclosed xs))
    by true e = inl h
    by false e = absurd (true≢false (sym e))
has_unclosed s (x ∷ xs) (inr h) = by (not (is_closed_state x.state)) (has_unclosed s xs h)
  where
    by : (b : Bool) → HasEntry s (unclosed xs) → HasEntry s (cond b (x ∷ unclosed xs) (unclosed xs))
    by true k = inr k
    by false k = k

free_by : (b : Bool) → not b ≡ true → b ≡ false
free_by true h = absurd (true≢false (sym h))
free_by false h = refl

pub none_unclosed : (es : List StreamEntry) → NoneClosed (unclosed es)
none_unclosed [] = tt
none_unclosed (x ∷ xs) = by (not (is_closed_state x.state)) refl (none_unclosed xs)
  where
    by : (b : Bool) → not (is_closed_state x.state) ≡ b → NoneClosed (unclosed xs) → NoneClosed (cond b (x ∷ unclosed xs) (unclosed xs))
    by true e k = (free_by (is_closed_state x.state) e, k)
    by false e k = k

-- a stream with a place among entries none of which is closed has one
of_stream : (n s : ℕ) → not (n == s) ≡ false → n ≡ s
of_stream n s h = by (n == s) refl h
  where
    by : (b : Bool) → (n == s) ≡ b → not b ≡ false → n ≡ s
    by true e k = eqb-true n s e
    by false e k = absurd (true≢false k)

no_less : (n : ℕ) → nat_lt n 0 ≡ true → ⊥
no_less n h = grind (arith, h)

less_behind : (n l : ℕ) → nat_lt (1 + n) (suc l) ≡ true → nat_lt n l ≡ true
less_behind n l h = grind (arith, h)

has_within : (s : ℕ) (es : List StreamEntry) → NoneClosed es
    → nat_lt (prefix_len (λ (x : StreamEntry). not (is_entry_of s x)) es) (length es) ≡ true → HasEntry s es
has_within s [] free h = absurd (no_less 0 h)
has_within s (x ∷ xs) free h = by (not (is_entry_of s x)) refl h (λ k. has_within s xs free.1 k)
  where
    by : (b : Bool) → not (is_entry_of s x) ≡ b
        → nat_lt (cond b (1 + prefix_len (λ (y : StreamEntry). not (is_entry_of s y)) xs) 0) (length (x ∷ xs)) ≡ true
        → (nat_lt (prefix_len (λ (y : StreamEntry). not (is_entry_of s y)) xs) (length xs) ≡ true → HasEntry s xs) → HasEntry s (x ∷ xs)
    by true e k rest = inr (rest (less_behind (prefix_len (λ (y : StreamEntry). not (is_entry_of s y)) xs) (length xs) k))
    by false e k rest = inl (of_stream x.id s e, free.0)

no_place : (place : ℕ) → None ≡ Some place → ⊥
no_place place h = cc

has_placed : (s place : ℕ) (es : List StreamEntry) → NoneClosed es → entry_place s es ≡ Some place → HasEntry s es
has_placed s place es free h = by (nat_lt n (length es)) refl h
  where
    n : ℕ
    n = prefix_len (λ (x : StreamEntry). not (is_entry_of s x)) es

    by : (b : Bool) → nat_lt n (length es) ≡ b → cond b (Some n) None ≡ Some place → HasEntry s es
    by true e k = has_within s es free e
    by false e k = absurd (no_place place k)

-- ---- events

pub has_expected : (s : ℕ) (place : Option ℕ) (id : ℕ) (es : List StreamEntry) → HasEntry s es
    → HasEntry s (if is_some place then es else insert es (new_place id es) (new_entry id AwaitConfig None))
has_expected s (Some place) id es h = h
has_expected s None id es h = has_insert s es (new_place id es) (new_entry id AwaitConfig None) h

own_expected : (s : ℕ) (es : List StreamEntry) → NoneClosed es → (place : Option ℕ) → entry_place s es ≡ place
    → HasEntry s (if is_some place then es else insert es (new_place s es) (new_entry s AwaitConfig None))
own_expected s es free (Some place) at = has_placed s place es free at
own_expected s es free None at = own_insert s es (new_place s es) (new_entry s AwaitConfig None) refl refl

-- a stream that the other end uses has an entry then
pub expected_own : (s : ℕ) (es : List StreamEntry) → NoneClosed es → HasEntry s (with_expected s es)
expected_own s es free = own_expected s es free (entry_place s es) refl

finished_free : (b : Bool) (e : StreamEntry) → StaysFree e (if b then e else record e { marked = true })
finished_free true e = (refl, λ h. h)
finished_free false e = (refl, λ h. h)

has_finished : (s : ℕ) (place : Option ℕ) (es es' : List StreamEntry) → FinishesAt place es es' → HasEntry s es → HasEntry s es'
has_finished s None es es' h k = has_is s es es' h k
has_finished s (Some place) es es' h k =
    has_is s (slice_set es place (finished_entry h.0)) es' h.2
    (has_set s es place h.0 (finished_entry h.0) h.1 (finished_free (is_open_awaited h.0.state) h.0) k)

pub has_after : (e : AssocEvent) (s : ℕ) (b b' : Book) → AfterEvent e b b' → HasEntry s b.entries → HasEntry s b'.entries
has_after assoc.Connected s b b' h k = has_is s b.entries b'.entries (ap (λ (x : Book). x.entries) h) k
has_after assoc.Lost s b b' h k = has_is s b.entries b'.entries (ap (λ (x : Book). x.entries) h) k
has_after (assoc.Readable id) s b b' h k =
    has_is s (with_expected id b.entries) b'.entries (ap (λ (x : Book). x.entries) h) (has_expected s (entry_place id b.entries) id b.entries k)
has_after (assoc.Writable id) s b b' h k =
    has_is s (with_expected id b.entries) b'.entries (ap (λ (x : Book). x.entries) h) (has_expected s (entry_place id b.entries) id b.entries k)
has_after (assoc.Finished id) s b b' h k = has_finished s (entry_place id b.entries) b.entries b'.entries h.0 k
has_after (assoc.ResetComplete id) s b b' h k = has_is s b.entries b'.entries (ap (λ (x : Book). x.entries) h) k
has_after (assoc.BufferedAmountLow id) s b b' h k = has_is s b.entries b'.entries (ap (λ (x : Book). x.entries) h) k
