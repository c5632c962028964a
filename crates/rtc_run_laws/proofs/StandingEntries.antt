-- Entries whose opening is begun, where entries are set, put in and dropped.
use Rattle.std.proofs.Common.{◌≡◌, ◌⊎◌, inl, inr, ℕ, zero, suc, not, cond, Bool, true, false, List, [], ◌∷◌, ◌++◌, take, drop, insert, Option, Some, None, refl, sym, ap, subst, ◌∙◌}
use Rattle.std.specs.Prelude.{is_some, slice_get, slice_set, if◌then◌else◌}
use Rattle.std.proofs.lemmas.List.{take-append-drop}
use Rattle.std.proofs.lemmas.Option.{same_Some}
use Rattle.rtc_parts.specs.declared.assoc_event.AssocEvent.{AssocEvent}
use Rattle.rtc_parts.specs.declared.assoc_event.AssocEvent.TheVariants as assoc
use Rattle.rtc_sctp_entries.specs.declared.stream_entry_state.StreamEntryState.{StreamEntryState}
use Rattle.rtc_sctp_entries.specs.declared.stream_entry_state.StreamEntryState.TheVariants.{AwaitOpen, AwaitConfig, AwaitDcepAck, Open, Closed}
use Rattle.rtc_sctp_entries.specs.declared.stream_entry.StreamEntry.{StreamEntry}
use Rattle.rtc_sctp_entries.specs.Entries.{Ascend, entry_place, new_place, new_entry, is_closed_state, is_open_awaited, is_out_of_band, unclosed}
use Rattle.rtc_sctp.specs.Polls.{Book, AfterEvent, FinishesAt, finished_entry, with_expected}
use Rattle.rtc_sctp_entries.proofs.OrderLemmas.{ascend_set, ascend_with, none_missing}
use Rattle.rtc_sctp.proofs.OrderKept.{ascend_unclosed}
use Rattle.rtc_run_laws.specs.OwnOpenings.{HasEntryOf, HasOpening, IsOpeningState}
use Rattle.rtc_run_laws.proofs.StandingVisits.{IsStanding}

-- a stream has an entry whose opening is begun
abbrev pub HasStanding : (stream : ℕ) → List StreamEntry → Type 0
HasStanding s es = HasEntryOf IsStanding s es

-- a stream that was settled by other means than messages has one
abbrev pub IsOutStanding : StreamEntry → Type 0
IsOutStanding e = IsStanding e × (is_out_of_band e ≡ true)

abbrev pub HasOutStanding : (stream : ℕ) → List StreamEntry → Type 0
HasOutStanding s es = HasEntryOf IsOutStanding s es

-- no entry is closed
abbrev pub NoneClosed : List StreamEntry → Type 0
NoneClosed [] = Unit {0}
NoneClosed (e ∷ es) = (e.state ≡ Closed → ⊥) × NoneClosed es

-- a stream was not settled by other means than messages
abbrev pub AreBanded : (stream : ℕ) → List StreamEntry → Type 0
AreBanded s [] = Unit {0}
AreBanded s (e ∷ es) = (e.id ≡ s → is_out_of_band e ≡ false) × AreBanded s es

-- entries that go on so: none is opened from here that was not before, and they stay in order
pub record Kept (es es' : List StreamEntry) : Type 0 where
  pub stands : (s : ℕ) → HasStanding s es → HasStanding s es'
  pub outs : (s : ℕ) → HasOutStanding s es → HasOutStanding s es'
  pub shut : NoneClosed es → NoneClosed es'
  pub banded : (s : ℕ) → AreBanded s es → AreBanded s es'
  pub openings : (s : ℕ) → HasOpening s es' → HasOpening s es
  pub ordered : Ascend es → Ascend es'

pub kept_is : (es es' : List StreamEntry) → es' ≡ es → Kept es es'
kept_is es es' is = record {
  stands = λ s h. subst (λ (l : List StreamEntry). HasStanding s l) (sym is) h;
  outs = λ s h. subst (λ (l : List StreamEntry). HasOutStanding s l) (sym is) h;
  shut = λ h. subst (λ (l : List StreamEntry). NoneClosed l) (sym is) h;
  banded = λ s h. subst (λ (l : List StreamEntry). AreBanded s l) (sym is) h;
  openings = λ s h. subst (λ (l : List StreamEntry). HasOpening s l) is h;
  ordered = λ h. subst (λ (l : List StreamEntry). Ascend l) (sym is) h;
}

pub kept_on : (es fs gs : List StreamEntry) → Kept es fs → Kept fs gs → Kept es gs
kept_on es fs gs h k = record {
  stands = λ s x. k.stands s (h.stands s x);
  outs = λ s x. k.outs s (h.outs s x);
  shut = λ x. k.shut (h.shut x);
  banded = λ s x. k.banded s (h.banded s x);
  openings = λ s x. h.openings s (k.openings s x);
  ordered = λ x. k.ordered (h.ordered x);
}

no_entry : (e : StreamEntry) → None ≡ Some e → ⊥
no_entry e h = cc

-- what an entry is set to
pub record EntryKept (e e' : StreamEntry) : Type 0 where
  pub id_is : e'.id ≡ e.id
  pub stands : IsStanding e → IsStanding e'
  pub shut : (e.state ≡ Closed → ⊥) → e'.state ≡ Closed → ⊥
  pub band_is : is_out_of_band e' ≡ is_out_of_band e
  pub opening : IsOpeningState e'.state → IsOpeningState e.state

pub has_set : (P : StreamEntry → Type 0) (s : ℕ) (es : List StreamEntry) (i : ℕ) (e e' : StreamEntry) → slice_get es i ≡ Some e → e'.id ≡ e.id → (P e → P e')
    → HasEntryOf P s es → HasEntryOf P s (slice_set es i e')
has_set P s [] i e e' at id keeps h = absurd h
has_set P s (x ∷ xs) zero e e' at id keeps (inl h) =
    let same = same_Some x e at in
    inl (id ∙ (ap (λ (y : StreamEntry). y.id) (sym same) ∙ h.0), keeps (subst P same h.1))
has_set P s (x ∷ xs) zero e e' at id keeps (inr h) = inr h
has_set P s (x ∷ xs) (suc i) e e' at id keeps (inl h) = inl h
has_set P s (x ∷ xs) (suc i) e e' at id keeps (inr h) = inr (has_set P s xs i e e' at id keeps h)

shut_set : (es : List StreamEntry) (i : ℕ) (e e' : StreamEntry) → slice_get es i ≡ Some e → EntryKept e e' → NoneClosed es
    → NoneClosed (slice_set es i e')
shut_set [] i e e' at k h = absurd (no_entry e at)
shut_set (x ∷ xs) zero e e' at k h = (k.shut (subst (λ (y : StreamEntry). y.state ≡ Closed → ⊥) (same_Some x e at) h.0), h.1)
shut_set (x ∷ xs) (suc i) e e' at k h = (h.0, shut_set xs i e e' at k h.1)

banded_set : (s : ℕ) (es : List StreamEntry) (i : ℕ) (e e' : StreamEntry) → slice_get es i ≡ Some e → EntryKept e e' → AreBanded s es
    → AreBanded s (slice_set es i e')
banded_set s [] i e e' at k h = absurd (no_entry e at)
banded_set s (x ∷ xs) zero e e' at k h =
    let was : e.id ≡ s → is_out_of_band e ≡ false =
    subst (λ (y : StreamEntry). y.id ≡ s → is_out_of_band y ≡ false) (same_Some x e at) h.0 in
    ((λ is. k.band_is ∙ was (sym k.id_is ∙ is)), h.1)
banded_set s (x ∷ xs) (suc i) e e' at k h = (h.0, banded_set s xs i e e' at k h.1)

openings_set : (s : ℕ) (es : List StreamEntry) (i : ℕ) (e e' : StreamEntry) → slice_get es i ≡ Some e → EntryKept e e'
    → HasOpening s (slice_set es i e') → HasOpening s es
openings_set s [] i e e' at k h = absurd (no_entry e at)
openings_set s (x ∷ xs) zero e e' at k (inl h) =
    let same = same_Some x e at in
    inl (ap (λ (y : StreamEntry). y.id) same ∙ (sym k.id_is ∙ h.0), subst (λ (y : StreamEntry). IsOpeningState y.state) (sym same) (k.opening h.1))
openings_set s (x ∷ xs) zero e e' at k (inr h) = inr h
openings_set s (x ∷ xs) (suc i) e e' at k (inl h) = inl h
openings_set s (x ∷ xs) (suc i) e e' at k (inr h) = inr (openings_set s xs i e e' at k h)

pub kept_set : (es : List StreamEntry) (i : ℕ) (e e' : StreamEntry) → slice_get es i ≡ Some e → EntryKept e e' → Kept es (slice_set es i e')
kept_set es i e e' at k = record {
  stands = λ s h. has_set IsStanding s es i e e' at k.id_is k.stands h;
  outs = λ s h. has_set IsOutStanding s es i e e' at k.id_is (λ x. (k.stands x.0, k.band_is ∙ x.1)) h;
  shut = λ h. shut_set es i e e' at k h;
  banded = λ s h. banded_set s es i e e' at k h;
  openings = λ s h. openings_set s es i e e' at k h;
  ordered = λ h. ascend_set 0 es i e e' at k.id_is h;
}

-- one is put in
has_between : (P : StreamEntry → Type 0) (s : ℕ) (xs : List StreamEntry) (e : StreamEntry) (ys : List StreamEntry) → HasEntryOf P s (xs ++ ys)
    → HasEntryOf P s (xs ++ e ∷ ys)
has_between P s [] e ys h = inr h
has_between P s (x ∷ xs) e ys (inl h) = inl h
has_between P s (x ∷ xs) e ys (inr h) = inr (has_between P s xs e ys h)

shut_between : (xs : List StreamEntry) (e : StreamEntry) (ys : List StreamEntry) → (e.state ≡ Closed → ⊥) → NoneClosed (xs ++ ys)
    → NoneClosed (xs ++ e ∷ ys)
shut_between [] e ys f h = (f, h)
shut_between (x ∷ xs) e ys f h = (h.0, shut_between xs e ys f h.1)

banded_between : (s : ℕ) (xs : List StreamEntry) (e : StreamEntry) (ys : List StreamEntry) → (e.id ≡ s → is_out_of_band e ≡ false)
    → AreBanded s (xs ++ ys) → AreBanded s (xs ++ e ∷ ys)
banded_between s [] e ys f h = (f, h)
banded_between s (x ∷ xs) e ys f h = (h.0, banded_between s xs e ys f h.1)

pub has_insert : (P : StreamEntry → Type 0) (s : ℕ) (es : List StreamEntry) (i : ℕ) (e : StreamEntry) → HasEntryOf P s es → HasEntryOf P s (insert es i e)
has_insert P s es i e h =
    has_between P s (take i es) e (drop i es) (subst (λ (l : List StreamEntry). HasEntryOf P s l) (sym (take-append-drop i es)) h)

pub stands_insert : (s : ℕ) (es : List StreamEntry) (i : ℕ) (e : StreamEntry) → HasStanding s es → HasStanding s (insert es i e)
stands_insert s es i e h = has_insert IsStanding s es i e h

pub shut_insert : (es : List StreamEntry) (i : ℕ) (e : StreamEntry) → (e.state ≡ Closed → ⊥) → NoneClosed es → NoneClosed (insert es i e)
shut_insert es i e f h =
    shut_between (take i es) e (drop i es) f (subst (λ (l : List StreamEntry). NoneClosed l) (sym (take-append-drop i es)) h)

pub banded_insert : (s : ℕ) (es : List StreamEntry) (i : ℕ) (e : StreamEntry) → (e.id ≡ s → is_out_of_band e ≡ false) → AreBanded s es
    → AreBanded s (insert es i e)
banded_insert s es i e f h =
    banded_between s (take i es) e (drop i es) f (subst (λ (l : List StreamEntry). AreBanded s l) (sym (take-append-drop i es)) h)

openings_between : (s : ℕ) (xs : List StreamEntry) (e : StreamEntry) (ys : List StreamEntry) → HasOpening s (xs ++ e ∷ ys)
    → HasOpening s (xs ++ ys) ⊎ ((e.id ≡ s) × IsOpeningState e.state)
openings_between s [] e ys (inl h) = inr h
openings_between s [] e ys (inr h) = inl h
openings_between s (x ∷ xs) e ys (inl h) = inl (inl h)
openings_between s (x ∷ xs) e ys (inr h) = by (openings_between s xs e ys h)
  where
    by : HasOpening s (xs ++ ys) ⊎ ((e.id ≡ s) × IsOpeningState e.state) → HasOpening s (x ∷ xs ++ ys) ⊎ ((e.id ≡ s) × IsOpeningState e.state)
    by (inl k) = inl (inr k)
    by (inr k) = inr k

pub openings_insert : (s : ℕ) (es : List StreamEntry) (i : ℕ) (e : StreamEntry) → HasOpening s (insert es i e)
    → HasOpening s es ⊎ ((e.id ≡ s) × IsOpeningState e.state)
openings_insert s es i e h =
    subst (λ (l : List StreamEntry). HasOpening s l ⊎ ((e.id ≡ s) × IsOpeningState e.state)) (take-append-drop i es)
    (openings_between s (take i es) e (drop i es) h)

own_between : (s : ℕ) (xs : List StreamEntry) (e : StreamEntry) (ys : List StreamEntry) → e.id ≡ s → IsStanding e → HasStanding s (xs ++ e ∷ ys)
own_between s [] e ys same h = inl (same, h)
own_between s (x ∷ xs) e ys same h = inr (own_between s xs e ys same h)

pub own_insert : (s : ℕ) (es : List StreamEntry) (i : ℕ) (e : StreamEntry) → e.id ≡ s → IsStanding e → HasStanding s (insert es i e)
own_insert s es i e same h = own_between s (take i es) e (drop i es) same h

-- closed ones are dropped
not_closed : (st : StreamEntryState) → (st ≡ Closed → ⊥) → not (is_closed_state st) ≡ true
not_closed AwaitOpen h = refl
not_closed AwaitConfig h = refl
not_closed AwaitDcepAck h = refl
not_closed Open h = refl
not_closed Closed h = absurd (h refl)

is_not_closed : (st : StreamEntryState) → not (is_closed_state st) ≡ true → st ≡ Closed → ⊥
is_not_closed AwaitOpen h k = let clash : AwaitOpen ≡ Closed = k in cc
is_not_closed AwaitConfig h k = let clash : AwaitConfig ≡ Closed = k in cc
is_not_closed AwaitDcepAck h k = let clash : AwaitDcepAck ≡ Closed = k in cc
is_not_closed Open h k = let clash : Open ≡ Closed = k in cc
is_not_closed Closed h k = let clash : false ≡ true = h in cc

has_unclosed : (P : StreamEntry → Type 0) → ((e : StreamEntry) → P e → e.state ≡ Closed → ⊥) → (s : ℕ) (es : List StreamEntry) → HasEntryOf P s es
    → HasEntryOf P s (unclosed es)
has_unclosed P live s [] h = absurd h
has_unclosed P live s (x ∷ xs) (inl h) = by (not (is_closed_state x.state)) (not_closed x.state (live x h.1))
  where
    by : (b : Bool) → b ≡ true → HasEntryOf P s (cond b (x ∷ unclosed xs) (unclosed xs))
    by true e = inl h
    by false e = let clash : false ≡ true = e in cc
has_unclosed P live s (x ∷ xs) (inr h) = by (not (is_closed_state x.state)) (has_unclosed P live s xs h)
  where
    by : (b : Bool) → HasEntryOf P s (unclosed xs) → HasEntryOf P s (cond b (x ∷ unclosed xs) (unclosed xs))
    by true k = inr k
    by false k = k

pub shut_unclosed : (es : List StreamEntry) → NoneClosed (unclosed es)
shut_unclosed [] = tt
shut_unclosed (x ∷ xs) = by (not (is_closed_state x.state)) refl (shut_unclosed xs)
  where
    by : (b : Bool) → not (is_closed_state x.state) ≡ b → NoneClosed (unclosed xs) → NoneClosed (cond b (x ∷ unclosed xs) (unclosed xs))
    by true e k = (is_not_closed x.state e, k)
    by false e k = k

banded_unclosed : (s : ℕ) (es : List StreamEntry) → AreBanded s es → AreBanded s (unclosed es)
banded_unclosed s [] h = tt
banded_unclosed s (x ∷ xs) h = by (not (is_closed_state x.state)) (banded_unclosed s xs h.1)
  where
    by : (b : Bool) → AreBanded s (unclosed xs) → AreBanded s (cond b (x ∷ unclosed xs) (unclosed xs))
    by true k = (h.0, k)
    by false k = k

openings_unclosed : (s : ℕ) (es : List StreamEntry) → HasOpening s (unclosed es) → HasOpening s es
openings_unclosed s [] h = absurd h
openings_unclosed s (x ∷ xs) h = by (not (is_closed_state x.state)) h (openings_unclosed s xs)
  where
    by : (b : Bool) → HasOpening s (cond b (x ∷ unclosed xs) (unclosed xs)) → (HasOpening s (unclosed xs) → HasOpening s xs) → HasOpening s (x ∷ xs)
    by true (inl k) rest = inl k
    by true (inr k) rest = inr (rest k)
    by false k rest = inr (rest k)

pub kept_unclosed : (es : List StreamEntry) → Kept es (unclosed es)
kept_unclosed es = record {
  stands = λ s h. has_unclosed IsStanding (λ e k. k.0) s es h;
  outs = λ s h. has_unclosed IsOutStanding (λ e k. k.0.0) s es h;
  shut = λ h. shut_unclosed es;
  banded = λ s h. banded_unclosed s es h;
  openings = λ s h. openings_unclosed s es h;
  ordered = λ h. ascend_unclosed es h;
}

-- events
config_closed : AwaitConfig ≡ Closed → ⊥
config_closed h = cc

config_not : IsOpeningState AwaitConfig → ⊥
config_not (inl h) = let clash : AwaitConfig ≡ AwaitOpen = h in cc
config_not (inr h) = let clash : AwaitConfig ≡ AwaitDcepAck = h in cc

kept_expected : (place : Option ℕ) (id : ℕ) (es : List StreamEntry) → entry_place id es ≡ place
    → Kept es (if is_some place then es else insert es (new_place id es) (new_entry id AwaitConfig None))
kept_expected (Some place) id es at = kept_is es es refl
kept_expected None id es at = record {
  stands = λ s h. stands_insert s es (new_place id es) (new_entry id AwaitConfig None) h;
  outs = λ s h. has_insert IsOutStanding s es (new_place id es) (new_entry id AwaitConfig None) h;
  shut = λ h. shut_insert es (new_place id es) (new_entry id AwaitConfig None) (λ c. config_closed c) h;
  banded = λ s h. banded_insert s es (new_place id es) (new_entry id AwaitConfig None) (λ is. refl) h;
  openings = λ s h. by s (openings_insert s es (new_place id es) (new_entry id AwaitConfig None) h);
  ordered = λ h. ascend_with (new_entry id AwaitConfig None) es h (none_missing id es at);
}
  where
    by : (s : ℕ) → HasOpening s es ⊎ ((id ≡ s) × IsOpeningState AwaitConfig) → HasOpening s es
    by s (inl h) = h
    by s (inr h) = absurd (config_not h.1)

pub marked_kept : (e : StreamEntry) → EntryKept e (record e { marked = true })
marked_kept e = record { id_is = refl; stands = λ h. (h.0, λ c. refl); shut = λ h. h; band_is = refl; opening = λ h. h }

finished_kept : (b : Bool) (e : StreamEntry) → EntryKept e (if b then e else record e { marked = true })
finished_kept true e = record { id_is = refl; stands = λ h. h; shut = λ h. h; band_is = refl; opening = λ h. h }
finished_kept false e = marked_kept e

kept_finished : (place : Option ℕ) (es es' : List StreamEntry) → FinishesAt place es es' → Kept es es'
kept_finished None es es' h = kept_is es es' h
kept_finished (Some place) es es' h =
    kept_on es (slice_set es place (finished_entry h.0)) es'
    (kept_set es place h.0 (finished_entry h.0) h.1 (finished_kept (is_open_awaited h.0.state) h.0))
    (kept_is (slice_set es place (finished_entry h.0)) es' h.2)

pub kept_after : (e : AssocEvent) (b b' : Book) → AfterEvent e b b' → Kept b.entries b'.entries
kept_after assoc.Connected b b' h = kept_is b.entries b'.entries (ap (λ (x : Book). x.entries) h)
kept_after assoc.Lost b b' h = kept_is b.entries b'.entries (ap (λ (x : Book). x.entries) h)
kept_after (assoc.Readable id) b b' h =
    kept_on b.entries (with_expected id b.entries) b'.entries (kept_expected (entry_place id b.entries) id b.entries refl)
    (kept_is (with_expected id b.entries) b'.entries (ap (λ (x : Book). x.entries) h))
kept_after (assoc.Writable id) b b' h =
    kept_on b.entries (with_expected id b.entries) b'.entries (kept_expected (entry_place id b.entries) id b.entries refl)
    (kept_is (with_expected id b.entries) b'.entries (ap (λ (x : Book). x.entries) h))
kept_after (assoc.Finished id) b b' h = kept_finished (entry_place id b.entries) b.entries b'.entries h.0
kept_after (assoc.ResetComplete id) b b' h = kept_is b.entries b'.entries (ap (λ (x : Book). x.entries) h)
kept_after (assoc.BufferedAmountLow id) b b' h = kept_is b.entries b'.entries (ap (λ (x : Book). x.entries) h)
