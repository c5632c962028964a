-- The entry of a live stream, where entries are visited, set, put in and dropped.
use Rattle.std.proofs.Common.{◌≡◌, inl, inr, ℕ, ◌==◌, ◌&&◌, ◌||◌, not, cond, Bool, true, false, true≢false, List, [], ◌∷◌, ◌++◌, Some, refl, sym, ap, subst, ◌∙◌, arith}
use Rattle.std.specs.List.{list_all}
use Rattle.std.proofs.lemmas.Bool.{eqb-true, eqb-false}
use Rattle.std.proofs.lemmas.List.Folds.{list_all-append}
use Rattle.rtc_parts.specs.declared.assoc_event.AssocEvent.{AssocEvent}
use Rattle.rtc_sctp_entries.specs.declared.stream_entry_state.StreamEntryState.TheVariants.{Closed}
use Rattle.rtc_sctp_entries.specs.declared.stream_entry.StreamEntry.{StreamEntry}
use Rattle.rtc_sctp_entries.specs.declared.sctp_event.SctpEvent.TheVariants as event
use Rattle.rtc_sctp_entries.specs.declared.met.Met.{Met}
use Rattle.rtc_sctp_entries.specs.declared.met.Met.TheVariants.{Nothing, Again, Output, OutOfMemory}
use Rattle.rtc_sctp_entries.specs.Entries.{unclosed}
use Rattle.rtc_sctp.specs.Polls.{Book, AfterEvent}
use Rattle.rtc_sctp_laws.specs.StreamMessages.{StreamMessage}
use Rattle.rtc_sctp_laws.specs.StreamUses.{messages_of, are_of_stream, are_of_generation, entries_of, IsLiveIn, IsLive, LeavesLive}
use Rattle.rtc_sctp_laws.proofs.VisitedTurns.{OpensOwn}
use Rattle.rtc_sctp_laws.proofs.EntriesOf.{entries_own, entries_other, same_test}
use Rattle.rtc_sctp_laws.proofs.OneEntry.{one_only, one_is}
use Rattle.rtc_sctp_laws.proofs.OneOpen.{of_live, one_after, one_left}

-- a stream that is told to be open, or to be closed, is another one
abbrev pub OpensOther : Met → ℕ → Type 0
OpensOther (Output (event.Open id label)) s = id ≡ s → ⊥
OpensOther (Output (event.Close id pending)) s = id ≡ s → ⊥
OpensOther met s = Unit {0}

-- no stream is told to be open, or to be closed
abbrev pub TellsNoOpen : Met → Type 0
TellsNoOpen (Output (event.Open id label)) = ⊥
TellsNoOpen (Output (event.Close id pending)) = ⊥
TellsNoOpen met = Unit {0}

pub none_other : (met : Met) (s : ℕ) → TellsNoOpen met → OpensOther met s
none_other Nothing s h = tt
none_other Again s h = tt
none_other OutOfMemory s h = tt
none_other (Output (event.Transmit packets)) s h = tt
none_other (Output (event.Open id label)) s h = absurd h
none_other (Output (event.Close id pending)) s h = absurd h
none_other (Output (event.StreamResetComplete id)) s h = tt
none_other (Output (event.Data id binary bytes)) s h = tt
none_other (Output (event.BufferedAmountLow id)) s h = tt
none_other (Output event.AssociationLost) s h = tt

pub other_by : (met : Met) (n s : ℕ) → (n ≡ s → ⊥) → OpensOwn met n → OpensOther met s
other_by Nothing n s ne h = tt
other_by Again n s ne h = tt
other_by OutOfMemory n s ne h = tt
other_by (Output (event.Transmit packets)) n s ne h = tt
other_by (Output (event.Open id label)) n s ne h = λ e. ne (sym h ∙ e)
other_by (Output (event.Close id pending)) n s ne h = λ e. ne (sym h ∙ e)
other_by (Output (event.StreamResetComplete id)) n s ne h = tt
other_by (Output (event.Data id binary bytes)) n s ne h = tt
other_by (Output (event.BufferedAmountLow id)) n s ne h = tt
other_by (Output event.AssociationLost) n s ne h = tt

-- what a visit leaves of an entry that is open in a generation
abbrev pub LeavesOpen : Met → (stream generation : ℕ) → StreamEntry → Type 0
LeavesOpen OutOfMemory n g e = Unit {0}
LeavesOpen Nothing n g e = IsLiveIn g e
LeavesOpen Again n g e = IsLiveIn g e
LeavesOpen (Output (event.Close id pending)) n g e = (id ≡ n) × (e.state ≡ Closed)
LeavesOpen (Output (event.Open id label)) n g e = ⊥
LeavesOpen (Output told) n g e = IsLiveIn g e

abbrev pub OpenLeft : Met → StreamEntry → StreamEntry → Type 0
OpenLeft met e e' = (g : ℕ) → IsLiveIn g e → LeavesOpen met e.id g e'

-- a stream that is live stays so, where nothing is told of it
pub live_by : (met : Met) (s g : ℕ) (es : List StreamEntry) → OpensOther met s → IsLive s g es → LeavesLive met s g es
live_by OutOfMemory s g es o h = tt
live_by Nothing s g es o h = h
live_by Again s g es o h = h
live_by (Output (event.Transmit packets)) s g es o h = h
live_by (Output (event.Open id label)) s g es o h = (o, h)
live_by (Output (event.Close id pending)) s g es o h = inl (o, h)
live_by (Output (event.StreamResetComplete id)) s g es o h = h
live_by (Output (event.Data id binary bytes)) s g es o h = h
live_by (Output (event.BufferedAmountLow id)) s g es o h = h
live_by (Output event.AssociationLost) s g es o h = h

pub live_is : (s g : ℕ) (es es' : List StreamEntry) → es' ≡ es → IsLive s g es → IsLive s g es'
live_is s g es es' e h = subst (λ (l : List StreamEntry). IsLive s g l) (sym e) h

live_of : (s g : ℕ) (es es' : List StreamEntry) → entries_of s es' ≡ entries_of s es → IsLive s g es → IsLive s g es'
live_of s g es es' e h = one_is ⊥ (IsLiveIn g) (entries_of s es) (entries_of s es') e h

leaves_of : (met : Met) (s g : ℕ) (es es' : List StreamEntry) → entries_of s es' ≡ entries_of s es → LeavesLive met s g es → LeavesLive met s g es'
leaves_of OutOfMemory s g es es' e h = tt
leaves_of Nothing s g es es' e h = live_of s g es es' e h
leaves_of Again s g es es' e h = live_of s g es es' e h
leaves_of (Output (event.Transmit packets)) s g es es' e h = live_of s g es es' e h
leaves_of (Output (event.Open id label)) s g es es' e h = (h.0, live_of s g es es' e h.1)
leaves_of (Output (event.Close id pending)) s g es es' e (inl h) = inl (h.0, live_of s g es es' e h.1)
leaves_of (Output (event.Close id pending)) s g es es' e (inr h) = inr (h.0, one_is (Unit {0}) (λ (x : StreamEntry). x.state ≡ Closed) (entries_of s es) (entries_of s es') e h.1)
leaves_of (Output (event.StreamResetComplete id)) s g es es' e h = live_of s g es es' e h
leaves_of (Output (event.Data id binary bytes)) s g es es' e h = live_of s g es es' e h
leaves_of (Output (event.BufferedAmountLow id)) s g es es' e h = live_of s g es es' e h
leaves_of (Output event.AssociationLost) s g es es' e h = live_of s g es es' e h

-- the entry that was visited is the one of the stream
of_only : (s g : ℕ) (e : StreamEntry) (es : List StreamEntry) → entries_of s es ≡ e ∷ [] → IsLiveIn g e → IsLive s g es
of_only s g e es is h = one_is ⊥ (IsLiveIn g) (e ∷ []) (entries_of s es) is h

of_open : (met : Met) (s n g : ℕ) (e : StreamEntry) (es : List StreamEntry) → n ≡ s → entries_of s es ≡ e ∷ [] → LeavesOpen met n g e → LeavesLive met s g es
of_open OutOfMemory s n g e es same is h = tt
of_open Nothing s n g e es same is h = of_only s g e es is h
of_open Again s n g e es same is h = of_only s g e es is h
of_open (Output (event.Transmit packets)) s n g e es same is h = of_only s g e es is h
of_open (Output (event.Open id label)) s n g e es same is h = absurd h
of_open (Output (event.Close id pending)) s n g e es same is h =
    inr (h.0 ∙ same, one_is (Unit {0}) (λ (x : StreamEntry). x.state ≡ Closed) (e ∷ []) (entries_of s es) is h.1)
of_open (Output (event.StreamResetComplete id)) s n g e es same is h = of_only s g e es is h
of_open (Output (event.Data id binary bytes)) s n g e es same is h = of_only s g e es is h
of_open (Output (event.BufferedAmountLow id)) s n g e es same is h = of_only s g e es is h
of_open (Output event.AssociationLost) s n g e es same is h = of_only s g e es is h

-- what is known of the first entry of all, where it is of the stream, and of the others, where it is not
pub first_live : (s g : ℕ) (e : StreamEntry) (es : List StreamEntry) → (e.id == s) ≡ true → IsLive s g (e ∷ es) → (entries_of s es ≡ []) × IsLiveIn g e
first_live s g e es c h = one_only ⊥ (IsLiveIn g) e (entries_of s es) (one_is ⊥ (IsLiveIn g) (entries_of s (e ∷ es)) (e ∷ entries_of s es) (sym (entries_own s e es c)) h)

pub others_live : (s g : ℕ) (e : StreamEntry) (es : List StreamEntry) → (e.id == s) ≡ false → IsLive s g (e ∷ es) → IsLive s g es
others_live s g e es c h = live_of s g (e ∷ es) es (sym (entries_other s e es c)) h

only_left : (s : ℕ) (e e' : StreamEntry) (es : List StreamEntry) → e'.id ≡ e.id → (e.id == s) ≡ true → entries_of s es ≡ [] → entries_of s (e' ∷ es) ≡ e' ∷ []
only_left s e e' es same c none = entries_own s e' es (same_test e.id e'.id s true same c) ∙ ap (λ (l : List StreamEntry). e' ∷ l) none

-- the first entry gives something
pub first_lives : (met : Met) (s g : ℕ) (e e' : StreamEntry) (es : List StreamEntry) → e'.id ≡ e.id → OpenLeft met e e' → OpensOwn met e.id → IsLive s g (e ∷ es) → LeavesLive met s g (e' ∷ es)
first_lives met s g e e' es same goes own live = by (e.id == s) refl
  where
    by : (b : Bool) → (e.id == s) ≡ b → LeavesLive met s g (e' ∷ es)
    by true c = let one = first_live s g e es c live in of_open met s e.id g e' (e' ∷ es) (eqb-true e.id s c) (only_left s e e' es same c one.0) (goes g one.1)
    by false c =
        live_by met s g (e' ∷ es) (other_by met e.id s (eqb-false e.id s c) own)
        (live_of s g es (e' ∷ es) (entries_other s e' es (same_test e.id e'.id s false same c)) (others_live s g e es c live))

-- the first entry gives nothing, and the others are visited
pub next_lives : (met : Met) (s g : ℕ) (e e' : StreamEntry) (es tail : List StreamEntry) → e'.id ≡ e.id → OpenLeft Nothing e e' → (entries_of s es ≡ [] → entries_of s tail ≡ []) → (entries_of s es ≡ [] → OpensOther met s) → (IsLive s g es → LeavesLive met s g tail)
    → IsLive s g (e ∷ es) → LeavesLive met s g (e' ∷ tail)
next_lives met s g e e' es tail same goes none told rest live = by (e.id == s) refl
  where
    by : (b : Bool) → (e.id == s) ≡ b → LeavesLive met s g (e' ∷ tail)
    by true c = let one = first_live s g e es c live in live_by met s g (e' ∷ tail) (told one.0) (of_only s g e' (e' ∷ tail) (only_left s e e' tail same c (none one.0)) (goes g one.1))
    by false c = leaves_of met s g tail (e' ∷ tail) (entries_other s e' tail (same_test e.id e'.id s false same c)) (rest (others_live s g e es c live))

-- messages that were read of a live stream
of_own : (s g : ℕ) (l : List StreamMessage) → list_all (λ (x : StreamMessage). x.generation == g) l ≡ true → are_of_generation s g l ≡ true
of_own s g [] h = refl
of_own s g (x ∷ l) h = by (x.generation == g) refl h (of_own s g l)
  where
    or_true : (a : Bool) → (not a || true) ≡ true
    or_true true = refl
    or_true false = refl

    by : (b : Bool) → (x.generation == g) ≡ b → (b && list_all (λ (y : StreamMessage). y.generation == g) l) ≡ true
        → (list_all (λ (y : StreamMessage). y.generation == g) l ≡ true → are_of_generation s g l ≡ true) → are_of_generation s g (x ∷ l) ≡ true
    by true e k rest = rw (e, or_true (x.stream == s), rest k) refl
    by false e k rest = absurd (true≢false (sym k))

of_others : (n s g : ℕ) (l : List StreamMessage) → (n == s) ≡ false → are_of_stream n l ≡ true → are_of_generation s g l ≡ true
of_others n s g [] c h = refl
of_others n s g (x ∷ l) c h = by (x.stream == n) refl h (of_others n s g l c)
  where
    by : (b : Bool) → (x.stream == n) ≡ b → (b && are_of_stream n l) ≡ true → (are_of_stream n l ≡ true → are_of_generation s g l ≡ true) → are_of_generation s g (x ∷ l) ≡ true
    by true e k rest =
        let other : (x.stream == s) ≡ false = ap (λ (i : ℕ). i == s) (eqb-true x.stream n e) ∙ c in
        rw (other, rest k) refl
    by false e k rest = absurd (true≢false (sym k))

none_of : (s g : ℕ) (l : List StreamMessage) → ((k : ℕ) → messages_of s k l ≡ []) → are_of_generation s g l ≡ true
none_of s g [] h = refl
none_of s g (x ∷ l) h = by (x.stream == s) refl (none_of s g l)
  where
    no_cons : (y : StreamMessage) (ys : List StreamMessage) → y ∷ ys ≡ [] → ⊥
    no_cons y ys f = cc

    here : (b c : Bool) → b ≡ true → c ≡ true → cond (b && c) (x ∷ messages_of s x.generation l) (messages_of s x.generation l) ≡ [] → ⊥
    here true true e f k = no_cons x (messages_of s x.generation l) k
    here true false e f k = true≢false (sym f)
    here false c e f k = true≢false (sym e)

    there : (k : ℕ) (b : Bool) → b ≡ false → cond (b && (x.generation == k)) (x ∷ messages_of s k l) (messages_of s k l) ≡ [] → messages_of s k l ≡ []
    there k true e f = absurd (true≢false e)
    there k false e f = f

    by : (b : Bool) → (x.stream == s) ≡ b → (((k : ℕ) → messages_of s k l ≡ []) → are_of_generation s g l ≡ true) → are_of_generation s g (x ∷ l) ≡ true
    by true e rest =
        let self : (x.generation == x.generation) ≡ true = grind arith in
        absurd (here (x.stream == s) (x.generation == x.generation) e self (h x.generation))
    by false e rest = rw (e, rest (λ k. there k (x.stream == s) e (h k))) refl

pub first_heard : (s g : ℕ) (e : StreamEntry) (es : List StreamEntry) (l : List StreamMessage) → are_of_stream e.id l ≡ true → ((k : ℕ) → e.generation ≡ Some k → list_all (λ (x : StreamMessage). x.generation == k) l ≡ true)
    → IsLive s g (e ∷ es) → are_of_generation s g l ≡ true
first_heard s g e es l own kept live = by (e.id == s) refl
  where
    by : (b : Bool) → (e.id == s) ≡ b → are_of_generation s g l ≡ true
    by true c = of_own s g l (kept g (first_live s g e es c live).1.1)
    by false c = of_others e.id s g l c own

pub next_heard : (s g : ℕ) (e : StreamEntry) (es : List StreamEntry) (l : List StreamMessage) → (entries_of s es ≡ [] → (k : ℕ) → messages_of s k l ≡ []) → (IsLive s g es → are_of_generation s g l ≡ true)
    → IsLive s g (e ∷ es) → are_of_generation s g l ≡ true
next_heard s g e es l none rest live = by (e.id == s) refl
  where
    by : (b : Bool) → (e.id == s) ≡ b → are_of_generation s g l ≡ true
    by true c = none_of s g l (none (first_live s g e es c live).0)
    by false c = rest (others_live s g e es c live)

pub are_join : (s g : ℕ) (xs ys : List StreamMessage) → are_of_generation s g xs ≡ true → are_of_generation s g ys ≡ true → are_of_generation s g (xs ++ ys) ≡ true
are_join s g xs ys h k = rw (list_all-append (λ (x : StreamMessage). not (x.stream == s) || (x.generation == g)) xs ys, h, k) refl

-- events
pub live_after : (e : AssocEvent) (b b' : Book) (s g : ℕ) → AfterEvent e b b' → IsLive s g b.entries → IsLive s g b'.entries
live_after e b b' s g h k = one_after (IsLiveIn g) (of_live g) s e b b' h k

-- closed entries are dropped
pub live_unclosed : (s g : ℕ) (es : List StreamEntry) → IsLive s g es → IsLive s g (unclosed es)
live_unclosed s g es h = one_left (IsLiveIn g) (of_live g) s es h
