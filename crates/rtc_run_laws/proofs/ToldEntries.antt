-- An entry that data was told of says so of the generation that its stream has, by how its stream is used.
use Rattle.std.proofs.Common.{◌≡◌, ◌∙◌, inl, inr, ◌∷◌, ◌==◌, ℕ, Bool, true, false, true≢false, List, [], Option, Some, None, refl, sym, ap}
use Rattle.std.specs.Prelude.{is_some}
use Rattle.std.proofs.lemmas.Bool.{eqb-true, eqb-false}
use Rattle.rtc_parts.specs.AssociationMeaning.{AssociationMeaning}
use Rattle.rtc_sctp_entries.specs.declared.stream_entry_state.StreamEntryState.{StreamEntryState}
use Rattle.rtc_sctp_entries.specs.declared.stream_entry_state.StreamEntryState.TheVariants.{AwaitOpen, AwaitConfig, AwaitDcepAck, Open, Closed}
use Rattle.rtc_sctp_entries.specs.declared.stream_entry.StreamEntry.{StreamEntry}
use Rattle.rtc_sctp_entries.specs.Entries.{fits_generation}
use Rattle.rtc_sctp_laws.specs.StreamMessages.{StreamMessage}
use Rattle.rtc_sctp_laws.specs.StreamRuns.{is_past_opening}
use Rattle.rtc_sctp_laws.specs.StreamUses.{EntryUsed, IsLiveIn, IsUsedIn, NoneUsed, OneAtMost, entries_of}
use Rattle.rtc_sctp_laws.proofs.EntriesOf.{entries_other, entries_own}
use Rattle.rtc_sctp_laws.proofs.OneEntry.{one_is, one_map, one_only}
use Rattle.rtc_run_laws.specs.OwnOpenings.{HasEntryOf}
use Rattle.rtc_run_laws.proofs.StandingCalls.{none_listed}
use Rattle.rtc_run_laws.proofs.UnendedEntries.{Says, SaysIn}
use Rattle.rtc_run_laws.proofs.ReadVisits.{IsTold}
use Rattle.rtc_run_laws.proofs.UnendedTours.{HasSaid}
use Rattle.rtc_run_laws.proofs.WholeUses.{some_is}

-- the one entry of a stream is so, and so
one_both : (N : Type 0) (P Q : StreamEntry → Type 0) (s : ℕ) (es : List StreamEntry) → HasEntryOf P s es → OneAtMost N Q (entries_of s es)
    → OneAtMost ⊥ (λ (e : StreamEntry). P e × Q e) (entries_of s es)
one_both N P Q s [] h k = absurd h
one_both N P Q s (e ∷ es) h k = by (e.id == s) refl h (one_both N P Q s es)
  where
    own_test : (n : ℕ) → n ≡ s → (n == s) ≡ false → ⊥
    own_test n same other = eqb-false n s other same

    first : (entries_of s es ≡ []) × Q e → HasEntryOf P s (e ∷ es) → P e
    first one (inl x) = x.1
    first one (inr x) = absurd (none_listed P s es one.0 x)

    by : (b : Bool) → (e.id == s) ≡ b → HasEntryOf P s (e ∷ es)
        → (HasEntryOf P s es → OneAtMost N Q (entries_of s es) → OneAtMost ⊥ (λ (x : StreamEntry). P x × Q x) (entries_of s es))
        → OneAtMost ⊥ (λ (x : StreamEntry). P x × Q x) (entries_of s (e ∷ es))
    by true c x rest =
        let one = one_only N Q e (entries_of s es) (one_is N Q (entries_of s (e ∷ es)) (e ∷ entries_of s es) (sym (entries_own s e es c)) k) in
        one_is ⊥ (λ (y : StreamEntry). P y × Q y) (e ∷ []) (entries_of s (e ∷ es))
        (entries_own s e es c ∙ ap (λ (l : List StreamEntry). e ∷ l) one.0) (first one x, one.1)
    by false c (inl x) rest = absurd (own_test e.id x.0 c)
    by false c (inr x) rest =
        one_is ⊥ (λ (y : StreamEntry). P y × Q y) (entries_of s es) (entries_of s (e ∷ es)) (entries_other s e es c)
        (rest x (one_is N Q (entries_of s (e ∷ es)) (entries_of s es) (sym (entries_other s e es c)) k))

pub same_own : (g h : ℕ) (es : List StreamEntry) → OneAtMost ⊥ (λ (e : StreamEntry). e.generation ≡ Some g) es → OneAtMost ⊥ (IsLiveIn h) es → h ≡ g
same_own g h [] x y = absurd x
same_own g h (e ∷ []) x y = some_is h g (sym y.1 ∙ x)
same_own g h (e ∷ f ∷ es) x y = absurd x

module _ {S : Type 0} (m : AssociationMeaning S) where
  own_is : (own : Option ℕ) (n : ℕ) → is_some own ≡ true → fits_generation own n ≡ true → own ≡ Some n
  own_is None n h k = absurd (true≢false (sym h))
  own_is (Some own) n h k = ap (λ (x : ℕ). Some x) (eqb-true own n k)

  -- an entry that data was told of, by how its stream is used
  says_in_told : (st : StreamEntryState) (marked : Bool) (own : Option ℕ) (s : ℕ) (a : S) (ws hs : List StreamMessage) → marked ≡ false
      → is_past_opening st ≡ true → fits_generation own (m.generation a s) ≡ true → m.finished a s ≡ false
      → IsUsedIn m st marked own s a ws hs → SaysIn m (m.generation a s) st marked own s a
  says_in_told AwaitOpen marked own s a ws hs free past fits ended used = absurd (true≢false (sym past))
  says_in_told AwaitConfig true own s a ws hs free past fits ended used = tt
  says_in_told AwaitConfig false own s a ws hs free past fits ended used = inr (refl, ended)
  says_in_told AwaitDcepAck true own s a ws hs free past fits ended used = tt
  says_in_told AwaitDcepAck false own s a ws hs free past fits ended used = own_is own (m.generation a s) used.0 fits
  says_in_told Open marked own s a ws hs free past fits ended used = tt
  says_in_told Closed marked own s a ws hs free past fits ended used = absurd (true≢false (sym past))

  pub told_said : (s : ℕ) (a : S) (es : List StreamEntry) (written read : List StreamMessage) → HasEntryOf (IsTold m s a) s es
      → OneAtMost (NoneUsed m s a written read) (EntryUsed m s a written read) (entries_of s es) → HasSaid m (m.generation a s) s a es
  told_said s a es written read h used =
      one_map ⊥ ⊥ (λ (e : StreamEntry). IsTold m s a e × EntryUsed m s a written read e) (Says m (m.generation a s) s a) (entries_of s es) (λ x. x)
      (λ e k. says_in_told e.state e.marked e.generation s a _ _ k.0.unmarked k.0.past k.0.fits k.0.unended k.1.0)
      (one_both (NoneUsed m s a written read) (IsTold m s a) (EntryUsed m s a written read) s es h used)
