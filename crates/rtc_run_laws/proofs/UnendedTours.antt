-- What a visit of all entries leaves of a stream whose entry says of a generation that data of it was told.
use Rattle.std.proofs.Common.{◌≡◌, ◌∙◌, ◌⊎◌, inl, inr, ℕ, ◌==◌, Bool, true, false, List, [], ◌∷◌, Option, Some, refl, sym, ap, subst}
use Rattle.std.proofs.lemmas.Bool.{eqb-true, eqb-false}
use Rattle.rtc_parts.specs.declared.assoc_event.AssocEvent.TheVariants.{Finished}
use Rattle.rtc_parts.specs.Among.{Member}
use Rattle.rtc_parts.specs.AssociationLaws.{AssociationLaws}
use Rattle.rtc_parts.specs.AssociationMeaning.{AssociationMeaning}
use Rattle.rtc_sctp_entries.specs.declared.stream_entry_state.StreamEntryState.{StreamEntryState}
use Rattle.rtc_sctp_entries.specs.declared.stream_entry_state.StreamEntryState.TheVariants.{AwaitOpen, AwaitConfig, AwaitDcepAck, Open, Closed}
use Rattle.rtc_sctp_entries.specs.declared.stream_entry.StreamEntry.{StreamEntry}
use Rattle.rtc_sctp_entries.specs.declared.sctp_event.SctpEvent.{SctpEvent}
use Rattle.rtc_sctp_entries.specs.declared.sctp_event.SctpEvent.TheVariants as event
use Rattle.rtc_sctp_entries.specs.declared.met.Met.{Met}
use Rattle.rtc_sctp_entries.specs.declared.met.Met.TheVariants.{Nothing, Again, Output, OutOfMemory}
use Rattle.rtc_sctp_entries.specs.Visits.{Turn, turn}
use Rattle.rtc_sctp.specs.Polls.{VisitedThen, VisitsAll}
use Rattle.rtc_sctp_laws.specs.GenerationLaws.{GenerationLaws}
use Rattle.rtc_sctp_laws.specs.StreamActs.{VisitDid}
use Rattle.rtc_sctp_laws.specs.StreamUses.{OneAtMost, entries_of}
use Rattle.rtc_sctp_laws.proofs.EntriesOf.{entries_own, entries_other, same_test}
use Rattle.rtc_sctp_laws.proofs.KeptUses.{did_keeps}
use Rattle.rtc_sctp_laws.proofs.LivingEntries.{OpensOther, other_by}
use Rattle.rtc_sctp_laws.proofs.OneEntry.{one_is, one_map, one_only}
use Rattle.rtc_sctp_laws.proofs.UsedReadings.{visit_uses}
use Rattle.rtc_sctp_laws.proofs.UsedTours.{tour_uses}
use Rattle.rtc_run_laws.proofs.CompletingVisits.{TellsClose}
use Rattle.rtc_run_laws.proofs.UnendedStreams.{IsUnended, unended_did}
use Rattle.rtc_run_laws.proofs.UnendedEntries.{Goes, IsNow, Says, SaysIn, says_on, visit_says}

no_output : (e : SctpEvent) → Nothing ≡ Output e → ⊥
no_output e h = cc

-- what tells nothing of a stream does not tell that it is open
open_not : (s : ℕ) (label : List ℕ) (met : Met) → OpensOther met s → met ≡ Output (event.Open s label) → ⊥
open_not s label met other is = subst (λ (x : Met). OpensOther x s) is other refl

module _ {S : Type 0} (m : AssociationMeaning S) (g : ℕ) where
  -- a stream has one entry, which says of a generation that data of it was told
  abbrev pub HasSaid : (stream : ℕ) → S → List StreamEntry → Type 0
  HasSaid s a es = OneAtMost ⊥ (Says m g s a) (entries_of s es)

  -- the one entry of a stream keeps the generation
  abbrev pub HasOwn : (stream : ℕ) → List StreamEntry → Type 0
  HasOwn s es = OneAtMost ⊥ (λ (e : StreamEntry). e.generation ≡ Some g) (entries_of s es)

  -- what is left: the close of the stream is told, or its entry says the same; and where it is told to be open, that keeps the generation
  pub record Leaves (s : ℕ) (met : Met) (a : S) (es : List StreamEntry) : Type 0 where
    pub left : TellsClose s met ⊎ HasSaid s a es
    pub opens : (label : List ℕ) → met ≡ Output (event.Open s label) → HasOwn s es

  pub leaves_is : (s : ℕ) (met : Met) (a a' : S) (es es' : List StreamEntry) → a' ≡ a → es' ≡ es → Leaves s met a es → Leaves s met a' es'
  leaves_is s met a a' es es' same is h = rw (same, is) h

  pub said_is : (s : ℕ) (a : S) (es es' : List StreamEntry) → es' ≡ es → HasSaid s a es → HasSaid s a es'
  said_is s a es es' is h = subst (λ (l : List StreamEntry). HasSaid s a l) (sym is) h

  pub said_on : (s : ℕ) (a b : S) (es : List StreamEntry) → (IsUnended m s g a → IsUnended m s g b) → HasSaid s a es → HasSaid s b es
  said_on s a b es f h = one_map ⊥ ⊥ (Says m g s a) (Says m g s b) (entries_of s es) (λ x. x) (λ e k. says_on m g s a b e f k) h

  -- the entry says so, and where it waits for its config the stream has the generation now
  abbrev IsSaidNow : (stream : ℕ) → S → StreamEntry → Type 0
  IsSaidNow s a e = Says m g s a e × IsNow m g s a e

  abbrev pub HasSaidNow : (stream : ℕ) → S → List StreamEntry → Type 0
  HasSaidNow s a es = OneAtMost ⊥ (IsSaidNow s a) (entries_of s es)

  -- where no event is to be reported
  none_due : (s : ℕ) (a : S) → m.due a ≡ [] → IsUnended m s g a → m.generation a s ≡ g
  none_due s a due (inl h) = absurd (subst (λ (l : List _). Member (Finished s) l) due h)
  none_due s a due (inr h) = h.0

  now_in : (st : StreamEntryState) (marked : Bool) (own : Option ℕ) (s : ℕ) (a : S) → m.due a ≡ [] → SaysIn m g st marked own s a
      → st ≡ AwaitConfig → marked ≡ false → m.generation a s ≡ g
  now_in AwaitConfig false own s a due h is free = none_due s a due h
  now_in AwaitConfig true own s a due h is free = let clash : true ≡ false = free in cc
  now_in AwaitOpen marked own s a due h is free = absurd h
  now_in AwaitDcepAck marked own s a due h is free = let clash : AwaitDcepAck ≡ AwaitConfig = is in cc
  now_in Open marked own s a due h is free = let clash : Open ≡ AwaitConfig = is in cc
  now_in Closed marked own s a due h is free = absurd h

  pub said_now : (s : ℕ) (a : S) (es : List StreamEntry) → m.due a ≡ [] → HasSaid s a es → HasSaidNow s a es
  said_now s a es due h =
      one_map ⊥ ⊥ (Says m g s a) (IsSaidNow s a) (entries_of s es) (λ x. x)
      (λ e k. (k, λ is free. now_in e.state e.marked e.generation s a due k is free)) h

  module _ (w : AssociationLaws m) (v : GenerationLaws m) where
    -- a visit moved the association
    visit_unended : (s : ℕ) (a : S) (met : Met) (b : S) → VisitDid m a met b → IsUnended m s g a → IsUnended m s g b
    visit_unended s a met b d h = unended_did m w s g [] [] d.wrote d.heard a b d.did h

    visit_now : (s : ℕ) (a : S) (met : Met) (b : S) (e : StreamEntry) → VisitDid m a met b → IsSaidNow s a e → IsSaidNow s b e
    visit_now s a met b e d h = (
      says_on m g s a b e (visit_unended s a met b d) h.0,
      λ is free. (did_keeps m v s [] [] d.wrote d.heard a b d.did).generation_is ∙ h.1 is free,
    )

    abbrev Tours : ℕ → List StreamEntry → Type 0
    Tours now es =
        (s : ℕ) (a : S) (rs : List ℕ) (met : Met) (a' : S) (rs' : List ℕ) (es' : List StreamEntry) → HasSaidNow s a es
        → VisitsAll m now es a rs met a' rs' es' → Leaves s met a' es'

    -- the first entry is the one of the stream
    first_own : (now : ℕ) (es : List StreamEntry) (s : ℕ) (e : StreamEntry) (own : Met) (b : Turn S) (met : Met) (a' : S) (rs' : List ℕ)
        (es' : List StreamEntry) → (e.id == s) ≡ true → entries_of s es ≡ [] → b.entry.id ≡ e.id → Goes m g s own b
        → VisitedThen m (VisitsAll m now es) own es b met a' rs' es' → Leaves s met a' es'
    first_own now es s e own b met a' rs' es' mine none kept goes t = by own goes t
      where
        one : (tail : List StreamEntry) → entries_of s tail ≡ [] → entries_of s (b.entry ∷ tail) ≡ b.entry ∷ []
        one tail gone =
            entries_own s b.entry tail (same_test e.id b.entry.id s true kept mine) ∙ ap (λ (l : List StreamEntry). b.entry ∷ l) gone

        said : (tail : List StreamEntry) → entries_of s tail ≡ [] → (a : S) → Says m g s a b.entry → HasSaid s a (b.entry ∷ tail)
        said tail gone a h = one_is ⊥ (Says m g s a) (b.entry ∷ []) (entries_of s (b.entry ∷ tail)) (one tail gone) h

        stopped : (o : Met) → Goes m g s o b → met ≡ o → a' ≡ b.association → es' ≡ b.entry ∷ es → Leaves s met a' es'
        stopped o k is same entries =
            leaves_is s met b.association a' (b.entry ∷ es) es' same entries
            (record {
              left = left k.left;
              opens = λ label f.
                  one_is ⊥ (λ (x : StreamEntry). x.generation ≡ Some g) (b.entry ∷ []) (entries_of s (b.entry ∷ es)) (one es none)
                  (k.opens label (sym is ∙ f));
            })
          where
            left : TellsClose s o ⊎ Says m g s b.association b.entry → TellsClose s met ⊎ HasSaid s b.association (b.entry ∷ es)
            left (inl x) = inl (x.0, is ∙ x.1)
            left (inr x) = inr (said es none b.association x)

        went : Goes m g s Nothing b → (tail : List StreamEntry) → VisitsAll m now es b.association b.resets met a' rs' tail → es' ≡ b.entry ∷ tail
            → Leaves s met a' es'
        went k tail rest entries =
            let tour = tour_uses m w now es b.association b.resets met a' rs' tail rest in
            leaves_is s met a' a' (b.entry ∷ tail) es' refl entries
            (record {
              left = left (tour.none s none) tour.did k.left;
              opens = λ label f. absurd (open_not s label met (tour.told s none) f);
            })
          where
            left : entries_of s tail ≡ [] → VisitDid m b.association met a' → TellsClose s Nothing ⊎ Says m g s b.association b.entry
                → TellsClose s met ⊎ HasSaid s a' (b.entry ∷ tail)
            left gone d (inl x) = absurd (no_output _ x.1)
            left gone d (inr x) = inr (said tail gone a' (says_on m g s b.association a' b.entry (visit_unended s b.association met a' d) x))

        by : (o : Met) → Goes m g s o b → VisitedThen m (VisitsAll m now es) o es b met a' rs' es' → Leaves s met a' es'
        by Nothing k x = went k x.0 x.1 x.2
        by Again k x = stopped Again k x.0 x.1 x.3
        by (Output o) k x = stopped (Output o) k x.0 x.1 x.3
        by OutOfMemory k x = stopped OutOfMemory k x.0 x.1 x.3

    -- or another one
    first_other : (now : ℕ) (es : List StreamEntry) → Tours now es → (s : ℕ) (own : Met) (b : Turn S) (met : Met) (a' : S) (rs' : List ℕ)
        (es' : List StreamEntry) → (b.entry.id == s) ≡ false → OpensOther own s → HasSaidNow s b.association es
        → VisitedThen m (VisitsAll m now es) own es b met a' rs' es' → Leaves s met a' es'
    first_other now es rest s own b met a' rs' es' other quiet said t = by own quiet t
      where
        beside : (tail : List StreamEntry) (a : S) → HasSaid s a tail → HasSaid s a (b.entry ∷ tail)
        beside tail a h = one_is ⊥ (Says m g s a) (entries_of s tail) (entries_of s (b.entry ∷ tail)) (entries_other s b.entry tail other) h

        now_said : HasSaid s b.association es
        now_said = one_map ⊥ ⊥ (IsSaidNow s b.association) (Says m g s b.association) (entries_of s es) (λ x. x) (λ e k. k.0) said

        stopped : (o : Met) → OpensOther o s → met ≡ o → a' ≡ b.association → es' ≡ b.entry ∷ es → Leaves s met a' es'
        stopped o k is same entries =
            leaves_is s met b.association a' (b.entry ∷ es) es' same entries
            (record {
              left = inr (beside es b.association now_said);
              opens = λ label f. absurd (open_not s label o k (sym is ∙ f));
            })

        left_on : (tail : List StreamEntry) → TellsClose s met ⊎ HasSaid s a' tail → TellsClose s met ⊎ HasSaid s a' (b.entry ∷ tail)
        left_on tail (inl x) = inl x
        left_on tail (inr x) = inr (beside tail a' x)

        went : (tail : List StreamEntry) → Leaves s met a' tail → es' ≡ b.entry ∷ tail → Leaves s met a' es'
        went tail k entries =
            leaves_is s met a' a' (b.entry ∷ tail) es' refl entries
            (record {
              left = left_on tail k.left;
              opens = λ label f.
                  one_is ⊥ (λ (x : StreamEntry). x.generation ≡ Some g) (entries_of s tail) (entries_of s (b.entry ∷ tail))
                  (entries_other s b.entry tail other) (k.opens label f);
            })

        by : (o : Met) → OpensOther o s → VisitedThen m (VisitsAll m now es) o es b met a' rs' es' → Leaves s met a' es'
        by Nothing k x = went x.0 (rest s b.association b.resets met a' rs' x.0 said x.1) x.2
        by Again k x = stopped Again k x.0 x.1 x.3
        by (Output o) k x = stopped (Output o) k x.0 x.1 x.3
        by OutOfMemory k x = stopped OutOfMemory k x.0 x.1 x.3

    pub tour_says : (now : ℕ) (es : List StreamEntry) → Tours now es
    tour_says now [] s a rs met a' rs' es' said h = absurd said
    tour_says now (e ∷ es) s a rs met a' rs' es' said h = by (e.id == s) refl (tour_says now es)
      where
        by : (c : Bool) → (e.id == s) ≡ c → Tours now es → Leaves s met a' es'
        by true c rest =
            let one =
            one_only ⊥ (IsSaidNow s a) e (entries_of s es)
            (one_is ⊥ (IsSaidNow s a) (entries_of s (e ∷ es)) (e ∷ entries_of s es) (sym (entries_own s e es c)) said) in
            let used = visit_uses m w now (turn a e rs) h.0 h.1 h.2 in
            let same : e.id ≡ s = eqb-true e.id s c in
            first_own now es s e h.0 h.1 met a' rs' es' c one.0 used.id_is
            (subst (λ (n : ℕ). Goes m g n h.0 h.1) same
            (visit_says m g w v now (turn a e rs) h.0 h.1 (subst (λ (n : ℕ). Says m g n a e) (sym same) one.1.0)
            (subst (λ (n : ℕ). IsNow m g n a e) (sym same) one.1.1) h.2)) h.3
        by false c rest =
            let used = visit_uses m w now (turn a e rs) h.0 h.1 h.2 in
            first_other now es rest s h.0 h.1 met a' rs' es' (same_test e.id h.1.entry.id s false used.id_is c)
            (other_by h.0 e.id s (eqb-false e.id s c) used.opens_own)
            (one_map ⊥ ⊥ (IsSaidNow s a) (IsSaidNow s h.1.association) (entries_of s es) (λ x. x)
            (λ x k. visit_now s a h.0 h.1.association x used.did k)
            (one_is ⊥ (IsSaidNow s a) (entries_of s (e ∷ es)) (entries_of s es) (sym (entries_other s e es c)) said)) h.3
