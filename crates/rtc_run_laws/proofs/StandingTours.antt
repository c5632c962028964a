-- What a visit of the entries of streams leaves of those whose opening is begun.
use Rattle.std.proofs.Common.{◌≡◌, ◌⊎◌, inl, inr, ℕ, List, [], ◌∷◌, refl, sym, subst, ◌∙◌, arith, ◌+◌, ◌≤◌}
use Rattle.rtc_parts.specs.AssociationMeaning.{AssociationMeaning}
use Rattle.rtc_sctp_entries.specs.declared.stream_entry_state.StreamEntryState.TheVariants.{AwaitConfig, Open, Closed}
use Rattle.rtc_sctp_entries.specs.declared.stream_entry.StreamEntry.{StreamEntry}
use Rattle.rtc_sctp_entries.specs.declared.met.Met.{Met}
use Rattle.rtc_sctp_entries.specs.declared.met.Met.TheVariants.{Nothing, Again, Output, OutOfMemory}
use Rattle.rtc_sctp_entries.specs.Entries.{AscendFrom}
use Rattle.rtc_sctp_entries.specs.Visits.{Turn, turn}
use Rattle.rtc_sctp.specs.Polls.{VisitedThen, VisitsAll}
use Rattle.rtc_sctp_laws.specs.StreamUses.{TellsStreamOpen}
use Rattle.rtc_run_laws.specs.OwnOpenings.{HasEntryOf, HasOpening, IsOpeningState}
use Rattle.rtc_run_laws.proofs.StandingVisits.{IsStanding, TellsStreamClosed, Goes, closed_not}
use Rattle.rtc_run_laws.proofs.StandingReadings.{visit_goes}
use Rattle.rtc_run_laws.proofs.StandingEntries.{AreBanded, HasOutStanding, HasStanding, IsOutStanding}

-- What is told to be open, or closed, is of a stream among them; what is told to be closed is not opened from here then.
pub record TourGoes (met : Met) (es es' : List StreamEntry) : Type 0 where
  pub stands : (s : ℕ) → HasStanding s es → HasStanding s es' ⊎ TellsStreamClosed met s
  pub outs : (s : ℕ) → HasOutStanding s es → HasOutStanding s es' ⊎ TellsStreamClosed met s
  pub banded : (s : ℕ) → AreBanded s es → AreBanded s es'
  pub openings : (s : ℕ) → HasOpening s es' → HasOpening s es
  pub tells_open : (s : ℕ) → TellsStreamOpen met s → HasStanding s es'
  pub tells_closed : (s : ℕ) → TellsStreamClosed met s → HasEntryOf (λ e. Unit {0}) s es
  pub shut : (s low : ℕ) → TellsStreamClosed met s → AscendFrom low es → HasOpening s es' → ⊥

-- no entry is of a stream with a lower number than each
pub least_entry : (P : StreamEntry → Type 0) (s low : ℕ) (es : List StreamEntry) → AscendFrom low es → HasEntryOf P s es → low ≤ s
least_entry P s low [] h k = absurd k
least_entry P s low (e ∷ es) h (inl k) = omega (arith, h.0, k.0)
least_entry P s low (e ∷ es) h (inr k) = let up = least_entry P s (e.id + 1) es h.1 k in omega (arith, h.0, up)

-- an entry that is open stands
open_stands : (s : ℕ) (e : StreamEntry) → (e.id ≡ s) × (e.state ≡ Open) → (e.id ≡ s) × IsStanding e
open_stands s e h =
    (h.0, ((λ c. let clash : Open ≡ Closed = sym h.1 ∙ c in cc), λ c. absurd (let clash : Open ≡ AwaitConfig = sym h.1 ∙ c in cc)))

-- one that was settled by other means stays so
out_goes : (met : Met) (e e' : StreamEntry) → Goes met e e' → IsOutStanding e → IsOutStanding e' ⊎ TellsStreamClosed met e.id
out_goes met e e' k h = by (k.stands h.0)
  where
    by : IsStanding e' ⊎ TellsStreamClosed met e.id → IsOutStanding e' ⊎ TellsStreamClosed met e.id
    by (inl stands) = inl (stands, k.band_is ∙ h.1)
    by (inr told) = inr told

-- the first gives something
stopped : (met : Met) (e e' : StreamEntry) (es : List StreamEntry) → Goes met e e' → TourGoes met (e ∷ es) (e' ∷ es)
stopped met e e' es k = record {
  stands = λ s h. by IsStanding k.stands s h;
  outs = λ s h. by IsOutStanding (out_goes met e e' k) s h;
  banded = λ s h. ((λ is. k.band_is ∙ h.0 (sym k.id_is ∙ is)), h.1);
  openings = λ s h. opened s h;
  tells_open = λ s told. inl (open_stands s e' (k.tells_open s told));
  tells_closed = λ s told. inl (sym k.id_is ∙ (k.tells_closed s told).0, tt);
  shut = λ s low told h opening. none s low (k.tells_closed s told) h opening;
}
  where
    opened : (s : ℕ) → HasOpening s (e' ∷ es) → HasOpening s (e ∷ es)
    opened s (inl h) = inl (sym k.id_is ∙ h.0, k.opening h.1)
    opened s (inr h) = inr h

    none : (s low : ℕ) → (e'.id ≡ s) × (e'.state ≡ Closed) → AscendFrom low (e ∷ es) → HasOpening s (e' ∷ es) → ⊥
    none s low told h (inl opening) = closed_not e'.state told.1 opening.1
    none s low told h (inr opening) =
        let up = least_entry (λ x. IsOpeningState x.state) s (e.id + 1) es h.1 opening in omega (arith, up, k.id_is, told.0)

    first : (P : StreamEntry → Type 0) (s : ℕ) → e.id ≡ s → P e' ⊎ TellsStreamClosed met e.id → HasEntryOf P s (e' ∷ es) ⊎ TellsStreamClosed met s
    first P s same (inl h) = inl (inl (k.id_is ∙ same, h))
    first P s same (inr told) = inr (subst (λ (n : ℕ). TellsStreamClosed met n) same told)

    by : (P : StreamEntry → Type 0) → (P e → P e' ⊎ TellsStreamClosed met e.id) → (s : ℕ) → HasEntryOf P s (e ∷ es)
        → HasEntryOf P s (e' ∷ es) ⊎ TellsStreamClosed met s
    by P goes s (inl h) = first P s h.0 (goes h.1)
    by P goes s (inr h) = inl (inr h)

-- it gives nothing, and the others are visited
went_on : (met : Met) (e e' : StreamEntry) (es tail : List StreamEntry) → Goes Nothing e e' → TourGoes met es tail → TourGoes met (e ∷ es) (e' ∷ tail)
went_on met e e' es tail k rest = record {
  stands = λ s h. by IsStanding k.stands rest.stands s h;
  outs = λ s h. by IsOutStanding (out_goes Nothing e e' k) rest.outs s h;
  banded = λ s h. ((λ is. k.band_is ∙ h.0 (sym k.id_is ∙ is)), rest.banded s h.1);
  openings = λ s h. opened s h;
  tells_open = λ s told. inr (rest.tells_open s told);
  tells_closed = λ s told. inr (rest.tells_closed s told);
  shut = λ s low told h opening. none s low told h opening;
}
  where
    opened : (s : ℕ) → HasOpening s (e' ∷ tail) → HasOpening s (e ∷ es)
    opened s (inl h) = inl (sym k.id_is ∙ h.0, k.opening h.1)
    opened s (inr h) = inr (rest.openings s h)

    none : (s low : ℕ) → TellsStreamClosed met s → AscendFrom low (e ∷ es) → HasOpening s (e' ∷ tail) → ⊥
    none s low told h (inl opening) =
        let up = least_entry (λ x. Unit {0}) s (e.id + 1) es h.1 (rest.tells_closed s told) in omega (arith, up, k.id_is, opening.0)
    none s low told h (inr opening) = rest.shut s (e.id + 1) told h.1 opening

    first : (P : StreamEntry → Type 0) (s : ℕ) → e.id ≡ s → P e' ⊎ TellsStreamClosed Nothing e.id → HasEntryOf P s (e' ∷ tail) ⊎ TellsStreamClosed met s
    first P s same (inl h) = inl (inl (k.id_is ∙ same, h))
    first P s same (inr told) = absurd told

    others : (P : StreamEntry → Type 0) (s : ℕ) → HasEntryOf P s tail ⊎ TellsStreamClosed met s → HasEntryOf P s (e' ∷ tail) ⊎ TellsStreamClosed met s
    others P s (inl h) = inl (inr h)
    others P s (inr told) = inr told

    by : (P : StreamEntry → Type 0) → (P e → P e' ⊎ TellsStreamClosed Nothing e.id)
        → ((s : ℕ) → HasEntryOf P s es → HasEntryOf P s tail ⊎ TellsStreamClosed met s) → (s : ℕ) → HasEntryOf P s (e ∷ es)
        → HasEntryOf P s (e' ∷ tail) ⊎ TellsStreamClosed met s
    by P goes others_go s (inl h) = first P s h.0 (goes h.1)
    by P goes others_go s (inr h) = others P s (others_go s h)

tour_is : (r met : Met) (es fs es' : List StreamEntry) → met ≡ r → es' ≡ fs → TourGoes r es fs → TourGoes met es es'
tour_is r met es fs es' is same h =
    subst (λ (x : Met). TourGoes x es es') (sym is) (subst (λ (l : List StreamEntry). TourGoes r es l) (sym same) h)

module _ {S : Type 0} (m : AssociationMeaning S) where
  then_goes : (now : ℕ) (es : List StreamEntry)
      → ((a : S) (rs : List ℕ) (met : Met) (a' : S) (rs' : List ℕ) (es' : List StreamEntry) → VisitsAll m now es a rs met a' rs' es' → TourGoes met es es')
      → (own : Met) (e : StreamEntry) (b : Turn S) (met : Met) (a' : S) (rs' : List ℕ) (es' : List StreamEntry) → Goes own e b.entry
      → VisitedThen m (VisitsAll m now es) own es b met a' rs' es' → TourGoes met (e ∷ es) es'
  then_goes now es rest Nothing e b met a' rs' es' k h =
      tour_is met met (e ∷ es) (b.entry ∷ h.0) es' refl h.2
      (went_on met e b.entry es h.0 k (rest b.association b.resets met a' rs' h.0 h.1))
  then_goes now es rest Again e b met a' rs' es' k h = tour_is Again met (e ∷ es) (b.entry ∷ es) es' h.0 h.3 (stopped Again e b.entry es k)
  then_goes now es rest (Output o) e b met a' rs' es' k h =
      tour_is (Output o) met (e ∷ es) (b.entry ∷ es) es' h.0 h.3 (stopped (Output o) e b.entry es k)
  then_goes now es rest OutOfMemory e b met a' rs' es' k h =
      tour_is OutOfMemory met (e ∷ es) (b.entry ∷ es) es' h.0 h.3 (stopped OutOfMemory e b.entry es k)

  pub tour_goes : (now : ℕ) (es : List StreamEntry) (a : S) (rs : List ℕ) (met : Met) (a' : S) (rs' : List ℕ) (es' : List StreamEntry)
      → VisitsAll m now es a rs met a' rs' es' → TourGoes met es es'
  tour_goes now [] a rs met a' rs' es' h =
      tour_is Nothing met [] [] es' h.0 h.3
      (record {
        stands = λ s x. absurd x;
        outs = λ s x. absurd x;
        banded = λ s x. tt;
        openings = λ s x. absurd x;
        tells_open = λ s told. absurd told;
        tells_closed = λ s told. absurd told;
        shut = λ s low told x y. absurd told;
      })
  tour_goes now (e ∷ es) a rs met a' rs' es' h =
      then_goes now es (tour_goes now es) h.0 e h.1 met a' rs' es' (visit_goes m now (turn a e rs) h.0 h.1 h.2) h.3
