-- A visit leaves the association started.
use Rattle.std.proofs.Common.{◌≡◌, ℕ, true, refl}
use Rattle.rtc_parts.specs.AssociationMeaning.{AssociationMeaning}
use Rattle.rtc_parts.specs.AssociationLaws.{AssociationLaws}
use Rattle.rtc_sctp_entries.specs.declared.met.Met.{Met}
use Rattle.rtc_sctp_entries.specs.Visits.{Turn, Visits}
use Rattle.rtc_sctp_entries.proofs.KeptVisits.{KeepsCalls, visits_keep}
use Rattle.rtc_sctp_entries.proofs.PartLemmas.{started_opened, started_wrote, started_read, started_ended, started_threshold, started_reliability}

module _ {S : Type 0} (m : AssociationMeaning S) (w : AssociationLaws m) where
  calls_start : (own : ℕ) → KeepsCalls m own (λ (p : S). m.started p ≡ true)
  calls_start own = record {
    opened = started_opened m w;
    wrote = λ p q id ppi b r is. started_wrote m w p q id ppi b r;
    read = started_read m w;
    ended = started_ended m w;
    threshold = started_threshold m w;
    reliability = started_reliability m w;
  }

  pub visits_started : (now : ℕ) (t : Turn S) (met : Met) (t' : Turn S) → m.started t.association ≡ true → Visits m now t met t' → m.started t'.association ≡ true
  visits_started now t met t' s h = visits_keep m t.entry.id (λ (p : S). m.started p ≡ true) (calls_start t.entry.id) now t met t' refl s h
