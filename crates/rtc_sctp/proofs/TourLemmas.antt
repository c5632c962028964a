-- The entries are visited in turn.
use Rattle.std.proofs.Common.{◌≡◌, ℕ, List, ◌∷◌, refl}
use Rattle.rtc_parts.specs.AssociationMeaning.{AssociationMeaning}
use Rattle.rtc_sctp_entries.specs.declared.stream_entry.StreamEntry.{StreamEntry}
use Rattle.rtc_sctp_entries.specs.declared.met.Met.{Met}
use Rattle.rtc_sctp_entries.specs.declared.met.Met.TheVariants.{Nothing, Again, Output, OutOfMemory}
use Rattle.rtc_sctp_entries.specs.Visits.{Turn, turn, Visits}
use Rattle.rtc_sctp.specs.Polls.{VisitsAll}

module _ {S : Type 0} (m : AssociationMeaning S) where
  pub tour_go : (now : ℕ) (e : StreamEntry) (es : List StreamEntry) (a : S) (rs : List ℕ) (b : Turn S) (met : Met) (a' : S) (rs' : List ℕ) (tail : List StreamEntry) → Visits m now (turn a e rs) Nothing b → VisitsAll m now es b.association b.resets met a' rs' tail → VisitsAll m now (e ∷ es) a rs met a' rs' (b.entry ∷ tail)
  tour_go now e es a rs b met a' rs' tail v h = (Nothing, b, v, (tail, h, refl))

  pub tour_stop : (now : ℕ) (e : StreamEntry) (es : List StreamEntry) (a : S) (rs : List ℕ) (b : Turn S) (met : Met) → Visits m now (turn a e rs) met b → (met ≡ Nothing → ⊥) → VisitsAll m now (e ∷ es) a rs met b.association b.resets (b.entry ∷ es)
  tour_stop now e es a rs b Nothing v n = absurd (n refl)
  tour_stop now e es a rs b Again v n = (Again, b, v, (refl, refl, refl, refl))
  tour_stop now e es a rs b (Output o) v n = (Output o, b, v, (refl, refl, refl, refl))
  tour_stop now e es a rs b OutOfMemory v n = (OutOfMemory, b, v, (refl, refl, refl, refl))
