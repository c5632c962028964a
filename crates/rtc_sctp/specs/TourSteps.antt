-- A walk over the entries from an id on. No clause of a public call cites this file.
use Rattle.std.specs.Prelude.{ℕ, ◌≡◌, ◌+◌, nat_lt, Bool, true, false, List, [], ◌∷◌}
use Rattle.rtc_parts.specs.AssociationMeaning.{AssociationMeaning}
use Rattle.rtc_sctp_entries.specs.declared.stream_entry.StreamEntry.{StreamEntry}
use Rattle.rtc_sctp_entries.specs.declared.met.Met.{Met}
use Rattle.rtc_sctp_entries.specs.declared.met.Met.TheVariants.{Nothing, Again, Output, OutOfMemory}
use Rattle.rtc_sctp.specs.Polls.{VisitsAll}

-- an entry with a lesser id is passed over
abbrev pub PassesIf : Bool → (List StreamEntry → Type 0) → Type 0 → StreamEntry → List StreamEntry → Type 0
PassesIf true rest whole entry es' = (tail : List StreamEntry) × rest tail × (es' ≡ entry ∷ tail)
PassesIf false rest whole entry es' = whole

module _ {S : Type 0} (m : AssociationMeaning S) where
  -- a walk over the entries whose ids are not below a number
  abbrev pub VisitsFrom : (now from : ℕ) → List StreamEntry → S → List ℕ → Met → S → List ℕ → List StreamEntry → Type 0
  VisitsFrom now from [] a resets met a' resets' es' = VisitsAll m now [] a resets met a' resets' es'
  VisitsFrom now from (entry ∷ entries) a resets met a' resets' es' =
      PassesIf (nat_lt entry.id from) (λ tail. VisitsFrom now from entries a resets met a' resets' tail)
      (VisitsAll m now (entry ∷ entries) a resets met a' resets' es') entry es'

  -- what the visit of one id does to a walk from it on: a walk behind it completes one, or it ends the walk
  abbrev pub StepsBy : (now : ℕ) → Met → (id : ℕ) → List StreamEntry → S → List ℕ → S → List ℕ → List StreamEntry → Type 0
  StepsBy now Nothing id es a resets a' resets' es' =
      (a' ≡ a)
      × (resets' ≡ resets)
      × ((met : Met) (b : S) (last : List ℕ) (tail : List StreamEntry) → VisitsFrom now (id + 1) es' a' resets' met b last tail
      → VisitsFrom now id es a resets met b last tail)
  StepsBy now Again id es a resets a' resets' es' = VisitsFrom now id es a resets Again a' resets' es'
  StepsBy now (Output o) id es a resets a' resets' es' = VisitsFrom now id es a resets (Output o) a' resets' es'
  StepsBy now OutOfMemory id es a resets a' resets' es' = VisitsFrom now id es a resets OutOfMemory a' resets' es'

  -- what is left of a walk leads to the whole of it
  abbrev pub WalkLeft : (now : ℕ) → List StreamEntry → S → List ℕ → (from : ℕ) → List StreamEntry → S → List ℕ → Type 0
  WalkLeft now all start first from es a resets =
      (met : Met) (b : S) (last : List ℕ) (tail : List StreamEntry) → VisitsFrom now from es a resets met b last tail
      → VisitsAll m now all start first met b last tail
