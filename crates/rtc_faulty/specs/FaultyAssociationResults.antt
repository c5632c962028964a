-- Results of an association that fails at listed calls.
use Rattle.std.proofs.Common.{
  ℕ,
  ◌≡◌,
  ◌+◌,
  ◌⊎◌,
  inl,
  inr,
  true,
  false,
  Option,
  Result,
  Ok,
  Err,
  sym,
  ap,
  ◌∙◌,
}
use Rattle.rtc_parts.specs.declared.assoc_error.AssocError.{AssocError}
use Rattle.rtc_parts.specs.declared.assoc_error.AssocError.TheVariants.{
  StreamExists,
  ResetPending,
  NoStream,
  TooLong,
  Closing,
  Fault,
  Alloc,
}
use Rattle.rtc_parts.specs.AssociationNeeds.{Answered}
use Rattle.rtc_faulty.specs.FaultyLemmas.{rose_inside, later_inside}
use Rattle.rtc_faulty.specs.FaultyAssociation.{opening_counts}

-- an answer of the part inside is one of the whole
pub answered_inside : {T : Type 0} (cause : Option AssocError) (i j f g : ℕ) (r : Result T AssocError) → g ≡ f → Answered cause i j r
    → Answered cause (i + f) (j + g) r
answered_inside cause i j f g (Ok x) e h = (h.0, later_inside i j f g e h.1)
answered_inside cause i j f g (Err StreamExists) e h = (h.0, later_inside i j f g e h.1)
answered_inside cause i j f g (Err ResetPending) e h = (h.0, later_inside i j f g e h.1)
answered_inside cause i j f g (Err NoStream) e h = (h.0, later_inside i j f g e h.1)
answered_inside cause i j f g (Err TooLong) e h = (h.0, later_inside i j f g e h.1)
answered_inside cause i j f g (Err Closing) e h = (h.0, later_inside i j f g e h.1)
answered_inside cause i j f g (Err Fault) e h = rose_inside i j f g e h
answered_inside cause i j f g (Err Alloc) e h = later_inside i j f g e h

-- a stream that is there, or a reset of it that is outstanding, uses no number
pub unnumbered : (e : AssocError) → (e ≡ StreamExists) ⊎ (e ≡ ResetPending) → opening_counts {A = Unit {0}} (Err e) ≡ false
unnumbered e (inl is) = ap (λ (x : AssocError). opening_counts {A = Unit {0}} (Err x)) is
unnumbered e (inr is) = ap (λ (x : AssocError). opening_counts {A = Unit {0}} (Err x)) is

-- a refusal
abbrev refused : AssocError → Result (Unit {0}) AssocError
refused e = Err e

pub no_fault : (e : AssocError) → (e ≡ StreamExists) ⊎ (e ≡ ResetPending) → refused e ≡ refused Fault → ⊥
no_fault e s h = let x : false ≡ true = sym (unnumbered e s) ∙ ap (λ (r : Result (Unit {0}) AssocError). opening_counts r) h in cc
