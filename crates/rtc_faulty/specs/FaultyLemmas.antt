-- What follows from a call of a part that fails at listed calls.
use Rattle.std.proofs.Common.{
  ℕ,
  ◌≡◌,
  ◌+◌,
  ◌-◌,
  ◌^◌,
  ◌≤◌,
  ◌⊎◌,
  inl,
  inr,
  min,
  max,
  Bool,
  true,
  false,
  Result,
  Ok,
  Err,
  refl,
  sym,
  ap,
  subst,
  ◌∙◌,
  arith,
}
use Rattle.std.specs.Prelude.{if◌then◌else◌}
use Rattle.rtc_io.specs.Faults.{Rose}
use Rattle.rtc_faulty.specs.declared.faulty.Faulty.{Faulty}
use Rattle.rtc_faulty.specs.Numbering.{Numbering, one_fault_more, number_used}
use Rattle.rtc_faulty.specs.FaultyCalls.{CanFail}

-- counts of faults: i and j are of the part inside, f and g of the calls that failed before it, each before and after
pub rose_inside : (i j f g : ℕ) → g ≡ f → Rose i j → Rose (i + f) (j + g)
rose_inside i j f g e rose = let mid : min (i + 1) (2 ^ 64 - 1) ≤ j = rose in omega arith

pub rose_outside : (i j f g : ℕ) → j ≡ i → g ≡ one_fault_more f → Rose (i + f) (j + g)
rose_outside i j f g e more = let count : g ≡ max f (min (f + 1) (2 ^ 64 - 1)) = more in omega arith

pub later_inside : (i j f g : ℕ) → g ≡ f → i ≤ j → i + f ≤ j + g
later_inside i j f g e later = omega arith

pub later_outside : (i j f g : ℕ) → j ≡ i → g ≡ one_fault_more f → i + f ≤ j + g
later_outside i j f g e more = let count : g ≡ max f (min (f + 1) (2 ^ 64 - 1)) = more in omega arith

-- an Ok is no error
pub never_fault : {A E : Type 0} (x : A) (e : E) → Ok x ≡ Err e → ⊥
never_fault x e h = cc h

-- a call that used a number, or did not, counts no fault
uses-faults : (uses : Bool) (n : Numbering) → (if uses then number_used n else n).faults ≡ n.faults
uses-faults true n = refl
uses-faults false n = refl

-- a call that failed
pub record FailedCall {P A E : Type 0} (fault : E) (p : Faulty P) (r : Result A E) (q : Faulty P) : Type 0 where
  pub answer : r ≡ Err fault
  pub inner : q.inner ≡ p.inner
  pub faults : q.numbers.faults ≡ one_fault_more p.numbers.faults

-- a call that reached the part inside
pub record ReachedCall {P A E : Type 0} (R : P → Result A E → P → Type 0) (p : Faulty P) (r : Result A E) (q : Faulty P) : Type 0 where
  pub did : R p.inner r q.inner
  pub faults : q.numbers.faults ≡ p.numbers.faults

module _ {P A E : Type 0} (fault : E) (uses : Result A E → Bool) (R : P → Result A E → P → Type 0) where
  pub failed_or_reached : (b : Bool) (p q : Faulty P) (r : Result A E) → CanFail b fault uses R p r q
      → FailedCall fault p r q ⊎ ReachedCall R p r q
  failed_or_reached true p q r h = inl (record {
    answer = h.0;
    inner = ap (λ (c : Faulty P). c.inner) h.1;
    faults = ap (λ (c : Faulty P). c.numbers.faults) h.1;
  })
  failed_or_reached false p q r h = inr (record {
    did = h.0;
    faults = ap (λ (c : Faulty P). c.numbers.faults) h.1 ∙ uses-faults (uses r) p.numbers;
  })

  -- what holds of the part inside, and of what the call leaves of it, holds afterwards
  pub holds_after : (H : P → Type 0) (b : Bool) (p q : Faulty P) (r : Result A E) → H p.inner → (R p.inner r q.inner → H q.inner)
      → CanFail b fault uses R p r q → H q.inner
  holds_after H b p q r before step h = elim (failed_or_reached b p q r h) [
    | inl f ↦ subst H (sym f.inner) before
    | inr k ↦ step k.did
  ]

  -- a call whose result is not the fault reached the part inside
  pub reached_unless_fault : (b : Bool) (p q : Faulty P) (r : Result A E) → (r ≡ Err fault → ⊥) → CanFail b fault uses R p r q
      → ReachedCall R p r q
  reached_unless_fault b p q r other h = elim (failed_or_reached b p q r h) [ inl f ↦ absurd (other f.answer) | inr k ↦ k ]

-- a call without a number
pub reaches-faults : {P : Type 0} (p q : Faulty P) → q ≡ record p { inner = q.inner } → q.numbers.faults ≡ p.numbers.faults
reaches-faults {P} p q e = ap (λ (c : Faulty P). c.numbers.faults) e

pub reaches-numbers : {P : Type 0} (p q : Faulty P) → q ≡ record p { inner = q.inner } → q.numbers ≡ p.numbers
reaches-numbers {P} p q e = ap (λ (c : Faulty P). c.numbers) e

-- one that leaves the part inside leaves all
pub reaches_same : {P : Type 0} (p q : Faulty P) → q.inner ≡ p.inner → q ≡ record p { inner = q.inner } → q ≡ p
reaches_same {P} p q same e = e ∙ ap (λ (i : P). record p { inner = i }) same
