-- What a call of a part does that fails at listed calls, by what the call of the part inside does.
use Rattle.std.specs.Prelude.{◌≡◌, if◌then◌else◌, Bool, true, false, Result, Err}
use Rattle.rtc_faulty.specs.declared.faulty.Faulty.{Faulty}
use Rattle.rtc_faulty.specs.Numbering.{call_failed, number_used}

-- the part inside is fresh, and no number was used
pub record IsFreshOver {P : Type 0} (fresh : P → Type 0) (p : Faulty P) : Type 0 where
  pub inner : fresh p.inner
  pub unused : p.numbers.used ≡ 0
  pub faultless : p.numbers.faults ≡ 0

-- a call that cannot fail reaches the part inside
abbrev pub Reaches : {P : Type 0} → (P → P → Type 0) → Faulty P → Faulty P → Type 0
Reaches R p q = R p.inner q.inner × (q ≡ record p { inner = q.inner })

-- a call that can fail. If it does, it returns the fault; else it reaches the part inside, and uses a number unless its result is one that
-- uses none
abbrev pub CanFail : {P A E : Type 0} → (fails : Bool) → E → (Result A E → Bool) → (P → Result A E → P → Type 0)
    → Faulty P → Result A E → Faulty P → Type 0
CanFail true fault uses R p r q = (r ≡ Err fault) × (q ≡ record p { numbers = call_failed p.numbers })
CanFail false fault uses R p r q = R p.inner r q.inner
    × (q ≡ record p { inner = q.inner; numbers = if uses r then number_used p.numbers else p.numbers })
