-- What a part is once a reference into the part inside is over.
use Rattle.std.proofs.Common.{◌≡◌, Option, Some, None, Result, Ok, Err, refl, ap}
use Rattle.std.specs.Option.{IfSome}
use Rattle.std.specs.Result.{IsOk, IfOk, OnErr}
use Rattle.rtc_faulty.specs.declared.faulty.Faulty.{Faulty}

-- something was lent, or nothing
pub some_left : {P X : Type 0} (r : Option X) (Left : X → P → Type 0) (l : P) (p : Faulty P) → IfSome r (λ lent. Left lent l)
    → IfSome r (λ lent. Left lent l × (record p { inner = l } ≡ record p { inner = l }))
some_left None Left l p h = tt
some_left (Some x) Left l p h = (h, refl)

pub none_left : {P : Type 0} (l : P) (p : Faulty P) → l ≡ p.inner → record p { inner = l } ≡ p
none_left {P} l p h = ap (λ (i : P). record p { inner = i }) h

-- something was made and lent, or nothing
pub made_left : {P X E : Type 0} (r : Result X E) (Left : X → P → Type 0) (l : P) (p : Faulty P) → (IsOk r → IfOk r (λ lent. Left lent l))
    → IsOk r → IfOk r (λ lent. Left lent l × (record p { inner = l } ≡ record p { inner = l }))
made_left (Ok x) Left l p h ok = (h ok, refl)
made_left (Err e) Left l p h ok = tt

pub none_made : {P X E : Type 0} (r : Result X E) (l : P) (p : Faulty P) → OnErr r (l ≡ p.inner) → OnErr r (record p { inner = l } ≡ p)
none_made (Ok x) l p h = tt
none_made (Err e) l p h = none_left l p h
