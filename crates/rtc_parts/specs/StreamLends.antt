-- What a part is once a reference into it is over, if a result lends a stream, says that there is none, or fails.
use Rattle.std.specs.Prelude.{Option, Some, None, Result, Ok, Err, ⊤}
use Rattle.std.specs.Borrow.{GName, MutBor, RattleType, Fml, follows_so}
use mathlib.Core.Option as maybe

-- the name of the reference that a result lends, if it lends one
abbrev pub lent_name : {X E : Type 0} → Result (Option (MutBor X)) E → maybe.Option GName
lent_name (Ok (Some lent)) = maybe.some lent.ghost_name
lent_name (Ok None) = maybe.none
lent_name (Err e) = maybe.none

-- P of what a result lends, if it lends anything
abbrev pub IfLent : {X E : Type 0} → Result (Option X) E → (X → Type 0) → Type 0
IfLent (Ok (Some lent)) P = P lent
IfLent (Ok None) P = ⊤
IfLent (Err e) P = ⊤

-- P, if a result lends nothing
abbrev pub UnlessLent : {X E : Type 0} → Result (Option X) E → Type 0 → Type 0
UnlessLent (Ok (Some lent)) P = ⊤
UnlessLent (Ok None) P = P
UnlessLent (Err e) P = P

-- s ends as an n with P n x, x being the last value behind the reference that r lends, and with Q n if r lends none
abbrev pub LendsStream : (R T : RattleType) → MutBor R.Denot → {E : Type 0} → Result (Option (MutBor T.Denot)) E
    → (R.Denot → T.Denot → Type 0) → (R.Denot → Type 0) → Fml
LendsStream R T s r P Q = follows_so R T s.ghost_name (lent_name r) (λ x n. P n x) (λ n. UnlessLent r (Q n))
