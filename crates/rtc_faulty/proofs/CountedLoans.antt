-- What the part inside is once a reference into it is over.
use Rattle.std.proofs.Common.{◌≡◌, Option, Result, Ok, Err, ◌∙◌, subst}
use Rattle.std.specs.Option.{IfSome}
use Rattle.std.specs.Result.{IsOk, IfOk, OnErr}

-- something was lent; v and p are the part inside as the call began
pub some_lent : {P X : Type 0} (r : Option X) (Left : P → X → P → Type 0) (l v p : P) → v ≡ p → IfSome r (λ lent. Left v lent l)
    → IfSome r (λ lent. Left p lent l)
some_lent {P} r Left l v p e h = subst (λ (i : P). IfSome r (λ lent. Left i lent l)) e h

pub made_lent : {P X E : Type 0} (r : Result X E) (Left : P → X → P → Type 0) (l v p : P) → v ≡ p
    → (IsOk r → IfOk r (λ lent. Left v lent l)) → IsOk r → IfOk r (λ lent. Left p lent l)
made_lent {P} r Left l v p e h = subst (λ (i : P). IsOk r → IfOk r (λ lent. Left i lent l)) e h

-- nothing was made
pub nothing_made : {P X E : Type 0} (r : Result X E) (l v p : P) → v ≡ p → OnErr r (l ≡ v) → OnErr r (l ≡ p)
nothing_made (Ok x) l v p e h = tt
nothing_made (Err x) l v p e h = h ∙ e
