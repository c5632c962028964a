-- What is known of a loan of a peer is known of that of its handle, beside a fact.
use Rattle.std.proofs.Common.{◌≡◌, Option, Some, None, Result, Ok, Err, subst}
use Rattle.std.specs.Option.{IfSome}
use Rattle.std.specs.Result.{IsOk, IfOk, OnErr}

pub lent_beside : {A B : Type 0} (r : Option A) (P : B → A → Type 0) (a b : B) (Q : Type 0) → a ≡ b → Q → IfSome r (λ lent. P a lent)
    → IfSome r (λ lent. Q × P b lent)
lent_beside None P a b Q is fact h = tt
lent_beside (Some lent) P a b Q is fact h = (fact, subst (λ x. P x lent) is h)

pub made_beside : {A B E : Type 0} (r : Result A E) (P : B → A → Type 0) (a b : B) (Q : Type 0) → a ≡ b → Q → (IsOk r → IfOk r (λ lent. P a lent)) → IsOk r
    → IfOk r (λ lent. Q × P b lent)
made_beside (Ok lent) P a b Q is fact h ok = (fact, subst (λ x. P x lent) is (h ok))
made_beside (Err e) P a b Q is fact h ok = tt

pub refused_beside : {A B E : Type 0} (r : Result A E) (P : B → Type 0) (a b : B) (Q : Type 0) → a ≡ b → Q → OnErr r (P a) → OnErr r (Q × P b)
refused_beside (Ok lent) P a b Q is fact h = tt
refused_beside (Err e) P a b Q is fact h = (fact, subst P is h)

-- what is known of a loan of a peer is known where the peer is seen otherwise
pub lent_by : {A B : Type 0} (r : Option A) (P : B → A → Type 0) (a b : B) → a ≡ b → IfSome r (λ lent. P a lent) → IfSome r (λ lent. P b lent)
lent_by None P a b is h = tt
lent_by (Some lent) P a b is h = subst (λ x. P x lent) is h
