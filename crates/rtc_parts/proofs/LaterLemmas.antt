-- Draws that follow each other.
use Rattle.std.proofs.Common.{◌≡◌, ◌+◌, ◌∙◌, ℕ, zero, suc, refl, ap, arith}
use Rattle.rtc_parts.specs.Draws.{Draws, Later, after_draws}

pub later_none : {N : Type 0} (draws : Draws N) (ids : N) → Later draws ids ids
unfolding Later
later_none draws ids = (0, refl)

pub later_once : {N : Type 0} (draws : Draws N) (ids : N) → Later draws ids (draws.after ids)
unfolding Later
later_once draws ids = (1, refl)

after_more : {N : Type 0} (draws : Draws N) (count more : ℕ) (ids : N) → after_draws draws (count + more) ids ≡ after_draws draws more (after_draws draws count ids)
after_more draws zero more ids = let e : 0 + more ≡ more = omega arith in rw e refl
after_more draws (suc count) more ids =
    let e : suc count + more ≡ suc (count + more) = omega arith in
    rw e (after_more draws count more (draws.after ids))

pub later_join : {N : Type 0} (draws : Draws N) (ids between ids' : N) → Later draws ids between → Later draws between ids' → Later draws ids ids'
unfolding Later
later_join draws ids between ids' first then =
    (first.0 + then.0, after_more draws first.0 then.0 ids ∙ ap (after_draws draws then.0) first.1 ∙ then.1)

pub later_twice : {N : Type 0} (draws : Draws N) (ids : N) → Later draws ids (draws.after (draws.after ids))
unfolding Later
later_twice draws ids = (2, refl)
