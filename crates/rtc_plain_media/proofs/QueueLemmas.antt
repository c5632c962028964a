-- Queues of which nothing is left.
use Rattle.std.proofs.Common.{◌≡◌, List, [], ◌∷◌, length, drop, refl, ap, ◌∙◌, arith}

-- a list from which taking one takes nothing is empty
pub none_left : {A : Type 0} (old new : List A) → old ≡ new → new ≡ drop 1 old → old ≡ []
none_left [] new same rest = refl
none_left (one ∷ more) new same rest =
    let shorter : length (one ∷ more) ≡ length more = ap length (same ∙ rest) in
    absurd (omega (arith, shorter))
