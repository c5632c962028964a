-- Texts without capitals stay as they are.
use Rattle.std.proofs.Common.{◌≡◌, ℕ, true, not, List, [], ◌∷◌, refl, arith}
use Rattle.std.specs.Char.{is_ascii_uppercase, to_ascii_lowercase}
use Rattle.std.proofs.lemmas.Bool.Decides.{nat_tests}
use Rattle.rtc_wire_text.specs.LetterCase.{lower, is_lower}
use Rattle.rtc_wire_text.proofs.TokenLemmas.{both}

small_stays : (byte : ℕ) → not (is_ascii_uppercase byte) ≡ true → to_ascii_lowercase byte ≡ byte
small_stays byte h = grind (arith, nat_tests)

pub lower_stays : (text : List ℕ) → is_lower text ≡ true → lower text ≡ text
lower_stays [] h = refl
lower_stays (b ∷ bs) h =
    let parts = both (not (is_ascii_uppercase b)) (is_lower bs) h in
    rw (small_stays b parts.0, lower_stays bs parts.1) refl
