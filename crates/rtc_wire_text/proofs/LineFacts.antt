-- Texts and their lines, computed.
use Rattle.std.proofs.Common.{◌≡◌, [], ◌∷◌, refl}
use Rattle.std.specs.Prelude.{codes}
use Rattle.rtc_wire_text.specs.Lines.{lines}

no_text_no_line : lines [] ≡ []
no_text_no_line = refl

both_ends_and_an_empty_line : lines (codes "v=0\r\no=1\n\ns=-") ≡ codes "v=0" ∷ codes "o=1" ∷ [] ∷ codes "s=-" ∷ []
both_ends_and_an_empty_line = refl

last_end_opens_no_line : lines (codes "v=0\n") ≡ codes "v=0" ∷ []
last_end_opens_no_line = refl

other_returns_stay : lines (codes "a\rb\r\r\nc\r") ≡ codes "a\rb\r" ∷ codes "c\r" ∷ []
other_returns_stay = refl
