-- What lines inside of a part leave as it is.
use Rattle.std.proofs.Common.{◌≡◌, ℕ, List, [], ◌∷◌, ◌++◌, None, refl, ap}
use Rattle.std.specs.List.{AllByRecursion}
use Rattle.rtc_sdp_grammar.specs.declared.item.Item.{Item}
use Rattle.rtc_sdp_grammar.specs.declared.item.Item.TheVariants.{Blank, Bad, BadMedia, Skipped, Version, Origin, Media, Says, Malformed}
use Rattle.rtc_sdp_reader.specs.declared.place.Place.TheVariants.{Session, Line}
use Rattle.rtc_sdp_reader.specs.Parting.{inner}
use Rattle.rtc_sdp_reader.specs.Refusal.{next_number, refused_from}
use Rattle.rtc_sdp_reader.specs.LineValue.{lines_of}
use Rattle.rtc_sdp_writer.proofs.Blocks.{IsSaid}

abbrev pub AreSaid : List Item → Type 0
AreSaid items = AllByRecursion IsSaid items

pub inner_over : (xs rest : List Item) → AreSaid xs → inner rest ≡ [] → inner (xs ++ rest) ≡ xs
inner_over [] rest h e = e
inner_over (Skipped ∷ xs) rest h e = ap (λ (l : List Item). Skipped ∷ l) (inner_over xs rest h.1 e)
inner_over (Says level a ∷ xs) rest h e = ap (λ (l : List Item). Says level a ∷ l) (inner_over xs rest h.1 e)
inner_over (Malformed level what ∷ xs) rest h e = absurd h.0
inner_over (Blank ∷ xs) rest h e = absurd h.0
inner_over (Bad ∷ xs) rest h e = absurd h.0
inner_over (BadMedia ∷ xs) rest h e = absurd h.0
inner_over (Version ∷ xs) rest h e = absurd h.0
inner_over (Origin id ∷ xs) rest h e = absurd h.0
inner_over (Media head ∷ xs) rest h e = absurd h.0

pub lines_over : (xs rest : List Item) → AreSaid xs → lines_of (xs ++ rest) ≡ lines_of rest
lines_over [] rest h = refl
lines_over (Skipped ∷ xs) rest h = lines_over xs rest h.1
lines_over (Says level a ∷ xs) rest h = lines_over xs rest h.1
lines_over (Malformed level what ∷ xs) rest h = absurd h.0
lines_over (Blank ∷ xs) rest h = absurd h.0
lines_over (Bad ∷ xs) rest h = absurd h.0
lines_over (BadMedia ∷ xs) rest h = absurd h.0
lines_over (Version ∷ xs) rest h = absurd h.0
lines_over (Origin id ∷ xs) rest h = absurd h.0
lines_over (Media head ∷ xs) rest h = absurd h.0

pub session_over : (xs rest : List Item) → AreSaid xs → ((n : ℕ) → refused_from Session n rest ≡ None) → (n : ℕ) → refused_from Session n (xs ++ rest) ≡ None
session_over [] rest h k n = k n
session_over (Skipped ∷ xs) rest h k n = session_over xs rest h.1 k (next_number n)
session_over (Says level a ∷ xs) rest h k n = session_over xs rest h.1 k (next_number n)
session_over (Malformed level what ∷ xs) rest h k n = absurd h.0
session_over (Blank ∷ xs) rest h k n = absurd h.0
session_over (Bad ∷ xs) rest h k n = absurd h.0
session_over (BadMedia ∷ xs) rest h k n = absurd h.0
session_over (Version ∷ xs) rest h k n = absurd h.0
session_over (Origin id ∷ xs) rest h k n = absurd h.0
session_over (Media head ∷ xs) rest h k n = absurd h.0

pub line_over : (xs rest : List Item) → AreSaid xs → ((n : ℕ) → refused_from Line n rest ≡ None) → (n : ℕ) → refused_from Line n (xs ++ rest) ≡ None
line_over [] rest h k n = k n
line_over (Skipped ∷ xs) rest h k n = line_over xs rest h.1 k (next_number n)
line_over (Says level a ∷ xs) rest h k n = line_over xs rest h.1 k (next_number n)
line_over (Malformed level what ∷ xs) rest h k n = absurd h.0
line_over (Blank ∷ xs) rest h k n = absurd h.0
line_over (Bad ∷ xs) rest h k n = absurd h.0
line_over (BadMedia ∷ xs) rest h k n = absurd h.0
line_over (Version ∷ xs) rest h k n = absurd h.0
line_over (Origin id ∷ xs) rest h k n = absurd h.0
line_over (Media head ∷ xs) rest h k n = absurd h.0
