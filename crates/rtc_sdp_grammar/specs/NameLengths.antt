-- The rows of the table whose names have one length. Contracts of single functions cite this; what is read rests on the table alone.
use Rattle.std.specs.Prelude.{ℕ, List, [], ◌∷◌, length, nat_eq, Option, if◌then◌else◌, option_map}
use denote.Ref.{Bor}
use Rattle.rtc_sdp_grammar.specs.Table.{Row}

-- the bytes of a value that is lent
abbrev pub bytes_shown : Option (Bor (List ℕ)) → Option (List ℕ)
bytes_shown value = option_map (λ text. text.now) value

abbrev pub of_length : ℕ → List Row → List Row
of_length n [] = []
of_length n (row ∷ rest) = if nat_eq n (length row.name) then row ∷ of_length n rest else of_length n rest
