-- The names and pairs that are written for SSRCs, and the SSRCs that are read back.
use Rattle.std.specs.Prelude.{ℕ, eqb, List, [], ◌∷◌, ◌++◌, Option, Some, None}
use Rattle.rtc_wire_text.specs.Once.{IsApart}
use Rattle.rtc_sdp_values.specs.declared.ssrc.Ssrc.{Ssrc}

abbrev pub rtx_number : Option Ssrc → List ℕ
rtx_number None = []
rtx_number (Some rtx) = rtx.0 ∷ []

-- the numbers that get a name, in the order of their lines: an SSRC, then its RTX SSRC
abbrev pub numbers_of : List (Ssrc × Option Ssrc) → List ℕ
numbers_of [] = []
numbers_of (source ∷ rest) = source.0.0 ∷ (rtx_number source.1 ++ numbers_of rest)

abbrev pub source_pair : Ssrc → Option Ssrc → List (Ssrc × Ssrc)
source_pair ssrc None = []
source_pair ssrc (Some rtx) = (ssrc, rtx) ∷ []

-- the pairs, in order
abbrev pub source_pairs : List (Ssrc × Option Ssrc) → List (Ssrc × Ssrc)
source_pairs [] = []
source_pairs (source ∷ rest) = source_pair source.0 source.1 ++ source_pairs rest

-- no number is repeated, over both of each pair
abbrev pub AreNumbersApart : List (Ssrc × Option Ssrc) → Type 0
AreNumbersApart sources = IsApart eqb (numbers_of sources)
