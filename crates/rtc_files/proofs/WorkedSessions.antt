-- Sessions worked by hand, computed.
use Rattle.std.proofs.Common.{◌≡◌, [], ◌∷◌, refl}
use Rattle.rtc_files.specs.Sessions.{pieces_taken}

-- a session of 3 takes two pieces, and one of 4 behind it three; one of none and one of a Begin take none
two_taken : pieces_taken (3 ∷ []) ≡ 2
two_taken = refl

five_taken : pieces_taken (3 ∷ 4 ∷ []) ≡ 5
five_taken = refl

none_taken : pieces_taken (0 ∷ 1 ∷ []) ≡ 0
none_taken = refl
