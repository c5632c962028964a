-- The test for distinct mids.
use Rattle.std.proofs.Common.{◌≡◌, ℕ, true, false, List, [], ◌∷◌, arith}
use Rattle.rtc_sdp_values.specs.Mids.{is_among, AreDistinct, are_distinct}

pub distinct_by_test : (mids : List (List ℕ)) → are_distinct mids ≡ true → AreDistinct mids
distinct_by_test [] distinct = tt
distinct_by_test (mid ∷ mids) distinct =
    let parts : (is_among mids mid ≡ false) × (are_distinct mids ≡ true) = grind arith in
    (parts.0, distinct_by_test mids parts.1)
