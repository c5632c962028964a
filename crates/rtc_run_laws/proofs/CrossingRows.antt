-- What both sides have in common once offers that crossed have met: the rows that stood, then those that the impolite side added.
use Rattle.std.specs.List.{AllZip}
use Rattle.std.proofs.Common.{◌≡◌, ◌+◌, ◌++◌, ℕ, List, [], ◌∷◌, sym, ◌∙◌}
use Rattle.rtc_sdp_values.specs.LineRow.{row_place}
use Rattle.rtc_sdp_values.specs.declared.line_row.LineRow.{LineRow}
use Rattle.rtc_sdp_values.specs.declared.line_row.LineRow.TheVariants.{Media, App}
use Rattle.rtc_peer_rows.specs.Table.{IsTable, Rising}
use Rattle.rtc_run_history.specs.Finished.{AreSameLine, Equal}
use Rattle.rtc_run_laws.specs.Crossed.{AreSameRow}
use Rattle.rtc_run_laws.proofs.RowNames.{Aligned, SameName, aligned_self, aligned_sym, aligned_trans}

same_line : (row other : LineRow) → SameName row other → AreSameLine row other
same_line (Media place mid kind dir stopped created) (Media place' mid' kind' dir' stopped' created') same = (same.0, same.1)
same_line (App place mid) (App place' mid') same = tt
same_line (Media place mid kind dir stopped created) (App place' mid') same = absurd same
same_line (App place mid) (Media place' mid' kind' dir' stopped' created') same = absurd same

-- rows of the same names are equal
pub equal_of : (rows others : List LineRow) → Aligned rows others → Equal rows others
equal_of [] [] same = tt
equal_of (row ∷ rows) (other ∷ others) same = (same_line row other same.0, equal_of rows others same.1)
equal_of [] (other ∷ others) same = absurd same
equal_of (row ∷ rows) [] same = absurd same

same_row : (row other : LineRow) → row_place other ≡ row_place row → SameName row other → AreSameRow row other
same_row (Media place mid kind dir stopped created) (Media place' mid' kind' dir' stopped' created') at same = (at, same.0, same.1)
same_row (App place mid) (App place' mid') at same = (at, same)
same_row (Media place mid kind dir stopped created) (App place' mid') at same = absurd same
same_row (App place mid) (Media place' mid' kind' dir' stopped' created') at same = absurd same

-- rows of the same names, at places from one on
pub rows_of : (n : ℕ) (rows others : List LineRow) → Rising n rows → Rising n others → Aligned rows others → AllZip AreSameRow rows others
rows_of n [] [] rising more same = tt
rows_of n (row ∷ rows) (other ∷ others) rising more same =
    (same_row row other (more.0 ∙ sym rising.0) same.0, rows_of (n + 1) rows others rising.1 more.1 same.1)
rows_of n [] (other ∷ others) rising more same = absurd same
rows_of n (row ∷ rows) [] rising more same = absurd same

-- ---- the rows that stood in place of those that were offered

stood_rising : (n : ℕ) (stood front more : List LineRow) → Rising n stood → Rising n (front ++ more) → Aligned stood front → Rising n (stood ++ more)
stood_rising n [] [] more rising all same = all
stood_rising n (row ∷ stood) (other ∷ front) more rising all same = (rising.0, stood_rising (n + 1) stood front more rising.1 all.1 same.1)
stood_rising n [] (other ∷ front) more rising all same = absurd same
stood_rising n (row ∷ stood) [] more rising all same = absurd same

stood_aligned : (stood front more : List LineRow) → Aligned stood front → Aligned (stood ++ more) (front ++ more)
stood_aligned [] [] more same = aligned_self more
stood_aligned (row ∷ stood) (other ∷ front) more same = (same.0, stood_aligned stood front more same.1)
stood_aligned [] (other ∷ front) more same = absurd same
stood_aligned (row ∷ stood) [] more same = absurd same

-- Rows that have the names of an offer are those that stood, then those that it adds.
pub met_rows : (stood front more left : List LineRow) → IsTable stood → IsTable (front ++ more) → IsTable left → Aligned stood front → Aligned (front ++ more) left
    → AllZip AreSameRow (stood ++ more) left
met_rows stood front more left table whole after same names =
    rows_of 0 (stood ++ more) left (stood_rising 0 stood front more table.rising whole.rising same) after.rising
    (aligned_trans (stood ++ more) (front ++ more) left (stood_aligned stood front more same) names)

-- two lists of rows that have the names of an offer are equal
pub met_equal : (offered rows others : List LineRow) → Aligned offered rows → Aligned offered others → Equal rows others
met_equal offered rows others mine theirs = equal_of rows others (aligned_trans rows offered others (aligned_sym offered rows mine) theirs)
