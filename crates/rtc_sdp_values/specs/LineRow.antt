-- Rows of a peer's table.
use Rattle.std.specs.Prelude.{ℕ, List}
use Rattle.rtc_sdp_values.specs.declared.line_row.LineRow.{LineRow}
use Rattle.rtc_sdp_values.specs.declared.line_row.LineRow.TheVariants.{Media, App}

abbrev pub row_place : LineRow → ℕ
row_place (Media place mid kind dir stopped remote_created) = place
row_place (App place mid) = place

abbrev pub row_mid : LineRow → List ℕ
row_mid (Media place mid kind dir stopped remote_created) = mid
row_mid (App place mid) = mid
