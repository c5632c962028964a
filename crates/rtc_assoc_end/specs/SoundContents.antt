-- What every plain association keeps.
use Rattle.std.specs.Prelude.{ℕ, ◌+◌, ◌<◌, ◌≤◌, ◌^◌, Bool, List}
use Rattle.std.specs.BTreeMap.{BTreeMap}
use Rattle.rtc_assoc_state.specs.declared.item.Item.{Item}
use Rattle.rtc_assoc_state.specs.declared.places.Places.{Places}
use Rattle.rtc_assoc_state.specs.declared.stream_row.StreamRow.{StreamRow}
use Rattle.rtc_assoc_state.specs.Amounts.{Agree}
use Rattle.rtc_assoc_state.specs.StreamTable.{SoundTable}

-- packets have a size, item numbers fit, the amounts are the bytes of the items, and the table finds its rows
pub record SoundContents (max_payload acked count : ℕ) (amounts : BTreeMap ℕ ℕ) (items : List Item) (rows : List StreamRow)
    (places : Places) (at_last : Bool) : Type 0 where
  pub least : 29 ≤ max_payload
  pub most : max_payload ≤ 1900
  pub numbers : acked + count < 2 ^ 64
  pub agree : Agree amounts items
  pub table : SoundTable rows places at_last
