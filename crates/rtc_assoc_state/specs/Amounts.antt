-- Amounts that are kept beside the items that are not acknowledged.
use Rattle.std.specs.Prelude.{ℕ, ◌≡◌, List}
use Rattle.std.specs.Option.{unwrap_or}
use Rattle.std.specs.Ordering.{nat_cmp}
use Rattle.std.specs.BTreeMap.{BTreeMap, get}
use Rattle.rtc_assoc_state.specs.declared.item.Item.{Item}
use Rattle.rtc_assoc_state.specs.Outbox.{buffered}

-- the amount of a stream, which is 0 if it has no entry
abbrev pub amount_of : ℕ → BTreeMap ℕ ℕ → ℕ
amount_of stream amounts = unwrap_or (get nat_cmp amounts stream) 0

-- the amounts are the bytes of the items
pub record Agree (amounts : BTreeMap ℕ ℕ) (items : List Item) : Type 0 where
  pub each : (stream : ℕ) → amount_of stream amounts ≡ buffered stream items
