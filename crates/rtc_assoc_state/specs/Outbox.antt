-- The items that were sent and are not acknowledged.
use Rattle.std.specs.Prelude.{ℕ, ◌+◌, ◌-◌, ◌==◌, if◌then◌else◌, min, Bool, List, [], ◌∷◌, length}
use Rattle.std.specs.List.{list_any}
use Rattle.rtc_assoc_state.specs.declared.item.Item.{Item}

-- the greatest number that was acknowledged, and the items after it, in order
pub record Outbox : Type 0 where
  pub acked : ℕ
  pub items : List Item

-- the number of the last item
abbrev pub last_number : Outbox → ℕ
last_number outbox = outbox.acked + length outbox.items

-- what an item counts for the buffered amount of a stream
abbrev pub bytes_for : ℕ → Item → ℕ
bytes_for stream item = if item.stream == stream then length item.bytes else 0

-- the bytes of a stream that are not acknowledged
abbrev pub buffered : ℕ → List Item → ℕ
buffered stream [] = 0
buffered stream (item ∷ items) = bytes_for stream item + buffered stream items

-- whether an item of a stream is not acknowledged
abbrev pub has_unacknowledged : ℕ → List Item → Bool
has_unacknowledged stream items = list_any (λ item. item.stream == stream) items

-- how many items an acknowledgement settles
abbrev pub settled_count : ℕ → Outbox → ℕ
settled_count number outbox = min (number - outbox.acked) (length outbox.items)
