-- What an acknowledgement settles: the items that it names, in order.
use Rattle.std.specs.Prelude.{ℕ, zero, suc, ◌+◌, ◌&&◌, nat_lt, nat_le, if◌then◌else◌, Bool, false, List, [], ◌∷◌, ◌++◌, Option, Some, None}
use Rattle.rtc_parts.specs.declared.assoc_event.AssocEvent.{AssocEvent}
use Rattle.rtc_parts.specs.declared.assoc_event.AssocEvent.TheVariants.{ResetComplete, BufferedAmountLow}
use Rattle.rtc_assoc_state.specs.declared.item.Item.{Item}
use Rattle.rtc_assoc_state.specs.declared.item_part.ItemPart.{ItemPart}
use Rattle.rtc_assoc_state.specs.declared.item_part.ItemPart.TheVariants.{More, Last, Close}
use Rattle.rtc_assoc_state.specs.declared.close_state.CloseState.{CloseState}
use Rattle.rtc_assoc_state.specs.declared.close_state.CloseState.TheVariants.{Queued, Acknowledged}
use Rattle.rtc_assoc_state.specs.declared.stream_row.StreamRow.{StreamRow}
use Rattle.rtc_assoc_state.specs.Streams.{stream_of, put, reset_row, LAST_GENERATION}
use Rattle.rtc_assoc_state.specs.Outbox.{bytes_for, buffered}

-- what settling touches beside the items
pub record Told : Type 0 where
  pub streams : List StreamRow
  pub events : List AssocEvent

abbrev pub told_of : List StreamRow → List AssocEvent → Told
told_of streams events = record { streams = streams; events = events }

-- whether a threshold is reached from above
abbrev pub reaches : Option ℕ → (before after : ℕ) → Bool
reaches None before after = false
reaches (Some n) before after = nat_lt n before && nat_le after n

-- whether a stream may be reset once both closes were received
abbrev pub can_reset : StreamRow → Bool
can_reset row = nat_lt row.generation LAST_GENERATION

-- this end's close of a stream is acknowledged: if the other end's was received, the reset is complete
abbrev pub close_settled : CloseState → StreamRow → Told → Told
close_settled Queued row t =
    if row.finished && can_reset row
    then record { streams = put (reset_row row) t.streams; events = t.events ++ ResetComplete row.stream ∷ [] }
    else record t { streams = put (record row { close = Acknowledged }) t.streams }
close_settled _ row t = t

-- a piece is acknowledged, with these items behind it: its bytes are no longer buffered
abbrev pub piece_settled : Item → StreamRow → List Item → Told → Told
piece_settled item row behind t =
    if reaches row.threshold (bytes_for item.stream item + buffered item.stream behind) (buffered item.stream behind)
    then record t { events = t.events ++ BufferedAmountLow item.stream ∷ [] }
    else t

abbrev pub part_settled : ItemPart → Item → StreamRow → List Item → Told → Told
part_settled Close item row behind t = close_settled row.close row t
part_settled More item row behind t = piece_settled item row behind t
part_settled Last item row behind t = piece_settled item row behind t

-- an item is acknowledged
unfoldable pub item_settled : Item → List Item → Told → Told
item_settled item behind t = part_settled item.part item (stream_of item.stream t.streams) behind t

-- the first of some items are acknowledged, one after the other
abbrev pub settled : ℕ → List Item → Told → Told
settled zero items t = t
settled (suc count) [] t = t
settled (suc count) (item ∷ items) t = settled count items (item_settled item items t)
