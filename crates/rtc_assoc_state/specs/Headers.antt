-- What the header of a packet says, with the bytes behind it.
use Rattle.std.specs.Prelude.{ℕ, List, drop}
use Rattle.rtc_assoc_state.specs.declared.item.Item.{Item}
use Rattle.rtc_assoc_state.specs.declared.item_header.ItemHeader.{ItemHeader}
use Rattle.rtc_assoc_state.specs.declared.frame.Frame.{Frame}
use Rattle.rtc_assoc_state.specs.declared.frame.Frame.TheVariants as frame
use Rattle.rtc_assoc_state.specs.declared.header.Header.{Header}
use Rattle.rtc_assoc_state.specs.declared.header.Header.TheVariants.{Hello, Welcome, Data, Acknowledgement, Shutdown}

-- the item of a header with these bytes
abbrev pub item_with : ItemHeader → List ℕ → Item
item_with header bytes =
    record { stream = header.stream; generation = header.generation; part = header.part; identifier = header.identifier; bytes = bytes }

-- what a packet says that has this header: the bytes of an item are behind the first 28
abbrev pub frame_with : Header → List ℕ → Frame
frame_with Hello bytes = frame.Hello
frame_with Welcome bytes = frame.Welcome
frame_with (Data acknowledged number item) bytes = frame.Data acknowledged number (item_with item (drop 28 bytes))
frame_with (Acknowledgement number) bytes = frame.Acknowledgement number
frame_with Shutdown bytes = frame.Shutdown
