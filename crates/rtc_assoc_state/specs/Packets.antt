-- The packets of the plain association: their bytes, and what is read of bytes. Numbers are big-endian.
use Rattle.std.specs.Prelude.{ℕ, ◌<◌, ◌^◌, ◌==◌, ◌&&◌, not, nat_lt, if◌then◌else◌, List, ◌∷◌}
use Rattle.std.specs.Prelude.{◌++◌, length, drop, slice_index, slice_range, Option, Some, None}
use Rattle.std.specs.Int.{w16, w32, w64, to_be_bytes, from_be_bytes}
use Rattle.rtc_assoc_state.specs.declared.item_part.ItemPart.{ItemPart}
use Rattle.rtc_assoc_state.specs.declared.item_part.ItemPart.TheVariants.{More, Last, Close}
use Rattle.rtc_assoc_state.specs.declared.item.Item.{Item}
use Rattle.rtc_assoc_state.specs.declared.frame.Frame.{Frame}
use Rattle.rtc_assoc_state.specs.declared.frame.Frame.TheVariants.{Hello, Welcome, Data, Acknowledgement, Shutdown}

abbrev pub part_byte : ItemPart → ℕ
part_byte More = 0
part_byte Last = 1
part_byte Close = 2

abbrev pub part_of : ℕ → Option ItemPart
part_of byte = if byte == 0 then Some More else if byte == 1 then Some Last else if byte == 2 then Some Close else None

-- the 28 bytes of a data packet before those of its item
unfoldable pub data_header : (acknowledged number stream generation : ℕ) → ItemPart → (identifier : ℕ) → List ℕ
data_header acknowledged number stream generation part identifier =
    3 ∷ to_be_bytes w64 acknowledged ++ to_be_bytes w64 number ++ to_be_bytes w16 stream
    ++ to_be_bytes w32 generation ++ part_byte part ∷ to_be_bytes w32 identifier

abbrev pub data_bytes : ℕ → ℕ → Item → List ℕ
data_bytes acknowledged number item = data_header acknowledged number item.stream item.generation item.part item.identifier ++ item.bytes

unfoldable pub acknowledgement_bytes : ℕ → List ℕ
acknowledgement_bytes number = 4 ∷ to_be_bytes w64 number

-- the numbers of a data packet fit their fields
pub record Fits (acknowledged number stream generation identifier : ℕ) : Type 0 where
  pub acknowledged_fits : acknowledged < 2 ^ 64
  pub number_fits : number < 2 ^ 64
  pub stream_fits : stream < 2 ^ 16
  pub generation_fits : generation < 2 ^ 32
  pub identifier_fits : identifier < 2 ^ 32

-- the item in the bytes of a data packet
abbrev pub item_in : ItemPart → List ℕ → Item
item_in part bytes = record {
  stream = from_be_bytes w16 (slice_range bytes 17 19);
  generation = from_be_bytes w32 (slice_range bytes 19 23);
  part = part;
  identifier = from_be_bytes w32 (slice_range bytes 24 28);
  bytes = drop 28 bytes;
}

-- what a data packet of at least 28 bytes says, by the part that its byte 23 says
abbrev pub data_with : Option ItemPart → List ℕ → Option Frame
data_with None bytes = None
data_with (Some part) bytes =
    Some (Data (from_be_bytes w64 (slice_range bytes 1 9)) (from_be_bytes w64 (slice_range bytes 9 17)) (item_in part bytes))

unfoldable pub data_in : List ℕ → Option Frame
data_in bytes = data_with (part_of (slice_index bytes 23)) bytes

-- what bytes say as a packet
unfoldable pub frame_in : List ℕ → Option Frame
frame_in bytes =
    if (slice_index bytes 0 == 1) && (length bytes == 1) then Some Hello
    else if (slice_index bytes 0 == 2) && (length bytes == 1) then Some Welcome
    else if (slice_index bytes 0 == 5) && (length bytes == 1) then Some Shutdown
    else if (slice_index bytes 0 == 4) && (length bytes == 9) then Some (Acknowledgement (from_be_bytes w64 (slice_range bytes 1 9)))
    else if (slice_index bytes 0 == 3) && not (nat_lt (length bytes) 28) then data_in bytes
    else None
