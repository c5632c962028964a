-- The pieces of a message.
use Rattle.std.specs.Prelude.{ℕ, zero, suc, ◌+◌, nat_le, if◌then◌else◌, List, [], ◌∷◌, length, take, drop, ◌≡◌, Some}
use Rattle.rtc_assoc_state.specs.declared.item_part.ItemPart.{ItemPart}
use Rattle.rtc_assoc_state.specs.declared.item_part.ItemPart.TheVariants.{More, Last, Close}
use Rattle.rtc_assoc_state.specs.declared.item.Item.{Item}
use Rattle.rtc_assoc_state.specs.Packets.{data_bytes, frame_in}
use Rattle.rtc_assoc_state.specs.declared.frame.Frame.TheVariants.{Data}

abbrev pub piece : ℕ → ℕ → ItemPart → ℕ → List ℕ → Item
piece stream generation part identifier bytes =
    record { stream = stream; generation = generation; part = part; identifier = identifier; bytes = bytes }

-- the close of a generation of a stream
abbrev pub close_of : ℕ → ℕ → Item
close_of stream generation = piece stream generation Close 0 []

-- the pieces of bytes of which so many at most are not the last: each of them has this size, and the last at most
unfoldable pub pieces_within : (count size : ℕ) → (stream generation identifier : ℕ) → List ℕ → List Item
pieces_within zero size stream generation identifier bytes = piece stream generation Last identifier bytes ∷ []
pieces_within (suc count) size stream generation identifier bytes =
    if nat_le (length bytes) size then piece stream generation Last identifier bytes ∷ []
    else piece stream generation More identifier (take size bytes) ∷ pieces_within count size stream generation identifier (drop size bytes)

-- the pieces of a message, of at most this size
abbrev pub pieces_of : (size : ℕ) → (stream generation identifier : ℕ) → List ℕ → List Item
pieces_of size stream generation identifier bytes = pieces_within (length bytes) size stream generation identifier bytes

-- the packets of items that are numbered from a first one
abbrev pub packets_from : (acknowledged number : ℕ) → List Item → List (List ℕ)
packets_from acknowledged number [] = []
packets_from acknowledged number (item ∷ items) = data_bytes acknowledged number item ∷ packets_from acknowledged (number + 1) items

-- these packets are read as what they were made of
abbrev pub ReadBack : (acknowledged number : ℕ) → List Item → Type 0
ReadBack acknowledged number [] = Unit {0}
ReadBack acknowledged number (item ∷ items) =
    (frame_in (data_bytes acknowledged number item) ≡ Some (Data acknowledged number item))
    × ReadBack acknowledged (number + 1) items
