-- What is written of an item is read back, by its sender.
use Rattle.std.proofs.Common.{◌≡◌, ◌∙◌, ◌<◌, ◌==◌, ◌^◌, ◌++◌, if◌then◌else◌, ℕ, Bool, true, false, List, [], ◌∷◌, map, take, drop, refl, sym, ap, append_assoc}
use Rattle.std.specs.Prelude.{slice_index}
use Rattle.std.specs.Int.{w32, from_be_bytes, to_be_bytes}
use Rattle.std.specs.List.{AllByRecursion}
use Rattle.std.proofs.lemmas.Nat.{from_be_bytes-to_be_bytes_4}
use Rattle.rtc_room_laws.specs.ItemMessages.{LineMessage, message_from, messages_from}
use Rattle.rtc_room_laws.specs.Members.{item_bytes, binary_byte}
use Rattle.rtc_room_laws.specs.declared.item.Item.{Item}

-- an item without its sender
abbrev pub item_message : Item → LineMessage
item_message item = (item.binary, item.bytes)

-- as it is written on a line
abbrev pub written_message : Item → LineMessage
written_message item = (true, item_bytes item)

-- the items of a sender
abbrev pub messages_by : (sender : ℕ) → List Item → List LineMessage
messages_by sender [] = []
messages_by sender (item ∷ items) = (if item.sender == sender then item_message item ∷ [] else []) ++ messages_by sender items

front_is : (n k : ℕ) (bytes : List ℕ) → take 4 (to_be_bytes w32 n ++ k ∷ bytes) ≡ to_be_bytes w32 n
front_is n k bytes = refl

kind_is : (n k : ℕ) (bytes : List ℕ) → slice_index (to_be_bytes w32 n ++ k ∷ bytes) 4 ≡ k
kind_is n k bytes = refl

rest_is : (n k : ℕ) (bytes : List ℕ) → drop 5 (to_be_bytes w32 n ++ k ∷ bytes) ≡ bytes
rest_is n k bytes = refl

kind_back : (binary : Bool) → (binary_byte binary == 1) ≡ binary
kind_back true = refl
kind_back false = refl

message_read : (sender : ℕ) (item : Item) → item.sender < 2 ^ 32
    → message_from sender (written_message item) ≡ (if item.sender == sender then item_message item ∷ [] else [])
message_read sender item small =
    ap (λ (n : ℕ). if n == sender then (slice_index (item_bytes item) 4 == 1, drop 5 (item_bytes item)) ∷ [] else [])
    (ap (from_be_bytes w32) (front_is item.sender (binary_byte item.binary) item.bytes) ∙ from_be_bytes-to_be_bytes_4 item.sender small)
    ∙ ap (λ (message : LineMessage). if item.sender == sender then message ∷ [] else [])
    (ap (λ (kind : ℕ). (kind == 1, drop 5 (item_bytes item))) (kind_is item.sender (binary_byte item.binary) item.bytes)
    ∙ ap (λ (binary : Bool). (binary, drop 5 (item_bytes item))) (kind_back item.binary)
    ∙ ap (λ (bytes : List ℕ). (item.binary, bytes)) (rest_is item.sender (binary_byte item.binary) item.bytes))

-- so the messages of a sender are read back
pub messages_read : (sender : ℕ) (items : List Item) → AllByRecursion (λ item. item.sender < 2 ^ 32) items
    → messages_from sender (map written_message items) ≡ messages_by sender items
messages_read sender [] small = refl
messages_read sender (item ∷ items) small =
    ap (λ (l : List LineMessage). l ++ messages_from sender (map written_message items)) (message_read sender item small.0)
    ∙ ap (λ (l : List LineMessage). (if item.sender == sender then item_message item ∷ [] else []) ++ l) (messages_read sender items small.1)

-- ---- front parts

pub messages_from-append : (sender : ℕ) (got more : List LineMessage) → messages_from sender (got ++ more) ≡ messages_from sender got ++ messages_from sender more
messages_from-append sender [] more = refl
messages_from-append sender (message ∷ got) more =
    ap (λ (l : List LineMessage). message_from sender message ++ l) (messages_from-append sender got more)
    ∙ sym (append_assoc (message_from sender message) (messages_from sender got) (messages_from sender more))

pub messages_by-append : (sender : ℕ) (items more : List Item) → messages_by sender (items ++ more) ≡ messages_by sender items ++ messages_by sender more
messages_by-append sender [] more = refl
messages_by-append sender (item ∷ items) more =
    ap (λ (l : List LineMessage). (if item.sender == sender then item_message item ∷ [] else []) ++ l) (messages_by-append sender items more)
    ∙ sym (append_assoc (if item.sender == sender then item_message item ∷ [] else []) (messages_by sender items) (messages_by sender more))
