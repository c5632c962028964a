-- The received messages that are not read.
use Rattle.std.specs.Prelude.{ℕ, ◌==◌, ◌&&◌, not, nat_lt, if◌then◌else◌, Bool, List, [], ◌∷◌, ◌++◌, filter}
use Rattle.rtc_assoc_state.specs.declared.item.Item.{Item}
use Rattle.rtc_assoc_state.specs.declared.message.Message.{Message}
pub use Rattle.rtc_assoc_state.specs.MessagePart.{MessagePart}

-- the number up to which all items were received, the messages whose last piece is missing, and the whole messages: each by stream, and
-- those of a stream as they were received
pub record Inbox : Type 0 where
  pub received : ℕ
  pub parts : List MessagePart
  pub unread : List Message
  -- whether an item of another generation than its stream had was ever taken
  pub strayed : Bool

abbrev pub part : ℕ → ℕ → List ℕ → MessagePart
part stream generation bytes = record { stream = stream; generation = generation; bytes = bytes }

abbrev pub is_part_of : ℕ → ℕ → MessagePart → Bool
is_part_of stream generation p = (p.stream == stream) && (p.generation == generation)

abbrev pub is_message_of : ℕ → ℕ → Message → Bool
is_message_of stream generation message = (message.stream == stream) && (message.generation == generation)

-- the received bytes of the message of a generation of a stream
abbrev pub bytes_so_far : ℕ → ℕ → List MessagePart → List ℕ
bytes_so_far stream generation [] = []
bytes_so_far stream generation (p ∷ parts) = if is_part_of stream generation p then p.bytes else bytes_so_far stream generation parts

-- whether a message whose last piece is missing is of a lesser stream, of this one, or of a greater one
abbrev pub is_part_below : ℕ → MessagePart → Bool
is_part_below stream p = nat_lt p.stream stream

abbrev pub is_part_on : ℕ → MessagePart → Bool
is_part_on stream p = p.stream == stream

abbrev pub is_part_above : ℕ → MessagePart → Bool
is_part_above stream p = nat_lt stream p.stream

-- the messages of one stream, with more bytes of that of a generation
abbrev pub with_more : ℕ → ℕ → List ℕ → List MessagePart → List MessagePart
with_more stream generation bytes [] = part stream generation bytes ∷ []
with_more stream generation bytes (p ∷ parts) =
    if is_part_of stream generation p then record p { bytes = p.bytes ++ bytes } ∷ parts
    else p ∷ with_more stream generation bytes parts

-- the messages of all streams, by stream, with more bytes of that of a generation of one
abbrev pub with_bytes : ℕ → ℕ → List ℕ → List MessagePart → List MessagePart
with_bytes stream generation bytes parts =
    filter (is_part_below stream) parts
    ++ (with_more stream generation bytes (filter (is_part_on stream) parts) ++ filter (is_part_above stream) parts)

-- without a message of a generation of a stream
abbrev pub without_part : ℕ → ℕ → List MessagePart → List MessagePart
without_part stream generation parts = filter (λ p. not (is_part_of stream generation p)) parts

abbrev pub without_messages : ℕ → ℕ → List Message → List Message
without_messages stream generation messages = filter (λ m. not (is_message_of stream generation m)) messages

-- whether a message is of a stream behind this one
abbrev pub is_of_later : ℕ → Message → Bool
is_of_later stream message = nat_lt stream message.stream

-- with one more message, behind those of its stream
abbrev pub with_message : Message → List Message → List Message
with_message new messages =
    filter (λ m. not (is_of_later new.stream m)) messages ++ new ∷ filter (is_of_later new.stream) messages

-- nothing of a generation of a stream is left
abbrev pub forgotten : ℕ → ℕ → Inbox → Inbox
forgotten stream generation inbox =
    record inbox {
      parts = without_part stream generation inbox.parts;
      unread = without_messages stream generation inbox.unread;
    }

abbrev pub message_of : Item → List ℕ → Message
message_of item bytes = record { stream = item.stream; generation = item.generation; identifier = item.identifier; bytes = bytes }

-- a piece with more to follow, and a last piece
abbrev pub kept_more : Item → Inbox → Inbox
kept_more item inbox = record inbox { parts = with_bytes item.stream item.generation item.bytes inbox.parts }

abbrev pub kept_last : Item → Inbox → Inbox
kept_last item inbox = record inbox {
  parts = without_part item.stream item.generation inbox.parts;
  unread = with_message (message_of item (bytes_so_far item.stream item.generation inbox.parts ++ item.bytes)) inbox.unread;
}
