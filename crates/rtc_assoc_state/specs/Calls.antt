-- What each call leaves of the contents.
use Rattle.std.specs.Prelude.{ℕ, ◌+◌, ◌-◌, ◌==◌, ◌&&◌, ◌||◌, not, nat_le, if◌then◌else◌, Bool, true}
use Rattle.std.specs.Prelude.{List, [], ◌∷◌, ◌++◌, drop, Option, Some, None}
use Rattle.rtc_parts.specs.declared.assoc_event.AssocEvent.{AssocEvent}
use Rattle.rtc_parts.specs.declared.assoc_event.AssocEvent.TheVariants.{Connected, Lost, Readable, Finished, ResetComplete}
use Rattle.rtc_assoc_state.specs.declared.item.Item.{Item}
use Rattle.rtc_assoc_state.specs.declared.item_part.ItemPart.{ItemPart}
use Rattle.rtc_assoc_state.specs.declared.item_part.ItemPart.TheVariants.{Last, Close}
use Rattle.rtc_assoc_state.specs.declared.frame.Frame.{Frame}
use Rattle.rtc_assoc_state.specs.declared.frame.Frame.TheVariants.{Hello, Welcome, Data, Acknowledgement, Shutdown}
use Rattle.rtc_assoc_state.specs.Packets.{frame_in, acknowledgement_bytes}
use Rattle.rtc_assoc_state.specs.Pieces.{close_of, pieces_of, packets_from}
use Rattle.rtc_assoc_state.specs.declared.close_state.CloseState.{CloseState}
use Rattle.rtc_assoc_state.specs.declared.close_state.CloseState.TheVariants.{Unclosed, Queued, Acknowledged}
use Rattle.rtc_assoc_state.specs.declared.stream_row.StreamRow.{StreamRow}
use Rattle.rtc_assoc_state.specs.declared.message.Message.{Message}
use Rattle.rtc_assoc_state.specs.declared.role.Role.{Role}
use Rattle.rtc_assoc_state.specs.declared.role.Role.TheVariants.{Client, Server, Snap}
use Rattle.rtc_assoc_state.specs.Streams.{stream_of, put, takes_messages, reset_row}
use Rattle.rtc_assoc_state.specs.Inbox.{forgotten, kept_more, kept_last, is_message_of}
use Rattle.rtc_assoc_state.specs.Outbox.{last_number, settled_count}
use Rattle.rtc_assoc_state.specs.Settling.{can_reset, settled}
use Rattle.rtc_assoc_state.specs.Contents.{Contents, is_ending, is_client, is_server, waits, is_empty, second_after}

unfoldable pub limited : (max_payload local_max_message : ℕ) → Contents → Contents
limited max_payload local_max_message p =
    record p { limits = record p.limits { max_payload = max_payload; local_max_message = local_max_message } }

-- started in a role at a moment, with the longest message that the other end takes
unfoldable pub started_as : Role → (now max_send : ℕ) → Contents → Contents
started_as role now max_send p = record p {
  limits = record p.limits { max_send = max_send };
  standing = record p.standing { role = role };
  clock = record p.clock { now = now };
}

-- the client's hello is queued
unfoldable pub said_hello : ℕ → Contents → Contents
said_hello now p = record p { clock = record p.clock { hello_sent = now }; packets = p.packets ++ (1 ∷ []) ∷ [] }

abbrev pub connected : (now max_send : ℕ) → Contents → Contents
connected now max_send p = said_hello now (started_as Client now max_send p)

abbrev pub accepted : (now max_send : ℕ) → Contents → Contents
accepted now max_send p = started_as Server now max_send p

unfoldable pub snapped : (now max_send : ℕ) → Contents → Contents
snapped now max_send p = record (started_as Snap now max_send p) { standing = record p.standing { role = Snap; connected = true } }

unfoldable pub opened : ℕ → Contents → Contents
opened id p = record p { streams = put (record (stream_of id p.streams) { there = true }) p.streams }

-- items are numbered, kept and queued
unfoldable pub sent : ℕ → List Item → Contents → Contents
sent now items p = record p {
  outbox = record p.outbox { items = p.outbox.items ++ items };
  clock = record p.clock { items_sent = now };
  packets = p.packets ++ packets_from p.inbox.received (last_number p.outbox + 1) items;
}

-- a message is written in pieces that fit packets
abbrev pub message_written : (id identifier : ℕ) → List ℕ → Contents → Contents
message_written id identifier bytes p =
    sent p.clock.now (pieces_of (p.limits.max_payload - 28) id (stream_of id p.streams).generation identifier bytes) p

-- the first of a list that is of a generation of a stream, and the others
abbrev pub first_message_of : ℕ → ℕ → List Message → Option Message
first_message_of id generation [] = None
first_message_of id generation (m ∷ messages) = if is_message_of id generation m then Some m else first_message_of id generation messages

abbrev pub messages_behind : ℕ → ℕ → List Message → List Message
messages_behind id generation [] = []
messages_behind id generation (m ∷ messages) =
    if is_message_of id generation m then messages else m ∷ messages_behind id generation messages

abbrev pub next_message : ℕ → Contents → Option Message
next_message id p = first_message_of id (stream_of id p.streams).generation p.inbox.unread

unfoldable pub taken_out : ℕ → Contents → Contents
taken_out id p = record p { inbox = record p.inbox { unread = messages_behind id (stream_of id p.streams).generation p.inbox.unread } }

-- this end closes a stream: the close is queued, and what is unread is dropped
unfoldable pub stream_ended : ℕ → ℕ → Contents → Contents
stream_ended now id p =
    let row = stream_of id p.streams in
    let q = sent now (close_of id row.generation ∷ []) p in
    record q { inbox = forgotten id row.generation p.inbox; streams = put (record row { close = Queued }) p.streams }

unfoldable pub thresholded : (id n : ℕ) → Contents → Contents
thresholded id n p = record p { streams = put (record (stream_of id p.streams) { threshold = Some n }) p.streams }

unfoldable pub shut_down : Contents → Contents
shut_down p = record p { standing = record p.standing { shut = true }; packets = p.packets ++ (5 ∷ []) ∷ [] }

-- the client hears of the server: reported once
unfoldable pub greeted : Contents → Contents
greeted p = record p {
  standing = record p.standing { connected = p.standing.connected || is_client p.standing.role };
  events = p.events ++ (if waits p.standing then Connected ∷ [] else []);
}

-- the server hears of the client: reported once, and answered each time
unfoldable pub welcomed : Contents → Contents
welcomed p =
    if is_server p.standing.role
    then record p {
      standing = record p.standing { connected = true };
      events = p.events ++ (if p.standing.connected then [] else Connected ∷ []);
      packets = p.packets ++ (2 ∷ []) ∷ [];
    }
    else p

-- an acknowledgement settles the items up to its number
unfoldable pub acknowledged : ℕ → Contents → Contents
acknowledged number p =
    let count = settled_count number p.outbox in
    let t = settled count p.outbox.items (record { streams = p.streams; events = p.events }) in
    record p {
      outbox = record { acked = p.outbox.acked + count; items = drop count p.outbox.items };
      streams = t.streams;
      events = t.events;
    }

-- one more item was received, and its stream has this row now
unfoldable pub item_counted : StreamRow → Contents → Contents
item_counted row p = record p { inbox = record p.inbox { received = p.inbox.received + 1 }; streams = put row p.streams }

-- a piece of a message, with more to follow
unfoldable pub more_kept : Item → Contents → Contents
more_kept item p = record p { inbox = kept_more item p.inbox }

-- the last piece of a message makes it readable
unfoldable pub last_kept : Item → Contents → Contents
last_kept item p = record p { inbox = kept_last item p.inbox; events = p.events ++ Readable item.stream ∷ [] }

abbrev pub piece_kept : ItemPart → Item → Contents → Contents
piece_kept Last item p = last_kept item p
piece_kept _ item p = more_kept item p

-- a piece is kept unless this end closed its generation
abbrev pub piece_came : Item → StreamRow → Contents → Contents
piece_came item row p = if takes_messages row item.generation then piece_kept item.part item (item_counted row p) else item_counted row p

-- the other end's close is reported, and what is unread of the generation is dropped
unfoldable pub finished : StreamRow → Contents → Contents
finished row p = record p { inbox = forgotten row.stream row.generation p.inbox; events = p.events ++ Finished row.stream ∷ [] }

-- the reset of a stream is complete
unfoldable pub reset_told : StreamRow → Contents → Contents
reset_told row p = record p { events = p.events ++ ResetComplete row.stream ∷ [] }

-- the other end's close, by the progress of this end's: it is queued now, it was queued, or it was acknowledged and the reset is complete
abbrev pub close_came_at : CloseState → ℕ → StreamRow → Contents → Contents
close_came_at Unclosed now row p =
    sent now (close_of row.stream row.generation ∷ []) (item_counted (record row { close = Queued; finished = true }) p)
close_came_at Queued now row p = item_counted (record row { finished = true }) p
close_came_at Acknowledged now row p =
    if can_reset row then reset_told row (item_counted (reset_row row) p)
    else item_counted (record row { finished = true }) p

-- the close of the generation that the stream has; one of another changes nothing more
abbrev pub close_came : (now generation : ℕ) → StreamRow → Contents → Contents
close_came now generation row p =
    if generation == row.generation then close_came_at row.close now row (finished row p)
    else item_counted row p

abbrev pub part_came : ItemPart → ℕ → Item → StreamRow → Contents → Contents
part_came Close now item row p = close_came now item.generation row p
part_came _ now item row p = piece_came item row p

-- an item is taken: its stream is there
abbrev pub item_put : ℕ → Item → Contents → Contents
item_put now item p = part_came item.part now item (record (stream_of item.stream p.streams) { there = true }) p

-- whether an item is of another generation than its stream has
abbrev pub is_stray : Item → Contents → Bool
is_stray item p = not (item.generation == (stream_of item.stream p.streams).generation)

abbrev pub with_stray : Bool → Contents → Contents
with_stray strayed p = record p { inbox = record p.inbox { strayed = p.inbox.strayed || strayed } }

-- that is remembered of an item that is taken
abbrev pub item_taken : ℕ → Item → Contents → Contents
item_taken now item p = with_stray (is_stray item p) (item_put now item p)

-- an item is taken if its number is the next one, whatever generation it carries, and never while the association is
-- closing or closed
unfoldable pub item_came : (now number : ℕ) → Item → Contents → Contents
item_came now number item p =
    if (number == p.inbox.received + 1) && not (is_ending p) then item_taken now item p else p

unfoldable pub answered : Contents → Contents
answered p = record p { packets = p.packets ++ acknowledgement_bytes p.inbox.received ∷ [] }

unfoldable pub lost : Contents → Contents
lost p = record p { standing = record p.standing { lost = true }; events = p.events ++ Lost ∷ [] }

-- what a packet does
abbrev pub framed : ℕ → Option Frame → Contents → Contents
framed now None p = p
framed now (Some Hello) p = welcomed p
framed now (Some Welcome) p = greeted p
framed now (Some (Data number_acknowledged number item)) p =
    answered (item_came now number item (acknowledged number_acknowledged (greeted p)))
framed now (Some (Acknowledgement number)) p = acknowledged number p
framed now (Some Shutdown) p = lost p

unfoldable pub at_moment : ℕ → Contents → Contents
at_moment now p = record p { clock = record p.clock { now = now } }

abbrev pub input_taken : ℕ → List ℕ → Contents → Contents
input_taken now bytes p = at_moment now (framed now (frame_in bytes) p)

-- the end if memory ran out after the acknowledgement of a data packet was taken
abbrev pub half_taken : Option Frame → Contents → Contents
half_taken (Some (Data number_acknowledged number item)) p = acknowledged number_acknowledged (greeted p)
half_taken _ p = p

-- whether the client's hello is due, and whether the unacknowledged items are
abbrev pub hello_due : ℕ → Contents → Bool
hello_due now p = waits p.standing && nat_le (second_after p.clock.hello_sent) now

abbrev pub items_due : ℕ → Contents → Bool
items_due now p = not (is_empty p.outbox.items) && nat_le (second_after p.clock.items_sent) now

-- what is due is queued again, the items in order
unfoldable pub timed : ℕ → Contents → Contents
timed now p = record p {
  clock = record {
    now = now;
    hello_sent = if hello_due now p then now else p.clock.hello_sent;
    items_sent = if items_due now p then now else p.clock.items_sent;
  };
  packets = p.packets
      ++ (if hello_due now p then (1 ∷ []) ∷ [] else [])
      ++ (if items_due now p then packets_from p.inbox.received (p.outbox.acked + 1) p.outbox.items else []);
}

abbrev pub event_given : List AssocEvent → Contents → Contents
event_given events p = record p { events = events }

abbrev pub packet_given : List (List ℕ) → Contents → Contents
packet_given packets p = record p { packets = packets }
