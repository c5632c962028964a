-- What an end of the plain association holds, and what its readings return.
use Rattle.std.specs.Prelude.{ℕ, ◌+◌, ◌-◌, ◌*◌, ◌&&◌, ◌||◌, not, nat_lt, min, if◌then◌else◌, Bool, true}
use Rattle.std.specs.Prelude.{false, List, [], ◌∷◌, length, Option, Some, None}
use Rattle.std.specs.List.{list_any}
use Rattle.rtc_parts.specs.declared.assoc_event.AssocEvent.{AssocEvent}
use Rattle.rtc_assoc_state.specs.declared.role.Role.{Role}
use Rattle.rtc_assoc_state.specs.declared.role.Role.TheVariants.{Unstarted, Client, Server, Snap}
use Rattle.rtc_assoc_state.specs.declared.limits.Limits.{Limits}
use Rattle.rtc_assoc_state.specs.declared.standing.Standing.{Standing}
use Rattle.rtc_assoc_state.specs.declared.clock.Clock.{Clock}
use Rattle.rtc_assoc_state.specs.declared.stream_row.StreamRow.{StreamRow}
use Rattle.rtc_assoc_state.specs.Streams.{stream_of, is_closed_here, any_at_last_generation, finished_count}
use Rattle.rtc_assoc_state.specs.Inbox.{Inbox, is_message_of}
use Rattle.rtc_assoc_state.specs.Outbox.{Outbox, last_number, buffered}

pub record Contents : Type 0 where
  pub limits : Limits
  pub standing : Standing
  pub clock : Clock
  pub outbox : Outbox
  pub inbox : Inbox
  pub streams : List StreamRow
  pub events : List AssocEvent
  pub packets : List (List ℕ)

-- an end as it was made: packets of at most 1062 bytes, messages of at most 262144
abbrev pub fresh_contents : Contents
fresh_contents = record {
  limits = record { max_payload = 1062; local_max_message = 262144; max_send = 0 };
  standing = record { role = Unstarted; connected = false; shut = false; lost = false };
  clock = record { now = 0; hello_sent = 0; items_sent = 0 };
  outbox = record { acked = 0; items = [] };
  inbox = record { received = 0; parts = []; unread = []; strayed = false };
  streams = [];
  events = [];
  packets = [];
}

-- whether an end was started
abbrev pub has_role : Role → Bool
has_role Unstarted = false
has_role Client = true
has_role Server = true
has_role Snap = true

abbrev pub is_client : Role → Bool
is_client Unstarted = false
is_client Client = true
is_client Server = false
is_client Snap = false

abbrev pub is_server : Role → Bool
is_server Unstarted = false
is_server Client = false
is_server Server = true
is_server Snap = false

abbrev pub is_started : Contents → Bool
is_started p = has_role p.standing.role

-- an end is closing for good once it shut down, fewer than 2^33 item numbers are left, or a generation is the last
abbrev pub few_numbers_left : Outbox → Bool
few_numbers_left outbox = nat_lt (18446744073709551615 - last_number outbox) 8589934592

abbrev pub is_closing : Contents → Bool
is_closing p = p.standing.shut || few_numbers_left p.outbox || any_at_last_generation p.streams

abbrev pub is_closed : Contents → Bool
is_closed p = p.standing.lost

-- closing or closed
abbrev pub is_ending : Contents → Bool
is_ending p = is_closing p || is_closed p

abbrev pub has_stream : Contents → ℕ → Bool
has_stream p id = (stream_of id p.streams).there

-- a stream that this end closed is neither readable nor writable, and its reset is outstanding
abbrev pub closed_here : Contents → ℕ → Bool
closed_here p id = is_closed_here (stream_of id p.streams)

abbrev pub is_stale : Contents → ℕ → Bool
is_stale p id = has_stream p id && closed_here p id

abbrev pub generation_of : Contents → ℕ → ℕ
generation_of p id = (stream_of id p.streams).generation

-- the bytes of a stream that are not acknowledged; 0 if it is not there
abbrev pub buffered_of : Contents → ℕ → ℕ
buffered_of p id = if has_stream p id then buffered id p.outbox.items else 0

-- whether the other end closed the generation that a stream has
abbrev pub is_finished : Contents → ℕ → Bool
is_finished p id = (stream_of id p.streams).finished

-- whether a whole message of a generation of a stream is unread
abbrev pub has_unread : Contents → ℕ → ℕ → Bool
has_unread p id generation = list_any (is_message_of id generation) p.inbox.unread

-- one second after a moment, at most the far future
abbrev pub second_after : ℕ → ℕ
second_after moment = min (moment + 1000000000) 18446744073709551615

-- whether the client waits for its answer
abbrev pub waits : Standing → Bool
waits s = is_client s.role && not s.connected

abbrev pub is_empty : {A : Type 0} → List A → Bool
is_empty [] = true
is_empty (x ∷ xs) = false

abbrev pub hello_wake : Contents → Option ℕ
hello_wake p = if waits p.standing then Some (second_after p.clock.hello_sent) else None

abbrev pub items_wake : Contents → Option ℕ
items_wake p = if is_empty p.outbox.items then None else Some (second_after p.clock.items_sent)

-- the earlier of two moments, if there are any
abbrev pub earlier : Option ℕ → Option ℕ → Option ℕ
earlier None b = b
earlier (Some a) None = Some a
earlier (Some a) (Some b) = Some (min a b)

abbrev pub wake_of : Contents → Option ℕ
wake_of p = earlier (hello_wake p) (items_wake p)

-- the outputs that polling still gives
abbrev pub held_outputs : Contents → ℕ
held_outputs p = length p.events + length p.packets

-- eight for each queued event and each stream that the other end closed and whose reset is not complete, one for each
-- queued packet and unread message
abbrev pub work : Contents → ℕ
work p = 8 * length p.events + 8 * finished_count p.streams + length p.packets + length p.inbox.unread
