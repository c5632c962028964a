-- What the hub hears of a member: the messages that the member's left peer hands out on its line.
use Rattle.std.specs.Prelude.{◌==◌, ◌&&◌, not, if◌then◌else◌, ℕ, Bool, true, false, List, [], ◌∷◌, ◌++◌, Option, Some, None, is_some}
use Rattle.std.specs.Prelude.{slice_set}
use Rattle.rtc_wire.specs.declared.channel_config.ChannelConfig.{ChannelConfig}
use Rattle.rtc_wire.specs.declared.reliability.Reliability.{Reliability}
use Rattle.rtc_wire.specs.declared.reliability.Reliability.TheVariants.{Reliable, MaxPacketLifetime, MaxRetransmits}
use Rattle.rtc_plain_media.specs.declared.plain_media_event.PlainMediaEvent.{PlainMediaEvent}
use Rattle.rtc_peer_transport.specs.ChannelCalls.{config_under, stream_under}
use Rattle.rtc_peer_transport.specs.declared.channel_data.ChannelData.{ChannelData as ChannelMessage}
use Rattle.rtc_peer_transport.specs.declared.event.Event.{Event}
use Rattle.rtc_peer_transport.specs.declared.event.Event.TheVariants.{ChannelOpen, ChannelData}
use Rattle.rtc_run_history.specs.declared.outcome.Outcome.{Outcome}
use Rattle.rtc_run_history.specs.declared.outcome.Outcome.TheVariants.{Polled}
use Rattle.rtc_run_history.specs.declared.shown.Shown.{Shown}
use Rattle.rtc_run_history.specs.declared.shown.Shown.TheVariants as shows
use Rattle.rtc_run_history.specs.declared.side.Side.{Side}
use Rattle.rtc_run_history.specs.declared.side.Side.TheVariants.{Left, Right}
use Rattle.rtc_run_laws.specs.PlainPairs.{PlainPolled}
use Rattle.rtc_room_laws.specs.Members.{MemberState, hearing_members}
use Rattle.rtc_room_laws.specs.declared.item.Item.{Item}

abbrev pub is_reliable : Reliability → Bool
is_reliable Reliable = true
is_reliable (MaxPacketLifetime lifetime) = false
is_reliable (MaxRetransmits retransmits) = false

-- a channel can be a line if it has a config, and was opened in-band, ordered and reliable
abbrev pub is_line_config : Option ChannelConfig → Bool
is_line_config None = false
is_line_config (Some config) = config.ordered && (is_reliable config.reliability && not (is_some config.negotiated))

abbrev pub can_be_line : PlainPolled ℕ → ℕ → Bool
can_be_line p id = is_line_config (config_under (stream_under id p.core.channels) p.core.sctp)

-- the line of a member behind the announcement of a channel: the first channel that can be one
abbrev pub line_opened : (fits : Bool) → (id : ℕ) → Option ℕ → Option ℕ
line_opened fits id (Some line) = Some line
line_opened fits id None = if fits then Some id else None

abbrev pub line_by : Event PlainMediaEvent → PlainPolled ℕ → Option ℕ → Option ℕ
line_by (ChannelOpen id label) p line = line_opened (can_be_line p id) id line
line_by event p line = line

-- a message that is handed out on a line
abbrev pub message_heard : ChannelMessage → (sender : ℕ) → Option ℕ → List Item
message_heard message sender None = []
message_heard message sender (Some line) =
    if line == message.id then record { sender = sender; binary = message.binary; bytes = message.bytes } ∷ [] else []

abbrev pub event_heard : Event PlainMediaEvent → (sender : ℕ) → Option ℕ → List Item
event_heard (ChannelData message) sender line = message_heard message sender line
event_heard event sender line = []

abbrev pub line_shown : Shown PlainMediaEvent → PlainPolled ℕ → Option ℕ → Option ℕ
line_shown (shows.Event event) p line = line_by event p line
line_shown (shows.Timeout moment reason) p line = line
line_shown (shows.Packet number len) p line = line

abbrev pub heard_shown : Shown PlainMediaEvent → (sender : ℕ) → Option ℕ → List Item
heard_shown (shows.Event event) sender line = event_heard event sender line
heard_shown (shows.Timeout moment reason) sender line = []
heard_shown (shows.Packet number len) sender line = []

-- the line behind the outputs of a step, which left the peer so
abbrev pub line_behind : PlainPolled ℕ → Option ℕ → List (Shown PlainMediaEvent) → Option ℕ
line_behind p line [] = line
line_behind p line (shown ∷ outputs) = line_behind p (line_shown shown p line) outputs

-- what the sender's left peer handed out in them on its line
abbrev pub heard_in : (sender : ℕ) → PlainPolled ℕ → Option ℕ → List (Shown PlainMediaEvent) → List Item
heard_in sender p line [] = []
heard_in sender p line (shown ∷ outputs) = heard_shown shown sender line ++ heard_in sender p (line_shown shown p line) outputs

-- what polls gave in a step
abbrev pub outcome_outputs : Outcome PlainMediaEvent → List (Shown PlainMediaEvent)
outcome_outputs (Polled outputs end) = outputs
outcome_outputs outcome = []

-- the members behind the outputs of a step of one of them at its left peer, which left the peer so
abbrev pub members_told : ℕ → MemberState → PlainPolled ℕ → List (Shown PlainMediaEvent) → List MemberState → List MemberState
members_told k member p outputs members =
    hearing_members k member.room (heard_in k p member.line outputs)
    (slice_set members k (record member { line = line_behind p member.line outputs }))

-- a step that does not poll tells nothing
abbrev pub members_after : Outcome PlainMediaEvent → ℕ → MemberState → PlainPolled ℕ → List MemberState → List MemberState
members_after (Polled outputs end) k member p members = members_told k member p outputs members
members_after outcome k member p members = members

-- nor does a step at the right peer of a member
abbrev pub members_behind : Side → Outcome PlainMediaEvent → ℕ → MemberState → PlainPolled ℕ → List MemberState → List MemberState
members_behind Left outcome k member p members = members_after outcome k member p members
members_behind Right outcome k member p members = members
