-- The channels that polls announced, and what was sent and got over each.
use Rattle.std.specs.Prelude.{ℕ, ◌==◌, ◌++◌, ◌&&◌, if◌then◌else◌, not, Bool, true, false, List, [], ◌∷◌, Option, Some, None, is_some}
use Rattle.std.specs.List.{list_any}
use Rattle.rtc_channels.specs.Channels.{Channel, has_channel, has_channel_id}
use Rattle.rtc_sctp_entries.specs.Entries.{config_or_fresh}
use Rattle.rtc_peer_transport.specs.ChannelCalls.{config_under, stream_under}
use Rattle.rtc_peer_transport.specs.declared.event.Event.{Event}
use Rattle.rtc_peer_transport.specs.declared.event.Event.TheVariants.{ChannelOpen, ChannelData}
use Rattle.rtc_peer_transport.specs.declared.polled_peer.PolledPeer.{PolledPeer}
use Rattle.rtc_peer_core.specs.Meanings.{Meanings}
use Rattle.rtc_run_history.specs.declared.shown.Shown.{Shown}
use Rattle.rtc_run_history.specs.declared.shown.Shown.TheVariants as shows

-- A channel that a poll announced: the stream of its row at the peer as that poll left it, the generation of the stream, whether it was
-- opened in-band (RFC 8832, section 6), and whether a stream was negotiated out-of-band for it (RFC 8831, section 6.4). With it go the
-- messages that were sent over the channel since, and those that were got, each with whether it is binary; and whether a rollback removed
-- the channel since.
pub record ChannelUse : Type 0 where
  pub channel : ℕ
  pub stream : Option ℕ
  pub generation : ℕ
  pub in_band : Bool
  pub negotiated : Bool
  pub sent : List (Bool × List ℕ)
  pub got : List (Bool × List ℕ)
  pub rolled_back : Bool

-- whether a stream was negotiated out-of-band for a channel
abbrev pub is_negotiated : (channel : ℕ) → List Channel → Bool
is_negotiated channel rows = list_any (λ row. has_channel_id channel row && is_some row.negotiated) rows

-- whether a channel is among the rows before a step, and not among those behind it
abbrev pub loses_channel : (channel : ℕ) → (before after : List Channel) → Bool
loses_channel channel before after = has_channel channel before && not (has_channel channel after)

-- a rollback left these rows of those before
abbrev pub with_rolled_back : (before after : List Channel) → List ChannelUse → List ChannelUse
with_rolled_back before after [] = []
with_rolled_back before after (x ∷ uses) =
    (if loses_channel x.channel before after then record x { rolled_back = true } else x) ∷ with_rolled_back before after uses

-- one message more was sent over a channel
abbrev pub with_sent_message : (channel : ℕ) → Bool × List ℕ → List ChannelUse → List ChannelUse
with_sent_message channel message [] = []
with_sent_message channel message (x ∷ uses) =
    (if x.channel == channel then record x { sent = x.sent ++ message ∷ [] } else x) ∷ with_sent_message channel message uses

-- one message more was got
abbrev pub with_got_message : (channel : ℕ) → Bool × List ℕ → List ChannelUse → List ChannelUse
with_got_message channel message [] = []
with_got_message channel message (x ∷ uses) =
    (if x.channel == channel then record x { got = x.got ++ message ∷ [] } else x) ∷ with_got_message channel message uses

module _ {I D S M E X T W N : Type 0} (m : Meanings I D S M E X T W N) where
  -- the generation of a stream at a peer; what is no stream has generation 0
  abbrev pub generation_under : Option ℕ → PolledPeer I D S M N → ℕ
  generation_under None p = 0
  generation_under (Some stream) p = m.association.generation p.core.sctp.association stream

  -- a channel that was just announced, at the peer as the poll left it
  abbrev pub announced_use : (channel : ℕ) → PolledPeer I D S M N → ChannelUse
  announced_use channel p = record {
    channel = channel;
    stream = stream_under channel p.core.channels;
    generation = generation_under (stream_under channel p.core.channels) p;
    in_band = not (is_some (config_or_fresh (config_under (stream_under channel p.core.channels) p.core.sctp)).negotiated);
    negotiated = is_negotiated channel p.core.channels.rows;
    sent = [];
    got = [];
    rolled_back = false;
  }

  -- the uses after an event that a poll reported, which left the peer so
  abbrev pub uses_told : Event E → PolledPeer I D S M N → List ChannelUse → List ChannelUse
  uses_told (ChannelOpen id label) p uses = uses ++ announced_use id p ∷ []
  uses_told (ChannelData message) p uses = with_got_message message.id (message.binary, message.bytes) uses
  uses_told event p uses = uses

  abbrev pub uses_shown : Shown E → PolledPeer I D S M N → List ChannelUse → List ChannelUse
  uses_shown (shows.Event event) p uses = uses_told event p uses
  uses_shown (shows.Timeout moment reason) p uses = uses
  uses_shown (shows.Packet number len) p uses = uses
