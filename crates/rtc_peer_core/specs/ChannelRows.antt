-- The rows that report the channels of a peer.
use Rattle.std.specs.Prelude.{ℕ, ◌&&◌, Bool, false, List, map, Option, Some, None}
use Rattle.rtc_parts.specs.AssociationMeaning.{AssociationMeaning}
use Rattle.rtc_sctp.specs.Streams.{SctpStreams}
use Rattle.rtc_sctp.specs.Calls.{is_open_stream}
use Rattle.rtc_channels.specs.Channels.{Channel, Channels}
use Rattle.rtc_channels.specs.declared.channel_row.ChannelRow.{ChannelRow}

module _ {S : Type 0} (m : AssociationMeaning S) where
  -- how often a stream was reset; 0 if there is none
  abbrev pub generation_over : Option ℕ → SctpStreams S → ℕ
  generation_over None p = 0
  generation_over (Some stream) p = m.generation p.association stream

  -- whether a stream is open, over an association that is started
  abbrev pub is_open_over : Option ℕ → SctpStreams S → Bool
  is_open_over None p = false
  is_open_over (Some stream) p = m.started p.association && is_open_stream stream p

  -- the row of a channel, over the streams of its peer
  abbrev pub channel_row : SctpStreams S → Channel → ChannelRow
  channel_row p channel = record {
    id = channel.id;
    stream = channel.stream;
    generation = generation_over channel.stream p;
    is_open = is_open_over channel.stream p;
  }

  -- the rows of all channels, in order of their numbers
  abbrev pub channel_rows : SctpStreams S → Channels → List ChannelRow
  channel_rows p held = map (channel_row p) held.rows
