-- The rows that report channels, from their numbers with their streams.
use Rattle.std.specs.Prelude.{ℕ, false, Option, None}
use Rattle.rtc_parts.specs.AssociationMeaning.{AssociationMeaning}
use Rattle.rtc_sctp.specs.Streams.{SctpStreams}
use Rattle.rtc_channels.specs.declared.channel_row.ChannelRow.{ChannelRow}
use Rattle.rtc_peer_core.specs.ChannelRows.{channel_row}

-- the row of a channel's number with its stream; the row reports nothing else of the channel
abbrev pub numbered_row : {S : Type 0} → AssociationMeaning S → SctpStreams S → ℕ × Option ℕ → ChannelRow
numbered_row m p row = channel_row m p (record { id = row.0; stream = row.1; negotiated = None; config = None; confirmed = false })
