-- Rows of m-lines and channels as C has them.
use Rattle.std.specs.Prelude.{ℕ, true, false, is_some, Option, Some, None}
use Rattle.rtc_sdp_values.specs.declared.line_row.LineRow.{LineRow}
use Rattle.rtc_sdp_values.specs.declared.line_row.LineRow.TheVariants.{Media, App}
use Rattle.rtc_channels.specs.declared.channel_row.ChannelRow.{ChannelRow}
use Rattle.rtc_c_handle.specs.Numbers.{kind_number, direction_number}
use Rattle.rtc_c_handle.specs.declared.line_entry.LineEntry.{LineEntry}
use Rattle.rtc_c_handle.specs.declared.channel_entry.ChannelEntry.{ChannelEntry}

-- the entry of an m-line
abbrev pub line_entry : LineRow → LineEntry
line_entry (Media place mid kind dir stopped remote_created) = record {
  place = place;
  media = kind_number kind;
  direction = direction_number dir;
  channels = false;
  stopped = stopped;
  remote_created = remote_created;
}
line_entry (App place mid) = record {
  place = place;
  media = 0;
  direction = 0;
  channels = true;
  stopped = false;
  remote_created = false;
}

-- the number of a stream, or 0
abbrev pub stream_or_zero : Option ℕ → ℕ
stream_or_zero None = 0
stream_or_zero (Some stream) = stream

-- the entry of a channel
abbrev pub channel_entry : ChannelRow → ChannelEntry
channel_entry row = record {
  id = row.id;
  generation = row.generation;
  stream = stream_or_zero row.stream;
  has_stream = is_some row.stream;
  is_open = row.is_open;
}
