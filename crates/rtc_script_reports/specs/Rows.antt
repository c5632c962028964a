-- The lines of rows.
use Rattle.std.specs.Prelude.{ℕ, List, ◌++◌, flat_map, codes, if◌then◌else◌, Option, Some, None}
use Rattle.std.specs.Fmt.{decimal}
use Rattle.rtc_sdp_values.specs.declared.line_row.LineRow.{LineRow}
use Rattle.rtc_sdp_values.specs.declared.line_row.LineRow.TheVariants.{Media, App}
use Rattle.rtc_channels.specs.declared.channel_row.ChannelRow.{ChannelRow}
use Rattle.rtc_script.specs.Words.{kind_text, direction_text}

-- the line of a row
abbrev pub row_report_line : LineRow → List ℕ
row_report_line (Media place mid kind dir stopped remote_created) =
    codes "line " ++ decimal place ++ codes " " ++ mid ++ codes " " ++ kind_text kind ++ codes " " ++ direction_text dir
    ++ (if stopped then codes " stopped" else codes " live")
    ++ (if remote_created then codes " remote\n" else codes " local\n")
row_report_line (App place mid) = codes "line " ++ decimal place ++ codes " " ++ mid ++ codes " app\n"

-- the lines of rows, in order
abbrev pub row_lines : List LineRow → List ℕ
row_lines rows = flat_map row_report_line rows

-- the number of a stream; a dash if there is none
abbrev pub stream_text : Option ℕ → List ℕ
stream_text None = codes "-"
stream_text (Some stream) = decimal stream

-- the line of a channel
abbrev pub channel_report_line : ChannelRow → List ℕ
channel_report_line row =
    codes "channel " ++ decimal row.id ++ codes " " ++ stream_text row.stream ++ codes " " ++ decimal row.generation
    ++ (if row.is_open then codes " open\n" else codes " waiting\n")

-- the lines of channels, in order
abbrev pub channel_lines : List ChannelRow → List ℕ
channel_lines rows = flat_map channel_report_line rows
