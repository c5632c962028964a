-- The changes that arguments of C stand for, or the status of what they do not stand for.
use Rattle.std.specs.Prelude.{◌≡◌, ◌⊎◌, ℕ, List, true, false, Option, Some, None, Result, Ok, Err}
use Rattle.std.specs.Str.{IsUtf8}
use Rattle.rtc_wire.specs.declared.reliability.Reliability.{Reliability}
use Rattle.rtc_wire_text.specs.Tokens.{is_short_token}
use Rattle.rtc_sdp_values.specs.declared.direction.Direction.{Direction as Way}
use Rattle.rtc_sdp_values.specs.declared.media_kind.MediaKind.{MediaKind}
use Rattle.rtc_c_handle.specs.ChannelSettings.{config_of_channel}
use Rattle.rtc_c_handle.specs.Numbers.{direction_of_number, kind_of_number, reliability_of_number}
use Rattle.rtc_c_handle.specs.declared.channel_settings.ChannelSettings.{ChannelSettings}
use Rattle.rtc_c_handle.specs.declared.status.Status.{Status}
use Rattle.rtc_c_handle.specs.declared.status.Status.TheVariants.{BadNumber, BadMid, NotUtf8, NoMemory}
use Rattle.rtc_c_handle.specs.declared.wanted_change.WantedChange.{WantedChange}
use Rattle.rtc_c_handle.specs.declared.wanted_change.WantedChange.TheVariants.{Media, Channel, Direction, Stop}

abbrev pub line_or : Option MediaKind → Option Way → Result WantedChange Status
line_or None dir = Err BadNumber
line_or (Some kind) None = Err BadNumber
line_or (Some kind) (Some dir) = Ok (Media kind dir)

-- a media line of the numbers of its kind and its direction
abbrev pub media_change : ℕ → ℕ → Result WantedChange Status
media_change kind dir = line_or (kind_of_number kind) (direction_of_number dir)

-- Bytes are the name of an m-line, or they are no such name.
abbrev pub ReadsMid : List ℕ → Option (List ℕ) → Type 0
ReadsMid bytes (Some mid) = (mid ≡ bytes) × (is_short_token bytes ≡ true)
ReadsMid bytes None = (¬ (IsUtf8 bytes)) ⊎ (is_short_token bytes ≡ false)

abbrev pub turned_or : List ℕ → Option Way → Result WantedChange Status
turned_or mid None = Err BadNumber
turned_or mid (Some dir) = Ok (Direction mid dir)

-- The direction of a line is set.
pub data ReadsDirection (bytes : List ℕ) (dir : ℕ) (read : Result WantedChange Status) : Type 0 where
  TurnsNone : ReadsMid bytes None → read ≡ Err BadMid → ReadsDirection bytes dir read
  TurnsOne : (mid : List ℕ) → ReadsMid bytes (Some mid) → read ≡ turned_or mid (direction_of_number dir) → ReadsDirection bytes dir read

-- A line is stopped.
pub data ReadsStop (bytes : List ℕ) (read : Result WantedChange Status) : Type 0 where
  StopsNone : ReadsMid bytes None → read ≡ Err BadMid → ReadsStop bytes read
  StopsOne : (mid : List ℕ) → ReadsMid bytes (Some mid) → read ≡ Ok (Stop mid) → ReadsStop bytes read

abbrev pub reliability_found : Option Reliability → Result Reliability Status
reliability_found None = Err BadNumber
reliability_found (Some reliability) = Ok reliability

-- the reliability of a channel
abbrev pub reliability_or : ChannelSettings → Result Reliability Status
reliability_or settings = reliability_found (reliability_of_number settings.reliability settings.limit)

-- A channel is added. Its texts are UTF-8.
pub data ReadsChannel (settings : ChannelSettings) (label protocol : List ℕ) (read : Result WantedChange Status) : Type 0 where
  HasNoLabel : ¬ (IsUtf8 label) → read ≡ Err NotUtf8 → ReadsChannel settings label protocol read
  HasNoProtocol : ¬ (IsUtf8 protocol) → read ≡ Err NotUtf8 → ReadsChannel settings label protocol read
  HasNoReliability : reliability_or settings ≡ Err BadNumber → read ≡ Err BadNumber → ReadsChannel settings label protocol read
  HasNoMemory : read ≡ Err NoMemory → ReadsChannel settings label protocol read
  HasChannel : (reliability : Reliability) → reliability_or settings ≡ Ok reliability
      → read ≡ Ok (Channel (config_of_channel settings reliability label protocol)) → ReadsChannel settings label protocol read
