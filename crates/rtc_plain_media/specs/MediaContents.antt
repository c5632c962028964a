-- What the plain media part holds, and what its readings return.
use Rattle.std.specs.Prelude.{ℕ, ◌&&◌, ◌||◌, Bool, true, false, List, [], ◌∷◌, Option, Some, None}
use Rattle.std.specs.Option.{is_some, option_map}
use Rattle.std.specs.List.{list_any}
use Rattle.rtc_sdp_values.specs.declared.ssrc.Ssrc.{Ssrc}
use Rattle.rtc_sdp_values.specs.declared.payload_row.PayloadRow.{PayloadRow}
use Rattle.rtc_parts.specs.declared.media_update.MediaUpdate.{MediaUpdate}
use Rattle.rtc_plain_media.specs.declared.line_key.LineKey.{LineKey}
use Rattle.rtc_plain_media.specs.declared.held_line.HeldLine.{HeldLine}
use Rattle.rtc_plain_media.specs.declared.plain_media_event.PlainMediaEvent.{PlainMediaEvent}
use Rattle.rtc_plain_media.specs.Lines.{Lines, held_line}
use Rattle.rtc_plain_media.specs.Streams.{Streams, is_ssrc, is_of_line, row_uses}

pub record MediaContents : Type 0 where
  -- whether raw packets are reported as events, whether keys were given, and whether goodbye was said
  pub raw_packets : Bool
  pub is_keyed : Bool
  pub is_shut : Bool
  pub lines : Lines
  -- what was prepared and is not yet applied
  pub pending : List MediaUpdate
  pub rx : Streams
  pub tx : Streams
  pub events : List PlainMediaEvent
  pub datagrams : List (List ℕ)

-- a part as it was made
abbrev pub fresh_media : MediaContents
fresh_media = record {
  raw_packets = false;
  is_keyed = false;
  is_shut = false;
  lines = [];
  pending = [];
  rx = [];
  tx = [];
  events = [];
  datagrams = [];
}

abbrev pub update_of : MediaContents → List ℕ → Option MediaUpdate
update_of p mid = option_map (λ (line : HeldLine). line.update) (held_line mid p.lines)

-- an SSRC of a line, or its RTX SSRC, is this one
abbrev pub source_uses : Ssrc → Ssrc × Option Ssrc → Bool
source_uses ssrc source = is_ssrc (Some source.0) ssrc || is_ssrc source.1 ssrc

abbrev pub line_uses : Ssrc → LineKey × HeldLine → Bool
line_uses ssrc line = list_any (source_uses ssrc) line.1.update.ssrcs_tx || list_any (source_uses ssrc) line.1.update.ssrcs_rx

-- a stream or a line has an SSRC
abbrev pub media_uses : MediaContents → Ssrc → Bool
media_uses p ssrc = list_any (row_uses ssrc) p.rx || (list_any (row_uses ssrc) p.tx || list_any (line_uses ssrc) p.lines)

abbrev pub holds_no : {A : Type 0} → List A → Bool
holds_no [] = true
holds_no (x ∷ xs) = false

abbrev pub is_media_closed : MediaContents → Bool
is_media_closed p = p.is_shut && holds_no p.datagrams

abbrev pub has_red : PayloadRow → Bool
has_red row = is_some row.red

-- whether a line has a payload row with redundancy
abbrev pub line_has_red : Option HeldLine → Bool
line_has_red None = false
line_has_red (Some line) = list_any has_red line.update.payloads

abbrev pub has_streams_of : MediaContents → List ℕ → Bool
has_streams_of p mid = list_any (is_of_line mid) p.rx || list_any (is_of_line mid) p.tx
