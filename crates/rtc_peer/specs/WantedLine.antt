-- What a media line is staged with.
use Rattle.std.specs.Prelude.{Option, option_map, String, string_bytes}
use Rattle.rtc_sdp_values.specs.declared.direction.Direction.{Direction}
use Rattle.rtc_sdp_values.specs.declared.media_kind.MediaKind.{MediaKind}
use Rattle.rtc_sdp_values.specs.declared.simulcast.Simulcast.{Simulcast}
use Rattle.rtc_peer_core.specs.Calls.{Wanted}

-- a line of a kind and a direction, with the names of its stream and its track, and its layers
abbrev pub wanted_line : {Z : Type 0} → MediaKind → Direction → Option (String Z) → Option (String Z) → Option Simulcast → Wanted
wanted_line kind dir stream_id track_id simulcast = record {
  kind = kind;
  dir = dir;
  stream = option_map (λ name. string_bytes name) stream_id;
  track = option_map (λ name. string_bytes name) track_id;
  simulcast = simulcast;
}
