-- What settings of codecs leave of a configuration.
use Rattle.std.specs.Prelude.{ℕ, Bool, List}
use Rattle.rtc_sdp_codecs.specs.Codec.{codec_row_with}
use Rattle.rtc_sdp_codecs.specs.CodecRows.{codecs_with, repeated_distances}
use Rattle.rtc_sdp_codecs.specs.declared.codec.Codec.{Codec}
use Rattle.rtc_config.specs.RtcConfig.{PeerConfig}

-- an enabled codec becomes the last one, with redundant packets or without; a disabled one is removed
abbrev pub codec_set : Codec → (enabled red : Bool) → PeerConfig → PeerConfig
codec_set codec enabled red config = record config { codecs = codecs_with (codec_row_with red codec) enabled config.codecs }

-- redundant packets repeat those of the listed distances that are allowed
abbrev pub distances_set : List ℕ → PeerConfig → PeerConfig
distances_set listed config = record config { codecs = record config.codecs { red_distances = repeated_distances listed } }
