-- What a peer is built from, and its defaults.
use Rattle.std.specs.Prelude.{ℕ, ◌≤◌, ◌<◌, Bool, true, false, List, length, Option, Some, None, IfSome}
use Rattle.rtc_sdp_values.specs.ExtensionMap.{standard_rows}
use Rattle.rtc_sdp_values.specs.declared.extension_map.ExtensionMap.{ExtensionMap}
use Rattle.rtc_sdp_values.specs.declared.codec_config.CodecConfig.{CodecConfig}
use Rattle.rtc_sdp_codecs.specs.CodecRows.{default_codecs}
use Rattle.rtc_parts.specs.declared.dtls_version.DtlsVersion.TheVariants.{Dtls12}
use Rattle.rtc_parts.specs.declared.media_settings.MediaSettings.{MediaSettings}
use Rattle.rtc_parts.specs.declared.vp9_packetizer_mode.Vp9PacketizerMode.TheVariants.{NonFlexible}
use Rattle.rtc_config.specs.declared.ice_settings.IceSettings.{IceSettings}
use Rattle.rtc_config.specs.declared.dtls_settings.DtlsSettings.{DtlsSettings}
use Rattle.rtc_config.specs.declared.sctp_settings.SctpSettings.{SctpSettings}

-- what a peer is built from; spans are in nanoseconds, and of the sizes of datagrams the first is kept to and the second is warned above
pub record PeerConfig : Type 0 where
  pub ice : IceSettings
  pub dtls : DtlsSettings
  pub codecs : CodecConfig
  pub extensions : ExtensionMap
  -- whether lines that it adds take the extension numbers that the session uses
  pub session_extension_ids : Bool
  pub stats_interval : Option ℕ
  pub media : MediaSettings
  pub sctp : SctpSettings
  pub mtu : ℕ × ℕ
  -- whether it gives way on glare; None if no role is set
  pub polite : Option Bool

-- a certificate that is set has at most 1900 bytes
abbrev pub IsShortCert : Option (List ℕ) → Type 0
IsShortCert cert = IfSome cert (λ bytes. length bytes ≤ 1900)

-- intervals between reports are longer than no time, and buffers hold a packet
pub record AreMediaSettings (media : MediaSettings) : Type 0 where
  pub report_audio : 0 < media.report_audio
  pub report_video : 0 < media.report_video
  pub send_buffer_audio : 0 < media.send_buffer_audio
  pub send_buffer_video : 0 < media.send_buffer_video

-- datagrams are kept to 576 to 1400 bytes, and none of those is warned of
pub record IsMtu (mtu : ℕ × ℕ) : Type 0 where
  pub least : 576 ≤ mtu.0
  pub most : mtu.0 ≤ 1400
  pub ordered : mtu.0 ≤ mtu.1

abbrev pub default_ice : IceSettings
default_ice = record {
  credentials = None;
  lite = false;
  initial_stun_rto = 250_000_000;
  max_stun_rto = 3_000_000_000;
  max_stun_retransmits = 9;
}

abbrev pub default_dtls : DtlsSettings
default_dtls = record { cert = None; version = Dtls12; fingerprint_verification = true }

abbrev pub default_media : MediaSettings
default_media = record {
  rtp_mode = false;
  raw_packets = false;
  report_audio = 5_000_000_000;
  report_video = 1_000_000_000;
  reordering_audio = 15;
  reordering_video = 30;
  reordering_timeout_audio = Some 1_000_000_000;
  pause_threshold = 1_500_000_000;
  send_buffer_audio = 50;
  send_buffer_video = 1000;
  vp9 = NonFlexible;
}

abbrev pub default_sctp : SctpSettings
default_sctp = record { max_buffered_amount = 131_072; max_message_size = 262_144; snap_enabled = false }

-- the default codecs and header extensions
unfoldable pub unset_codecs : CodecConfig
unset_codecs = default_codecs

unfoldable pub unset_extensions : ExtensionMap
unset_extensions = record { rows = standard_rows }

-- what a peer is built from if nothing is set
abbrev pub default_config : PeerConfig
default_config = record {
  ice = default_ice;
  dtls = default_dtls;
  codecs = unset_codecs;
  extensions = unset_extensions;
  session_extension_ids = false;
  stats_interval = None;
  media = default_media;
  sctp = default_sctp;
  mtu = (1150, 1280);
  polite = None;
}
