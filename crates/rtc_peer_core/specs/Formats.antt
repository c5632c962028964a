-- The codecs and header extensions of a peer.
use Rattle.rtc_sdp_codecs.specs.FormedCodecs.{AreFormedRows, AreFormedExtensions}
use Rattle.rtc_config.specs.RtcConfig.{PeerConfig}
use Rattle.rtc_peer_core.specs.declared.formats.Formats.{Formats}

-- those of a configuration
abbrev pub config_formats : PeerConfig → Formats
config_formats config = record { codecs = config.codecs; extensions = config.extensions; session_ids = config.session_extension_ids }

-- those that lines carry whole
pub record AreFormedFormats (formats : Formats) : Type 0 where
  pub codecs : AreFormedRows formats.codecs.rows
  pub extensions : AreFormedExtensions formats.extensions.rows
