pub mod RtcConfig
pub mod CodecSettings
pub mod Stats
