pub mod Codec
pub mod CodecRows
pub mod LineFormats
pub mod FormedCodecs
