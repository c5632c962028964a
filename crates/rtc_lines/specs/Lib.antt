pub mod SkippedLines
pub mod Rejecting
pub mod OfferedFormats
pub mod SdpReads
pub use Rattle.rtc_sdp_reader.specs.Reading
pub use Rattle.rtc_sdp_writer.specs.SessionRows
pub use Rattle.rtc_sdp_writer.specs.AsRead
pub use Rattle.rtc_sdp_writer.specs.Plain
