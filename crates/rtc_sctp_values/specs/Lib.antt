pub mod InitChunk
pub mod InitHalves
pub mod SctpErrors
pub mod SctpErrorText
pub mod SnapHalves
pub mod Words
pub mod StreamIds
