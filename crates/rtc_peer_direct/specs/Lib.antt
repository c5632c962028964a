pub mod IceCalls
pub mod DtlsCalls
pub mod ChannelMaking
pub mod DeclaredRows
pub mod SourcesAndFeedback
pub mod Streams
