pub mod CachedPeer
pub mod Described
pub mod Labelled
pub mod PeerSignals
pub mod Previews
pub mod Readings
pub mod WantedLine
