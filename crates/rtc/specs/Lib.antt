pub mod Crossing
pub mod Drives
pub mod OtherStacks
pub mod PlainPeers
pub mod Receives
pub mod SinkMeaning
pub mod Texts
