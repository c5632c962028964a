pub mod PlainPeers
pub mod PlainFaults
pub mod Sized
pub mod ReadMoments
pub mod FaultlessSdps
pub mod GoingOn
pub mod KeptCounts
