pub mod FaultyPeers
pub mod CallCauses
pub mod FaultyDrains
pub mod ListedCauses
