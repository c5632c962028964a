pub mod FaultyParts
pub mod FaultyPairs
pub mod ListedFaults
