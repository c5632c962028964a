pub mod DatagramLemmas
pub mod PlaceTableLemmas
