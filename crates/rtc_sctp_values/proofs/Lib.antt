pub mod StandardFacts
pub mod ChunkLemmas
pub mod HalfLemmas
pub mod WordLemmas
pub mod BitLemmas
