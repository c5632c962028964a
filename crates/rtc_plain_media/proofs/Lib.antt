pub mod StreamLemmas
pub mod LendLemmas
pub mod PlaceLemmas
pub mod CountLemmas
pub mod RemovalLemmas
pub mod QueueLemmas
