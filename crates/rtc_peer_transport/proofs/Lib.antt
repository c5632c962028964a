pub mod StageLemmas
pub mod StatisticsTurns
pub mod OpenStreams
pub mod StandardFacts
