mod CodecFacts
pub mod FormedDefaults
pub mod AllLemmas
pub mod MatchedLemmas
pub mod FormedLemmas
