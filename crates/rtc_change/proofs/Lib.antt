pub mod AddedLemmas
pub mod TableAfterLemmas
pub mod ConsistentMids
pub mod VerdictLemmas
