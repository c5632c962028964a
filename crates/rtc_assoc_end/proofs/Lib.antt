pub mod SaysLemmas
pub mod SentLemmas
pub mod SendsLemmas
