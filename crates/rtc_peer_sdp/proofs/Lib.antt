pub mod Tokens
pub mod Tries
pub mod Pairs
pub mod NumberLemmas
pub mod UpdateLemmas
pub mod ToldLemmas
