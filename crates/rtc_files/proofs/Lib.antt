pub mod SizeWords
pub mod SessionLemmas
pub mod FileLemmas
pub mod WorkedSessions
