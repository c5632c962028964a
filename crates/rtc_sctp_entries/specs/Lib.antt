pub mod Answers
pub mod Entries
pub mod Part
pub mod Visits
pub mod StreamLaws
