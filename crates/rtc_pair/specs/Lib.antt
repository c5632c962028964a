pub mod Answers
pub mod Demo
pub mod Words
pub mod Performed
pub mod PerformedDemo
