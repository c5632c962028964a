pub mod Asking
pub mod Repair
pub mod Rewrite
pub mod Fates
pub mod Explanation
pub mod Answers
